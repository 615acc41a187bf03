use Rattle.word_fields.proofs.Numbers.{eight_is}
use Rattle.word_fields.proofs.eight_bytes.Goals as goal

pub returns : goal.returns
returns c = eight_is _ _ _ _ c.four_bytes.ensures c.four_bytes-2.ensures
