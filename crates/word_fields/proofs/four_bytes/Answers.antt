use Rattle.word_fields.proofs.Numbers.{four_is}
use Rattle.word_fields.proofs.four_bytes.Goals as goal

pub returns : goal.returns
returns c = four_is _ _ _ _ c.two_bytes.ensures c.two_bytes-2.ensures
