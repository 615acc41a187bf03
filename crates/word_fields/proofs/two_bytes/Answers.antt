use Rattle.word_fields.proofs.Numbers.{two_is}
use Rattle.word_fields.proofs.two_bytes.Goals as goal

pub returns : goal.returns
returns c = two_is _ _ _ _ c.wide.ensures c.wide-2.ensures
