use Rattle.word_fields.proofs.Numbers.{word_is}
use Rattle.word_fields.proofs.raw_colour.Goals as goal

pub returns : goal.returns
returns c = word_is _ _ _ _ c.widened.ensures.0 c.widened-2.ensures.0
