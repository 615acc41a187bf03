use mathlib.Core.Path.{sym, ◌∙◌}
use Rattle.packet.specs.Rows.{finding}
use Rattle.word_packet.proofs.check_parts.Goals as goal

pub returns-then-not-parts_fit : goal.returns-then-not-parts_fit
unfolding finding
returns-then-not-parts_fit c = rw (sym c.parts_fit.ensures ∙ c.if-not-parts_fit.true)
