use mathlib.Core.Path.{sym}
use Rattle.next.proofs.Standing.{possible}
use Rattle.next.proofs.find.Goals as goal

pub next_with_lent-requires : goal.next_with_lent-requires
next_with_lent-requires c = possible _ _ (sym c.in_ok-judge_state.ensures)
