use lib.Dec.{eqb}
use native.Mathlib.Omega.{arith}
use Rattle.block.proofs.Codes.{chosen_back, chosen_front, back_short, front_short}
use Rattle.block.proofs.copied_vector.Goals as goal

pub returns-then-code-lt4 : goal.returns-then-code-lt4
returns-then-code-lt4 c = (chosen_back _ _ _ _ _ _ _ _ c.first_offset-b.ensures c.if-code-lt4.true c.behind_vector.ensures c.ahead_vector.ensures c.choose_vector.ensures, back_short _ (eqb c.args.code 3) _ _ _ c.first_offset-b.type_inv c.behind_vector.ensures c.ahead_vector.ensures c.choose_vector.ensures)

pub returns-else-code-lt4 : goal.returns-else-code-lt4
returns-else-code-lt4 c = (chosen_front _ _ _ _ _ _ _ _ c.first_offset-b.ensures _ (omega (arith, c.if-code-lt4.false)) c.byte_at.ensures c.near_vector.ensures c.far_vector.ensures c.choose_vector-else-code-lt4.ensures, front_short _ _ (eqb c.args.code 4) _ _ _ c.first_offset-b.type_inv c.near_vector.ensures c.far_vector.ensures c.choose_vector-else-code-lt4.ensures)
