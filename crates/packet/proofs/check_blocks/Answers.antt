use mathlib.Core.Path.{refl, sym, ◌∙◌}
use mathlib.Core.List.{[]}
use Prim.Native.Nat.{zero-le}
use native.Mathlib.Nat.{div-le_self}
use native.Mathlib.Omega.{arith}
use Rattle.packet.proofs.Grid.{column_below}
use Rattle.packet.proofs.Walk.{moved, walked_ones, mapped, blocks_few, corner, refuses_12, refuses_13, refuses_14, walked_right, walked_down, used_up, left_over, seen_flat, refused_flat, known_flat, copy_flat}
use Rattle.packet.proofs.Strip.{finds_refused, finds_accepted, touched_is, first_most, first_clear, ends, inside, ones_behind}
use Rattle.packet.proofs.check_blocks.Goals as goal
use Rattle.packet.proofs.check_blocks.Goals.{then-right-eq0, else-right-eq0}

pub overflow_mul-y : goal.overflow_mul-y
overflow_mul-y c = omega (arith, div-le_self c.first_touched-first.result c.args.columns, first_most _ _ _ _ c.first_touched-first.ensures, blocks_few _ c.requires)

pub loop-k-init : goal.loop-k-init
loop-k-init c = let l = column_below _ c.first_touched-first.result c.requires.some_columns in (ends _ _ _ c.first_touched-first.ensures c.past_touched-past.ensures, omega arith, moved _ _ _ _ _ _ _ _ (omega (arith, l)) (walked_ones _ _ _ (first_most _ _ _ _ c.first_touched-first.ensures) (first_clear _ _ _ _ c.first_touched-first.ensures)))

pub code_at-code-requires : goal.code_at-code-requires
code_at-code-requires c = mapped _ _ c.requires (inside _ _ _ c.loop-k.invariant.0 _ c.loop-k-test.true)

pub returns-then-code-eq6 : goal.returns-then-code-eq6
returns-then-code-eq6 c = finds_refused _ _ _ _ (refuses_12 _ _ _ _ _ _ _ _ _ _ _ _ c.requires c.loop-k.invariant.2 (inside _ _ _ c.loop-k.invariant.0 _ c.loop-k-test.true) (seen_flat _ _ _ _ _ _ _ _ _ c.code_at-code.ensures.0 refl refl) (refused_flat _ _ c.if-code-eq6.true))

pub returns-then-s-length : goal.returns-then-s-length
returns-then-s-length c = finds_refused _ _ _ _ (refuses_13 _ _ _ _ _ _ _ _ _ _ _ _ c.requires c.loop-k.invariant.2 (inside _ _ _ c.loop-k.invariant.0 _ c.loop-k-test.true) (seen_flat _ _ _ _ _ _ _ _ _ c.code_at-code.ensures.0 refl (c.data_length-length.ensures [])) (known_flat _ _ c.code_at-code.ensures.1 c.if-code-eq6.false) c.if-s-length.true)

pub returns-then-not-copy_inside : goal.returns-then-not-copy_inside
returns-then-not-copy_inside c = finds_refused _ _ _ _ (refuses_14 _ _ _ _ _ _ _ _ _ _ _ _ c.requires c.loop-k.invariant.2 (inside _ _ _ c.loop-k.invariant.0 _ c.loop-k-test.true) (seen_flat _ _ _ _ _ _ _ _ _ c.code_at-code.ensures.0 refl (c.data_length-length.ensures [])) (known_flat _ _ c.code_at-code.ensures.1 c.if-code-eq6.false) c.if-s-length.false zero-le (sym c.if-not-copy_inside.true ∙ copy_flat _ _ _ _ _ _ _ c.copy_inside.ensures))

pub loop-k-preserved : goal.loop-k-preserved
loop-k-preserved c =
    let h = inside _ _ _ c.loop-k.invariant.0 _ c.loop-k-test.true in
    let l = corner _ _ _ _ _ _ _ 0 0 0 [] [] c.requires c.loop-k.invariant.2 h in
    let e = seen_flat _ _ _ _ _ _ _ _ _ c.code_at-code.ensures.0 refl (c.data_length-length.ensures []) in
    let known = known_flat _ _ c.code_at-code.ensures.1 c.if-code-eq6.false in
    let f = sym c.if-not-copy_inside.false ∙ copy_flat _ _ _ _ _ _ _ c.copy_inside.ensures in
    elim c.if-right-eq0.branch [
      | then-right-eq0 w ↦ (c.loop-k.invariant.0, omega arith, rw w.y-is (moved _ _ _ _ _ _ _ _ (omega arith) (walked_down _ _ _ _ _ _ _ _ _ _ _ _ c.requires c.loop-k.invariant.2 h e known c.if-s-length.false zero-le f (omega arith))))
      | else-right-eq0 w ↦ (c.loop-k.invariant.0, omega arith, rw w.y-is (moved _ _ _ _ _ _ _ _ (omega arith) (walked_right _ _ _ _ _ _ _ _ _ _ _ _ c.requires c.loop-k.invariant.2 h e known c.if-s-length.false zero-le f (λ q. w.if-right-eq0.false (omega arith)))))
    ]

pub returns-then-over-spare : goal.returns-then-over-spare
returns-then-over-spare c = finds_accepted _ _ _ (used_up _ _ _ _ _ _ _ c.loop-k.invariant.2 (λ i l h. ones_behind _ _ _ c.loop-k.invariant.0 i (omega (arith, l, c.loop-k-test.false)) h) (omega (arith, c.if-over-spare.true)) zero-le) (touched_is _ _ _ c.loop-k.invariant.0 _ c.rows_from.ensures)

pub returns-else-over-spare : goal.returns-else-over-spare
returns-else-over-spare c = finds_refused _ _ _ _ (left_over _ _ _ _ _ _ _ c.loop-k.invariant.2 (λ i l h. ones_behind _ _ _ c.loop-k.invariant.0 i (omega (arith, l, c.loop-k-test.false)) h) (omega (arith, c.if-over-spare.false)))
