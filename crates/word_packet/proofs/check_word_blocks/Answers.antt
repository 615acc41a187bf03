use mathlib.Core.Path.{refl, sym, ◌∙◌}
use mathlib.Core.Logic.{⊎_elim}
use mathlib.Core.List.{[]}
use native.Mathlib.Omega.{arith}
use Rattle.packet.proofs.Walk.{moved, corner, refuses_13, refuses_13', refuses_14, walked_right, walked_down, used_up, left_over, left_beside}
use Rattle.packet.proofs.Strip.{finds_refused, finds_accepted}
use Rattle.word_packet.proofs.Walk.{known_deep, walked_first, touched_all, both_used, one_left}
use Rattle.word_packet.proofs.check_word_blocks.Goals as goal
use Rattle.word_packet.proofs.check_word_blocks.Goals.{then-right-eq0, else-right-eq0}

pub loop-k-init : goal.loop-k-init
loop-k-init c = (omega arith, walked_first _ _ _ _ _ _ c.requires)

pub returns-then-s-length : goal.returns-then-s-length
returns-then-s-length c = finds_refused _ _ _ _ (refuses_13 _ _ _ _ _ _ _ _ _ _ _ _ c.requires c.loop-k.invariant.1 c.loop-k-test.true (record { code = c.code_at-code.ensures.0; part = refl; second = refl; long = c.data_length-length.ensures _; taken = c.offset_length-taken.ensures _ _ }) (known_deep _ _ _ c.code_at-code.ensures.1) c.if-s-length.true)

pub returns-then-o-taken : goal.returns-then-o-taken
returns-then-o-taken c = finds_refused _ _ _ _ (refuses_13' _ _ _ _ _ _ _ _ _ _ _ _ c.requires c.loop-k.invariant.1 c.loop-k-test.true (record { code = c.code_at-code.ensures.0; part = refl; second = refl; long = c.data_length-length.ensures _; taken = c.offset_length-taken.ensures _ _ }) (known_deep _ _ _ c.code_at-code.ensures.1) c.if-s-length.false c.if-o-taken.true)

pub returns-then-not-word_inside : goal.returns-then-not-word_inside
returns-then-not-word_inside c = finds_refused _ _ _ _ (refuses_14 _ _ _ _ _ _ _ _ _ _ _ _ c.requires c.loop-k.invariant.1 c.loop-k-test.true (record { code = c.code_at-code.ensures.0; part = refl; second = refl; long = c.data_length-length.ensures _; taken = c.offset_length-taken.ensures _ _ }) (known_deep _ _ _ c.code_at-code.ensures.1) c.if-s-length.false c.if-o-taken.false (sym c.if-not-word_inside.true ∙ c.word_inside.ensures))

pub loop-k-preserved : goal.loop-k-preserved
loop-k-preserved c =
    let l = corner _ _ _ _ _ _ _ 0 0 0 [] [] c.requires c.loop-k.invariant.1 c.loop-k-test.true in
    let known = known_deep _ _ _ c.code_at-code.ensures.1 in
    let f = sym c.if-not-word_inside.false ∙ c.word_inside.ensures in
    elim c.if-right-eq0.branch [
      | then-right-eq0 w ↦ (omega arith, rw w.y-is (moved _ _ _ _ _ _ _ _ (omega arith) (walked_down _ _ _ _ _ _ _ _ _ _ _ _ c.requires c.loop-k.invariant.1 c.loop-k-test.true (record { code = c.code_at-code.ensures.0; part = refl; second = refl; long = c.data_length-length.ensures _; taken = c.offset_length-taken.ensures _ _ }) known c.if-s-length.false c.if-o-taken.false f (omega arith))))
      | else-right-eq0 w ↦ (omega arith, rw w.y-is (moved _ _ _ _ _ _ _ _ (omega arith) (walked_right _ _ _ _ _ _ _ _ _ _ _ _ c.requires c.loop-k.invariant.1 c.loop-k-test.true (record { code = c.code_at-code.ensures.0; part = refl; second = refl; long = c.data_length-length.ensures _; taken = c.offset_length-taken.ensures _ _ }) known c.if-s-length.false c.if-o-taken.false f (λ q. w.if-right-eq0.false (omega arith)))))
    ]

pub returns-then-not-are_used_up : goal.returns-then-not-are_used_up
returns-then-not-are_used_up c = finds_refused _ _ _ _ (⊎_elim (λ t. left_over _ _ _ _ _ _ _ c.loop-k.invariant.1 (λ i l h. absurd (let z : ⊥ = omega (arith, l, h, c.loop-k-test.false) in z)) t) (λ t. left_beside _ _ _ _ _ _ _ c.loop-k.invariant.1 (λ i l h. absurd (let z : ⊥ = omega (arith, l, h, c.loop-k-test.false) in z)) t.0 t.1) (one_left _ _ _ (sym c.are_used_up.ensures ∙ c.if-not-are_used_up.true)))

pub returns : goal.returns
returns c = let u = both_used _ _ _ (sym c.are_used_up.ensures ∙ c.if-not-are_used_up.false) in finds_accepted _ _ _ (used_up _ _ _ _ _ _ _ c.loop-k.invariant.1 (λ i l h. absurd (let z : ⊥ = omega (arith, l, h, c.loop-k-test.false) in z)) u.0 u.1) (touched_all _ _ _ _ _ c.requires.some_columns c.requires.some_rows)
