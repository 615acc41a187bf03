-- A frame's data is accepted exactly when it is used up (`exactly`), and each of its blocks is then given by a code that has its bytes (`given`).
-- Assumes nothing.
use mathlib.Core.Path.{◌≡◌, refl, subst, ◌∙◌}
use mathlib.Core.List.{List}
use Prim.Native.Nat.{ℕ, zero, suc, ◌+◌, ◌-◌, ◌≤◌, ◌<◌}
use native.Mathlib.Decide.{dec_lt}
use native.Mathlib.Omega.{arith}
use borrow.Author.Tests.{lt-ltb, le-ltb, eq-eqb, eqb-true}
use lib.ListN.{length}
use Rattle.words.specs.Word.{word_at}
use Rattle.words.proofs.Tests.{first}
use Rattle.refusal.specs.Number.{accept, refuse}
use Rattle.video1.specs.Code.{code_at, long_of, passed_by}
use Rattle.video1.specs.Frame.{end_verdict, walk_from, walk_verdict, position_of}
use Rattle.video1.specs.Accepted.{UsesUp, marked, passed}
use Rattle.video1.proofs.Walk.{Walked, walked_start, walked_on, walked_end, position_is, taken_long, taken_passed, long_some}

no_refusal : (n k : ℕ) → refuse n k ≡ accept → ⊥
no_refusal n k e = let z : ◌≡◌ {A = ℕ} 0 1 = cc in omega arith

end_is : (s : List ℕ) (at : ℕ) → end_verdict s at ≡ accept → (length s - at ≡ 2) × (word_at s at ≡ 0)
unfolding end_verdict
end_is s at e =
    let a = first _ _ _ _ (no_refusal 26 0) e in
    let b = first _ _ _ _ (no_refusal 26 0) a.1 in
    (eqb-true _ _ a.0, eqb-true _ _ b.0)

module _ (s : List ℕ) (total : ℕ) (a : walk_verdict s total ≡ accept) where
  -- the code at byte at is passed
  next : (at k : ℕ) (w : Walked s total at k) → k < total → Walked s total (at + long_of (code_at s at)) (k + passed_by (code_at s at))
  next at k w h = walked_on s total at k w h (code_at s at) refl _ _ refl refl (taken_long s total at k w a h) (taken_passed s total at k w a h)

  used : (n at k : ℕ) → Walked s total at k → length s - at < n → UsesUp s total at k
  used zero at k w l = absurd (let z : ⊥ = omega arith in z)
  used (suc n) at k w l =
      elim (dec_lt k total) [
        | yes h ↦
            let t = taken_long s total at k w a h in
            passed {at = at} h (omega (arith, t, w.within)) (omega (arith, taken_passed s total at k w a h))
            (used n _ _ (next at k w h) (omega (arith, t, w.within, (long_some (code_at s at)).0)))
        | no h ↦
            let e = end_is s at (walked_end s total at k w (omega arith) (end_verdict s at) refl ∙ a) in
            let z : total ≡ k = omega (arith, w.below) in
            subst (UsesUp s total at) z (marked (omega (arith, e.0)) e.1)
      ]

  -- block j is given by a code that has its bytes
  gives : (n at k : ℕ) → Walked s total at k → length s - at < n → (j : ℕ) → k ≤ j → j < total → position_of s j + long_of (code_at s (position_of s j)) ≤ length s
  gives zero at k w l j g h = absurd (let z : ⊥ = omega arith in z)
  gives (suc n) at k w l j g h =
      let b : k < total = omega arith in
      let t = taken_long s total at k w a b in
      elim (dec_lt j (k + passed_by (code_at s at))) [
        | yes m ↦ rw (position_is s total at k w j g m) (omega (arith, t, w.within))
        | no m ↦ gives n _ _ (next at k w b) (omega (arith, t, w.within, (long_some (code_at s at)).0)) j (omega arith) h
      ]

  pub given : (j : ℕ) → j < total → position_of s j + long_of (code_at s (position_of s j)) ≤ length s
  given j h = gives (suc (length s)) 0 0 (walked_start s total) (omega arith) j (omega arith) h

accepts : (s : List ℕ) (total at k : ℕ) → UsesUp s total at k → (n : ℕ) → length s - at < n → walk_from n s total at k ≡ accept
unfolding walk_from end_verdict
accepts s total at k u zero l = absurd (let z : ⊥ = omega arith in z)
accepts s total at k (marked e w) (suc n) l =
    let b : total ≤ total = omega arith in
    let c : length s - at ≡ 2 = omega arith in
    rw (le-ltb _ _ b, eq-eqb _ _ c, eq-eqb _ _ w)
accepts s total at k (passed h t p u) (suc n) l =
    let b : long_of (code_at s at) ≤ length s - at = omega arith in
    let c : passed_by (code_at s at) ≤ total - k = omega arith in
    rw (lt-ltb _ _ h, le-ltb _ _ b, le-ltb _ _ c) (accepts s total (at + long_of (code_at s at)) _ u n (omega (arith, (long_some (code_at s at)).0)))

pub exactly : (s : List ℕ) (total : ℕ) → (walk_verdict s total ≡ accept → UsesUp s total 0 0) × (UsesUp s total 0 0 → walk_verdict s total ≡ accept)
unfolding walk_verdict
exactly s total = (λ a. used s total a (suc (length s)) 0 0 (walked_start s total) (omega arith), λ u. accepts s total 0 0 u (suc (length s)) (omega arith))
