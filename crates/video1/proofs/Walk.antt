-- The walk over the codes of a frame: what is known at byte at and block k, and what each test of a code says of the verdict.
-- Assumes nothing.
use mathlib.Core.Path.{◌≡◌, refl, sym, ap, ◌∙◌}
use mathlib.Core.List.{List}
use Prim.Native.Nat.{ℕ, suc, ◌+◌, ◌-◌, ◌≤◌, ◌<◌}
use native.Mathlib.Omega.{arith}
use borrow.Author.Tests.{lt-ltb, le-ltb, ltb-false}
use lib.ListN.{length}
use Rattle.words.proofs.Tests.{not_first}
use Rattle.refusal.specs.Number.{Verdict, accept, refuse}
use Rattle.video1.specs.declared.Code.{Code}
use Rattle.video1.specs.declared.Code.TheVariants.{Skip, Two, Eight, One}
use Rattle.video1.specs.Code.{code_at, long_of, passed_by}
use Rattle.video1.specs.Frame.{end_verdict, walk_from, walk_verdict, position_from, position_of}

-- ---- one code

-- every code has bytes, and no more than ten
pub long_some : (code : Code) → (2 ≤ long_of code) × (long_of code ≤ 10)
unfolding long_of
long_some (Skip n) = (omega arith, omega arith)
long_some Two = (omega arith, omega arith)
long_some Eight = (omega arith, omega arith)
long_some One = (omega arith, omega arith)

-- ---- the walk

-- turns: so many codes are still allowed, more than there are bytes
pub record Walked (s : List ℕ) (total at k : ℕ) : Type 0 where
  pub turns : ℕ
  pub enough : length s - at < turns
  pub within : at ≤ length s
  pub below : k ≤ total
  pub verdict : walk_from turns s total at k ≡ walk_verdict s total
  pub found : (j : ℕ) → k ≤ j → position_from turns s at k j ≡ position_of s j

pub walked_start : (s : List ℕ) (total : ℕ) → Walked s total 0 0
unfolding walk_verdict position_of
walked_start s total =
    record { turns = suc (length s); enough = omega arith; within = omega arith; below = omega arith; verdict = refl; found = λ j h. refl }

module _ (s : List ℕ) (total at k : ℕ) (w : Walked s total at k) where
  once : w.turns ≡ suc (w.turns - 1)
  once = omega (arith, w.enough)

  -- one turn of the definitions
  first_of : walk_verdict s total ≡ walk_from (suc (w.turns - 1)) s total at k
  first_of = sym w.verdict ∙ ap (λ (x : ℕ). walk_from x s total at k) once

  first_found : (j : ℕ) → k ≤ j → position_of s j ≡ position_from (suc (w.turns - 1)) s at k j
  first_found j h = sym (w.found j h) ∙ ap (λ (x : ℕ). position_from x s at k j) once

  -- the code at byte at gives the blocks that it passes
  pub position_is : (j : ℕ) → k ≤ j → j < k + passed_by (code_at s at) → position_of s j ≡ at
  unfolding position_from
  position_is j h l = first_found j h ∙ rw (lt-ltb _ _ l)

  pub walked_end : total ≤ k → (v : Verdict) → v ≡ end_verdict s at → v ≡ walk_verdict s total
  unfolding walk_from
  walked_end h v e = e ∙ sym (first_of ∙ rw (le-ltb _ _ h))

  module _ (h : k < total) (code : Code) (ec : code ≡ code_at s at) (long n : ℕ) (el : long ≡ long_of code) (en : n ≡ passed_by code) where
    pub refuses_24 : length s - at < long → refuse 24 0 ≡ walk_verdict s total
    unfolding walk_from
    refuses_24 q = let q' : length s - at < long_of (code_at s at) = rw (el, ec) at q in rw (first_of, lt-ltb _ _ h, lt-ltb _ _ q')

    module _ (q : long ≤ length s - at) where
      pub refuses_25 : total - k < n → refuse 25 0 ≡ walk_verdict s total
      unfolding walk_from
      refuses_25 p =
          let q' : long_of (code_at s at) ≤ length s - at = rw (el, ec) at q in
          let p' : total - k < passed_by (code_at s at) = rw (en, ec) at p in
          rw (first_of, lt-ltb _ _ h, le-ltb _ _ q', lt-ltb _ _ p')

      pub walked_on : n ≤ total - k → Walked s total (at + long) (k + n)
      unfolding walk_from position_from
      walked_on p =
          let q' : long_of (code_at s at) ≤ length s - at = rw (el, ec) at q in
          let p' : passed_by (code_at s at) ≤ total - k = rw (en, ec) at p in
          let f : walk_verdict s total ≡ walk_from (w.turns - 1) s total (at + long_of (code_at s at)) (k + passed_by (code_at s at)) =
          first_of ∙ rw (lt-ltb _ _ h, le-ltb _ _ q', le-ltb _ _ p') in
          let g : (j : ℕ) → k + passed_by (code_at s at) ≤ j
          → position_from (w.turns - 1) s (at + long_of (code_at s at)) (k + passed_by (code_at s at)) j ≡ position_of s j =
          λ j m. sym (first_found j (omega arith) ∙ rw (le-ltb _ _ m)) in
          record {
            turns = w.turns - 1;
            enough = omega (arith, (long_some code).0, el, w.enough, w.within);
            within = omega (arith, w.within);
            below = omega (arith, w.below);
            verdict = rw (el, en, ec) (sym f);
            found = rw (el, en, ec) g;
          }

  -- of a frame that is taken: the code has its bytes and passes no more blocks than are left
  module _ (a : walk_verdict s total ≡ accept) (h : k < total) where
    both : (long_of (code_at s at) ≤ length s - at) × (passed_by (code_at s at) ≤ total - k)
    unfolding walk_from
    both =
        let f = rw (first_of, lt-ltb _ _ h) at a in
        let x = not_first _ _ _ _ (no_refusal 24 0) f in
        let y = not_first _ _ _ _ (no_refusal 25 0) x.1 in
        (ltb-false _ _ x.0, ltb-false _ _ y.0)
      where
        no_refusal : (n k : ℕ) → refuse n k ≡ accept → ⊥
        no_refusal n k e = let z : ◌≡◌ {A = ℕ} 0 1 = cc in omega arith

    pub taken_long : long_of (code_at s at) ≤ length s - at
    taken_long = both.0

    pub taken_passed : passed_by (code_at s at) ≤ total - k
    taken_passed = both.1
