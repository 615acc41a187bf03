-- What follows where the pictures and the palette that are lent are long enough.
-- Assumes nothing.
use mathlib.Core.Path.{◌≡◌, refl}
use mathlib.Core.Bool.{Bool, true, false}
use Prim.Native.Nat.{ℕ, ◌≤◌}
use native.Mathlib.Omega.{arith}
use borrow.Author.Tests.{ltb-true, ltb-false}
use lib.Dec.{eqb, ltb}
use Rattle.words.proofs.Tests.{first, not_first}
use Rattle.refusal.specs.Number.{accept, refuse}
use Rattle.state.specs.State.{least_of, shortest_of, lent_verdict}

-- all pictures of the film's kind are as long
least_fits : (n a b : ℕ) → n ≤ least_of a b → (n ≤ a) × (n ≤ b)
unfolding least_of
least_fits n a b h = by (ltb a b) refl
  where
    by : (t : Bool) → ltb a b ≡ t → (n ≤ a) × (n ≤ b)
    by true q = let l : n ≤ a = rw q at h in (l, omega (arith, l, ltb-true a b q))
    by false q = let l : n ≤ b = rw q at h in (omega (arith, l, ltb-false a b q), l)

module _ (n a b c d e : ℕ) where
  pub bytes_fit : n ≤ shortest_of false a b c d e → (n ≤ a) × (n ≤ b)
  unfolding shortest_of
  bytes_fit h = least_fits n a b h

  pub words_fit : n ≤ shortest_of true a b c d e → (n ≤ c) × (n ≤ d) × (n ≤ e)
  unfolding shortest_of
  words_fit h =
      let x = least_fits n (least_of c d) e h in
      let y = least_fits n c d x.0 in
      (y.0, y.1, x.1)

-- 8 accepts pictures that are long enough
pub lent_fits : (n palette shortest : ℕ) → lent_verdict n palette shortest ≡ accept → n ≤ shortest
unfolding lent_verdict
lent_fits n palette shortest h =
    let none : refuse 8 0 ≡ accept → ⊥ = λ e. let z : ◌≡◌ {A = ℕ} 0 1 = cc in omega arith in
    let a = first (eqb palette 768) _ _ _ none h in
    let b = not_first (ltb shortest n) _ _ _ none a.1 in
    ltb-false _ _ b.0
