-- The picture that is shown after a 07, by the kind of film and front.
-- Assumes nothing.
use mathlib.Core.Path.{◌≡◌}
use mathlib.Core.Bool.{Bool, true, false}
use Prim.Native.Nat.{ℕ}
use borrow.Author.Tests.{eq-eqb, ne_eqb}
use Rattle.state.specs.Moves.{shown_next}

module _ (d u : Bool) (f : ℕ) where
  pub turned_0 : u ≡ true → f ≡ 0 → 1 ≡ shown_next d u f
  unfolding shown_next
  turned_0 e q = rw (e, eq-eqb _ _ q)

  module _ (e : u ≡ true) (n : f ≡ 0 → ⊥) where
    pub turned_1 : d ≡ true → f ≡ 1 → 2 ≡ shown_next d u f
    unfolding shown_next
    turned_1 t q = rw (e, ne_eqb _ _ n, t, eq-eqb _ _ q)

    pub turned_2 : d ≡ true → (f ≡ 1 → ⊥) → 0 ≡ shown_next d u f
    unfolding shown_next
    turned_2 t m = rw (e, ne_eqb _ _ n, t, ne_eqb _ _ m)

    pub turned_back : d ≡ false → 0 ≡ shown_next d u f
    unfolding shown_next
    turned_back t = rw (e, ne_eqb _ _ n, t)

  pub not_turned : u ≡ false → f ≡ shown_next d u f
  unfolding shown_next
  not_turned e = rw e
