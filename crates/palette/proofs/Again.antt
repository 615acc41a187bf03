-- A list of stores that is cut after any of them and made again leaves what the uncut one leaves: no value is read from the palette.
-- Assumes nothing.
use mathlib.Core.Path.{◌≡◌, refl, sym, ap, ◌∙◌}
use mathlib.Core.Bool.{Bool, true, false, cond}
use mathlib.Core.List.{List, [], ◌∷◌, ◌++◌}
use mathlib.Core.Logic.{◌⊎◌, inl, inr, ⊎_elim}
use Prim.Native.Nat.{ℕ, ◌<◌}
use native.Mathlib.Decide.{ℕ_discrete}
use native.Mathlib.Omega.{arith}
use borrow.Author.Tests.{eq-eqb, ne_eqb}
use lib.Dec.{eqb}
use lib.ListN.{length, get_or, set, take, drop, length-set, take-append-drop}
use lib.Seq.{get_or-set_same, get_or-set_other, ext_get_or}
use Rattle.listed.specs.Store.{Store, applied}
use Rattle.listed.specs.Order.{Begun}
use Rattle.listed.proofs.Lists.{applied_append, applied_length}

-- what the stores of a list leave at index t, where d stood
last : List Store → ℕ → ℕ → ℕ
last [] t d = d
last (s ∷ l) t d = last l t (cond (eqb t s.index) s.value d)

set_at : (p : List ℕ) (i v t : ℕ) → t < length p → get_or (set p i v) t 0 ≡ cond (eqb t i) v (get_or p t 0)
set_at p i v t h = by (ℕ_discrete t i)
  where
    by : Dec (t ≡ i) → get_or (set p i v) t 0 ≡ cond (eqb t i) v (get_or p t 0)
    by (yes e) = rw (eq-eqb _ _ e, ← e) (get_or-set_same p t v 0 h)
    by (no n) = rw (ne_eqb _ _ n) (get_or-set_other p i t v 0 n)

applied_at : (l : List Store) (p : List ℕ) (t : ℕ) → t < length p → get_or (applied l p) t 0 ≡ last l t (get_or p t 0)
unfolding applied last
applied_at [] p t h = refl
applied_at (s ∷ l) p t h =
    applied_at l (set p s.index s.value) t (rw length-set h) ∙ ap (last l t) (set_at p s.index s.value t h)

-- what stood at t is kept, or does not matter
abbrev Kept : (ℕ → ℕ) → Type 0
Kept f = (d : ℕ) → f d ≡ d

abbrev Fixed : (ℕ → ℕ) → Type 0
Fixed f = (d e : ℕ) → f d ≡ f e

after_one : (f : ℕ → ℕ) (v : ℕ) (b : Bool) → Kept f ⊎ Fixed f → Kept (λ d. f (cond b v d)) ⊎ Fixed (λ d. f (cond b v d))
after_one f v true k = inr (λ d e. refl)
after_one f v false k = k

kept_or_fixed : (l : List Store) (t : ℕ) → Kept (last l t) ⊎ Fixed (last l t)
unfolding last
kept_or_fixed [] t = inl (λ d. refl)
kept_or_fixed (s ∷ l) t = after_one (last l t) s.value (eqb t s.index) (kept_or_fixed l t)

last_again : (l : List Store) (t d : ℕ) → last l t (last l t d) ≡ last l t d
last_again l t d = ⊎_elim (λ k. k (last l t d)) (λ s. s (last l t d) d) (kept_or_fixed l t)

twice : (l : List Store) (p : List ℕ) → applied l (applied l p) ≡ applied l p
twice l p =
    ext_get_or 0 (applied l (applied l p)) (applied l p) (applied_length l (applied l p))
    (λ t h.
    let a : t < length p = omega (arith, applied_length l (applied l p), applied_length l p) in
    let b : t < length (applied l p) = omega (arith, applied_length l p) in
    applied_at l (applied l p) t b ∙ ap (last l t) (applied_at l p t a) ∙ last_again l t (get_or p t 0) ∙ sym (applied_at l p t a))

-- cut after j stores, and made again from the first on: as if it had not been cut
pub made_again : (l : List Store) (j : ℕ) (p : List ℕ) (m : Begun l j p) → applied l p ≡ applied l m.found
made_again l j p m =
    let p₀ = m.found in
    let a = take j l in
    let e : l ≡ a ++ drop j l = sym (take-append-drop j l) in
    ap (applied l) m.made
    ∙ ap (λ (x : List Store). applied x (applied a p₀)) e
    ∙ applied_append a (drop j l) (applied a p₀)
    ∙ ap (applied (drop j l)) (twice a p₀)
    ∙ sym (applied_append a (drop j l) p₀)
    ∙ ap (λ (x : List Store). applied x p₀) (sym e)
