-- What an opcode answers and leaves, by its tests: a law for each way out.
-- Assumes nothing.
use mathlib.Core.Path.{◌≡◌, refl, sym, ap, ◌∙◌}
use mathlib.Core.Bool.{true, false}
use mathlib.Core.List.{List}
use Prim.Native.Nat.{ℕ, ◌≤◌}
use native.Mathlib.Omega.{arith}
use borrow.Author.Tests.{eq-eqb, ne_eqb, eqb-true, le-ltb}
use lib.Dec.{eqb}
use lib.ListN.{length, take}
use lib.Seq.{take_all, take-length}
use Rattle.words.proofs.Tests.{first}
use Rattle.refusal.specs.declared.Refusal.{Refusal}
use Rattle.refusal.specs.Number.{Verdict, accept, refuse, refusal, number, block}
use Rattle.listed.specs.Store.{Store, applied}
use Rattle.palette.specs.Update.{Update, legal, verdict, verdict_for, verdict_on, Change, refused, change_of, change_by, change_on, on_accept, palette_after}
use Rattle.listed.proofs.Lists.{applied_length}

-- ---- the verdict, a law for each way out

module _ (u : Update) (n : ℕ) where
  pub refuses_8 : (n ≡ 768 → ⊥) → refuse 8 0 ≡ verdict_for u n
  unfolding verdict_for
  refuses_8 h = rw (ne_eqb _ _ h)

  module _ (h : n ≡ 768) where
    on_palette : verdict_for u n ≡ verdict u
    unfolding verdict_for
    on_palette = rw (eq-eqb _ _ h)

    pub refuses_5 : u.exact ≡ false → refuse 5 0 ≡ verdict_for u n
    unfolding verdict
    refuses_5 e = rw (on_palette, e)

    module _ (e : u.exact ≡ true) where
      pub refuses_range : u.inside ≡ false → refuse 7 0 ≡ verdict_for u n
      unfolding verdict
      refuses_range i = rw (on_palette, e, i)

      module _ (i : u.inside ≡ true) where
        pub refuses_component : legal u.stores ≡ false → refuse 7 0 ≡ verdict_for u n
        unfolding verdict
        refuses_component l = rw (on_palette, e, i, l)

        pub accepts : legal u.stores ≡ true → accept ≡ verdict_for u n
        unfolding verdict
        accepts l = rw (on_palette, e, i, l)

-- ---- the palette that is left

module _ (u : Update) (n : ℕ) (p : List ℕ) where
  -- what comes of it, with the palette q left
  abbrev pub Out : Change → List ℕ → Type 0
  Out c q = (c ≡ change_on u n p) × (q ≡ palette_after u n p)

  pub keeps : (r : Refusal) → refusal r ≡ verdict_on u p → Out (refused (number r) (block r)) p
  unfolding palette_after on_accept change_by
  keeps r w = (rw (← w), rw (← w))

  -- by the count of stores that code found
  pub stores_some : accept ≡ verdict_on u p → (q : List ℕ) → q ≡ applied (take n u.stores) p → (due : ℕ) → due ≡ length u.stores → (c : Change) → c ≡ change_of n due → Out c q
  unfolding palette_after on_accept change_by
  stores_some w q s due d c f = (rw (← w) (f ∙ ap (change_of n) d), rw (← w) s)

-- where as many are allowed as are due, it is the same whatever the number
module _ (u : Update) (n : ℕ) (p : List ℕ) (few : verdict_on u p ≡ accept → length u.stores ≤ n) where
  pub change_enough : change_on u n p ≡ change_on u (length u.stores) p
  unfolding change_by change_of
  change_enough = by (verdict_on u p) few
    where
      by : (v : Verdict) → (v ≡ accept → length u.stores ≤ n) → change_by v u.stores n ≡ change_by v u.stores (length u.stores)
      by accept f = let h : length u.stores ≤ length u.stores = omega arith in rw (le-ltb n (length u.stores) (f refl), le-ltb (length u.stores) (length u.stores) h)
      by (refuse m k) f = refl

  pub palette_enough : palette_after u n p ≡ palette_after u (length u.stores) p
  unfolding palette_after on_accept
  palette_enough = by (verdict_on u p) few
    where
      by : (v : Verdict) → (v ≡ accept → length u.stores ≤ n) → on_accept v (applied (take n u.stores) p) p ≡ on_accept v (applied (take (length u.stores) u.stores) p) p
      by accept f = ap (λ (l : List Store). applied l p) (take_all n u.stores (f refl) ∙ sym (take-length u.stores))
      by (refuse m k) f = refl

-- no update changes the palette's length
pub after_length : (u : Update) (n : ℕ) (p : List ℕ) → length (palette_after u n p) ≡ length p
unfolding palette_after on_accept
after_length u n p = by (verdict_on u p)
  where
    by : (v : Verdict) → length (on_accept v (applied (take n u.stores) p) p) ≡ length p
    by accept = applied_length (take n u.stores) p
    by (refuse m k) = refl

-- ---- acceptance, both ways

refuses : (n : ℕ) → refuse n 0 ≡ accept → ⊥
refuses n e = let z : ◌≡◌ {A = ℕ} 0 1 = cc in omega arith

pub record Accepted (u : Update) : Type 0 where
  pub exact : u.exact ≡ true
  pub inside : u.inside ≡ true
  pub components : legal u.stores ≡ true

pub accepted : (u : Update) → verdict u ≡ accept → Accepted u
unfolding verdict
accepted u e =
    let a = first _ _ _ _ (refuses 5) e in
    let b = first _ _ _ _ (refuses 7) a.1 in
    let c = first _ _ _ _ (refuses 7) b.1 in
    record { exact = a.0; inside = b.0; components = c.0 }

-- on a palette this long, by what code found
pub taken_on : (u : Update) (n : ℕ) → accept ≡ verdict_for u n → (n ≡ 768) × Accepted u
unfolding verdict_for
taken_on u n v =
    let a = first (eqb n 768) (refuse 8 0) (verdict u) accept (refuses 8) (sym v) in
    (eqb-true n 768 a.0, accepted u a.1)
