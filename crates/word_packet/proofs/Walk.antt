-- A packet with true colour: the walk's laws (`packet/proofs/Walk`), where no code is refused and every block is touched.
-- Assumes nothing.
use Rattle.std.specs.Prelude.{Some}
use mathlib.Core.Path.{◌≡◌, refl, sym, ap, ap₂, ◌∙◌}
use mathlib.Core.Bool.{Bool, true, false, cond}
use mathlib.Core.List.{List}
use Prim.Native.Nat.{ℕ, zero, suc, ◌+◌, ◌-◌, ◌*◌, ◌/◌, ◌%◌, ◌≤◌, ◌<◌, zero-le}
use native.Mathlib.Nat.{mod-eq_of_lt, div-le_self, mul-le-mul, mul_comm, suc-mul}
use native.Mathlib.Omega.{arith}
use mathlib.Core.Logic.{◌⊎◌, inl, inr, ⊎_elim}
use borrow.Author.Tests.{ne_eqb, eqb-true, eqb-false, leb-true, leb-false}
use lib.Arith.{digits_div}
use lib.Dec.{eqb, leb}
use Rattle.block.specs.Block.{code_at, kind_of, is_refused}
use Rattle.block.proofs.Codes.{refused_deep}
use Rattle.packet.specs.Packet.{parted}
use Rattle.packet.specs.Rows.{first_from, past_touched, spanning, rows_from, touched}
use Rattle.packet.specs.Asked.{Sized}
use Rattle.packet.proofs.Walk.{Walked, walked_ones, code_below}

pub known_deep : (s o : List ℕ) (c : ℕ) → c < 16 → is_refused (kind_of true c s o) ≡ false
known_deep s o c l = sym (refused_deep s o c l)

-- ---- the first block

pub walked_first : (spare columns rows : ℕ) (map bytes offsets : List ℕ) → Sized (parted true columns rows map bytes offsets)
    → Walked spare (parted true columns rows map bytes offsets) 0 0 0 (8 * columns - 8 * columns) 0
walked_first spare columns rows map bytes offsets z =
    let some : 0 < columns = omega (arith, z.some_columns) in
    let x : 0 % columns ≡ 0 = mod-eq_of_lt some in
    let y : 0 / columns ≤ 0 = div-le_self 0 columns in
    let w = walked_ones spare (parted true columns rows map bytes offsets) 0 zero-le (λ i l. absurd (let z : ⊥ = omega arith in z)) in
    record {
      below = w.below;
      found = w.found;
      within = w.within;
      beside = w.beside;
      across = omega (arith, x);
      down = omega (arith, y);
      verdict = w.verdict;
    }

-- ---- every block is touched

first_all : (map : List ℕ) (n : ℕ) → first_from 16 map n 0 ≡ 0
unfolding first_from
first_all map zero = refl
first_all map (suc n) = let l = code_below map 0 in rw (ne_eqb (code_at map 0) 16 (λ e. omega (arith, l, e)))

past_all : (map : List ℕ) (n : ℕ) → past_touched 16 map n ≡ n
unfolding past_touched
past_all map zero = refl
past_all map (suc n) = let l = code_below map n in rw (ne_eqb (code_at map n) 16 (λ e. omega (arith, l, e)))

last_row : (columns rows : ℕ) → 1 ≤ columns → 1 ≤ rows → rows - 1 ≡ (columns * rows - 1) / columns
last_row columns zero h l = absurd (let z : ⊥ = omega (arith, l) in z)
last_row columns (suc rows) h l =
    let b : columns - 1 < columns = omega arith in
    let e : columns * suc rows - 1 ≡ rows * columns + (columns - 1) = omega (arith, mul_comm columns (suc rows), suc-mul rows columns) in
    let d : suc rows - 1 ≡ rows = omega arith in
    d ∙ sym (ap (λ (n : ℕ). n / columns) e ∙ digits_div rows b)

pub touched_all : (columns rows : ℕ) (map bytes offsets : List ℕ) → 1 ≤ columns → 1 ≤ rows → Some (spanning 0 (rows - 1)) ≡ touched (parted true columns rows map bytes offsets)
unfolding touched rows_from
touched_all columns rows map bytes offsets h l =
    let some : 1 ≤ columns * rows = mul-le-mul h l in
    let first : 0 ≡ 0 / columns = omega (arith, div-le_self 0 columns) in
    rw (first_all map (columns * rows), past_all map (columns * rows), ne_eqb (columns * rows) 0 (λ e. omega (arith, some, e)))
    (ap₂ (λ (a b : ℕ). Some (spanning a b)) first (last_row columns rows h l))

-- ---- what is left over

both : (a b : Bool) → cond a b false ≡ true → (a ≡ true) × (b ≡ true)
both true b e = (refl, e)
both false b e = absurd (let z : ◌≡◌ {A = ℕ} 0 1 = cc in let y : ⊥ = omega arith in y)

either : (a b : Bool) → cond a b false ≡ false → (a ≡ false) ⊎ ((a ≡ true) × (b ≡ false))
either true b e = inr (refl, e)
either false b e = inl refl

module _ (first second spare : ℕ) where
  pub both_used : cond (eqb first 0) (leb second spare) false ≡ true → (first ≤ 0) × (second ≤ spare)
  both_used e =
      let t = both (eqb first 0) (leb second spare) e in
      (omega (arith, eqb-true first 0 t.0), leb-true second spare t.1)

  pub one_left : cond (eqb first 0) (leb second spare) false ≡ false → (0 < first) ⊎ ((first ≤ 0) × (spare < second))
  one_left e =
      ⊎_elim (λ t. inl (omega (arith, eqb-false first 0 t)))
      (λ t. inr (omega (arith, eqb-true first 0 t.0), leb-false second spare t.1))
      (either (eqb first 0) (leb second spare) e)
