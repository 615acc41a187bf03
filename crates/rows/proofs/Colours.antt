-- Colours read once for several pixels: the value that a pixel takes from them is the one that the block's rule gives it.
-- Assumes nothing.
use mathlib.Core.Path.{◌≡◌, refl, subst}
use mathlib.Core.Bool.{Bool, true, false}
use mathlib.Core.List.{List}
use Prim.Native.Nat.{ℕ, ◌+◌, ◌*◌, ◌/◌, ◌%◌, ◌≤◌, ◌<◌}
use native.Mathlib.Omega.{arith}
use lib.ListN.{get_or}
use Rattle.block.specs.Block.{Side, one, two, four, eight, pixels, colour_bytes, cell_source, dither_source}
use Rattle.block.specs.Asked.{Sided}
use Rattle.pattern.specs.Form.{bytes}
use Rattle.block.proofs.Codes.{cell, colour_within}
use Rattle.rows.specs.Row.{Band}
use Rattle.rows.proofs.Beside.{Eight}

-- ---- a row

pub raw_source : (i : ℕ) → i ≡ cell_source 1 i
unfolding cell_source
raw_source i = omega arith

-- ---- codes C to E

pub band_of : {side p : ℕ} → Sided side → 1 < side → p % (8 * side) ≡ 0 → p < 64 → Band side p
band_of z w f b = record { sided = z; wide = w; first = f; below = b }

-- a band begins with a row and ends within the block, and the next begins behind it
pub record BandRoom (side p : ℕ) : Type 0 where
  pub row : p % 8 ≡ 0
  pub room : p + 8 * side ≤ 64
  pub next : (p + 8 * side) % (8 * side) ≡ 0

band_room_of : (c : Side) (p : ℕ) → p % (8 * pixels c) ≡ 0 → p < 64 → BandRoom (pixels c) p
band_room_of one p first below = record { row = omega arith; room = omega arith; next = omega arith }
band_room_of two p first below = record { row = omega arith; room = omega arith; next = omega arith }
band_room_of four p first below = record { row = omega arith; room = omega arith; next = omega arith }
band_room_of eight p first below = record { row = omega arith; room = omega arith; next = omega arith }

pub band_room : {side p : ℕ} → Band side p → BandRoom side p
band_room {side} {p} z =
    subst (λ (n : ℕ). p % (8 * n) ≡ 0 → BandRoom n p) z.sided.1 (λ f. band_room_of z.sided.0 p f z.below) z.first

-- the rows of a band have one row of cells
band_down : (c : Side) (p r : ℕ) → p % (8 * pixels c) ≡ 0 → r < 8 * pixels c → (p + r) / 8 / pixels c ≡ p / 8 / pixels c
band_down one p r first l = omega arith
band_down two p r first l = omega arith
band_down four p r first l = omega arith
band_down eight p r first l = omega arith

-- pixels 2 k and 2 k + 1 of a row have one cell
band_across : (c : Side) (i : ℕ) → 1 < pixels c → i < 8 → i / 2 % 4 * 2 / pixels c ≡ i / pixels c
band_across one i wide h = absurd (let z : ⊥ = omega arith in z)
band_across two i wide h = omega arith
band_across four i wide h = omega arith
band_across eight i wide h = omega arith

record BandCell (p r i side : ℕ) : Type 0 where
  down : (p + r) / 8 / side ≡ p / 8 / side
  across : i / 2 % 4 * 2 / side ≡ i / side

module _ {side p : ℕ} (z : Band side p) (r i : ℕ) (even : r % 8 ≡ 0) (l : r < 8 * side) (h : i < 8) where
  band_both : BandCell p r i side
  band_both =
      subst (λ (n : ℕ). p % (8 * n) ≡ 0 → r < 8 * n → 1 < n → BandCell p r i n) z.sided.1
      (λ f g w. record { down = band_down z.sided.0 p r f g; across = band_across z.sided.0 i w h })
      z.first l z.wide

  pub band_cell : cell_source side (p + i / 2 % 4 * 2) ≡ cell_source side (p + (r + i))
  unfolding cell_source
  band_cell =
      let f = (band_room z).row in
      let a : (p + i / 2 % 4 * 2) / 8 ≡ p / 8 = omega (arith, f) in
      let b : (p + i / 2 % 4 * 2) % 8 ≡ i / 2 % 4 * 2 = omega (arith, f) in
      let c : (p + (r + i)) / 8 ≡ (p + r) / 8 = omega (arith, f) in
      let d : (p + (r + i)) % 8 ≡ i = omega (arith, f) in
      rw (a, b, c, d, band_both.down, band_both.across)

-- ---- code F

-- a and b are the colours of row r
pub record Turned (s : List ℕ) (r a b : ℕ) : Type 0 where
  pub first : a ≡ get_or s (r % 2) 0
  pub second : b ≡ get_or s ((r + 1) % 2) 0

pub turned_start : (s : List ℕ) → Turned s 0 (get_or s 0 0) (get_or s 1 0)
turned_start s = record { first = refl; second = refl }

pub turned_next : (s : List ℕ) (r a b : ℕ) → Turned s r a b → Turned s (r + 1) b a
turned_next s r a b t =
    let e : (r + 1 + 1) % 2 ≡ r % 2 = omega arith in
    record { first = t.second; second = rw e t.first }

-- pixel i of the row
turned_even : (s : List ℕ) (r i a b : ℕ) → Turned s r a b → i < 8 → i % 2 ≡ 0 → a ≡ get_or s (dither_source (8 * r + i)) 0
unfolding dither_source
turned_even s r i a b t h e =
    let f : ((8 * r + i) / 8 + (8 * r + i) % 8) % 2 ≡ r % 2 = omega arith in
    rw f t.first

turned_odd : (s : List ℕ) (r i a b : ℕ) → Turned s r a b → i < 8 → i % 2 ≡ 1 → b ≡ get_or s (dither_source (8 * r + i)) 0
unfolding dither_source
turned_odd s r i a b t h e =
    let f : ((8 * r + i) / 8 + (8 * r + i) % 8) % 2 ≡ (r + 1) % 2 = omega arith in
    rw f t.second

pub turned_eight : (s : List ℕ) (r : ℕ) {a b : ℕ} → Turned s r a b → Eight (λ i. get_or s (dither_source (8 * r + i)) 0) a b a b a b a b
turned_eight s r t =
    record {
      first = turned_even s r 0 _ _ t (omega arith) refl;
      second = turned_odd s r 1 _ _ t (omega arith) refl;
      third = turned_even s r 2 _ _ t (omega arith) refl;
      fourth = turned_odd s r 3 _ _ t (omega arith) refl;
      fifth = turned_even s r 4 _ _ t (omega arith) refl;
      sixth = turned_odd s r 5 _ _ t (omega arith) refl;
      seventh = turned_even s r 6 _ _ t (omega arith) refl;
      eighth = turned_odd s r 7 _ _ t (omega arith) refl;
    }

-- ---- a colour

-- colour n of m is there
pub colour_there : (deep : Bool) (w n m long : ℕ) → w ≡ bytes deep → n < m → colour_bytes deep m ≤ long → colour_bytes deep n + w ≤ long
colour_there deep w n m long e h l = let k = colour_within deep n m h in omega arith

-- the first n of m are there
pub colours_few : (deep : Bool) (n m long : ℕ) → n ≤ m → colour_bytes deep m ≤ long → colour_bytes deep n ≤ long
colours_few true n m long h l = omega arith
colours_few false n m long h l = omega arith

-- the colour of pixel i's cell is there
pub cell_there : (deep : Bool) (w side i j long : ℕ) → w ≡ bytes deep → Sided side → i < 64 → colour_bytes deep (8 / side * (8 / side)) ≤ long → j ≡ cell_source side i
    → colour_bytes deep j + w ≤ long
unfolding cell_source
cell_there deep w side i j long e z h l f = colour_there deep w j (8 / side * (8 / side)) long e (omega (arith, cell side i z h, f)) l
