-- Laws for the loops over the blocks of a picture.
-- Assumes nothing.
use mathlib.Core.Path.{◌≡◌, refl, sym, ap, ◌∙◌}
use mathlib.Core.List.{List, [], ◌∷◌, ◌++◌, append-nil}
use Prim.Native.Nat.{ℕ, suc, ◌+◌, ◌-◌, ◌*◌, ◌/◌, ◌%◌, ◌≤◌, ◌<◌, min}
use native.Mathlib.Numerals.{add-one}
use native.Mathlib.Decide.{dec_lt}
use native.Mathlib.Omega.{arith}
use lib.ListN.{length, get_or, set, take, drop, length-append, length-drop}
use lib.Seq.{take_all}
use Rattle.room.specs.Room.{written}
use Rattle.room.proofs.Written.{Writing, writing_start, writing_more, written_none, written_length, written_behind, take_more}
use Rattle.packet.specs.Packet.{pixels}
use Rattle.packet.proofs.Grid.{column_below, row_below}
use Rattle.paint.specs.Asked.{Square}
use native.Mathlib.Nat.{mul-le-mul_right}
use Rattle.choice.specs.declared.Way.{Way}
use Rattle.choice.specs.declared.Way.TheVariants.{Same, Kept, One, Dither, Coarse, Four, Fine, Two, Raw}
use Rattle.choice.specs.Choice.{code_of, length_by, data_by}
use Rattle.encode.specs.Encode.{Task, Lent, block_in, way_at, part_at, block_way, data_to, nibble, map_of}
use Rattle.encode.proofs.Draws.{split, data_from}
use Rattle.choice.proofs.First.{listed_length, listed_from}
use borrow.Author.Tests.{lt-ltb, le-ltb}
use Rattle.choice.proofs.Best.{length_by_lem, code_few}

-- block k stands in a lent picture
pub square_in : (j : Task) (rows k : ℕ) → Lent j rows → k < j.columns * rows → (long : ℕ) → pixels j.columns rows ≤ long
    → Square (8 * j.columns) (8 * (k % j.columns)) (8 * (k / j.columns)) long
square_in j rows k q h long l =
    let some : 0 < j.columns = omega (arith, q.wide.least) in
    let column = column_below j.columns k some in
    let row = row_below j.columns rows k some h in
    let down : 8 * (k / j.columns) + 8 ≤ 8 * rows = omega (arith, row) in
    let m = mul-le-mul_right (8 * j.columns) down in
    record { width = omega (arith, q.wide.bound); across = omega (arith, column); down = omega (arith, down, q.high.bound); room = omega (arith, m, l) }

length_few : (t : Way) → length_by t ≤ 64
length_few Same = omega arith
length_few Kept = omega arith
length_few One = omega arith
length_few Dither = omega arith
length_few Coarse = omega arith
length_few Four = omega arith
length_few Fine = omega arith
length_few Two = omega arith
length_few Raw = omega arith

-- the data of the blocks below k is so long, and no longer than 64 a block
pub record Measured (j : Task) (k at : ℕ) : Type 0 where
  pub is : at ≡ length (data_to j k)
  pub few : at ≤ 64 * k

pub measured_none : (j : Task) → Measured j 0 0
unfolding data_to
measured_none j = record { is = refl; few = omega arith }

pub measured_more : (j : Task) (k at l : ℕ) (way : Way) → Measured j k at → way ≡ way_at j k → l ≡ length_by way → Measured j (k + 1) (at + l) × (l ≤ 64)
unfolding data_to part_at
measured_more j k at l way m e q =
    let c = j.columns in
    let n : length (part_at j k) ≡ l = length_by_lem j.wanted j.front j.back (8 * c) (8 * (k % c)) (8 * (k / c)) (way_at j k) ∙ ap length_by (sym e) ∙ sym q in
    let f : l ≤ 64 = omega (arith, q, length_few way) in
    (record { is = rw (add-one k) (omega (arith, m.is, n, length-append (data_to j k) (part_at j k))); few = omega (arith, m.few) }, f)

-- ---- the data of the blocks, written block by block

pub data_rises : (j : Task) (k n : ℕ) → k ≤ n → length (data_to j k) ≤ length (data_to j n)
data_rises j k n h =
    let e : n ≡ k + (n - k) = omega arith in
    rw e (omega (arith, ap length (split j (n - k) k), length-append (data_to j k) (data_from j k (n - k))))

pub writing_length : (room₀ w : List ℕ) (at : ℕ) (room : List ℕ) → Writing room₀ w at room → length room ≡ length room₀
writing_length room₀ w at room m = ap length m.now ∙ written_length w room₀ (omega (arith, m.end, m.fits))

-- block k of n, or none behind the last
pub block_way_lem : (j : Task) (n k : ℕ) (way : Way) → k < n → way ≡ way_at j k → way ≡ block_way j n k
unfolding block_way
block_way_lem j n k way h e = rw (lt-ltb k n h) e

pub block_none : (j : Task) (n k : ℕ) → n ≤ k → Same ≡ block_way j n k
unfolding block_way
block_none j n k h = rw (le-ltb k n h)

pub none_written : (f : ℕ → ℕ) (room : List ℕ) → room ≡ written (data_by Same f) room
unfolding data_by
none_written f room = written_none room

module _ (j : Task) (n k : ℕ) where
  abbrev part : Way → List ℕ
  part way = data_by way (block_in j.wanted j.columns k)

  pub part_long : (way : Way) → length (part way) ≡ length_by way
  part_long way = let c = j.columns in length_by_lem j.wanted j.front j.back (8 * c) (8 * (k % c)) (8 * (k / c)) way

  -- the data of the blocks up to it and its own
  data_more : data_to j (min n (k + 1)) ≡ data_to j (min n k) ++ part (block_way j n k)
  unfolding data_to part_at block_way data_by
  data_more = by (dec_lt k n)
    where
      by : Dec (k < n) → data_to j (min n (k + 1)) ≡ data_to j (min n k) ++ part (block_way j n k)
      by (yes h) =
          let a : min n (k + 1) ≡ suc k = omega arith in
          let b : min n k ≡ k = omega arith in
          rw (a, b, lt-ltb k n h)
      by (no h) =
          let a : min n (k + 1) ≡ n = omega arith in
          let b : min n k ≡ n = omega arith in
          let c : n ≤ k = omega arith in
          rw (a, b, le-ltb k n c) (sym (append-nil (data_to j n)))

  module _ (at : ℕ) (room₀ room : List ℕ) (m : Writing room₀ (data_to j (min n k)) at room) (f : length (data_to j n) ≤ length room₀) where
    fits : length (data_to j (min n k)) + length_by (block_way j n k) ≤ length room₀
    fits =
        omega (arith, f, data_rises j (min n (k + 1)) n (omega arith), ap length data_more, length-append (data_to j (min n k)) (part (block_way j n k)), part_long (block_way j n k))

    pub block_start : at ≤ length room
    block_start = omega (arith, m.fits, writing_length room₀ _ at room m)

    -- room for its data
    pub block_fits : length_by (block_way j n k) ≤ length (take (length room - at) (drop at room))
    block_fits =
        let t : take (length room - at) (drop at room) ≡ drop at room = take_all (length room - at) (drop at room) (omega (arith, length-drop at room)) in
        rw t (omega (arith, length-drop at room, writing_length room₀ _ at room m, m.end, fits))

    -- the part that is lent for it, as it comes back
    pub block_written : (way : Way) (l : ℕ) (lent : List ℕ) → way ≡ block_way j n k → l ≡ length_by way → lent ≡ written (part way) (take (length room - at) (drop at room))
        → Writing room₀ (data_to j (min n (k + 1))) (at + l) (take at room ++ (lent ++ drop (length room - at) (drop at room)))
    block_written way l lent e q p =
        let d = ap length data_more ∙ length-append (data_to j (min n k)) (part (block_way j n k)) in
        let s : l ≡ length_by (block_way j n k) = q ∙ ap length_by e in
        record {
          now = rw data_more (written_behind (data_to j (min n k)) (part (block_way j n k)) room₀ room lent at m.now m.end (rw e at p));
          end = omega (arith, m.end, d, part_long (block_way j n k));
          fits = omega (arith, m.end, fits);
        }

pub written_blocks : (j : Task) (n k at : ℕ) (room₀ room : List ℕ) → Writing room₀ (data_to j (min n k)) at room → n ≤ k → room ≡ written (data_to j n) room₀
written_blocks j n k at room₀ room m h = let e : min n k ≡ n = omega arith in m.now ∙ ap (λ (x : ℕ). written (data_to j x) room₀) e

pub writing_two : (j : Task) (n i at : ℕ) (room₀ room : List ℕ) → Writing room₀ (data_to j (min n (2 * i + 1 + 1))) at room
    → Writing room₀ (data_to j (min n (2 * (i + 1)))) at room
writing_two j n i at room₀ room m = let e : 2 * i + 1 + 1 ≡ 2 * (i + 1) = omega arith in rw e at m

pub writing_none : (j : Task) (n : ℕ) (room : List ℕ) → Writing room (data_to j (min n 0)) 0 room
unfolding data_to
writing_none j n room = let e : min n 0 ≡ 0 = omega arith in rw e (writing_start room)

-- ---- the map, written byte by byte

nibble_is : (j : Task) (n k : ℕ) → code_of (block_way j n k) ≡ nibble j n k
unfolding nibble block_way
nibble_is j n k = by (dec_lt k n)
  where
    by : Dec (k < n) → code_of (block_way j n k) ≡ nibble j n k
    by (yes h) = rw (lt-ltb k n h)
    by (no h) = let c : n ≤ k = omega arith in rw (le-ltb k n c)

pub nibble_of : (j : Task) (n k r : ℕ) (way : Way) → way ≡ block_way j n k → r ≡ code_of way → (r ≡ nibble j n k) × (r < 16)
nibble_of j n k r way e q = (q ∙ ap code_of e ∙ nibble_is j n k, omega (arith, q, code_few way))

pub map_length : (j : Task) (n : ℕ) → length (map_of j n) ≡ (n + 1) / 2
unfolding map_of
map_length j n = listed_length ((n + 1) / 2) _ 0

pub map_more : (j : Task) (n i a b : ℕ) (room₀ room room' : List ℕ) → Writing room₀ (take i (map_of j n)) i room → i < (n + 1) / 2 → (n + 1) / 2 ≤ length room₀
    → a ≡ nibble j n (2 * i) → b ≡ nibble j n (2 * i + 1) → room' ≡ set room i (a + 16 * b) → Writing room₀ (take (i + 1) (map_of j n)) (i + 1) room'
unfolding map_of
map_more j n i a b room₀ room room' m h f ea eb e =
    let v : get_or (map_of j n) i 0 ≡ a + 16 * b = listed_from ((n + 1) / 2) (λ i. nibble j n (2 * i) + 16 * nibble j n (2 * i + 1)) i h ∙ rw (ea, eb) refl in
    writing_more room₀ (take i (map_of j n)) i room m (omega arith) (take (i + 1) (map_of j n)) room' (a + 16 * b)
    (take_more (map_of j n) i (omega (arith, map_length j n)) ∙ ap (λ (x : ℕ). take i (map_of j n) ++ (x ∷ [])) v) e

-- all bytes of a list are written
pub written_all : (room₀ bytes : List ℕ) (i : ℕ) (room : List ℕ) → Writing room₀ (take i bytes) i room → length bytes ≤ i → room ≡ written bytes room₀
written_all room₀ bytes i room m h = m.now ∙ ap (λ (l : List ℕ). written l room₀) (take_all i bytes h)

pub map_all : (j : Task) (n i : ℕ) (room₀ room : List ℕ) → Writing room₀ (take i (map_of j n)) i room → (n + 1) / 2 ≤ i → room ≡ written (map_of j n) room₀
map_all j n i room₀ room m h = written_all room₀ (map_of j n) i room m (omega (arith, map_length j n))
