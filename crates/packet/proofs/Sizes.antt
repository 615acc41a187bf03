-- The size and the map: the tests as statements, and the verdict by them.
-- Assumes nothing.
use mathlib.Core.Path.{◌≡◌}
use mathlib.Core.Bool.{Bool, true, false}
use mathlib.Core.List.{List}
use Prim.Native.Nat.{ℕ, ◌+◌, ◌*◌, ◌/◌, ◌≤◌}
use native.Mathlib.Omega.{arith}
use borrow.Author.Tests.{le-ltb, le-leb, eq-eqb, ne_eqb, ltb-false, leb-true}
use native.Mathlib.Nat.{mul-le-mul}
use lib.ListN.{length}
use Rattle.words.proofs.Tests.{not_first, first}
use Rattle.refusal.specs.Number.{Verdict, refuse}
use Rattle.packet.specs.Packet.{Packet, packet_in, blocks, pixels}
use Rattle.packet.specs.Verdict.{legal, legal_size, map_fits, parts_verdict, verdict_in}
use Rattle.packet.specs.Accepted.{Legal}
use Rattle.packet.specs.Asked.{Sized}

false_true : false ≡ true → ⊥
false_true e = let z : ◌≡◌ {A = ℕ} 0 1 = cc in omega arith

-- ---- a side

pub legal_is : (most n : ℕ) → legal most n ≡ true → Legal most n
unfolding legal
legal_is most n e =
    let a = not_first _ _ _ _ false_true e in
    record { least = ltb-false _ _ a.0; bound = leb-true _ _ a.1 }

pub is_legal : (most n : ℕ) → Legal most n → legal most n ≡ true
unfolding legal
is_legal most n l = rw (le-ltb _ _ l.least, le-leb _ _ l.bound)

pub size_is : (columns rows : ℕ) → legal_size columns rows ≡ true → Legal 80 columns × Legal 60 rows
unfolding legal_size
size_is columns rows e = let a = first _ _ _ _ false_true e in (legal_is 80 columns a.0, legal_is 60 rows a.1)

pub is_size : (columns rows : ℕ) → Legal 80 columns → Legal 60 rows → legal_size columns rows ≡ true
unfolding legal_size
is_size columns rows a b = rw (is_legal 80 columns a, is_legal 60 rows b)

-- with a map that has a nibble a block
pub is_sized : (p : Packet) → legal_size p.columns p.rows ≡ true → length p.map ≡ (blocks p + 1) / 2 → Sized p
is_sized p e m =
    let l = size_is p.columns p.rows e in
    record {
      some_columns = l.0.least;
      columns = l.0.bound;
      some_rows = l.1.least;
      rows = l.1.bound;
      mapped = m;
    }

-- ---- the verdict

module _ (deep : Bool) (spare columns rows : ℕ) (map bytes : List ℕ) where
  pub refuses_6 : legal_size columns rows ≡ false → refuse 6 0 ≡ verdict_in deep spare columns rows map bytes
  unfolding verdict_in
  refuses_6 e = rw e

  module _ (e : legal_size columns rows ≡ true) where
    pub refuses_10 : (length map ≡ (blocks (packet_in deep columns rows map bytes) + 1) / 2 → ⊥) → refuse 10 0 ≡ verdict_in deep spare columns rows map bytes
    unfolding verdict_in map_fits
    refuses_10 n = rw (e, ne_eqb _ _ n)

    pub judges_parts : length map ≡ (blocks (packet_in deep columns rows map bytes) + 1) / 2 → (v : Verdict) → v ≡ parts_verdict deep spare columns rows map bytes
        → v ≡ verdict_in deep spare columns rows map bytes
    unfolding verdict_in map_fits
    judges_parts m v q = rw (e, eq-eqb _ _ m) q

-- a picture has few blocks, and few pixels
pub few : (columns rows : ℕ) → legal_size columns rows ≡ true → columns * rows ≤ 4800
few columns rows e = let l = size_is columns rows e in mul-le-mul l.0.bound l.1.bound

pub pixels_few : (columns rows : ℕ) → legal_size columns rows ≡ true → pixels columns rows ≤ 307200
pixels_few columns rows e =
    let l = size_is columns rows e in
    let a : 8 * rows ≤ 480 = omega (arith, l.1.bound) in
    let b : 8 * columns ≤ 640 = omega (arith, l.0.bound) in
    mul-le-mul a b
