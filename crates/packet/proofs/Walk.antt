-- The walk over the blocks of a packet: what is known at block k, and what each test of a block says of the verdict.
-- Assumes nothing.
use mathlib.Core.Path.{◌≡◌, refl, sym, ap, ◌∙◌, subst}
use mathlib.Core.Bool.{Bool, true, false, cond}
use mathlib.Core.List.{List, []}
use Prim.Native.Nat.{ℕ, zero, suc, ◌+◌, ◌-◌, ◌/◌, ◌%◌, ◌≤◌, ◌<◌, zero-le}
use native.Mathlib.Omega.{arith}
use native.Mathlib.Numerals.{add-one}
use native.Mathlib.Nat.{mul-le-mul}
use borrow.Author.Tests.{lt-ltb, le-ltb, lt-leb, le-leb}
use lib.Dec.{eqb}
use lib.ListN.{length, take, drop, get_or, length-drop}
use lib.Seq.{take_all}
use Rattle.refusal.specs.Number.{accept, refuse}
use Rattle.block.specs.Block.{Kind, kept, code_at, kind_of, data_length, offset_length, is_refused, copy_inside}
use Rattle.block.proofs.Codes.{length_few, offset_flat, code_known, code_refused, kind_1}
use Rattle.block.proofs.Agree.{no_second}
use Rattle.packet.specs.Packet.{Packet, packet, Position, position, blocks, width, height, left, top, code, start_of, advanced, start, data_of, offsets_of, kind}
use Rattle.packet.specs.Verdict.{and_then, block_verdict, spare_first, end_verdict, verdict_from, blocks_verdict}
use Rattle.packet.specs.Rows.{untouched}
use Rattle.packet.specs.Asked.{Sized}
use Rattle.packet.proofs.Grid.{next_column, next_row, column_below, row_below}

-- ---- codes

nibble_below : (b : ℕ) (t : Bool) → cond t (b % 16) (b / 16 % 16) < 16
nibble_below b true = omega arith
nibble_below b false = omega arith

pub code_below : (map : List ℕ) (k : ℕ) → code_at map k < 16
unfolding code_at
code_below map k = nibble_below (get_or map (k / 2) 0) (eqb (k % 2) 0)

-- ---- what is known at block k

-- at, aside: the positions of its data in the two parts. x, y: its corner
pub record Walked (spare : ℕ) (p : Packet) (k at aside x y : ℕ) : Type 0 where
  pub below : k ≤ blocks p
  pub found : position at aside ≡ start p k
  pub within : at ≤ length p.bytes
  pub beside : aside ≤ length p.offsets
  pub across : x ≡ left p k
  pub down : y ≡ top p k
  pub verdict : verdict_from spare p (blocks p - k) k ≡ blocks_verdict spare p

-- its code, its data in both parts and their lengths, as code found them
pub record Seen (p : Packet) (k at aside c l m : ℕ) (s o : List ℕ) : Type 0 where
  pub code : c ≡ code p k
  pub part : s ≡ take (length p.bytes - at) (drop at p.bytes)
  pub second : o ≡ take (length p.offsets - aside) (drop aside p.offsets)
  pub long : l ≡ data_length p.deep (kind_of p.deep c s o)
  pub taken : m ≡ offset_length (kind_of p.deep c s o)

-- x may be written otherwise: code keeps the distance from the right edge
pub moved : (spare : ℕ) (p : Packet) (k at aside x x' y : ℕ) → x ≡ x' → Walked spare p k at aside x y → Walked spare p k at aside x' y
moved spare p k at aside x x' y e w = subst (λ (z : ℕ). Walked spare p k at aside z y) e w

-- ---- untouched blocks: they are taken, and have no data

-- only an 8-bit film has one
kept_kind : (deep : Bool) (map s o : List ℕ) (k : ℕ) → code_at map k ≡ untouched deep → kind_of deep (code_at map k) s o ≡ kept
kept_kind false map s o k e = kind_1 false s o (code_at map k) e
kept_kind true map s o k e = absurd (let l = code_below map k in let z : ⊥ = omega (arith, e, l) in z)

kept_taken : (p : Packet) (k : ℕ) → code p k ≡ untouched p.deep → block_verdict p k ≡ accept
unfolding block_verdict is_refused data_length offset_length copy_inside
kept_taken p k e = rw (kept_kind p.deep p.map (data_of p k) (offsets_of p k) k e, le-ltb (length (data_of p k)) 0 zero-le, le-ltb (length (offsets_of p k)) 0 zero-le)

kept_start : (p : Packet) (k : ℕ) → code p k ≡ untouched p.deep → start p (suc k) ≡ start p k
unfolding start_of advanced data_length offset_length
kept_start p k e =
    let a : (start p k).bytes + 0 ≡ (start p k).bytes = omega arith in
    let b : (start p k).offsets + 0 ≡ (start p k).offsets = omega arith in
    rw (kept_kind p.deep p.map (data_of p k) (offsets_of p k) k e, a, b)

kept_passed : (spare : ℕ) (p : Packet) (n k : ℕ) → code p k ≡ untouched p.deep → verdict_from spare p (suc n) k ≡ verdict_from spare p n (suc k)
unfolding verdict_from and_then
kept_passed spare p n k e = rw (kept_taken p k e)

kept_end : (spare : ℕ) (p : Packet) (k : ℕ) → code p k ≡ untouched p.deep → end_verdict spare p (suc k) ≡ end_verdict spare p k
unfolding end_verdict
kept_end spare p k e = rw (kept_start p k e)

-- behind k of them
pub walked_ones : (spare : ℕ) (p : Packet) (k : ℕ) → k ≤ blocks p → ((i : ℕ) → i < k → code p i ≡ untouched p.deep) → Walked spare p k 0 0 (left p k) (top p k)
unfolding start_of blocks_verdict
walked_ones spare p zero h ones =
    let e : blocks p - 0 ≡ blocks p = omega arith in
    record {
      below = zero-le;
      found = refl;
      within = zero-le;
      beside = zero-le;
      across = refl;
      down = refl;
      verdict = rw e;
    }
walked_ones spare p (suc k) h ones =
    let w = walked_ones spare p k (omega arith) (λ i l. ones i (omega arith)) in
    let e = ones k (omega arith) in
    let q : suc (blocks p - suc k) ≡ blocks p - k = omega arith in
    record {
      below = h;
      found = w.found ∙ sym (kept_start p k e);
      within = zero-le;
      beside = zero-le;
      across = refl;
      down = refl;
      verdict = sym (kept_passed spare p (blocks p - suc k) k e) ∙ ap (λ (m : ℕ). verdict_from spare p m k) q ∙ w.verdict;
    }

-- n of them, from block k on, and then what is left over
ones_end : (spare : ℕ) (p : Packet) (n k : ℕ) → ((i : ℕ) → k ≤ i → i < k + n → code p i ≡ untouched p.deep) → verdict_from spare p n k ≡ end_verdict spare p k
unfolding verdict_from
ones_end spare p zero k ones = refl
ones_end spare p (suc n) k ones =
    let e = ones k (omega arith) (omega arith) in
    kept_passed spare p n k e ∙ ones_end spare p n (suc k) (λ i l h. ones i (omega arith) (omega arith)) ∙ kept_end spare p k e

-- ---- the last touched block is passed: what is left over

module _ (spare : ℕ) (p : Packet) (k at aside x y : ℕ) (w : Walked spare p k at aside x y) (ones : (i : ℕ) → k ≤ i → i < blocks p → code p i ≡ untouched p.deep) where
  walked_end : blocks_verdict spare p ≡ end_verdict spare p k
  walked_end = sym w.verdict ∙ ones_end spare p (blocks p - k) k (λ i l h. ones i l (omega (arith, w.below)))

  pub used_up : length p.bytes - at ≤ spare_first p.deep spare → length p.offsets - aside ≤ spare → accept ≡ blocks_verdict spare p
  unfolding end_verdict
  used_up e f =
      let a : length p.bytes ≤ at + spare_first p.deep spare = omega (arith, e, w.within) in
      let b : length p.offsets ≤ aside + spare = omega (arith, f, w.beside) in
      rw (walked_end, ← w.found, le-leb _ _ a, le-leb _ _ b)

  pub left_over : spare_first p.deep spare < length p.bytes - at → refuse 15 0 ≡ blocks_verdict spare p
  unfolding end_verdict
  left_over n = let q : at + spare_first p.deep spare < length p.bytes = omega (arith, n) in rw (walked_end, ← w.found, lt-leb _ _ q)

  pub left_beside : length p.bytes - at ≤ spare_first p.deep spare → spare < length p.offsets - aside → refuse 15 0 ≡ blocks_verdict spare p
  unfolding end_verdict
  left_beside e n =
      let a : length p.bytes ≤ at + spare_first p.deep spare = omega (arith, e, w.within) in
      let q : aside + spare < length p.offsets = omega (arith, n) in
      rw (walked_end, ← w.found, le-leb _ _ a, lt-leb _ _ q)

-- what the map and the corner ask where they are read
pub mapped : (p : Packet) (k : ℕ) → Sized p → k < blocks p → k / 2 < length p.map
mapped p k z h = omega (arith, z.mapped)

pub blocks_few : (p : Packet) → Sized p → blocks p ≤ 4800
blocks_few p z = mul-le-mul z.columns z.rows

module _ (spare : ℕ) (p : Packet) (k at aside x y c l m : ℕ) (s o : List ℕ) (z : Sized p) (w : Walked spare p k at aside x y) (h : k < blocks p) where
  pub corner : (x + 8 ≤ width p) × (y + 8 ≤ height p)
  corner =
      let cs : 0 < p.columns = omega (arith, z.some_columns) in
      (omega (arith, w.across, column_below p.columns k cs), omega (arith, w.down, row_below p.columns p.rows k cs h))

  module _ (e : Seen p k at aside c l m s o) where
    pub data_is : s ≡ data_of p k
    data_is =
        e.part ∙ take_all (length p.bytes - at) (drop at p.bytes) (omega (arith, length-drop at p.bytes))
        ∙ ap (λ (a : Position). drop a.bytes p.bytes) w.found

    pub offsets_are : o ≡ offsets_of p k
    offsets_are =
        e.second ∙ take_all (length p.offsets - aside) (drop aside p.offsets) (omega (arith, length-drop aside p.offsets))
        ∙ ap (λ (a : Position). drop a.offsets p.offsets) w.found

    pub kind_is : kind_of p.deep c s o ≡ kind p k
    kind_is = rw (e.code, data_is, offsets_are)

    pub length_is : length s ≡ length p.bytes - at
    length_is = ap length (e.part ∙ take_all (length p.bytes - at) (drop at p.bytes) (omega (arith, length-drop at p.bytes))) ∙ length-drop at p.bytes

    pub second_is : length o ≡ length p.offsets - aside
    second_is = ap length (e.second ∙ take_all (length p.offsets - aside) (drop aside p.offsets) (omega (arith, length-drop aside p.offsets))) ∙ length-drop aside p.offsets

    -- the verdict from block k on begins with block k's
    first : blocks_verdict spare p ≡ and_then (block_verdict p k) (verdict_from spare p (blocks p - suc k) (suc k))
    unfolding verdict_from
    first = let q : blocks p - k ≡ suc (blocks p - suc k) = omega arith in sym w.verdict ∙ rw q

    pub refuses_12 : is_refused (kind_of p.deep c s o) ≡ true → refuse 12 k ≡ blocks_verdict spare p
    unfolding block_verdict and_then
    refuses_12 q = rw (first, ← kind_is, q)

    module _ (known : is_refused (kind_of p.deep c s o) ≡ false) where
      pub refuses_13 : length s < l → refuse 13 k ≡ blocks_verdict spare p
      unfolding block_verdict and_then
      refuses_13 q = rw (first, ← kind_is, known, ← e.long, ← data_is, lt-ltb _ _ q)

      module _ (q : l ≤ length s) where
        pub refuses_13' : length o < m → refuse 13 k ≡ blocks_verdict spare p
        unfolding block_verdict and_then
        refuses_13' r = rw (first, ← kind_is, known, ← e.long, ← data_is, le-ltb _ _ q, ← e.taken, ← offsets_are, lt-ltb _ _ r)

        module _ (q' : m ≤ length o) where
          pub refuses_14 : false ≡ copy_inside (kind_of p.deep c s o) (width p) (height p) x y → refuse 14 k ≡ blocks_verdict spare p
          unfolding block_verdict and_then
          refuses_14 f = rw (first, ← kind_is, known, ← e.long, ← data_is, le-ltb _ _ q, ← e.taken, ← offsets_are, le-ltb _ _ q', ← w.across, ← w.down, ← f)

          module _ (f : true ≡ copy_inside (kind_of p.deep c s o) (width p) (height p) x y) where
            pub goes_on : verdict_from spare p (blocks p - (k + 1)) (k + 1) ≡ blocks_verdict spare p
            unfolding block_verdict and_then
            goes_on = rw (first, ← kind_is, known, ← e.long, ← data_is, le-ltb _ _ q, ← e.taken, ← offsets_are, le-ltb _ _ q', ← w.across, ← w.down, ← f, add-one k)

            next_found : position (at + l) (aside + m) ≡ start p (k + 1)
            unfolding start_of advanced
            next_found = rw (add-one k, e.long, e.taken, kind_is, ← w.found)

            -- the next block, in this row or the next
            pub walked_right : (x + 8 ≡ width p → ⊥) → Walked spare p (k + 1) (at + l) (aside + m) (x + 8) y
            walked_right r =
                let t : k % p.columns + 1 < p.columns = omega (arith, w.across, corner.0, r) in
                let n = next_column p.columns k t in
                record {
                  below = omega arith;
                  found = next_found;
                  within = omega (arith, length_is, q, w.within);
                  beside = omega (arith, second_is, q', w.beside);
                  across = omega (arith, n.0, w.across);
                  down = omega (arith, n.1, w.down);
                  verdict = goes_on;
                }

            pub walked_down : x + 8 ≡ width p → Walked spare p (k + 1) (at + l) (aside + m) 0 (y + 8)
            walked_down r =
                let cs : 0 < p.columns = omega (arith, z.some_columns) in
                let n = next_row p.columns k cs (omega (arith, w.across, r)) in
                record {
                  below = omega arith;
                  found = next_found;
                  within = omega (arith, length_is, q, w.within);
                  beside = omega (arith, second_is, q', w.beside);
                  across = omega (arith, n.0);
                  down = omega (arith, n.1, w.down);
                  verdict = goes_on;
                }

-- ---- an 8-bit packet, which has no second part

module _ (columns rows : ℕ) (map bytes : List ℕ) (k at c l : ℕ) (s : List ℕ) where
  pub seen_flat : c ≡ code_at map k → s ≡ take (length bytes - at) (drop at bytes) → l ≡ data_length false (kind_of false c s []) → Seen (packet columns rows map bytes) k at 0 c l 0 s []
  seen_flat e f g = record { code = e; part = f; second = refl; long = g; taken = offset_flat s [] c (rw e (code_below map k)) }

-- code looks for the one code that is refused
pub refused_flat : (s : List ℕ) (c : ℕ) → c ≡ 6 → is_refused (kind_of false c s []) ≡ true
refused_flat s c e = code_refused s [] c e

pub known_flat : (s : List ℕ) (c : ℕ) → c < 16 → (c ≡ 6 → ⊥) → is_refused (kind_of false c s []) ≡ false
known_flat s c l n = code_known s [] false c l (λ d. n)

-- what stands for the second part is not read
pub copy_flat : {r : Bool} (c : ℕ) (s o : List ℕ) (w h x y : ℕ) → r ≡ copy_inside (kind_of false c s o) w h x y → r ≡ copy_inside (kind_of false c s []) w h x y
copy_flat c s o w h x y e = e ∙ ap (λ (κ : Kind). copy_inside κ w h x y) (no_second c s o [])

pub offsets_flat : (map bytes : List ℕ) (k : ℕ) → (start_of false map bytes [] k).offsets ≡ 0
unfolding start_of advanced
offsets_flat map bytes zero = refl
offsets_flat map bytes (suc k) =
    omega (arith, offsets_flat map bytes k, offset_flat (drop (start_of false map bytes [] k).bytes bytes) (drop (start_of false map bytes [] k).offsets []) (code_at map k) (code_below map k))

pub start_flat : (map bytes : List ℕ) (k : ℕ) → start_of false map bytes [] k ≡ position (start_of false map bytes [] k).bytes 0
start_flat map bytes k = ap (position (start_of false map bytes [] k).bytes) (offsets_flat map bytes k)

-- a position that was found in the one part
pub found_flat : (map bytes : List ℕ) (k at : ℕ) → at ≡ (start_of false map bytes [] k).bytes → position at 0 ≡ start_of false map bytes [] k
found_flat map bytes k at e = sym (start_flat map bytes k ∙ ap (λ (n : ℕ). position n 0) (sym e))

-- ---- the position of a block's data

pub position_next : (deep : Bool) (map bytes offsets s o : List ℕ) (i at aside c l m : ℕ) → position at aside ≡ start_of deep map bytes offsets i → c ≡ code_at map i → s ≡ drop at bytes → o ≡ drop aside offsets
    → l ≡ data_length deep (kind_of deep c s o) → m ≡ offset_length (kind_of deep c s o) → position (at + l) (aside + m) ≡ start_of deep map bytes offsets (i + 1)
unfolding start_of advanced
position_next deep map bytes offsets s o i at aside c l m e f g g' h h' = rw (add-one i, h, h', f, g, g', ← e)

pub data_few : (deep : Bool) (s : List ℕ) (c l : ℕ) → c < 16 → ((o : List ℕ) → l ≡ data_length deep (kind_of deep c s o)) → l ≤ 128
data_few deep s c l h e = omega (arith, e [], (length_few deep s [] c h).0)

-- the same of an 8-bit packet
pub next_flat : (map bytes s : List ℕ) (i at c l : ℕ) → at ≡ (start_of false map bytes [] i).bytes → c ≡ code_at map i → s ≡ drop at bytes → ((o : List ℕ) → l ≡ data_length false (kind_of false c s o))
    → at + l ≡ (start_of false map bytes [] (i + 1)).bytes
next_flat map bytes s i at c l e f g h =
    let q = found_flat map bytes i at e in
    ap (λ (a : Position). a.bytes) (position_next false map bytes [] s [] i at 0 c l 0 q f g refl (h []) (offset_flat s [] c (rw f (code_below map i))))

pub offset_few : (deep : Bool) (c l : ℕ) → c < 16 → ((s o : List ℕ) → l ≡ offset_length (kind_of deep c s o)) → l ≤ 1
offset_few deep c l h e = omega (arith, e [] [], (length_few deep [] [] c h).1)
