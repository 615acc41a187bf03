-- Where each pixel of a picture stands among the 4x4 blocks, and what a frame that is taken makes of it (`explained`), and what every call leaves (`after_long`).
-- Assumes nothing.
use mathlib.Core.Path.{◌≡◌, refl, sym, ap, ◌∙◌}
use mathlib.Core.Bool.{true}
use mathlib.Core.List.{List}
use Prim.Native.Nat.{ℕ, ◌+◌, ◌-◌, ◌*◌, ◌/◌, ◌%◌, ◌≤◌, ◌<◌}
use native.Mathlib.Nat.{mul-le-mul_right, add-mul, div-add-mod', mod-lt, div-lt_iff_lt-mul}
use native.Mathlib.Omega.{arith}
use lib.Arith.{digits_div, digits_mod}
use lib.ListN.{length, get_or}
use borrow.Author.Tests.{ltb-false}
use Rattle.words.proofs.Tests.{first, not_first}
use Rattle.refusal.specs.Number.{Verdict, accept, refuse}
use Rattle.packet.specs.Packet.{pixels}
use Rattle.packet.specs.Verdict.{legal_size}
use Rattle.packet.proofs.Grid.{row_below}
use Rattle.packet.proofs.Sizes.{size_is}
use Rattle.stores.specs.Stores.{Plan, stage, final, Off, Lawful}
use Rattle.stores.proofs.Recover.{stage_length, stage_off, stage_pixel}
use Rattle.video1.specs.declared.Code.{Code}
use Rattle.video1.specs.declared.Code.TheVariants.{Skip, Two, Eight, One}
use Rattle.video1.specs.Code.{code_at, long_of, stores_of, quad, source_of}
use Rattle.video1.specs.Frame.{block_count, walk_verdict, position_of, spot, frame_plan, frame_verdict, drawn, frame_after}
use Rattle.video1.specs.Explained.{block_of, pixel_of, byte_of, Stands, Explained}
use Rattle.video1.proofs.Exactly.{given}

-- ---- blocks and pixels

module _ (columns rows : ℕ) (some : 1 ≤ columns) where
  wide : 0 < 8 * columns
  wide = omega (arith, some)

  twice : 0 < 2 * columns
  twice = omega (arith, some)

  -- a pixel of a block: its row from the top, its column
  module _ (k i : ℕ) (h : k < block_count columns rows) (l : i < 16) where
    row_low : 4 * (k / (2 * columns)) + i / 4 < 8 * rows
    row_low = omega (arith, row_below (2 * columns) (2 * rows) k twice h)

    column_low : 4 * (k % (2 * columns)) + i % 4 < 8 * columns
    column_low = omega (arith, mod-lt k twice)

    row_of : spot columns rows k i / (8 * columns) ≡ 8 * rows - 1 - (4 * (k / (2 * columns)) + i / 4)
    unfolding spot
    row_of = digits_div (8 * rows - 1 - (4 * (k / (2 * columns)) + i / 4)) column_low

    column_of : spot columns rows k i % (8 * columns) ≡ 4 * (k % (2 * columns)) + i % 4
    unfolding spot
    column_of = digits_mod (8 * rows - 1 - (4 * (k / (2 * columns)) + i / 4)) column_low

    up_of : 8 * rows - 1 - spot columns rows k i / (8 * columns) ≡ 4 * (k / (2 * columns)) + i / 4
    up_of = omega (arith, row_of, row_low)

    pub own_block : block_of columns rows (spot columns rows k i) ≡ k
    unfolding block_of
    own_block =
        let a : (4 * (k / (2 * columns)) + i / 4) / 4 ≡ k / (2 * columns) = omega arith in
        let b : (4 * (k % (2 * columns)) + i % 4) / 4 ≡ k % (2 * columns) = omega arith in
        rw (up_of, column_of, a, b) (div-add-mod' k (2 * columns))

    pub own_pixel : pixel_of columns rows (spot columns rows k i) ≡ i
    unfolding pixel_of
    own_pixel =
        let a : (4 * (k / (2 * columns)) + i / 4) % 4 ≡ i / 4 = omega arith in
        let b : (4 * (k % (2 * columns)) + i % 4) % 4 ≡ i % 4 = omega arith in
        rw (up_of, column_of, a, b) (omega arith)

    pub spot_inside : spot columns rows k i < pixels columns rows
    unfolding spot
    spot_inside =
        let u = 8 * rows - 1 - (4 * (k / (2 * columns)) + i / 4) in
        let a : u + 1 ≤ 8 * rows = omega (arith, row_low) in
        omega (arith, column_low, mul-le-mul_right (8 * columns) a, add-mul u 1 (8 * columns))

  -- every index of the size stands in a block
  pub stands : (t : ℕ) → t < pixels columns rows → Stands columns rows t (block_of columns rows t) (pixel_of columns rows t)
  unfolding block_of pixel_of spot
  stands t h =
      let w = 8 * columns in
      let c = 2 * columns in
      let y : t / w < 8 * rows = (div-lt_iff_lt-mul {x = t} {y = 8 * rows} wide).1 h in
      let x : t % w < w = mod-lt t wide in
      let r = 8 * rows - 1 - t / w in
      let v : t % w / 4 < c = omega arith in
      let kd : (r / 4 * c + t % w / 4) / c ≡ r / 4 = digits_div (r / 4) v in
      let km : (r / 4 * c + t % w / 4) % c ≡ t % w / 4 = digits_mod (r / 4) v in
      let id : (4 * (r % 4) + t % w % 4) / 4 ≡ r % 4 = omega arith in
      let im : (4 * (r % 4) + t % w % 4) % 4 ≡ t % w % 4 = omega arith in
      let rr : 8 * rows - 1 - (4 * (r / 4) + r % 4) ≡ t / w = omega arith in
      let vv : 4 * (t % w / 4) + t % w % 4 ≡ t % w = omega arith in
      let b : r / 4 + 1 ≤ 2 * rows = omega arith in
      record {
        block = omega (arith, mul-le-mul_right c b, add-mul (r / 4) 1 c);
        pixel = omega arith;
        index = rw (kd, km, id, im, rr, vv) (div-add-mod' t w);
      }

-- ---- the plan

stores_few : (code : Code) → stores_of code ≤ 16
unfolding stores_of
stores_few (Skip n) = omega arith
stores_few Two = omega arith
stores_few Eight = omega arith
stores_few One = omega arith

module _ (columns rows : ℕ) (s : List ℕ) (some : 1 ≤ columns) (n : ℕ) (room : pixels columns rows ≤ n) where
  frame_lawful : Lawful (frame_plan columns rows s) n
  frame_lawful =
      record {
        distinct = λ k k' i i' h h' l l' e.
            let a : i < 16 = omega (arith, stores_few (code_at s (position_of s k))) in
            let a' : i' < 16 = omega (arith, stores_few (code_at s (position_of s k'))) in (
              sym (own_block columns rows some k i h a) ∙ ap (block_of columns rows) e ∙ own_block columns rows some k' i' h' a',
              sym (own_pixel columns rows some k i h a) ∙ ap (pixel_of columns rows) e ∙ own_pixel columns rows some k' i' h' a',
            );
        inside = λ k i h l. omega (arith, spot_inside columns rows some k i h (omega (arith, stores_few (code_at s (position_of s k)))));
        own = λ k h i l a b la lb f. refl;
      }

source_below : (code : Code) (s : List ℕ) (at i : ℕ) → i < 16 → source_of code s at i < long_of code
unfolding source_of long_of quad
source_below (Skip n) s at i h = omega arith
source_below Two s at i h = omega arith
source_below Eight s at i h = omega arith
source_below One s at i h = omega arith

-- ---- the theorem

module _ (columns rows : ℕ) (s b : List ℕ) (some : 1 ≤ columns) (room : pixels columns rows ≤ length b) (v : frame_verdict columns rows s (length b) ≡ accept)
    (a : walk_verdict s (block_count columns rows) ≡ accept) where
  d : Plan
  d = frame_plan columns rows s

  after_is : frame_after columns rows s b ≡ final (frame_plan columns rows s) b
  unfolding frame_after drawn
  after_is = rw v

  -- what no block stores
  kept : (t : ℕ) → ((j : ℕ) → j < block_count columns rows → Off (frame_plan columns rows s) j t) → get_or (frame_after columns rows s b) t 0 ≡ get_or b t 0
  unfolding stage
  kept t f =
      ap (λ (l : List ℕ). get_or l t 0) after_is ∙ stage_off (frame_plan columns rows s) b 0 (block_count columns rows) t (omega arith) (λ j _ h. f j h)

  explained_by : Explained columns rows s b
  unfolding byte_of
  explained_by =
      record {
        stands = stands columns rows some;
        given = λ t k i q z. (
          omega (arith, given s (block_count columns rows) a k q.block, source_below (code_at s (position_of s k)) s (position_of s k) i q.pixel),
          ap (λ (l : List ℕ). get_or l t 0) after_is ∙ ap (λ (x : ℕ). get_or (final (frame_plan columns rows s) b) x 0) (sym q.index)
              ∙ stage_pixel (frame_plan columns rows s) b (frame_lawful columns rows s some (length b) room) k i (omega (arith, z, q.pixel)) (block_count columns rows) q.block (omega arith),
        );
        skipped = λ t k i q z.
            kept t
            (λ j h i' l e.
            let m : i' < 16 = omega (arith, stores_few (code_at s (position_of s j))) in
            let n : j ≡ k =
            sym (own_block columns rows some j i' h m) ∙ ap (block_of columns rows) (sym e ∙ sym q.index) ∙ own_block columns rows some k i q.block q.pixel in
            let o : stores_of (code_at s (position_of s j)) ≡ 0 = rw n z in
            omega arith);
        beyond = λ t h.
            kept t (λ j q i l e. omega (arith, e, spot_inside columns rows some j i q (omega (arith, stores_few (code_at s (position_of s j))))));
        long = ap length after_is ∙ stage_length (frame_plan columns rows s) b (block_count columns rows);
      }

kept_long : (v : Verdict) (new old : List ℕ) → length new ≡ length old → length (drawn v new old) ≡ length old
unfolding drawn
kept_long accept new old e = e
kept_long (refuse n k) new old e = refl

-- what an accepted frame has
pub record Taken (columns rows : ℕ) (s : List ℕ) (long : ℕ) : Type 0 where
  pub legal : legal_size columns rows ≡ true
  pub room : pixels columns rows ≤ long
  pub walked : walk_verdict s (block_count columns rows) ≡ accept

no_refusal : (n k : ℕ) → refuse n k ≡ accept → ⊥
no_refusal n k e = let z : ◌≡◌ {A = ℕ} 0 1 = cc in omega arith

pub taken_is : (columns rows : ℕ) (s : List ℕ) (long : ℕ) → frame_verdict columns rows s long ≡ accept → Taken columns rows s long
unfolding frame_verdict
taken_is columns rows s long e =
    let a = first _ _ _ _ (no_refusal 6 0) e in
    let b = not_first _ _ _ _ (no_refusal 8 0) a.1 in
    record { legal = a.0; room = ltb-false _ _ b.0; walked = b.1 }

pub explained : (columns rows : ℕ) (s b : List ℕ) → frame_verdict columns rows s (length b) ≡ accept → Explained columns rows s b
explained columns rows s b e =
    let t = taken_is columns rows s (length b) e in
    explained_by columns rows s b (size_is columns rows t.legal).0.least t.room e t.walked

-- no call changes the picture's length
pub after_long : (columns rows : ℕ) (s b : List ℕ) → length (frame_after columns rows s b) ≡ length b
unfolding frame_after
after_long columns rows s b =
    kept_long (frame_verdict columns rows s (length b)) (final (frame_plan columns rows s) b) b (stage_length (frame_plan columns rows s) b (block_count columns rows))
