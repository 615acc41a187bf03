-- The store pass over a frame that is taken, and the call.
-- Assumes nothing.
use Rattle.std.specs.Prelude.{Result, Ok, Err}
use mathlib.Core.Path.{◌≡◌, refl, sym, ap, ◌∙◌}
use mathlib.Core.Bool.{Bool, true, false}
use mathlib.Core.List.{List}
use Prim.Native.Nat.{ℕ, zero, suc, ◌+◌, ◌-◌, ◌*◌, ◌/◌, ◌%◌, ◌≤◌, ◌<◌}
use native.Mathlib.Omega.{arith}
use native.Mathlib.Nat.{mul-le-mul, add-mul, mul-add, add-zero, add-suc, zero-div, zero-mod, mod-lt}
use native.Mathlib.Numerals.{add-one}
use borrow.Author.Tests.{lt-ltb, le-ltb}
use lib.ListN.{length}
use Rattle.refusal.specs.declared.Refusal.{Refusal}
use Rattle.refusal.specs.declared.Refusal.TheVariants.{Size, Buffer}
use Rattle.packet.specs.Packet.{pixels}
use Rattle.packet.specs.Verdict.{legal_size, told}
use Rattle.packet.proofs.Grid.{next_column, next_row, row_below}
use Rattle.packet.proofs.Sizes.{size_is}
use Rattle.stores.specs.Stores.{Plan, first_pixels, stage, final}
use Rattle.stores.proofs.Pixels.{first_none, first_agree}
use Rattle.stores.proofs.Recover.{stage_length}
use Rattle.video1.specs.declared.Code.{Code}
use Rattle.video1.specs.declared.Code.TheVariants.{Skip, Two, Eight, One}
use Rattle.video1.specs.Code.{code_at, long_of, passed_by, stores_of}
use Rattle.video1.specs.Frame.{block_count, walk_verdict, position_of, block_plan, frame_plan, frame_verdict, drawn, frame_after}
use Rattle.video1.specs.Asked.{Sized, Canvas, below_of, Paints, Decoded}
use Rattle.video1.proofs.Walk.{Walked, walked_start, walked_on, position_is, taken_long, taken_passed}

-- ---- from block to block

pub record Standing (columns rows k below right : ℕ) : Type 0 where
  pub over : below ≡ below_of columns rows k
  pub rest : right ≡ 2 * columns - k % (2 * columns)

pub standing_start : (columns rows : ℕ) → Standing columns rows 0 (8 * rows * (8 * columns)) (2 * columns)
unfolding below_of
standing_start columns rows = let e : 8 * rows - 4 * 0 ≡ 8 * rows = omega arith in record { over = rw (zero-div (2 * columns), zero-mod (2 * columns), e) (omega arith); rest = rw zero-mod (omega arith) }

pub below_sums : (columns rows k : ℕ) → Sized columns rows → k ≤ block_count columns rows
    → (4 * (k / (2 * columns)) ≤ 8 * rows) × ((8 * rows - 4 * (k / (2 * columns))) * (8 * columns) ≤ 480 * 640) × (4 * (k % (2 * columns)) ≤ 640)
below_sums columns rows k z h =
    let c : 0 < 2 * columns = omega (arith, z.some_columns) in
    let l : k < 2 * columns * (2 * rows + 1) = omega (arith, mul-add (2 * columns) (2 * rows) 1) in
    let a : 8 * rows - 4 * (k / (2 * columns)) ≤ 480 = omega (arith, z.rows_few) in
    let b : 8 * columns ≤ 640 = omega (arith, z.columns_few) in
    (omega (arith, row_below (2 * columns) (2 * rows + 1) k c l), mul-le-mul a b, omega (arith, mod-lt k c, z.columns_few))

pub below_few : (columns rows k : ℕ) → Sized columns rows → below_of columns rows k ≤ 480 * 640 + 640
unfolding below_of
below_few columns rows k z =
    let a : 8 * rows - 4 * (k / (2 * columns)) ≤ 480 = omega (arith, z.rows_few) in
    let b : 8 * columns ≤ 640 = omega (arith, z.columns_few) in
    let c : 0 < 2 * columns = omega (arith, z.some_columns) in
    omega (arith, mul-le-mul a b, mod-lt k c, z.columns_few)

pub column_few : (columns rows k : ℕ) → Sized columns rows → k % (2 * columns) < 2 * columns
column_few columns rows k z = let c : 0 < 2 * columns = omega (arith, z.some_columns) in mod-lt k c

module _ (columns rows k below right : ℕ) (z : Sized columns rows) (q : Standing columns rows k below right) (n : ℕ) (one : n ≡ 1) where
  some : 0 < 2 * columns
  some = omega (arith, z.some_columns)

  pub standing_right : (right - 1 ≡ 0 → ⊥) → Standing columns rows (k + n) (below + 4) (right - 1)
  unfolding below_of
  standing_right h =
      let l : k % (2 * columns) + 1 < 2 * columns = omega (arith, q.rest, h, mod-lt k some) in
      let m = next_column (2 * columns) k l in
      rw one
      (record {
        over = rw (m.0, m.1) (omega (arith, q.over));
        rest = rw m.0 (omega (arith, q.rest));
      })

  module _ (h : right - 1 ≡ 0) (b : k < block_count columns rows) where
    wide : k % (2 * columns) + 1 ≡ 2 * columns
    wide = omega (arith, q.rest, mod-lt k some)

    up_is : below + 4 ≡ (8 * rows - 4 * (k / (2 * columns) + 1)) * (8 * columns) + 40 * columns
    unfolding below_of
    up_is =
        let y : k / (2 * columns) < 2 * rows = row_below (2 * columns) (2 * rows) k some b in
        let a : 8 * rows - 4 * (k / (2 * columns)) ≡ 8 * rows - 4 * (k / (2 * columns) + 1) + 4 = omega arith in
        let e : below ≡ (8 * rows - 4 * (k / (2 * columns) + 1) + 4) * (8 * columns) + 4 * (k % (2 * columns)) =
        q.over ∙ ap (λ (x : ℕ). x * (8 * columns) + 4 * (k % (2 * columns))) a in
        omega (arith, e, wide, add-mul (8 * rows - 4 * (k / (2 * columns) + 1)) 4 (8 * columns))

    pub up_room : 40 * columns ≤ below + 4
    up_room = omega (arith, up_is)

    pub standing_up : Standing columns rows (k + n) (below + 4 - 40 * columns) (2 * columns)
    unfolding below_of
    standing_up =
        let m = next_row (2 * columns) k some wide in
        rw one (record { over = rw (m.0, m.1) (omega (arith, up_is)); rest = rw m.0 (omega arith) })

-- ---- the picture block by block

-- blocks that store nothing
stage_skip : (d : Plan) (b : List ℕ) (k n : ℕ) → ((j : ℕ) → k ≤ j → j < k + n → d.size j ≡ 0) → stage d b (k + n) ≡ stage d b k
unfolding stage
stage_skip d b k zero f = ap (stage d b) (add-zero k)
stage_skip d b k (suc n) f =
    let z : d.size (k + n) ≡ 0 = f (k + n) (omega arith) (omega arith) in
    ap (stage d b) (add-suc k n) ∙ rw (z, first_none d (k + n) (stage d b (k + n))) (stage_skip d b k n (λ j h l. f j h (omega arith)))

module _ (columns rows : ℕ) (s : List ℕ) (at k : ℕ) (b₀ b : List ℕ) (w : Walked s (block_count columns rows) at k) (e : b ≡ stage (frame_plan columns rows s) b₀ k) where
  -- a block of its own is the frame's
  as_frame : (n : ℕ) → position_of s k ≡ at → first_pixels (block_plan columns rows s at k) 0 b n ≡ first_pixels (frame_plan columns rows s) k b n
  as_frame n p = first_agree (block_plan columns rows s at k) (frame_plan columns rows s) 0 k b n (λ i h. refl) (λ i h a l. rw p)

  one_block : (b' : List ℕ) → 0 < passed_by (code_at s at) → b' ≡ first_pixels (block_plan columns rows s at k) 0 b (stores_of (code_at s at))
      → b' ≡ stage (frame_plan columns rows s) b₀ (k + 1)
  unfolding stage
  one_block b' h f =
      let p : position_of s k ≡ at = position_is s _ at k w k (omega arith) (omega arith) in
      f ∙ as_frame (stores_of (code_at s at)) p ∙ rw (add-one k, ← e, p)

  stored : {code : Code} → code ≡ code_at s at
      → first_pixels (block_plan columns rows s at k) 0 b (stores_of code) ≡ first_pixels (block_plan columns rows s at k) 0 b (stores_of (code_at s at))
  stored c = ap (λ (x : Code). first_pixels (block_plan columns rows s at k) 0 b (stores_of x)) c

  stage_on : (code : Code) → code ≡ code_at s at → (b' : List ℕ) → b' ≡ first_pixels (block_plan columns rows s at k) 0 b (stores_of code)
      → b' ≡ stage (frame_plan columns rows s) b₀ (k + passed_by code)
  unfolding stores_of passed_by
  stage_on (Skip n) c b' f =
      f ∙ first_none _ 0 b ∙ e
      ∙ sym (stage_skip (frame_plan columns rows s) b₀ k n (λ j h l. let p : position_of s j ≡ at = position_is s _ at k w j h (rw (← c) l) in rw (p, ← c)))
  stage_on Two c b' f = one_block b' (rw (← c) (omega arith)) (f ∙ stored c)
  stage_on Eight c b' f = one_block b' (rw (← c) (omega arith)) (f ∙ stored c)
  stage_on One c b' f = one_block b' (rw (← c) (omega arith)) (f ∙ stored c)

-- ---- the loop over codes

-- b₀: the picture that the call found. b: as it is now, before the code at byte at
pub record Drawing (columns rows : ℕ) (s b₀ b : List ℕ) (at k below right : ℕ) : Type 0 where
  pub walked : Walked s (block_count columns rows) at k
  pub made : b ≡ stage (frame_plan columns rows s) b₀ k
  pub standing : Standing columns rows k below right

pub drawing_start : (columns rows : ℕ) (s b : List ℕ) → Drawing columns rows s b b 0 0 (8 * rows * (8 * columns)) (2 * columns)
unfolding stage
drawing_start columns rows s b = record { walked = walked_start s (block_count columns rows); made = refl; standing = standing_start columns rows }

module _ (columns rows : ℕ) (s b₀ b : List ℕ) (at k below right : ℕ) (d : Drawing columns rows s b₀ b at k below right) where
  pub drawing_length : length b ≡ length b₀
  drawing_length = ap length d.made ∙ stage_length (frame_plan columns rows s) b₀ k

  module _ (c : Canvas columns rows s (length b₀)) (h : k < block_count columns rows) where
    pub drawing_asks : Paints columns rows s at k below (length b)
    drawing_asks =
        record {
          sized = c.sized;
          room = omega (arith, c.room, drawing_length);
          block = h;
          there = omega (arith, taken_long s _ at k d.walked c.taken h, d.walked.within);
          over = d.standing.over;
        }

    module _ (code : Code) (long n : ℕ) (ec : code ≡ code_at s at) (el : long ≡ long_of code) (en : n ≡ passed_by code) where
      pub long_fits : long ≤ length s - at
      long_fits = rw (el, ec) (taken_long s _ at k d.walked c.taken h)

      pub passed_fits : n ≤ block_count columns rows - k
      passed_fits = rw (en, ec) (taken_passed s _ at k d.walked c.taken h)

      pub drawing_on : (b' : List ℕ) → b' ≡ first_pixels (block_plan columns rows s at k) 0 b (stores_of code) → (below' right' : ℕ)
          → Standing columns rows (k + n) below' right' → Drawing columns rows s b₀ b' (at + long) (k + n) below' right'
      drawing_on b' e below' right' q =
          record {
            walked = walked_on s _ at k d.walked h code ec long n el en long_fits passed_fits;
            made = stage_on columns rows s at k b₀ b d.walked d.made code ec b' e ∙ rw en;
            standing = q;
          }

-- ---- sizes

pub record Legals (columns rows : ℕ) : Type 0 where
  pub sized : Sized columns rows
  pub pixels_few : pixels columns rows ≤ 480 * 640
  pub blocks : block_count columns rows ≤ 160 * 120

pub legals_of : (columns rows : ℕ) → Sized columns rows → Legals columns rows
legals_of columns rows z =
    let a : 8 * rows ≤ 480 = omega (arith, z.rows_few) in
    let b : 8 * columns ≤ 640 = omega (arith, z.columns_few) in
    let x : 2 * columns ≤ 160 = omega (arith, z.columns_few) in
    let y : 2 * rows ≤ 120 = omega (arith, z.rows_few) in
    record { sized = z; pixels_few = mul-le-mul a b; blocks = mul-le-mul x y }

pub legals : (columns rows : ℕ) (t : Bool) → t ≡ legal_size columns rows → t ≡ true → Legals columns rows
legals columns rows t e h =
    let l = size_is columns rows (sym e ∙ h) in
    legals_of columns rows (record { some_columns = l.0.least; columns_few = l.0.bound; rows_few = l.1.bound })

-- ---- the call

module _ (columns rows : ℕ) (s b : List ℕ) (t : Bool) (e : t ≡ legal_size columns rows) where
  pub decoded_6 : t ≡ false → Decoded columns rows s b (Err Size) b
  unfolding frame_verdict frame_after drawn
  decoded_6 h = let q : legal_size columns rows ≡ false = sym e ∙ h in record { answer = rw q; after = rw q }

  module _ (h : t ≡ true) where
    pub decoded_8 : length b < pixels columns rows → Decoded columns rows s b (Err Buffer) b
    unfolding frame_verdict frame_after drawn
    decoded_8 l = let q : legal_size columns rows ≡ true = sym e ∙ h in record { answer = rw (q, lt-ltb _ _ l); after = rw (q, lt-ltb _ _ l) }

    module _ (l : pixels columns rows ≤ length b) (found : Result Unit Refusal) (ef : told found ≡ walk_verdict s (block_count columns rows)) where
      verdict_is : frame_verdict columns rows s (length b) ≡ told found
      unfolding frame_verdict
      verdict_is = let q : legal_size columns rows ≡ true = sym e ∙ h in rw (q, le-ltb _ _ l, ← ef)

      pub decoded_refused : (r : Refusal) → found ≡ Err r → Decoded columns rows s b (Err r) b
      unfolding frame_after drawn
      decoded_refused r g = record { answer = sym (verdict_is ∙ ap told g); after = rw (verdict_is ∙ ap told g) }

      pub decoded_taken : (u v : Unit) → found ≡ Ok u → (b' : List ℕ) → b' ≡ final (frame_plan columns rows s) b → Decoded columns rows s b (Ok v) b'
      unfolding frame_after drawn
      decoded_taken u v g b' p = record { answer = sym (verdict_is ∙ ap told g); after = rw (verdict_is ∙ ap told g) p }

      pub decoded_asks : (u : Unit) → found ≡ Ok u → Canvas columns rows s (length b)
      decoded_asks u g = record { sized = (legals columns rows t e h).sized; room = l; taken = sym ef ∙ ap told g }
