-- Demand 2: `demand_2`. The stores of an accepted packet leave its picture (`decoded`), which is the only one (`only_one`). Of an 8-bit film code 2 reads blocks
-- that no block before it has changed; code 3 reads blocks that no block behind them changes any more.
-- Assumes nothing.
use mathlib.Core.Path.{◌≡◌, refl, sym, ap, ◌∙◌}
use mathlib.Core.Bool.{Bool, true, false, cond}
use mathlib.Core.List.{List}
use Prim.Native.Nat.{ℕ, zero, suc, ◌+◌, ◌*◌, ◌/◌, ◌%◌, ◌≤◌, ◌<◌, zero-le}
use native.Mathlib.Decide.{ℕ_discrete, dec_lt}
use native.Mathlib.Nat.{div-add-mod', mod-lt, div-lt_iff_lt-mul, not-suc-le-zero}
use native.Mathlib.Omega.{arith}
use borrow.Author.Tests.{eq-eqb}
use lib.Arith.{digits_div, digits_mod, digits_lt}
use lib.ListN.{length, get_or}
use lib.Seq.{ext_get_or}
use Rattle.refusal.specs.Number.{accept}
use Rattle.motion.specs.declared.Vector.{Vector}
use Rattle.motion.specs.Motion.{negated, PointsInside, raster_index, copied_index, Onward}
use Rattle.block.specs.declared.Picture.{Picture}
use Rattle.block.specs.declared.Picture.TheVariants.{Last, New, Oldest}
use Rattle.block.specs.declared.Source.{Source}
use Rattle.block.specs.declared.Source.TheVariants.{Data, Copied}
use Rattle.block.specs.Block.{Kind, same, kept, copied, patterned, celled, dithered, refused, kinds, kind_of, source, stored, fetched}
use Rattle.block.proofs.Codes.{each_code, Led, led}
use Rattle.packet.specs.Packet.{Packet, blocks, width, height, left, top, code, data_of, offsets_of, kind, block_of}
use Rattle.packet.specs.Accepted.{CopyInside, Whole}
use Rattle.packet.specs.Asked.{Sized}
use Rattle.packet.proofs.Walk.{code_below}
use Rattle.packet.proofs.Apart.{later, earlier}
use Rattle.stores.specs.Stores.{Off, memory, stage, final}
use Rattle.stores.specs.Calls.{leave, outcome, answered, whole, step, reply}
use Rattle.stores.proofs.Recover.{stage_length, stage_off, stage_pixel, reached_first, reached_final, going}
use Rattle.paint.specs.Value.{pixel_count, Older, pixel_value}
use Rattle.draw.specs.Drawing.{size_at, target_at, value_at, plan_over}
use Rattle.draw.specs.Call.{Request, packet_of, older_of, call_plan, draw_verdict, comes, calling}
use Rattle.draw.specs.Taken.{DrawAcceptsIn}
use Rattle.draw.proofs.Exactly.{drawn_exactly}
use Rattle.book.specs.Demand.{Given}
use Rattle.book.specs.Picture.{source_at, stands_at, Decoded, ReadsEarlier, Demand2}
use Rattle.book.proofs.Lawful.{few, target_block, framed, copied_below, inside, stores_few, plan_lawful}
use Rattle.book.proofs.Demand.{is, lawful}

-- ---- the pixel at x, y: its block, and where it stands in it

module _ (columns rows x y : ℕ) (across : x < 8 * columns) (down : y < 8 * rows) where
  pub column_is : (y / 8 * columns + x / 8) % columns ≡ x / 8
  column_is = let l : x / 8 < columns = omega arith in digits_mod (y / 8) l

  pub row_is : (y / 8 * columns + x / 8) / columns ≡ y / 8
  row_is = let l : x / 8 < columns = omega arith in digits_div (y / 8) l

  pub block_below : y / 8 * columns + x / 8 < columns * rows
  block_below =
      let l : x / 8 < columns = omega arith in
      let m : y / 8 < rows = omega arith in
      omega (arith, digits_lt m l)

  -- its index, counted from its block's corner
  pub index_is : raster_index (8 * columns) (8 * ((y / 8 * columns + x / 8) % columns)) (8 * ((y / 8 * columns + x / 8) / columns)) (8 * (y % 8) + x % 8)
      ≡ y * (8 * columns) + x
  unfolding raster_index
  index_is =
      let a : 8 * (y / 8) + (8 * (y % 8) + x % 8) / 8 ≡ y = omega arith in
      let b : 8 * (x / 8) + (8 * (y % 8) + x % 8) % 8 ≡ x = omega arith in
      rw (column_is, row_is, a, b)

-- ---- the kinds that a block can have

-- a block that is untouched is of an 8-bit film
abbrev Untouched : Bool → Kind → Type 0
Untouched false κ = Unit
Untouched true (same p) = Unit
Untouched true kept = ⊥
Untouched true (copied p v n m) = Unit
Untouched true (patterned f) = Unit
Untouched true (celled c) = Unit
Untouched true dithered = Unit
Untouched true refused = Unit

UntouchedAt : List ℕ → List ℕ → ℕ → Type 0
UntouchedAt s o c = Untouched true (kind_of true c s o)

untouched : (deep : Bool) (s o : List ℕ) (c : ℕ) → c < 16 → Untouched deep (kind_of deep c s o)
unfolding UntouchedAt kind_of kinds
untouched false s o c l = tt
untouched true s o c l = each_code (UntouchedAt s o) tt tt tt tt tt tt tt tt tt tt tt tt tt tt tt tt c l

last_new : Last ≡ New → ⊥
last_new e = let z : ◌≡◌ {A = ℕ} 0 1 = cc in omega arith

oldest_new : Oldest ≡ New → ⊥
oldest_new e = let z : ◌≡◌ {A = ℕ} 0 1 = cc in omega arith

another : {A : Type 0} (a b : Picture) (n j : ℕ) → Copied a n ≡ Copied b j → (a ≡ b → ⊥) → A
another a b n j e f = absurd (f cc)

no_data : {A : Type 0} (n j : ℕ) (q : Picture) → Data n ≡ Copied q j → A
no_data n j q e = absurd (let z : ◌≡◌ {A = ℕ} 0 1 = cc in let y : ⊥ = omega arith in y)

module _ (p : Packet) (z : Sized p) (w : Whole p) where
  some : 0 < p.columns
  some = omega (arith, z.some_columns)

  -- what is known of block k's kind
  is_led : (k : ℕ) → Led p.deep (kind p k)
  is_led k = led p.deep (data_of p k) (offsets_of p k) (code p k) (code_below p.map k)

  is_untouched : (k : ℕ) → Untouched p.deep (kind p k)
  is_untouched k = untouched p.deep (data_of p k) (offsets_of p k) (code p k) (code_below p.map k)

  -- ---- what is read

  -- what is read of the new picture stands in an earlier block
  module _ (k i : ℕ) (hk : k < blocks p) (hi : i < 64) where
    abbrev of_kind : Bool → Kind → Source
    of_kind deep κ = source deep κ (data_of p k) (width p) (left p k) (top p k) i

    in_earlier : (u v : Vector) → v ≡ negated u → Onward u → PointsInside v (width p) (height p) (left p k) (top p k) → block_of p.columns (copied_index v (width p) (left p k) (top p k) i) < k
    in_earlier u v g o t = rw g (earlier p.columns some (height p) k u o i hi (rw g at t))

    in_later : (v : Vector) → Onward v → PointsInside v (width p) (height p) (left p k) (top p k) → k < block_of p.columns (copied_index v (width p) (left p k) (top p k) i)
    in_later v o t = later p.columns some (height p) k v o i hi t

    read_by : (deep : Bool) (κ : Kind) → Led deep κ → CopyInside κ (width p) (height p) (left p k) (top p k) → (j : ℕ) → of_kind deep κ ≡ Copied New j
        → (block_of p.columns j < k) × (j < height p * width p)
    unfolding source CopyInside
    read_by deep (copied New v n m) (u, g, o) t j e =
        let f : copied_index v (width p) (left p k) (top p k) i ≡ j = cc in (
          omega (arith, ap (block_of p.columns) f, in_earlier u v g o t),
          omega (arith, f, copied_below (width p) (height p) (left p k) (top p k) i (framed p z k hk) hi v t),
        )
    read_by deep (copied Last v n m) l t j e = another Last New _ j e (λ q. last_new q)
    read_by deep (copied Oldest v n m) l t j e = another Oldest New _ j e (λ q. oldest_new q)
    read_by deep (same Last) l t j e = another Last New _ j e (λ q. last_new q)
    read_by deep (same New) l t j e = absurd l
    read_by deep (same Oldest) l t j e = another Oldest New _ j e (λ q. oldest_new q)
    read_by deep kept l t j e = another Oldest New _ j e (λ q. oldest_new q)
    read_by deep (patterned f) l t j e = no_data _ j New e
    read_by deep (celled f) l t j e = no_data _ j New e
    read_by deep dithered l t j e = no_data _ j New e
    read_by deep refused l t j e = no_data _ j New e

    read_earlier : (j : ℕ) → source_at p k i ≡ Copied New j → (block_of p.columns j < k) × (j < height p * width p)
    read_earlier = read_by p.deep (kind p k) (is_led k) (w k hk).inside

  pub reads_earlier : ReadsEarlier p
  reads_earlier k i j hk hi q = (read_earlier k i hk hi j q).0

  -- ---- the stores leave the picture

  module _ (older : Older) (back : List ℕ) (room : height p * width p ≤ length back) where
    abbrev new : List ℕ
    new = final (plan_over p older) back

    -- what stands in another block is no pixel of block j
    off_block : (t j : ℕ) → (block_of p.columns t ≡ j → ⊥) → Off (plan_over p older) j t
    off_block t j n m h q = n (ap (block_of p.columns) q ∙ target_block p z j m (few p z j m h))

    module _ (k i : ℕ) (hk : k < blocks p) (hi : i < 64) where
      -- an earlier block stays as block k found it, and block k found a later one as it was lent
      drawn_already : (t : ℕ) → block_of p.columns t < k → get_or new t 0 ≡ get_or (stage (plan_over p older) back k) t 0
      drawn_already t l = stage_off (plan_over p older) back k (blocks p) t (omega arith) (λ j a b. off_block t j (λ e. omega arith))

      not_yet_drawn : (t : ℕ) → k < block_of p.columns t → get_or (stage (plan_over p older) back k) t 0 ≡ get_or back t 0
      unfolding stage
      not_yet_drawn t l = stage_off (plan_over p older) back 0 k t zero-le (λ j a b. off_block t j (λ e. omega arith))

      -- block k stores none of its own
      left_alone : size_at p k ≡ 0 → get_or new (target_at p k i) 0 ≡ get_or back (target_at p k i) 0
      unfolding stage
      left_alone e = stage_off (plan_over p older) back 0 (blocks p) (target_at p k i) zero-le (λ j a b. by j (ℕ_discrete j k))
        where
          by : (j : ℕ) → Dec (j ≡ k) → Off (plan_over p older) j (target_at p k i)
          by j (yes q) = λ m h r. let l : m < size_at p k = rw (← q) h in omega (arith, e)
          by j (no n) = off_block (target_at p k i) j (λ q. n (sym q ∙ target_block p z k i hi))

      -- what a pixel of a block of this kind has: what it is read from, or, where nothing is stored, what was there
      abbrev Has : Bool → Kind → ℕ → Type 0
      Has deep κ v =
          (i < pixel_count κ → v ≡ fetched deep (of_kind k i hk hi deep κ) (data_of p k) older.last (stage (plan_over p older) back k) (cond deep older.oldest (stage (plan_over p older) back k)))
          × (pixel_count κ ≡ 0 → v ≡ get_or back (target_at p k i) 0)

      has : Has p.deep (kind p k) (get_or new (target_at p k i) 0)
      unfolding size_at value_at pixel_value
      has = (
        λ h. stage_pixel (plan_over p older) back (plan_lawful p z w older (length back) room) k i h (blocks p) hk (omega arith),
        left_alone,
      )

      module _ (v : ℕ) where
        abbrev Stands : Bool → Source → Type 0
        Stands deep u = v ≡ fetched deep u (data_of p k) older.last new (cond deep older.oldest back)

        stands_by : (deep : Bool) (κ : Kind) → Led deep κ → Untouched deep κ → CopyInside κ (width p) (height p) (left p k) (top p k) → Has deep κ v → Stands deep (of_kind k i hk hi deep κ)
        unfolding source fetched pixel_count CopyInside target_at
        stands_by deep (same Last) l u t h = h.0 hi
        stands_by deep (same New) l u t h = absurd l
        stands_by false (same Oldest) l u t h = absurd l
        stands_by true (same Oldest) l u t h = h.0 hi
        stands_by false kept l u t h = h.1 refl
        stands_by true kept l u t h = absurd u
        stands_by deep (copied Last x n m) l u t h = h.0 hi
        stands_by deep (copied New x n m) (y, g, o) u t h = h.0 hi ∙ ap (stored deep) (sym (drawn_already _ (in_earlier k i hk hi y x g o t)))
        stands_by false (copied Oldest x n m) l u t h = h.0 hi ∙ not_yet_drawn _ (in_later k i hk hi x l t)
        stands_by true (copied Oldest x n m) l u t h = h.0 hi
        stands_by deep (patterned f) l u t h = h.0 hi
        stands_by deep (celled f) l u t h = h.0 hi
        stands_by deep dithered l u t h = h.0 hi
        stands_by deep refused l u t h = h.0 hi

    pub decoded : Decoded p older back new
    unfolding stage stands_at
    decoded =
        record {
          long = stage_length (plan_over p older) back (blocks p);
          drawn = λ k i hk hi. stands_by k i hk hi _ p.deep (kind p k) (is_led k) (is_untouched k) (w k hk).inside (has k i hk hi);
          beyond = λ t l. stage_off (plan_over p older) back 0 (blocks p) t zero-le (λ j a b m h q. omega (arith, inside p z j m b (few p z j m h), q));
        }

  -- ---- there is no other

  -- each index within the size is a pixel of its block
  pixel_of : ℕ → ℕ
  pixel_of t = 8 * (t / width p % 8) + t % width p % 8

  pixel_few : (t : ℕ) → pixel_of t < 64
  unfolding pixel_of
  pixel_few t = omega arith

  module _ (t : ℕ) (l : t < height p * width p) where
    across : t % width p < width p
    across = let s : 0 < width p = omega (arith, some) in mod-lt t s

    down : t / width p < height p
    down = let s : 0 < width p = omega (arith, some) in (div-lt_iff_lt-mul {x = t} {y = height p} s).1 l

    block_of_below : block_of p.columns t < blocks p
    unfolding block_of
    block_of_below = block_below p.columns p.rows (t % width p) (t / width p) across down

    pixel_is : target_at p (block_of p.columns t) (pixel_of t) ≡ t
    unfolding target_at block_of pixel_of
    pixel_is = index_is p.columns p.rows (t % width p) (t / width p) across down ∙ div-add-mod' t (width p)

  module _ (older : Older) (back a b : List ℕ) (da : Decoded p older back a) (db : Decoded p older back b) where
    -- what block k reads of the picture is the same in both, where the blocks before it are
    reads_same : (k i : ℕ) → k < blocks p → i < 64 → ((j : ℕ) → block_of p.columns j < k → j < height p * width p → get_or a j 0 ≡ get_or b j 0)
        → (u : Source) → source_at p k i ≡ u → stands_at p older back a k u ≡ stands_at p older back b k u
    unfolding stands_at fetched
    reads_same k i hk hi f (Data j) e = refl
    reads_same k i hk hi f (Copied Last j) e = refl
    reads_same k i hk hi f (Copied New j) e = let r = read_earlier k i hk hi j e in ap (stored p.deep) (f j r.0 r.1)
    reads_same k i hk hi f (Copied Oldest j) e = refl

    -- block by block
    same_pixel : (n k i : ℕ) → k < n → k < blocks p → i < 64 → get_or a (target_at p k i) 0 ≡ get_or b (target_at p k i) 0
    same_pixel zero k i l hk hi = absurd (not-suc-le-zero l)
    same_pixel (suc n) k i l hk hi =
        da.drawn k i hk hi
        ∙ reads_same k i hk hi
        (λ j e r. rw (← pixel_is j r) (same_pixel n (block_of p.columns j) (pixel_of j) (omega arith) (block_of_below j r) (pixel_few j)))
        (source_at p k i) refl
        ∙ sym (db.drawn k i hk hi)

    same_at : (t : ℕ) → get_or a t 0 ≡ get_or b t 0
    same_at t =
        elim (dec_lt t (height p * width p)) [
          | yes l ↦ rw (← pixel_is t l) (same_pixel (blocks p) (block_of p.columns t) (pixel_of t) (block_of_below t l) (block_of_below t l) (pixel_few t))
          | no l ↦ da.beyond t (omega arith) ∙ sym (db.beyond t (omega arith))
        ]

    pub only_one : a ≡ b
    only_one = ext_get_or 0 a b (da.long ∙ sym db.long) (λ t l. same_at t)

-- ---- demand 2

module _ (c : Request) (first : List ℕ) where
  abbrev Taken : Type 0
  Taken = DrawAcceptsIn c.deep c.allowed.spare c.columns c.rows c.map c.bytes (length c.front) (length c.oldest) (length first) 0

  exactly : (draw_verdict c (memory first 0) ≡ accept → Taken) × (Taken → draw_verdict c (memory first 0) ≡ accept)
  exactly = drawn_exactly c.deep c.allowed.spare c.columns c.rows c.map c.bytes (length c.front) (length c.oldest) (length first) 0

  is_given : draw_verdict c (memory first 0) ≡ accept → Given c first
  is_given e = let a = exactly.0 e in record { accepted = a.accepted; front_long = a.front_long; oldest_long = a.oldest_long; back_long = a.back_long }

  module _ (g : Given c first) where
    takes : draw_verdict c (memory first 0) ≡ accept
    takes = exactly.1 (record { accepted = g.accepted; front_long = g.front_long; oldest_long = g.oldest_long; back_long = g.back_long; within = zero-le })

    picture_is : Decoded (packet_of c) (older_of c) first (final (call_plan c) first)
    picture_is = decoded (packet_of c) (is c first g) g.accepted.drawn (older_of c) first g.back_long

    leaves_whole : 312000 ≤ c.allowed.stores
        → (step calling (memory first 0) c ≡ memory (final (call_plan c) first) (blocks (packet_of c))) × ((reply calling (memory first 0) c).answer ≡ whole)
    unfolding leave outcome comes answered
    leaves_whole l =
        let d = call_plan c in
        let h = going d first (lawful c first g) (memory first 0) c.allowed.stores (reached_first d first) in
        let q = h.through (omega (arith, stores_few (packet_of c) (is c first g) (older_of c) 0 zero-le)) in
        rw takes (reached_final d first _ h.reached q, ap answered (eq-eqb _ _ q))

  pub demand_2 : Demand2 c first
  demand_2 =
      record {
        taken = (is_given, takes);
        picture = picture_is;
        only = λ g b d. only_one (packet_of c) (is c first g) g.accepted.drawn (older_of c) first b _ d (picture_is g);
        earlier = λ g. reads_earlier (packet_of c) (is c first g) g.accepted.drawn;
        leaves = leaves_whole;
      }
