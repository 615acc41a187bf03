-- Map and packet are accepted in strict form, and give the wanted picture: `draws`.
-- Assumes nothing.
use mathlib.Core.Path.{◌≡◌, refl, sym, ap, ◌∙◌, subst}
use mathlib.Core.Bool.{false, cond}
use mathlib.Core.Logic.{◌≢◌}
use mathlib.Core.List.{List, [], ◌++◌, append_assoc, append-nil}
use Prim.Native.Nat.{ℕ, zero, suc, ◌+◌, ◌-◌, ◌*◌, ◌/◌, ◌%◌, ◌≤◌, ◌<◌, zero-le}
use native.Mathlib.Nat.{add-zero, mod-lt, div-lt_iff_lt-mul, div-add-mod'}
use native.Mathlib.Decide.{ℕ_discrete}
use native.Mathlib.Omega.{arith}
use lib.Dec.{ltb, eqb}
use lib.ListN.{length, get_or, take, drop, length-append, get_or-append}
use lib.Seq.{take-append_seam, drop-append_seam}
use borrow.Author.Tests.{lt-ltb, eqb-true, eqb-false}
use Rattle.motion.specs.Motion.{raster_index}
use Rattle.pattern.proofs.Agree.{Agree}
use Rattle.block.specs.Block.{Kind, code_at, kinds, kind_of, byte_kind, data_length, is_refused, source, fetched}
use Rattle.block.proofs.Codes.{code_known, offset_flat}
use Rattle.block.proofs.Agree.{same_kind, no_second, same_fetched}
use Rattle.paint.specs.Value.{pixel_count, flat, pixel_value, byte_value}
use Rattle.paint.proofs.Counts.{count_64, count_0}
use Rattle.packet.specs.Packet.{Packet, pixels, width, height, left, top, code, advanced, start_of, start, data_of, offsets_of, kind}
use Rattle.packet.specs.Asked.{Sized}
use Rattle.refusal.specs.Number.{accept}
use Rattle.packet.specs.Verdict.{strict}
use Rattle.packet.proofs.Exactly.{accepted_exactly}
use Rattle.packet.proofs.Walk.{code_below, offsets_flat}
use Rattle.stores.specs.Stores.{Memory, memory, Plan, after, stage, Lawful}
use Rattle.stores.specs.Calls.{leave}
use Rattle.stores.proofs.Within.{agree_take, drop_same}
use Rattle.stores.proofs.Recover.{reached_first, reached_final, stage_off, stage_pixel, going}
use Rattle.draw.specs.Drawing.{size_at, target_at, value_at, plan}
use Rattle.draw.specs.Call.{draw_verdict, comes, pictures}
use Rattle.draw.proofs.Exactly.{drawn_exactly}
use Rattle.book.proofs.Lawful.{few, stores_few, distinct, inside, plan_lawful}
use Rattle.book.proofs.Picture.{block_below, index_is}
use Rattle.book.proofs.Demand.{demand_3}
use Rattle.packet.specs.Accepted.{CopyInside, Takes, Accepts}
use Rattle.choice.specs.Choice.{Chosen, code_0, code_1, code_7, code_B, code_C, code_D, code_E, code_F, Best, code_of}
use Rattle.encode.specs.Encode.{Task, way_at, part_at, data_to, nibble, map_of, Lent}
use Rattle.encode.specs.Draws.{packet_for, bytes_of, given, drawing, Draws}
use Rattle.choice.proofs.First.{by_bool, listed_length, listed_from}
use Rattle.choice.proofs.Best.{best, code_few}

-- ---- what holds of the codes that are chosen

not_6 : {c : ℕ} → Chosen c → c ≢ 6
not_6 code_0 e = omega arith
not_6 code_1 e = omega arith
not_6 code_7 e = omega arith
not_6 code_B e = omega arith
not_6 code_C e = omega arith
not_6 code_D e = omega arith
not_6 code_E e = omega arith
not_6 code_F e = omega arith

copies_inside : {c : ℕ} → Chosen c → (s : List ℕ) (w h x y : ℕ) → CopyInside (byte_kind c s) w h x y
unfolding kind_of kinds CopyInside
copies_inside code_0 s w h x y = tt
copies_inside code_1 s w h x y = tt
copies_inside code_7 s w h x y = tt
copies_inside code_B s w h x y = tt
copies_inside code_C s w h x y = tt
copies_inside code_D s w h x y = tt
copies_inside code_E s w h x y = tt
copies_inside code_F s w h x y = tt

-- a block that is drawn reads nothing of the picture drawn on
reads_none : {c : ℕ} → Chosen c → c ≢ 1 → (s : List ℕ) (w x y i : ℕ) (front a b : List ℕ)
    → byte_value c s w x y front i a ≡ byte_value c s w x y front i b
unfolding kind_of kinds pixel_value source fetched
reads_none code_0 n s w x y i front a b = refl
reads_none code_1 n s w x y i front a b = absurd (n refl)
reads_none code_7 n s w x y i front a b = refl
reads_none code_B n s w x y i front a b = refl
reads_none code_C n s w x y i front a b = refl
reads_none code_D n s w x y i front a b = refl
reads_none code_E n s w x y i front a b = refl
reads_none code_F n s w x y i front a b = refl

module _ (j : Task) where
  -- ---- block k

  made : (k : ℕ) → Best j.wanted j.front j.back (8 * j.columns) (8 * (k % j.columns)) (8 * (k / j.columns)) (code_of (way_at j k)) (part_at j k)
  unfolding way_at part_at
  made k = best j.wanted j.front j.back (8 * j.columns) (8 * (k % j.columns)) (8 * (k / j.columns))

  -- ---- the map

  nibble_few : (n k : ℕ) → nibble j n k < 16
  unfolding nibble
  nibble_few n k = by_bool (λ t. cond t (code_of (way_at j k)) 0 < 16) (ltb k n) (λ _. code_few (way_at j k)) (λ _. omega arith)

  pub own : (n k : ℕ) → k < n → nibble j n k ≡ code_of (way_at j k)
  unfolding nibble
  own n k h = rw (lt-ltb k n h)

  map_code : (n k : ℕ) → k < n → code_at (map_of j n) k ≡ code_of (way_at j k)
  unfolding code_at map_of
  map_code n k h =
      let v = nibble j n (2 * (k / 2)) in
      let u = nibble j n (2 * (k / 2) + 1) in
      let e = listed_from ((n + 1) / 2) (λ i. nibble j n (2 * i) + 16 * nibble j n (2 * i + 1)) (k / 2) (omega arith) in
      rw e
      (by_bool (λ t. cond t ((v + 16 * u) % 16) ((v + 16 * u) / 16 % 16) ≡ code_of (way_at j k)) (eqb (k % 2) 0)
      (λ q.
      let o : k % 2 ≡ 0 = eqb-true _ _ q in
      let z : 2 * (k / 2) ≡ k = omega arith in
      let l : (v + 16 * u) % 16 ≡ v = omega (arith, nibble_few n (2 * (k / 2)), nibble_few n (2 * (k / 2) + 1)) in
      l ∙ ap (nibble j n) z ∙ own n k h)
      (λ q.
      let o : k % 2 ≡ 0 → ⊥ = eqb-false _ _ q in
      let z : 2 * (k / 2) + 1 ≡ k = omega arith in
      let l : (v + 16 * u) / 16 % 16 ≡ u = omega (arith, nibble_few n (2 * (k / 2)), nibble_few n (2 * (k / 2) + 1)) in
      l ∙ ap (nibble j n) z ∙ own n k h))

  -- ---- the data

  pub data_from : ℕ → ℕ → List ℕ
  data_from k zero = []
  data_from k (suc m) = part_at j k ++ data_from (suc k) m

  pub split : (m k : ℕ) → data_to j (k + m) ≡ data_to j k ++ data_from k m
  unfolding data_to data_from
  split zero k = rw (add-zero k) (sym (append-nil (data_to j k)))
  split (suc m) k =
      let e : k + suc m ≡ suc k + m = omega arith in
      ap (data_to j) e ∙ split m (suc k) ∙ append_assoc (data_to j k) (part_at j k) (data_from (suc k) m)

  -- what stands behind block k's data
  behind : (n k : ℕ) → List ℕ
  behind n k = data_from (suc k) (n - suc k)

  from_block : (n k : ℕ) → k < n → drop (length (data_to j k)) (data_to j n) ≡ part_at j k ++ behind n k
  unfolding data_from behind
  from_block n k h =
      let e : n ≡ k + suc (n - suc k) = omega arith in
      ap (λ (l : List ℕ). drop (length (data_to j k)) l) (ap (data_to j) e ∙ split (suc (n - suc k)) k)
      ∙ drop-append_seam (data_to j k) (data_from k (suc (n - suc k)))

  -- its own bytes are all that it reads
  agree : (k : ℕ) (l : List ℕ) → Agree (data_length false (byte_kind (code_of (way_at j k)) (part_at j k))) (part_at j k) (part_at j k ++ l)
  agree k l i h = sym (get_or-append (part_at j k) l 0 i (omega (arith, (made k).gives.long)))

  kind_kept : (k : ℕ) (l : List ℕ) → byte_kind (code_of (way_at j k)) (part_at j k) ≡ byte_kind (code_of (way_at j k)) (part_at j k ++ l)
  kind_kept k l = same_kind (part_at j k) (part_at j k ++ l) [] [] false (code_of (way_at j k)) (code_few (way_at j k)) (agree k l) (λ i h. refl)

  module _ (rows : ℕ) where
    abbrev p : Packet
    p = packet_for j rows

    abbrev n : ℕ
    n = j.columns * rows

    data_by : (k : ℕ) → k < n → (start p k).bytes ≡ length (data_to j k) → data_of p k ≡ part_at j k ++ behind n k
    data_by k h e = ap (λ (m : ℕ). drop m (data_to j n)) e ∙ from_block n k h

    kind_by : (k : ℕ) → k < n → (start p k).bytes ≡ length (data_to j k) → kind p k ≡ byte_kind (code_of (way_at j k)) (part_at j k)
    kind_by k h e =
        no_second (code p k) (data_of p k) (offsets_of p k) []
        ∙ ap (λ (c : ℕ). byte_kind c (data_of p k)) (map_code n k h)
        ∙ ap (byte_kind (code_of (way_at j k))) (data_by k h e)
        ∙ sym (kind_kept k (behind n k))

    starts : (k : ℕ) → k ≤ n → (start p k).bytes ≡ length (data_to j k)
    unfolding start_of advanced data_to
    starts zero h = refl
    starts (suc k) h =
        let e = starts k (omega arith) in
        let κ = kind_by k h e in
        let l : data_length false (kind p k) ≡ length (part_at j k) = ap (data_length false) κ ∙ sym (made k).gives.long in
        omega (arith, e, l, length-append (data_to j k) (part_at j k))

    data_is : (k : ℕ) → k < n → data_of p k ≡ part_at j k ++ behind n k
    data_is k h = data_by k h (starts k (omega arith))

    kind_is : (k : ℕ) → k < n → kind p k ≡ byte_kind (code_of (way_at j k)) (part_at j k)
    kind_is k h = kind_by k h (starts k (omega arith))

    bytes_are : (k : ℕ) → k < n → bytes_of p k ≡ part_at j k
    bytes_are k h =
        let l : data_length false (kind p k) ≡ length (part_at j k) = ap (data_length false) (kind_is k h) ∙ sym (made k).gives.long in
        ap (λ (b : List ℕ). take (data_length false (kind p k)) b) (data_is k h)
        ∙ ap (λ (m : ℕ). take m (part_at j k ++ behind n k)) l
        ∙ take-append_seam (part_at j k) (behind n k)

    cheapest : (k : ℕ) → k < n → Best j.wanted j.front j.back (width p) (left p k) (top p k) (code p k) (bytes_of p k)
    cheapest k h = rw (bytes_are k h, map_code n k h) (made k)

    -- ---- it is accepted

    takes : (k : ℕ) → k < n → Takes p k
    unfolding data_to behind
    takes k h =
        let g = (made k).gives in
        let l : data_length false (kind p k) ≡ length (part_at j k) = ap (data_length false) (kind_is k h) ∙ sym g.long in
        let e : n ≡ suc k + (n - suc k) = omega arith in
        let t : length (data_to j n) ≡ length (data_to j (suc k)) + length (behind n k) =
        ap (λ (m : ℕ). length (data_to j m)) e ∙ ap length (split (n - suc k) (suc k)) ∙ length-append (data_to j (suc k)) (data_from (suc k) (n - suc k)) in
        record {
          known = λ _ q. not_6 g.chosen (sym (map_code n k h) ∙ q);
          there = omega (arith, l, t, starts k (omega arith), length-append (data_to j k) (part_at j k));
          beside = omega (arith, offsets_flat p.map p.bytes k, offset_flat (data_of p k) (offsets_of p k) (code p k) (code_below p.map k));
          inside = subst (λ (κ : Kind). CopyInside κ (width p) (height p) (left p k) (top p k)) (sym (kind_is k h)) (copies_inside g.chosen (part_at j k) (width p) (height p) (left p k) (top p k));
        }

    -- ---- the value of each pixel where back is as lent

    value_is : (k i : ℕ) → k < n → i < 64 → (b : List ℕ)
        → pixel_value false (kind p k) (data_of p k) (width p) (left p k) (top p k) (flat j.front) i b
        ≡ byte_value (code_of (way_at j k)) (part_at j k) (width p) (left p k) (top p k) j.front i b
    unfolding pixel_value
    value_is k i h l b =
        let c = code_of (way_at j k) in
        let s = part_at j k in
        let r : is_refused (byte_kind c s) ≡ false = code_known s [] false c (code_few (way_at j k)) (λ _. not_6 (made k).gives.chosen) in
        rw (kind_is k h, data_is k h)
        (sym (same_fetched false s (s ++ behind n k) (width p) (left p k) (top p k) i l j.front b b (byte_kind c s) r (agree k (behind n k))))

-- ---- the picture

-- code 1 gives the pixel of back
kept_value : (c : ℕ) (s : List ℕ) (w x y i : ℕ) (front back : List ℕ) → c ≡ 1 → byte_value c s w x y front i back ≡ get_or back (raster_index w x y i) 0
unfolding kind_of kinds pixel_value source fetched
kept_value c s w x y i front back e = rw e

module _ (j : Task) (rows : ℕ) (lent : Lent j rows) where
  abbrev q : Packet
  q = packet_for j rows

  abbrev m : ℕ
  m = j.columns * rows

  abbrev d : Plan
  d = plan q j.front

  mapped : length (map_of j m) ≡ (m + 1) / 2
  unfolding map_of
  mapped = listed_length ((m + 1) / 2) _ 0

  sized : Sized q
  sized =
      record {
        some_columns = lent.wide.least;
        columns = lent.wide.bound;
        some_rows = lent.high.least;
        rows = lent.high.bound;
        mapped = mapped;
      }

  laws : Lawful d (length j.back)
  laws = plan_lawful q sized (takes j rows) (flat j.front) (length j.back) lent.back_long

  accepts : Accepts strict j.columns rows (map_of j m) (data_to j m)
  accepts =
      record {
        wide = lent.wide;
        high = lent.high;
        mapped = mapped;
        parts = tt;
        drawn = takes j rows;
        used = record { first = omega (arith, starts j rows m (omega arith)); second = zero-le };
      }

  -- a block that is drawn
  drawn_pixel : (k i : ℕ) → k < m → i < 64 → code_of (way_at j k) ≢ 1 → get_or (given j rows) (target_at q k i) 0 ≡ get_or j.wanted (target_at q k i) 0
  unfolding size_at value_at target_at
  drawn_pixel k i h l n =
      let c = code_of (way_at j k) in
      let s = part_at j k in
      let z : 64 ≡ size_at q k = count_64 s c (code_few (way_at j k)) n ∙ ap pixel_count (sym (kind_is j rows k h)) in
      let g = (made j k).gives in
      stage_pixel d j.back laws k i (omega arith) m h (omega arith)
      ∙ value_is j rows k i h l (stage d j.back k)
      ∙ reads_none g.chosen n s (width q) (left q k) (top q k) i j.front (stage d j.back k) j.back
      ∙ g.same i l

  -- a block that is left
  left_pixel : (k i : ℕ) → k < m → i < 64 → code_of (way_at j k) ≡ 1 → get_or (given j rows) (target_at q k i) 0 ≡ get_or j.wanted (target_at q k i) 0
  unfolding size_at target_at stage
  left_pixel k i h l n =
      let c = code_of (way_at j k) in
      let s = part_at j k in
      let z : 0 ≡ size_at q k = count_0 s c n ∙ ap pixel_count (sym (kind_is j rows k h)) in
      let g = (made j k).gives in
      stage_off d j.back 0 m (target_at q k i) (omega arith)
      (λ b _ hb t ht e.
      let same : k ≡ b = (distinct q sized k b i t l (few q sized b t ht) e).0 in
      let y : t < size_at q k = subst (λ (x : ℕ). t < size_at q x) (sym same) ht in
      omega (arith, z, y))
      ∙ sym (kept_value c s (width q) (left q k) (top q k) i j.front j.back n)
      ∙ g.same i l

  block_pixel : (k i : ℕ) → k < m → i < 64 → get_or (given j rows) (target_at q k i) 0 ≡ get_or j.wanted (target_at q k i) 0
  block_pixel k i h l = by (ℕ_discrete (code_of (way_at j k)) 1)
    where
      by : Dec (code_of (way_at j k) ≡ 1) → get_or (given j rows) (target_at q k i) 0 ≡ get_or j.wanted (target_at q k i) 0
      by (yes e) = left_pixel k i h l e
      by (no n) = drawn_pixel k i h l n

  -- every pixel of the picture is one of a block
  wanted_at : (t : ℕ) → t < pixels j.columns rows → get_or (given j rows) t 0 ≡ get_or j.wanted t 0
  unfolding target_at
  wanted_at t h =
      let w = 8 * j.columns in
      let some : 0 < w = omega (arith, lent.wide.least) in
      let x = t % w in
      let y = t / w in
      let hx : x < 8 * j.columns = mod-lt t some in
      let hy : y < 8 * rows = (div-lt_iff_lt-mul some).1 h in
      let k = y / 8 * j.columns + x / 8 in
      let e : target_at q k (8 * (y % 8) + x % 8) ≡ t = index_is j.columns rows x y hx hy ∙ div-add-mod' t w in
      subst (λ (a : ℕ). get_or (given j rows) a 0 ≡ get_or j.wanted a 0) e
      (block_pixel k (8 * (y % 8) + x % 8) (block_below j.columns rows x y hx hy) (omega arith))

  -- what lies beyond stays
  beyond_at : (t : ℕ) → pixels j.columns rows ≤ t → get_or (given j rows) t 0 ≡ get_or j.back t 0
  unfolding stage
  beyond_at t h =
      stage_off d j.back 0 m t (omega arith)
      (λ b _ hb i hi e. let l = inside q sized b i hb (few q sized b i hi) in omega (arith, l, e))

  -- all stores of the drawing, made by one call
  all_drawn : (c : ℕ) → 312000 ≤ c → after d (memory j.back 0) c ≡ memory (given j rows) m
  all_drawn c h =
      let g = going d j.back laws (memory j.back 0) c (reached_first d j.back) in
      reached_final d j.back (after d (memory j.back 0) c) g.reached (g.through (omega (arith, stores_few q sized (flat j.front) 0 (omega arith))))

  given_long : length (given j rows) ≡ length j.back
  given_long =
      ap (λ (x : Memory). length x.picture) (sym (all_drawn 312000 (omega arith)))
      ∙ (going d j.back laws (memory j.back 0) 312000 (reached_first d j.back)).reached.long

  taken : (c : ℕ) → draw_verdict (drawing j rows c) (memory j.back 0) ≡ accept
  taken c =
      (drawn_exactly false strict j.columns rows (map_of j m) (data_to j m) (length j.front) 0 (length j.back) 0).1
      (record { accepted = accepts; front_long = lent.front_long; oldest_long = tt; back_long = lent.back_long; within = omega arith })

  pub draws : Draws j rows
  unfolding leave comes
  draws =
      record {
        accepts = (accepted_exactly false strict j.columns rows (map_of j m) (data_to j m)).1 accepts;
        wanted =
            agree_take (pixels j.columns rows) (given j rows) j.wanted
            (record { left_long = omega (arith, given_long, lent.back_long); right_long = lent.wanted_long; same = wanted_at });
        beyond = drop_same (pixels j.columns rows) (given j rows) j.back given_long beyond_at;
        draws = λ c h. rw (taken c) (ap (pictures j.front) (all_drawn c h));
        cuts = λ c es o w. demand_3 (drawing j rows c) j.back (record { accepted = accepts; front_long = lent.front_long; oldest_long = tt; back_long = lent.back_long }) es o w;
        cheapest = cheapest j rows;
      }
