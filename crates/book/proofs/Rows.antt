-- Rows of blocks that no call touches: `rows_unchanged`, of one call; `list_unchanged`, of a list of calls.
-- Assumes nothing.
use mathlib.Core.Path.{◌≡◌, refl, sym, ap, ◌∙◌, subst}
use mathlib.Core.Bool.{Bool, true, false}
use mathlib.Core.Logic.{⊎_elim}
use mathlib.Core.List.{List, [], ◌∷◌}
use Prim.Native.Nat.{ℕ, ◌+◌, ◌*◌, ◌/◌, ◌≤◌, ◌<◌, min}
use native.Mathlib.Omega.{arith}
use lib.ListN.{length, get_or}
use Rattle.refusal.specs.Number.{Verdict, accept, refuse}
use Rattle.block.specs.Block.{kind_of}
use Rattle.block.proofs.Agree.{no_second}
use Rattle.paint.specs.Value.{pixel_count}
use Rattle.std.specs.Prelude.{Option, Some, None}
use Rattle.packet.specs.declared.Rows.{Rows}
use Rattle.packet.specs.Packet.{Packet, packet_in, blocks, width, left, top, code, kind, data_of, offsets_of}
use Rattle.packet.specs.Rows.{untouched, touched, TouchedIn, Spans, Outside}
use Rattle.packet.proofs.Strip.{touched_spans}
use Rattle.packet.proofs.Walk.{code_below}
use Rattle.packet.proofs.Grid.{column_below, raster_row}
use Rattle.paint.proofs.Counts.{count_0, count_few}
use Rattle.stores.specs.Stores.{Memory, after}
use Rattle.stores.specs.Calls.{Event, returns, cut, call_of, leave, leave_cut, outcome, happens, Each, finally}
use Rattle.stores.proofs.Recover.{after_off}
use Rattle.stores.proofs.Within.{cut_least}
use Rattle.draw.specs.Drawing.{size_at, target_at}
use Rattle.draw.specs.Call.{Request, packet_of, call_plan, draw_verdict, comes, calling, Report}
use Rattle.draw.proofs.Judged.{accepted_call}
use Rattle.book.specs.Demand.{Same, OnlyRefusedDiffer}
use Rattle.book.specs.Rows.{Unchanged}

-- ---- one call

-- an untouched block stores nothing
count_untouched : (deep : Bool) (s o : List ℕ) (c : ℕ) → c < 16 → c ≡ untouched deep → 0 ≡ pixel_count (kind_of deep c s o)
count_untouched false s o c l e = count_0 s c e ∙ ap pixel_count (no_second c s [] o)
count_untouched true s o c l e = absurd (let z : ⊥ = omega (arith, e) in z)

module _ (p : Packet) (some : 0 < p.columns) (t : ℕ) where
  -- a pixel of block k stands in the row of blocks of block k
  row_is : (k i : ℕ) → i < 64 → target_at p k i ≡ t → t / (8 * p.columns) / 8 ≡ k / p.columns
  unfolding target_at
  row_is k i h e =
      let in-x : left p k + 8 ≤ width p = omega (arith, column_below p.columns k some) in
      let r = raster_row (width p) (left p k) (top p k) i in-x in
      rw (← e) (rw r (omega arith))

  -- a block that stores a pixel is touched
  stores_touched : (k i : ℕ) → k < blocks p → i < size_at p k → TouchedIn p (k / p.columns) k
  unfolding size_at
  stores_touched k i h l =
      record { below = h; other = λ e. let z : ⊥ = omega (arith, l, count_untouched p.deep (data_of p k) (offsets_of p k) (code p k) (code_below p.map k) e) in z; row = refl }

  small : (k i : ℕ) → i < size_at p k → i < 64
  unfolding size_at
  small k i l = omega (arith, l, count_few (kind p k))

  off_by : (u : Option Rows) → Spans p u → Outside p.columns u t → (k : ℕ) → k < blocks p → (i : ℕ) → i < size_at p k → target_at p k i ≡ t → ⊥
  unfolding Spans Outside
  off_by None s o k h i l e = (stores_touched k i h l).other (s k h)
  off_by (Some u) s o k h i l e =
      let w = s.within (k / p.columns) k (stores_touched k i h l) in
      let r = row_is k i (small k i l) e in
      ⊎_elim (λ (q : t / (8 * p.columns) / 8 < u.first). omega (arith, w.0, r)) (λ (q : u.last < t / (8 * p.columns) / 8). omega (arith, w.1, r)) o

module _ (c : Request) (m : Memory) (e : draw_verdict c m ≡ accept) (t : ℕ) (o : Outside c.columns (touched (packet_of c)) t) where
  stays : (n : ℕ) → get_or (after (call_plan c) m n).picture t 0 ≡ get_or m.picture t 0
  stays n =
      let a = (accepted_call c.deep c.allowed.spare c.columns c.rows c.map c.bytes (length c.front) (length c.oldest) (length m.picture) m.place e).1 in
      let some : 0 < c.columns = omega (arith, a.sized.some_columns) in
      after_off (call_plan c) t
      (λ k hk i hi q. off_by (packet_of c) some t (touched (packet_of c)) (touched_spans (packet_of c) some) o k hk i hi (sym q))
      m n a.at

-- what a call tells by its verdict
abbrev told : Request → Memory → Verdict → Report
told c m v = outcome (call_plan c) (touched (packet_of c)) None m (comes v c.allowed.stores)

pub rows_unchanged : (m : Memory) (e : Event Request) → Unchanged m e
unfolding call_of happens leave leave_cut outcome comes
rows_unchanged m (returns c) t = by (draw_verdict c m) refl
  where
    by : (v : Verdict) → draw_verdict c m ≡ v → Outside c.columns (told c m v).rows t
        → get_or (leave (call_plan c) m (comes v c.allowed.stores)).picture t 0 ≡ get_or m.picture t 0
    by (refuse a k) q o = refl
    by accept q o = stays c m q t o c.allowed.stores
rows_unchanged m (cut c j) t = by (draw_verdict c m) refl
  where
    by : (v : Verdict) → draw_verdict c m ≡ v → Outside c.columns (told c m v).rows t
        → get_or (leave_cut (call_plan c) m (comes v c.allowed.stores) j).picture t 0 ≡ get_or m.picture t 0
    by (refuse a k) q o = refl
    by accept q o =
        rw (cut_least (call_plan c) m (comes accept c.allowed.stores) c.allowed.stores j refl)
        (stays c m q t o (min j c.allowed.stores))

-- ---- a list of calls

touched_as : (d d' : Bool) (c c' r r' : ℕ) (m m' b b' : List ℕ) → d ≡ d' → c ≡ c' → r ≡ r' → m ≡ m' → b ≡ b' → touched (packet_in d c r m b) ≡ touched (packet_in d' c' r' m' b')
touched_as d d' c c' r r' m m' b b' x e f g h = rw (x, e, f, g, h) refl

pub same_rows : (r c : Request) → Same r c → touched (packet_of r) ≡ touched (packet_of c)
same_rows r c s = touched_as _ _ _ _ _ _ _ _ _ _ s.deep s.columns s.rows s.map s.bytes

-- what lies outside the rows of c lies outside the rows of a call that brings the same, and of a refused one
outside_as : (r c : Request) (m : Memory) (t : ℕ) (v : Verdict) → (v ≡ accept → Same r c) → Outside c.columns (touched (packet_of c)) t → Outside r.columns (told r m v).rows t
unfolding outcome comes Outside
outside_as r c m t (refuse n k) f o = tt
outside_as r c m t accept f o =
    let s = f refl in
    subst (λ (x : ℕ). Outside x (touched (packet_of r)) t) (sym s.columns) (subst (λ (u : Option Rows). Outside c.columns u t) (sym (same_rows r c s)) o)

pub list_unchanged : (c : Request) (m : Memory) (es : List (Event Request)) → OnlyRefusedDiffer c m es → (t : ℕ) → Outside c.columns (touched (packet_of c)) t
    → get_or (finally calling m es).picture t 0 ≡ get_or m.picture t 0
unfolding finally OnlyRefusedDiffer Each
list_unchanged c m [] o t h = refl
list_unchanged c m (e ∷ es) o t h =
    list_unchanged c (happens calling m e) es o.1 t h
    ∙ rows_unchanged m e t (outside_as (call_of e) c m t (draw_verdict (call_of e) m) o.0 h)
