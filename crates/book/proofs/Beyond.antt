-- Pixels beyond the size: no drawing call writes one (`beyond_unwritten`) or reads one (`beyond_unread`). Each pixel that is stored, and each pixel
-- that one is copied from, lies within the picture.
-- Assumes nothing.
use mathlib.Core.Path.{◌≡◌, refl, sym, ap, ◌∙◌, subst}
use mathlib.Core.Bool.{Bool, true, false, cond}
use mathlib.Core.List.{List}
use Prim.Native.Nat.{ℕ, ◌*◌, ◌≤◌, ◌<◌, min}
use native.Mathlib.Omega.{arith}
use lib.ListN.{length, get_or, take, drop, length-take}
use Rattle.refusal.specs.Number.{Verdict, accept, refuse}
use Rattle.block.specs.declared.Picture.{Picture}
use Rattle.block.specs.declared.Picture.TheVariants.{Last, New, Oldest}
use Rattle.block.specs.Block.{Kind, same, kept, copied, patterned, celled, dithered, refused, source, stored, pictured, fetched}
use Rattle.packet.specs.Packet.{width, height, left, top, data_of, kind}
use Rattle.packet.specs.Accepted.{CopyInside}
use Rattle.stores.specs.Stores.{Memory, memory, after, count}
use Rattle.stores.specs.Calls.{Event, returns, cut, call_of, leave, leave_cut, outcome, happens}
use Rattle.stores.proofs.Steps.{run_length}
use Rattle.stores.proofs.Recover.{after_off}
use Rattle.stores.proofs.Within.{AgreeTo, agree_take, take_agree, take_short, drop_same, Both, after_within, cut_least}
use Rattle.paint.specs.Value.{Older, pixel_value}
use Rattle.draw.specs.Drawing.{value_at, plan_over}
use Rattle.draw.specs.Call.{Request, packet_of, older_of, call_plan, is_oldest_short, call_verdict_in, draw_verdict, comes}
use Rattle.draw.specs.Asked.{Accepted}
use Rattle.draw.specs.Taken.{OldestLong, DrawAcceptsIn}
use Rattle.draw.proofs.Judged.{accepted_call}
use Rattle.book.specs.Beyond.{area, Unwritten, showing, SameTo, SameCalls, Unread}
use Rattle.book.proofs.Lawful.{Framed, raster_below, copied_below, framed, few, inside}

-- ---- what is read

-- of a block whose copy lies inside, a pixel of pictures that agree as far as they are w by h
module _ (deep : Bool) (s : List ℕ) (w h x y i : ℕ) (f : Framed w h x y) (hi : i < 64) (older older' : Older) (a b : List ℕ)
    (p : AgreeTo (h * w) older.last older'.last) (o : AgreeTo (h * w) (cond deep older.oldest a) (cond deep older'.oldest b)) (q : AgreeTo (h * w) a b) where
  of_picture : (r : Picture) (j : ℕ) → j < h * w
      → get_or (pictured r older.last a (cond deep older.oldest a)) j 0 ≡ get_or (pictured r older'.last b (cond deep older'.oldest b)) j 0
  of_picture Last j l = p.same j l
  of_picture New j l = q.same j l
  of_picture Oldest j l = o.same j l

  reads_within : (κ : Kind) → CopyInside κ w h x y → pixel_value deep κ s w x y older i a ≡ pixel_value deep κ s w x y older' i b
  unfolding pixel_value source fetched CopyInside
  reads_within (same r) c = ap (stored deep) (of_picture r _ (raster_below w h x y i f hi))
  reads_within kept c = ap (stored deep) (of_picture Oldest _ (raster_below w h x y i f hi))
  reads_within (copied r v n m) c = ap (stored deep) (of_picture r _ (copied_below w h x y i f hi v c))
  reads_within (patterned g) c = refl
  reads_within (celled g) c = refl
  reads_within dithered c = refl
  reads_within refused c = refl

-- ---- an accepted call

module _ (c : Request) (m : Memory) (e : draw_verdict c m ≡ accept) where
  tests : Accepted (packet_of c) (length c.front) (length m.picture) m.place
      × DrawAcceptsIn c.deep c.allowed.spare c.columns c.rows c.map c.bytes (length c.front) (length c.oldest) (length m.picture) m.place
  tests =
      let a = accepted_call c.deep c.allowed.spare c.columns c.rows c.map c.bytes (length c.front) (length c.oldest) (length m.picture) m.place e in
      (a.1, a.2)

  call : Accepted (packet_of c) (length c.front) (length m.picture) m.place
  call = tests.0

  -- n stores leave what lies beyond
  keeps : (n t : ℕ) → area c ≤ t → get_or (after (call_plan c) m n).picture t 0 ≡ get_or m.picture t 0
  keeps n t h =
      after_off (call_plan c) t
      (λ k hk j hj q. omega (arith, inside (packet_of c) call.sized k j hk (few (packet_of c) call.sized k j hj), q))
      m n call.at

  -- two that are lent the same up to the size
  both : (older : Older) (b : List ℕ) (n : ℕ) → AgreeTo (area c) c.front older.last
      → ((x y : List ℕ) → AgreeTo (area c) x y → AgreeTo (area c) (cond c.deep c.oldest x) (cond c.deep older.oldest y))
      → AgreeTo (area c) m.picture b → Both (area c) (after (call_plan c) m n) (after (plan_over (packet_of c) older) (memory b m.place) n)
  unfolding value_at
  both older b n f o g =
      after_within (call_plan c) (value_at (packet_of c) older) (area c)
      (λ k i hk hi x y z.
      reads_within c.deep (data_of (packet_of c) k) (width (packet_of c)) (height (packet_of c)) (left (packet_of c) k) (top (packet_of c) k) i
      (framed (packet_of c) call.sized k hk) (few (packet_of c) call.sized k i hi) (older_of c) older x y
      f (o x y z) z (kind (packet_of c) k) (call.taken k hk).inside)
      m n call.at b g

-- ---- none is written

pub beyond_unwritten : (m : Memory) (e : Event Request) → Unwritten m e
unfolding call_of happens leave leave_cut comes after
beyond_unwritten m (returns c) = by (draw_verdict c m) refl
  where
    by : (v : Verdict) → draw_verdict c m ≡ v
        → drop (area c) (leave (call_plan c) m (comes v c.allowed.stores)).picture ≡ drop (area c) m.picture
    by (refuse a k) q = refl
    by accept q = drop_same (area c) _ _ (run_length (call_plan c) m _) (keeps c m q c.allowed.stores)
beyond_unwritten m (cut c j) = by (draw_verdict c m) refl
  where
    by : (v : Verdict) → draw_verdict c m ≡ v
        → drop (area c) (leave_cut (call_plan c) m (comes v c.allowed.stores) j).picture ≡ drop (area c) m.picture
    by (refuse a k) q = refl
    by accept q =
        rw (cut_least (call_plan c) m (comes accept c.allowed.stores) c.allowed.stores j refl)
        (drop_same (area c) _ _ (run_length (call_plan c) m _) (keeps c m q (min j c.allowed.stores)))

-- ---- none is read

-- the oldest picture is tested and read in a film with true colour alone
short_same : (deep : Bool) (n : ℕ) (a b : List ℕ) → take n a ≡ take n b → is_oldest_short deep (length a) n ≡ is_oldest_short deep (length b) n
short_same false n a b e = refl
short_same true n a b e = take_short n a b e

agree_to : (n : ℕ) (a b : List ℕ) → n ≤ length a → take n a ≡ take n b → AgreeTo n a b
agree_to n a b l e = take_agree n a b l (omega (arith, length-take n a, length-take n b, ap length e)) e

oldest_agrees : (deep : Bool) (n : ℕ) (a b : List ℕ) → OldestLong deep (length a) n → take n a ≡ take n b → (x y : List ℕ) → AgreeTo n x y → AgreeTo n (cond deep a x) (cond deep b y)
oldest_agrees false n a b l e x y z = z
oldest_agrees true n a b l e x y z = agree_to n a b l e

module _ (c : Request) (older : Older) (m m' : Memory) (f : take (area c) c.front ≡ take (area c) older.last) (o : take (area c) c.oldest ≡ take (area c) older.oldest) (s : SameTo (area c) m m') where
  same_verdict : draw_verdict c m ≡ draw_verdict (showing c older) m'
  unfolding call_verdict_in
  same_verdict =
      rw (
        take_short (area c) c.front older.last f,
        short_same c.deep (area c) c.oldest older.oldest o,
        take_short (area c) m.picture m'.picture s.picture,
        s.place,
      ) refl

  drawn_both : (n : ℕ) → draw_verdict c m ≡ accept
      → Both (area c) (after (call_plan c) m n) (after (plan_over (packet_of c) older) m' n)
  drawn_both n e =
      let r = call c m e in
      subst (λ (k : ℕ). Both (area c) (after (call_plan c) m n) (after (plan_over (packet_of c) older) (memory m'.picture k) n))
      s.place
      (both c m e older m'.picture n
      (agree_to (area c) c.front older.last r.front_room f)
      (oldest_agrees c.deep (area c) c.oldest older.oldest (tests c m e).1.oldest_long o)
      (agree_to (area c) m.picture m'.picture r.back_room s.picture))

  same_drawn : (n : ℕ) → draw_verdict c m ≡ accept → SameTo (area c) (after (call_plan c) m n) (after (plan_over (packet_of c) older) m' n)
  same_drawn n e = let g = drawn_both n e in record { picture = agree_take (area c) _ _ g.pictures; place = g.place }

  same_calls : (v : Verdict) → draw_verdict c m ≡ v → SameCalls (area c) c older m m'
  unfolding comes leave leave_cut outcome count happens
  same_calls (refuse n k) e =
      let e' = sym same_verdict ∙ e in
      record { tells = rw (e, e') refl; leaves = rw (e, e') s; cuts = λ j. rw (e, e') s }
  same_calls accept e =
      let e' = sym same_verdict ∙ e in
      let g = drawn_both c.allowed.stores e in
      record {
        tells = rw (e, e', g.place, s.place) refl;
        leaves = rw (e, e') (same_drawn c.allowed.stores e);
        cuts =
            λ j.
            rw (e, e')
            (rw (cut_least (call_plan c) m (comes accept c.allowed.stores) c.allowed.stores j refl, cut_least (plan_over (packet_of c) older) m' (comes accept c.allowed.stores) c.allowed.stores j refl)
            (same_drawn (min j c.allowed.stores) e));
      }

pub beyond_unread : (c : Request) → Unread c
beyond_unread c older m m' f o s = same_calls c older m m' f o s (draw_verdict c m) refl
