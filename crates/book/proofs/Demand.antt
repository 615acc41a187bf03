-- Demand 3 of the drawing call: `demand_3`. The theorem about any drawing (`as_booked` of the crate `stores`) at the drawing of an accepted packet,
-- which is lawful (proofs/Lawful). Its hypotheses: an accepted packet with its map and size and pictures long enough (`Given`), that along the list
-- only refused calls bring another packet, map, size or older picture (`OnlyRefusedDiffer`), and that each cut point is one of its call (`CutsWithin`).
-- Assumes nothing.
use mathlib.Core.Path.{◌≡◌, refl, ◌∙◌}
use mathlib.Core.Logic.{◌⊎◌}
use mathlib.Core.Bool.{Bool}
use mathlib.Core.List.{List, [], ◌∷◌}
use Prim.Native.Nat.{ℕ, ◌≤◌, ◌<◌}
use native.Mathlib.Omega.{arith}
use lib.ListN.{length}
use Rattle.refusal.specs.Number.{Verdict, accept, refuse}
use Rattle.packet.specs.Rows.{touched}
use Rattle.packet.specs.Packet.{packet_in, blocks, kind}
use Rattle.packet.specs.Asked.{Sized}
use Rattle.packet.proofs.Sizes.{is_size, is_sized}
use Rattle.packet.proofs.Exactly.{accepts_more}
use Rattle.stores.specs.Stores.{Memory, memory, Lawful}
use Rattle.stores.specs.Calls.{allowed, whole, step, reply, Event, returns, cut, call_of, happens, Returning, Each, Fair}
use Rattle.stores.proofs.Calls.{as_booked}
use Rattle.paint.proofs.Counts.{count_few}
use Rattle.draw.specs.Drawing.{size_at, plan_over}
use Rattle.draw.specs.Call.{Request, packet_of, older_of, call_plan, draw_verdict, comes, calling}
use Rattle.draw.proofs.Exactly.{drawn_exactly}
use Rattle.book.specs.Demand.{Same, OnlyRefusedDiffer, CutsWithin, Given, leaves_at, Progresses, Demand3}
use Rattle.book.proofs.Rows.{same_rows, list_unchanged}
use Rattle.book.proofs.Lawful.{plan_lawful}

-- ---- lists

pub each_as : (P Q R : Memory → Event Request → Type 0) → ((m : Memory) (e : Event Request) → P m e → Q m e → R m e) → (m : Memory) (es : List (Event Request))
    → Each calling P m es → Each calling Q m es → Each calling R m es
unfolding Each
each_as P Q R f m [] p q = tt
each_as P Q R f m (e ∷ es) p q = (f m e p.0 q.0, each_as P Q R f (happens calling m e) es p.1 q.1)

-- ---- calls

-- a call that is allowed stores is not refused, and has its own allowance
comes_back : (v : Verdict) (n n' : ℕ) → comes v n ≡ allowed n' → v ≡ accept
unfolding comes
comes_back accept n n' e = refl
comes_back (refuse a k) n n' e = cc

comes_on : (v : Verdict) (n : ℕ) → v ≡ accept → comes v n ≡ allowed n
unfolding comes
comes_on v n e = rw e

same_plan : (d d' : Bool) (c c' r r' : ℕ) (m m' b b' f f' o o' : List ℕ) → d ≡ d' → c ≡ c' → r ≡ r' → m ≡ m' → b ≡ b' → f ≡ f' → o ≡ o'
    → plan_over (packet_in d c r m b) (record { last = f; oldest = o }) ≡ plan_over (packet_in d' c' r' m' b') (record { last = f'; oldest = o' })
same_plan d d' c c' r r' m m' b b' f f' o o' x p q s t u v = rw (x, p, q, s, t, u, v) refl

plan_same : (r c : Request) → Same r c → call_plan r ≡ call_plan c
plan_same r c s = same_plan _ _ _ _ _ _ _ _ _ _ _ _ _ _ s.deep s.columns s.rows s.map s.bytes s.front s.oldest

fair : (c : Request) (m : Memory) (es : List (Event Request)) → OnlyRefusedDiffer c m es → CutsWithin m es
    → Fair calling (call_plan c) (touched (packet_of c)) m es
unfolding OnlyRefusedDiffer Fair
fair c m es o w =
    each_as _ _ _
    (λ m e f g. (
      λ n q.
          let s = f (comes_back (draw_verdict (call_of e) m) (call_of e).allowed.stores n q) in
          (plan_same (call_of e) c s, same_rows (call_of e) c s),
      g,
    )) m es o w

-- ---- the packet

module _ (c : Request) (first : List ℕ) (g : Given c first) where
  pub is : Sized (packet_of c)
  is = is_sized (packet_of c) (is_size c.columns c.rows g.accepted.wide g.accepted.high) g.accepted.mapped

  pub lawful : Lawful (call_plan c) (length first)
  lawful = plan_lawful (packet_of c) is g.accepted.drawn (older_of c) (length first) g.back_long

  at_most_64 : (k : ℕ) → k < blocks (packet_of c) → size_at (packet_of c) k ≤ 64
  unfolding size_at
  at_most_64 k h = count_few (kind (packet_of c) k)

  -- a call that brings what c brings and may leave over no less, at a place that is not too high, on a picture that is as long as the first
  takes : (m : Memory) (r : Request) → m.place ≤ blocks (packet_of c) → length m.picture ≡ length first → Same r c → c.allowed.spare ≤ r.allowed.spare → draw_verdict r m ≡ accept
  takes m r at l s more =
      rw (s.deep, s.columns, s.rows, s.map, s.bytes, s.front, s.oldest)
      ((drawn_exactly c.deep r.allowed.spare c.columns c.rows c.map c.bytes (length c.front) (length c.oldest) (length m.picture) m.place).1
      (record {
        accepted = accepts_more c.deep c.allowed.spare r.allowed.spare c.columns c.rows c.map c.bytes more g.accepted;
        front_long = g.front_long;
        oldest_long = g.oldest_long;
        back_long = rw l g.back_long;
        within = at;
      }))

  -- an event of which `goes_on` of the book is known
  goes_on : (m : Memory) (e : Event Request)
      → Returning (λ m r. (n : ℕ) → comes (draw_verdict r m) r.allowed.stores ≡ allowed n → 64 < n → (m.place < (step calling m r).place) ⊎ ((reply calling m r).answer ≡ whole)) m e
      → Returning Progresses m e
  unfolding Returning
  goes_on m (returns r) f = λ q l. f r.allowed.stores (comes_on (draw_verdict r m) r.allowed.stores q) (omega arith)
  goes_on m (cut r j) f = tt

  shows : (m : Memory) (e : Event Request) → (leaves_at m e).shown ≡ (call_of e).front
  unfolding leaves_at call_of
  shows m (returns r) = refl
  shows m (cut r j) = refl

  keeps_oldest : (m : Memory) (e : Event Request) → (leaves_at m e).oldest ≡ (call_of e).oldest
  unfolding leaves_at call_of
  keeps_oldest m (returns r) = refl
  keeps_oldest m (cut r j) = refl

  pub demand_3 : (es : List (Event Request)) → OnlyRefusedDiffer c (memory first 0) es → CutsWithin (memory first 0) es → Demand3 c first es
  unfolding OnlyRefusedDiffer
  demand_3 es o w =
      let m = memory first 0 in
      let b = as_booked calling (call_plan c) (touched (packet_of c)) first lawful es (fair c m es o w) in
      record {
        booked = b;
        accepts = each_as _ _ _ (λ m e at l. takes m (call_of e) at.0 l.0) m es b.at_most b.keeps_length;
        shown = each_as _ _ _ (λ m e f _. (shows m e, λ q. shows m e ∙ (f q).front)) m es o o;
        oldest = each_as _ _ _ (λ m e f _. (keeps_oldest m e, λ q. keeps_oldest m e ∙ (f q).oldest)) m es o o;
        outside = list_unchanged c m es o;
        progress = each_as _ _ _ (λ m e f _. goes_on m e f) m es (b.goes_on 64 at_most_64) o;
        finishes = b.ends 64 at_most_64;
      }
