-- A drawing call that was cut, made again with enough stores, from any memory.
-- Assumes nothing.
use mathlib.Core.Path.{◌≡◌, refl, ap}
use Prim.Native.Nat.{ℕ, ◌≤◌}
use lib.Dec.{eqb}
use lib.ListN.{length, take}
use Rattle.refusal.specs.Number.{accept}
use Rattle.packet.proofs.Sizes.{is_size, is_sized}
use Rattle.packet.specs.Asked.{Sized}
use Rattle.stores.specs.Stores.{Plan, Memory, due, run, after}
use Rattle.stores.specs.Calls.{answered, leave, outcome, step, reply}
use Rattle.stores.proofs.Steps.{run_length, after_end, after_part, after_block, by_blocks}
use Rattle.stores.proofs.Recover.{cut_again}
use Rattle.draw.specs.Taken.{DrawAcceptsIn}
use Rattle.draw.specs.Call.{Request, packet_of, older_of, call_plan, draw_verdict, comes, calling, report}
use Rattle.draw.proofs.Exactly.{drawn_exactly}
use Rattle.book.proofs.Lawful.{plan_lawful, stores_few}
use Rattle.walk.specs.Play.{most}

-- the place never passes the block count
after_low : (d : Plan) (m : Memory) (n : ℕ) → m.place ≤ d.blocks → (after d m n).place ≤ d.blocks
after_low d m n h =
    by_blocks d (λ m n. m.place ≤ d.blocks → (after d m n).place ≤ d.blocks)
    (λ m n e l. rw (after_end d m n e) l)
    (λ b k n kb q l. rw (after_part d b k n kb q) l)
    (λ b k n kb q ih l. rw (after_block d b k n kb q) (ih kb)) m n h h

after_long : (d : Plan) (m : Memory) (n : ℕ) → length (after d m n).picture ≡ length m.picture
unfolding after
after_long d m n = run_length d m _

-- two memories at which a call comes to the same but for its count
pub record SameCall (q : Request) (m' m : Memory) : Type 0 where
  pub answer : (reply calling m' q).answer ≡ (reply calling m q).answer
  pub rows : (report m' q).rows ≡ (report m q).rows
  pub leaves : step calling m' q ≡ step calling m q

module _ (q : Request) (m : Memory) (big : q.allowed.stores ≡ most) (i : ℕ) where
  abbrev d : Plan
  d = call_plan q

  -- its tests at a memory
  abbrev Accepted : Memory → Type 0
  Accepted n =
      DrawAcceptsIn q.deep q.allowed.spare q.columns q.rows q.map q.bytes (length q.front) (length q.oldest) (length n.picture) n.place

  tests : (n : Memory) → (draw_verdict q n ≡ accept → Accepted n) × (Accepted n → draw_verdict q n ≡ accept)
  tests n =
      drawn_exactly q.deep q.allowed.spare q.columns q.rows q.map q.bytes (length q.front) (length q.oldest) (length n.picture) n.place

  pub drawn_again : draw_verdict q m ≡ accept → SameCall q (after d m i) m
  unfolding outcome leave comes answered
  drawn_again e =
      let x = (tests m).0 e in
      let a = x.accepted in
      let z : Sized (packet_of q) = is_sized (packet_of q) (is_size q.columns q.rows a.wide a.high) a.mapped in
      let laws = plan_lawful (packet_of q) z a.drawn (older_of q) (length m.picture) x.back_long in
      let v : draw_verdict q (after d m i) ≡ accept =
      (tests (after d m i)).1
      (record { accepted = a; front_long = x.front_long; oldest_long = x.oldest_long; back_long = rw (after_long d m i) x.back_long; within = after_low d m i x.within }) in
      let c : after d (after d m i) q.allowed.stores ≡ after d m q.allowed.stores =
      cut_again d (length m.picture) laws.own m refl x.within i q.allowed.stores (rw big (stores_few (packet_of q) z (older_of q) m.place x.within)) in
      record {
        answer = rw (v, e) (ap (λ (n : Memory). answered (eqb n.place d.blocks)) c);
        rows = rw (v, e);
        leaves = rw (v, e) c;
      }

  -- the same with the list written out
  pub listed_again : draw_verdict q m ≡ accept → SameCall q (run d m (take i (due d m.place))) m
  unfolding after
  listed_again e = drawn_again e
