-- What a drawing call leaves and says, by its verdict.
-- Assumes nothing.
use mathlib.Core.Path.{◌≡◌, refl, sym, ap}
use mathlib.Core.List.{List}
use Prim.Native.Nat.{ℕ}
use borrow.Author.Tests.{eq-eqb, ne_eqb}
use lib.Dec.{eqb}
use Rattle.refusal.specs.Number.{Verdict, accept, refuse}
use Rattle.std.specs.Prelude.{Option, None}
use Rattle.packet.specs.declared.Rows.{Rows}
use Rattle.packet.specs.Packet.{blocks}
use Rattle.packet.specs.Rows.{touched}
use Rattle.stores.specs.Stores.{Plan, Memory, memory}
use Rattle.stores.specs.Calls.{Call, allowed, refused, whole, unfinished, refusal, answered, outcome}
use Rattle.stores.specs.Loop.{Called}
use Rattle.stores.proofs.Loop.{refused_leaves, refused_answers, called_leaves}
use Rattle.draw.specs.Call.{Request, packet_of, call_plan, draw_verdict, Reason, reason, comes, word_pictures, leaves, report, reporting, answering}

comes_allowed : (v : Verdict) (n : ℕ) → v ≡ accept → comes v n ≡ allowed n
unfolding comes
comes_allowed v n e = rw e

comes_refused : (v : Verdict) (n a k : ℕ) → v ≡ refuse a k → comes v n ≡ refused (reason a k)
unfolding comes
comes_refused v n a k e = rw e

-- ---- the answer

-- by the place that the stores leave
answers : (d : Plan) (m : Memory) (v : Call Reason) (n : ℕ) (b : List ℕ) (k j : ℕ) (t : Option Rows) → Called d m n b k j → v ≡ allowed n
    → reporting (answered (eqb k d.blocks)) j t ≡ outcome d t None m v
unfolding outcome
answers d m v n b k j t h e = rw (e, ← h.counts, ← h.leaves) refl

module _ (n k j : ℕ) (t : Option Rows) where
  pub answers_whole : k ≡ n → reporting whole j t ≡ answering n k j t
  unfolding answered
  answers_whole e = rw (eq-eqb k n e)

  pub answers_unfinished : (k ≡ n → ⊥) → reporting unfinished j t ≡ answering n k j t
  unfolding answered
  answers_unfinished e = rw (ne_eqb k n e)

-- ---- a call

module _ (c : Request) (m : Memory) where
  pub says_refused : (a k : ℕ) → refuse a k ≡ draw_verdict c m
      → (word_pictures c.front c.oldest m ≡ leaves c m) × (reporting (refusal (reason a k)) 0 None ≡ report m c)
  says_refused a k e =
      let q = comes_refused (draw_verdict c m) c.allowed.stores a k (sym e) in
      (ap (word_pictures c.front c.oldest) (refused_leaves (call_plan c) m _ (reason a k) q), refused_answers (call_plan c) m _ (touched (packet_of c)) None (reason a k) q)

  -- the loop's stores, with the answer by the place that they leave
  pub says_made : (b : List ℕ) (k j : ℕ) (t : Option Rows) → Called (call_plan c) m c.allowed.stores b k j → accept ≡ draw_verdict c m → t ≡ touched (packet_of c)
      → (word_pictures c.front c.oldest (memory b k) ≡ leaves c m) × (answering (blocks (packet_of c)) k j t ≡ report m c)
  says_made b k j t h e r =
      let d = call_plan c in
      let q = comes_allowed (draw_verdict c m) c.allowed.stores (sym e) in
      (ap (word_pictures c.front c.oldest) (called_leaves d m _ c.allowed.stores b k j h q), rw r (answers d m _ c.allowed.stores b k j (touched (packet_of c)) h q))
