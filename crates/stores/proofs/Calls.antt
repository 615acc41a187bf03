-- Demand 3 for any drawing: a fair list of calls, begun at place 0, leaves, answers and tells what the book says (`as_booked`).
-- Each call is taken by what it comes to. A refused call changes nothing, whatever its plan; one that is allowed stores has the plan d, and
-- proofs/Recover says what it leaves. A cut call leaves what one allowed j leaves (`cut_allowed`). The list goes by recursion, with `Reached` of the
-- memory that each call finds.
use mathlib.Core.Path.{◌≡◌, refl, ap, ap₂, ◌∙◌}
use mathlib.Core.Logic.{◌⊎◌, inl, inr, ⊎_elim}
use mathlib.Core.Bool.{Bool, true, false, cond}
use mathlib.Core.List.{List, [], ◌∷◌, ◌++◌}
use Prim.Native.Nat.{ℕ, ◌+◌, ◌≤◌, ◌<◌, min}
use native.Mathlib.Omega.{arith}
use borrow.Author.Tests.{eqb-true, eq-eqb, ltb-true}
use lib.Dec.{eqb, ltb}
use lib.ListN.{length, length-take}
use lib.Seq.{take-take}
use Rattle.stores.specs.Stores.{Plan, due, Memory, memory, run, after, count, final, book, Sized, Lawful}
use Rattle.stores.specs.Calls.{Call, refused, allowed, Answer, whole, Outcome, answered, leave, outcome, leave_cut, fed, ample, Calling, Event, returns, cut, call_of, step, reply, happens, says, ample_at, Returning, CutWithin, finally, outcomes, Each, ample_calls, Fair, booked, book_happens, book_finally, book_outcomes, AsBooked}
use Rattle.stores.proofs.Recover.{Reached, reached_first, reached_final, going, rises}

-- ---- one call

answered_whole : {R : Type 0} (t : Bool) → ◌≡◌ {A = Answer R} (answered t) whole → t ≡ true
unfolding answered
answered_whole true e = refl
answered_whole false e = cc

-- a call of plan e with the rows u that comes to v at the memory m
record One {R T : Type 0} (d : Plan) (t none : T) (first : List ℕ) (e : Plan) (u : T) (m : Memory) (v : Call R) : Type 0 where
  same : leave e m v ≡ leave (book d first) m v
  said : outcome e u none m v ≡ outcome (book d first) t none m v
  reached : Reached d first (leave e m v)
  is_final : (outcome e u none m v).answer ≡ whole → (leave e m v).picture ≡ final d first
  advance : (p : ℕ) → Sized d p → (n : ℕ) → v ≡ allowed n → p < n → (m.place < (leave e m v).place) ⊎ ((outcome e u none m v).answer ≡ whole)
  climb : (p : ℕ) → Sized d p → min d.blocks (m.place + ample p v) ≤ (leave e m v).place

module _ {R T : Type 0} (d : Plan) (t none : T) (first : List ℕ) (laws : Lawful d (length first)) (m : Memory) (r : Reached d first m) where
  one_refused : (e : Plan) (u : T) (x : R) → One d t none first e u m (refused x)
  unfolding leave outcome ample
  one_refused e u x =
      record {
        same = refl;
        said = refl;
        reached = r;
        is_final = λ q. cc;
        advance = λ p h n q l. let z : ◌≡◌ {A = ℕ} 0 1 = cc in absurd (let y : ⊥ = omega arith in y);
        climb = λ p h. omega arith;
      }

  one_allowed : (n : ℕ) → One {R = R} d t none first d t m (allowed n)
  unfolding leave outcome ample count answered
  one_allowed n =
      let g = going d first laws m n r in
      record {
        same = g.same;
        said = ap (λ (x : Memory). record { answer = answered (eqb x.place d.blocks); count = count d m n; rows = t }) g.same;
        reached = g.reached;
        is_final = λ q. ap (λ (x : Memory). x.picture) (reached_final d first (after d m n) g.reached (eqb-true _ _ (answered_whole _ q)));
        advance =
            λ p h n' q l.
            let z : n ≡ n' = cc in
            ⊎_elim (λ x. inl x) (λ x. inr (ap answered (eq-eqb _ _ x))) (rises d first laws m r n p h (omega arith));
        climb = λ p h. by p h (ltb p n) refl;
      }
    where
      by : (p : ℕ) → Sized d p → (t : Bool) → ltb p n ≡ t → min d.blocks (m.place + cond t 1 0) ≤ (after d m n).place
      by p h true q = ⊎_elim (λ l. omega arith) (λ l. omega arith) (rises d first laws m r n p h (ltb-true p n q))
      by p h false q = omega (arith, (going d first laws m n r).up)

  one : (e : Plan) (u : T) (v : Call R) → ((n : ℕ) → v ≡ allowed n → (e ≡ d) × (u ≡ t)) → One d t none first e u m v
  one e u (refused x) f = one_refused e u x
  one e u (allowed n) f = rw ((f n refl).0, (f n refl).1) (one_allowed n)

-- a call cut after j of the stores that it would make leaves what a call allowed j leaves
pub cut_allowed : {R T : Type 0} (d : Plan) (t none : T) (m : Memory) (v : Call R) (j : ℕ) → j ≤ (outcome d t none m v).count
    → leave_cut d m v j ≡ leave d m (fed j v)
unfolding leave_cut leave fed outcome after count
cut_allowed d t none m (refused r) j h = refl
cut_allowed d t none m (allowed n) j h =
    let l = due d m.place in
    ap (run d m) (take-take j n l (omega (arith, length-take n l)))

fed_allowed : {R : Type 0} (v : Call R) (j n : ℕ) → fed j v ≡ allowed n → (n' : ℕ) × (v ≡ allowed n')
unfolding fed
fed_allowed (refused r) j n e = let z : ◌≡◌ {A = ℕ} 0 1 = cc in absurd (let y : ⊥ = omega arith in y)
fed_allowed (allowed n') j n e = (n', refl)

-- ---- a list of calls

module _ {C R T : Type 0} (s : Calling C R T) (d : Plan) (t : T) (first : List ℕ) (laws : Lawful d (length first)) where
  abbrev Final : Memory → C → Type 0
  Final m c = (reply s m c).answer ≡ whole → (step s m c).picture ≡ final d first

  abbrev GoesOn : ℕ → Memory → C → Type 0
  GoesOn p m c = (n : ℕ) → s.meets c m ≡ allowed n → p < n → (m.place < (step s m c).place) ⊎ ((reply s m c).answer ≡ whole)

  -- what holds of an event at the memory m
  record Happens (m : Memory) (e : Event C) : Type 0 where
    found : Reached d first m
    same : happens s m e ≡ book_happens s d t first m e
    said : says s m e ≡ says (booked s d t first) m e
    reached : Reached d first (happens s m e)
    is_final : Returning Final m e
    advance : (p : ℕ) → Sized d p → Returning (GoesOn p) m e
    climb : (p : ℕ) → Sized d p → min d.blocks (m.place + ample_at s p m e) ≤ (happens s m e).place

  -- what is asked of it
  abbrev Asked : Memory → Event C → Type 0
  Asked m e = ((n : ℕ) → s.meets (call_of e) m ≡ allowed n → (s.plan (call_of e) ≡ d) × (s.rows (call_of e) ≡ t)) × CutWithin s m e

  event : (m : Memory) → Reached d first m → (e : Event C) → Asked m e → Happens m e
  unfolding call_of happens book_happens says ample_at Returning CutWithin leave
  event m r (returns c) h =
      let x = one d t s.none first laws m r (s.plan c) (s.rows c) (s.meets c m) h.0 in
      record {
        found = r;
        same = x.same;
        said = ap (λ (o : Outcome R T). o ∷ []) x.said;
        reached = x.reached;
        is_final = x.is_final;
        advance = x.advance;
        climb = x.climb;
      }
  event m r (cut c j) h =
      let v = s.meets c m in
      let q = cut_allowed (s.plan c) (s.rows c) s.none m v j h.1 in
      let x = one d t s.none first laws m r (s.plan c) (s.rows c) (fed j v) (λ n e. let y = fed_allowed v j n e in h.0 y.0 y.1) in
      let up : m.place ≤ (leave (s.plan c) m (fed j v)).place = stays (fed j v) (λ n e. let y = fed_allowed v j n e in (h.0 y.0 y.1).0) in
      record {
        found = r;
        same = q ∙ x.same;
        said = refl;
        reached = rw q x.reached;
        is_final = tt;
        advance = λ p z. tt;
        climb = λ p z. rw q (omega (arith, up));
      }
    where
      -- the place never falls
      stays : (u : Call R) → ((n : ℕ) → u ≡ allowed n → s.plan c ≡ d) → m.place ≤ (leave (s.plan c) m u).place
      stays (refused a) f = omega arith
      stays (allowed n) f = rw (f n refl) (going d first laws m n r).up

  -- what holds of each of them holds along the list
  along : (P : Memory → Event C → Type 0) → ((m : Memory) (e : Event C) → Happens m e → P m e)
      → (es : List (Event C)) (m : Memory) → Reached d first m → Each s Asked m es → Each s P m es
  unfolding Each
  along P f [] m r h = tt
  along P f (e ∷ es) m r h = let x = event m r e h.0 in (f m e x, along P f es (happens s m e) x.reached h.1)

  same_finally : (es : List (Event C)) (m : Memory) → Reached d first m → Each s Asked m es → finally s m es ≡ book_finally s d t first m es
  unfolding Each finally book_finally
  same_finally [] m r h = refl
  same_finally (e ∷ es) m r h =
      let x = event m r e h.0 in
      same_finally es (happens s m e) x.reached h.1 ∙ ap (λ (y : Memory). book_finally s d t first y es) x.same

  same_outcomes : (es : List (Event C)) (m : Memory) → Reached d first m → Each s Asked m es → outcomes s m es ≡ book_outcomes s d t first m es
  unfolding Each outcomes book_outcomes
  same_outcomes [] m r h = refl
  same_outcomes (e ∷ es) m r h =
      let x = event m r e h.0 in
      ap₂ ◌++◌ x.said (same_outcomes es (happens s m e) x.reached h.1 ∙ ap (λ (y : Memory). book_outcomes s d t first y es) x.same)

  reached_finally : (es : List (Event C)) (m : Memory) → Reached d first m → Each s Asked m es → Reached d first (finally s m es)
  unfolding Each finally
  reached_finally [] m r h = r
  reached_finally (e ∷ es) m r h = let x = event m r e h.0 in reached_finally es (happens s m e) x.reached h.1

  climbs : (p : ℕ) → Sized d p → (es : List (Event C)) (m : Memory) → Reached d first m → Each s Asked m es
      → min d.blocks (m.place + ample_calls s p m es) ≤ (finally s m es).place
  unfolding Each finally ample_calls
  climbs p q [] m r h = omega arith
  climbs p q (e ∷ es) m r h =
      let x = event m r e h.0 in
      omega (arith, climbs p q es (happens s m e) x.reached h.1, x.climb p q)

  pub as_booked : (es : List (Event C)) → Fair s d t (memory first 0) es → AsBooked s d t first es
  unfolding Fair
  as_booked es h =
      let m = memory first 0 in
      let r = reached_first d first in
      let e = reached_finally es m r h in
      record {
        leaves = same_finally es m r h;
        answers = same_outcomes es m r h;
        whole_is_final = along _ (λ m c x. x.is_final) es m r h;
        goes_on = λ p q. along _ (λ m c x. x.advance p q) es m r h;
        at_most = along _ (λ m c x. (x.found.low, x.reached.low)) es m r h;
        keeps_length = along _ (λ m c x. (x.found.long, x.reached.long)) es m r h;
        ends = λ p q l. reached_final d first (finally s m es) e (omega (arith, e.low, climbs p q es m r h));
      }
