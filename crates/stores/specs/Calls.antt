-- Lists of calls, and the claim of demand 3 about them (`AsBooked`). What a call brings is any type C: a `Calling` says which plan a call of C draws,
-- which rows it touches, told in any type T, and whether it is refused at the memory that it finds, with an answer of any type R, or allowed a number
-- of stores.
-- A call of the list returns, or it is cut: document 01's "cut point j of a call, from 0 to the stores it would make".
use Rattle.std.specs.Prelude.{◌≡◌, ◌⊎◌, Bool, true, false, cond, List, [], ◌∷◌, ◌++◌, ℕ, ◌+◌, ◌≤◌, ◌<◌, eqb, ltb, length, take}
use Rattle.stores.specs.Stores.{Plan, due, Memory, memory, run, after, count, final, book, Sized}

-- ---- one call

-- what a call comes to
pub data Call (R : Type 0) : Type 0 where
  refused : R → Call R
  allowed : ℕ → Call R

-- whole: document 01's "whole", the place is then the block count. unfinished: it is not. refusal: the answer that the call was refused with.
pub data Answer (R : Type 0) : Type 0 where
  whole : Answer R
  unfinished : Answer R
  refusal : R → Answer R

-- the answer, the number of stores made, and the rows that the drawing touches (document 02, W2: "the answers in demand 3's book pass it on")
pub record Outcome (R T : Type 0) : Type 0 where
  pub answer : Answer R
  pub count : ℕ
  pub rows : T

module _ {R : Type 0} where
  -- the answer by the test "is the place the block count?"
  unfoldable pub answered : Bool → Answer R
  answered true = whole
  answered false = unfinished

  -- the memory that a call of plan d leaves; a refused call makes no store
  unfoldable pub leave : Plan → Memory → Call R → Memory
  leave d m (refused r) = m
  leave d m (allowed n) = after d m n

  -- its answer, count and rows: t, those of the whole drawing whatever the place and the count; none where it is refused
  unfoldable pub outcome : {T : Type 0} → Plan → T → T → Memory → Call R → Outcome R T
  outcome d t none m (refused r) = record { answer = refusal r; count = 0; rows = none }
  outcome d t none m (allowed n) = record { answer = answered (eqb (after d m n).place d.blocks); count = count d m n; rows = t }

  -- the memory that it leaves where it is cut after j stores: of the stores that it would make, the first j are made and the others not at all
  unfoldable pub leave_cut : Plan → Memory → Call R → ℕ → Memory
  leave_cut d m (refused r) j = m
  leave_cut d m (allowed n) j = run d m (take j (take n (due d m.place)))

  -- what the book is fed for it: a call allowed j
  unfoldable pub fed : ℕ → Call R → Call R
  fed j (refused r) = refused r
  fed j (allowed n) = allowed j

  -- 1 for a call allowed more than p stores, else 0
  unfoldable pub ample : ℕ → Call R → ℕ
  ample p (refused r) = 0
  ample p (allowed n) = cond (ltb p n) 1 0

-- ---- lists of calls

-- plan c: what the call c draws. rows c: the rows that it touches. none: what a refused call tells of rows. meets c m: what c comes to at the memory m.
pub record Calling (C R T : Type 0) : Type 0 where
  pub plan : C → Plan
  pub rows : C → T
  pub none : T
  pub meets : C → Memory → Call R

-- a call that returns with its answer, or one that is cut after j stores and gives none
pub data Event (C : Type 0) : Type 0 where
  returns : C → Event C
  cut : C → ℕ → Event C

-- the call of an event
unfoldable pub call_of : {C : Type 0} → Event C → C
call_of (returns c) = c
call_of (cut c j) = c

-- P holds of an event where it is a call that returns
unfoldable pub Returning : {C : Type 0} → (Memory → C → Type 0) → Memory → Event C → Type 0
Returning P m (returns c) = P m c
Returning P m (cut c j) = Unit

module _ {C R T : Type 0} where
  -- a call c that finds the memory m: the memory that it leaves
  abbrev pub step : Calling C R T → Memory → C → Memory
  step s m c = leave (s.plan c) m (s.meets c m)

  -- and its answer, count and rows
  abbrev pub reply : Calling C R T → Memory → C → Outcome R T
  reply s m c = outcome (s.plan c) (s.rows c) s.none m (s.meets c m)

  -- the memory that an event leaves
  unfoldable pub happens : Calling C R T → Memory → Event C → Memory
  happens s m (returns c) = step s m c
  happens s m (cut c j) = leave_cut (s.plan c) m (s.meets c m) j

  -- the answer, count and rows that it gives; a cut call gives none
  unfoldable pub says : Calling C R T → Memory → Event C → List (Outcome R T)
  says s m (returns c) = reply s m c ∷ []
  says s m (cut c j) = []

  -- 1 for a call that returns, is not refused and is allowed more than p stores; a cut call does not count
  unfoldable pub ample_at : Calling C R T → ℕ → Memory → Event C → ℕ
  ample_at s p m (returns c) = ample p (s.meets c m)
  ample_at s p m (cut c j) = 0

  -- a cut point is at most the number of stores that the call would make
  unfoldable pub CutWithin : Calling C R T → Memory → Event C → Type 0
  CutWithin s m (returns c) = Unit
  CutWithin s m (cut c j) = j ≤ (reply s m c).count

  -- the memory after a list of events
  unfoldable pub finally : Calling C R T → Memory → List (Event C) → Memory
  finally s m [] = m
  finally s m (e ∷ es) = finally s (happens s m e) es

  -- the answer, count and rows of each call that returns
  unfoldable pub outcomes : Calling C R T → Memory → List (Event C) → List (Outcome R T)
  outcomes s m [] = []
  outcomes s m (e ∷ es) = says s m e ++ outcomes s (happens s m e) es

  -- how many calls return, are not refused and are allowed more than p stores
  unfoldable pub ample_calls : Calling C R T → ℕ → Memory → List (Event C) → ℕ
  ample_calls s p m [] = 0
  ample_calls s p m (e ∷ es) = ample_at s p m e + ample_calls s p (happens s m e) es

  -- P holds of each event and the memory that it finds
  unfoldable pub Each : Calling C R T → (Memory → Event C → Type 0) → Memory → List (Event C) → Type 0
  Each s P m [] = Unit
  Each s P m (e ∷ es) = P m e × Each s P (happens s m e) es

  -- each call that is not refused at the memory that it finds has the plan d and the rows t, and each cut point is one of its call; of the plan and the
  -- rows of a refused call nothing is asked
  unfoldable pub Fair : Calling C R T → Plan → T → Memory → List (Event C) → Type 0
  Fair s d t m es =
      Each s (λ m e. ((n : ℕ) → s.meets (call_of e) m ≡ allowed n → (s.plan (call_of e) ≡ d) × (s.rows (call_of e) ≡ t)) × CutWithin s m e) m es

-- ---- the book

-- The same calls at the book of d, which touches the rows t: a call that is not refused makes the book's stores and is told the book's rows, and a
-- call cut at j is fed as one allowed j.
module _ {C R T : Type 0} (s : Calling C R T) (d : Plan) (t : T) (first : List ℕ) where
  abbrev pub booked : Calling C R T
  booked = record { plan = λ c. book d first; rows = λ c. t; none = s.none; meets = s.meets }

  unfoldable pub book_happens : Memory → Event C → Memory
  book_happens m (returns c) = step booked m c
  book_happens m (cut c j) = leave (book d first) m (fed j (s.meets c m))

  unfoldable pub book_finally : Memory → List (Event C) → Memory
  book_finally m [] = m
  book_finally m (e ∷ es) = book_finally (book_happens m e) es

  unfoldable pub book_outcomes : Memory → List (Event C) → List (Outcome R T)
  book_outcomes m [] = []
  book_outcomes m (e ∷ es) = says booked m e ++ book_outcomes (book_happens m e) es

-- ---- demand 3

-- The claim about a list of events es that finds the picture first and the place 0, where d is the plan of the calls that are not refused, and t are
-- the rows that it touches.
pub record AsBooked {C R T : Type 0} (s : Calling C R T) (d : Plan) (t : T) (first : List ℕ) (es : List (Event C)) : Type 0 where
  -- the picture drawn on and the place are then the book's
  pub leaves : finally s (memory first 0) es ≡ book_finally s d t first (memory first 0) es
  -- every answer, every count and all rows told are the book's
  pub answers : outcomes s (memory first 0) es ≡ book_outcomes s d t first (memory first 0) es
  -- a call that answers "whole" has left the picture of demand 2
  pub whole_is_final : Each s (Returning (λ m c. (reply s m c).answer ≡ whole → (step s m c).picture ≡ final d first)) (memory first 0) es
  -- a call that returns, is not refused and is allowed more than p stores, where no block stores more than p pixels, raises the place or answers "whole"
  pub goes_on : (p : ℕ) → Sized d p
      → Each s (Returning (λ m c. (n : ℕ) → s.meets c m ≡ allowed n → p < n → (m.place < (step s m c).place) ⊎ ((reply s m c).answer ≡ whole))) (memory first 0) es
  -- each event finds a place that does not pass the block count, and leaves one
  pub at_most : Each s (λ m e. (m.place ≤ d.blocks) × ((happens s m e).place ≤ d.blocks)) (memory first 0) es
  -- the picture keeps its length
  pub keeps_length : Each s (λ m e. (length m.picture ≡ length first) × (length (happens s m e).picture ≡ length first)) (memory first 0) es
  -- as many such calls as there are blocks finish the picture, whatever refused calls, cut calls and calls allowed less stand between
  pub ends : (p : ℕ) → Sized d p → d.blocks ≤ ample_calls s p (memory first 0) es
      → finally s (memory first 0) es ≡ memory (final d first) d.blocks
