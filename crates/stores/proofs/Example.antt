-- The definitions computed, and the theorem applied, for a small plan: two blocks of two pixels. Block 0 is block 1 plus 1, read before block 1 is
-- drawn; block 1 is block 0 plus 10, read after block 0 is drawn. The calls: one that stops in block 0, one that is cut in block 1, a refused one
-- that brings another plan, one that ends the drawing, and one after the end.
use mathlib.Core.Path.{◌≡◌, refl, ap}
use mathlib.Core.List.{List, [], ◌∷◌}
use Prim.Native.Nat.{ℕ, zero, suc, ◌+◌, ◌-◌, ◌*◌}
use native.Mathlib.Omega.{arith}
use lib.ListN.{get_or}
use Rattle.stores.specs.Stores.{Plan, pixels, stores, following, Memory, memory, apply, run, first_pixels, after, count, stage, final, Own, Lawful}
use Rattle.stores.specs.Calls.{Call, refused, allowed, Answer, whole, unfinished, refusal, Outcome, answered, leave, outcome, leave_cut, fed, Calling, Event, returns, cut, call_of, happens, says, CutWithin, finally, outcomes, Each, Fair, book_happens, book_finally, AsBooked}
use Rattle.stores.proofs.Calls.{as_booked}

abbrev across : ℕ → ℕ → List ℕ → ℕ
across zero i b = get_or b (2 + i) 0 + 1
across (suc k) i b = get_or b i 0 + 10

abbrev two : Plan
two = record { blocks = 2; size = λ k. 2; target = λ k i. k * 2 + i; value = across }

abbrev other : Plan
other = record { blocks = 7; size = λ k. 1; target = λ k i. k; value = λ k i b. 0 }

-- draw n: the plan two, allowed n stores. stray: another plan, refused with answer 9.
data Ask : Type 0 where
  draw : ℕ → Ask
  stray : Ask

abbrev plan_of : Ask → Plan
plan_of (draw n) = two
plan_of stray = other

abbrev met : Ask → Memory → Call ℕ
met (draw n) m = allowed n
met stray m = refused 9

-- the last block that a plan touches; 99 where a call is refused
abbrev asked : Calling Ask ℕ ℕ
asked = record { plan = plan_of; rows = λ a. (plan_of a).blocks - 1; none = 99; meets = met }

abbrev asks : List (Event Ask)
asks = returns (draw 1) ∷ cut (draw 100) 4 ∷ returns stray ∷ returns (draw 100) ∷ returns (draw 5) ∷ []

-- the memory that the calls find
abbrev found : Memory
found = memory (1 ∷ 2 ∷ 3 ∷ 4 ∷ []) 0

abbrev gives : Answer ℕ → ℕ → ℕ → Outcome ℕ ℕ
gives a n t = record { answer = a; count = n; rows = t }

-- ---- computed

the_final : final two found.picture ≡ 4 ∷ 5 ∷ 14 ∷ 15 ∷ []
unfolding stage first_pixels pixels run apply
the_final = refl

the_outcomes : outcomes asked found asks ≡ gives unfinished 1 1 ∷ gives (refusal 9) 0 99 ∷ gives whole 3 1 ∷ gives whole 0 1 ∷ []
unfolding outcomes happens says outcome answered leave leave_cut after count pixels stores following run apply
the_outcomes = refl

-- after the cut call block 0 is drawn, and one pixel of block 1
half_way : finally asked found (returns (draw 1) ∷ cut (draw 100) 4 ∷ []) ≡ memory (4 ∷ 5 ∷ 14 ∷ 4 ∷ []) 1
unfolding finally happens leave leave_cut after pixels stores following run apply
half_way = refl

the_memory : finally asked found asks ≡ memory (4 ∷ 5 ∷ 14 ∷ 15 ∷ []) 2
unfolding finally happens leave leave_cut after pixels stores following run apply
the_memory = refl

the_book : book_finally asked two 1 found.picture found (returns (draw 1) ∷ cut (draw 100) 4 ∷ []) ≡ memory (4 ∷ 5 ∷ 14 ∷ 4 ∷ []) 1
unfolding book_finally book_happens leave fed after stage first_pixels pixels stores following run apply
the_book = refl

-- ---- the theorem's hypotheses hold

own : (k : ℕ) → Own two 4 k
own zero i hi a b la lb f = ap (λ (x : ℕ). x + 1) (f (2 + i) (λ j hj e. omega arith))
own (suc k) i hi a b la lb f = ap (λ (x : ℕ). x + 10) (f i (λ j hj e. omega arith))

lawful : Lawful two 4
lawful =
    record {
      distinct = λ k k' i i' hk hk' hi hi' e. omega arith;
      inside = λ k i hk hi. omega arith;
      own = λ k hk. own k;
    }

same : (m n : ℕ) → ◌≡◌ {A = Call ℕ} (allowed m) (allowed n) → (two ≡ two) × (◌≡◌ {A = ℕ} 1 1)
same m n e = (refl, refl)

never : (n : ℕ) → ◌≡◌ {A = Call ℕ} (refused 9) (allowed n) → (other ≡ two) × (◌≡◌ {A = ℕ} 6 1)
never n e = let z : ◌≡◌ {A = ℕ} 0 1 = cc in absurd (let y : ⊥ = omega arith in y)

fair : Fair asked two 1 found asks
unfolding Fair Each call_of happens CutWithin leave leave_cut outcome after count pixels stores following run apply
fair = ((same _, tt), ((same _, omega arith), ((never, tt), ((same _, tt), ((same _, tt), tt)))))

booked_so : AsBooked asked two 1 found.picture asks
booked_so = as_booked _ _ _ _ lawful _ fair
