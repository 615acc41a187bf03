-- Exported calls in a row. `steps_few`: the bound on steps. `separately`: `mve_open` and steps come to what `mve_begin` answers and leaves.
-- Assumes nothing.
use mathlib.Core.Path.{◌≡◌, refl, sym, ap, ◌∙◌, subst}
use mathlib.Core.Bool.{Bool, true, false, cond}
use mathlib.Core.List.{List, []}
use Prim.Native.Nat.{ℕ, zero, suc, ◌+◌, ◌*◌, ◌≤◌, ◌<◌}
use native.Mathlib.Decide.{ℕ_discrete}
use native.Mathlib.Omega.{arith}
use lib.Dec.{eqb}
use lib.ListN.{length}
use Rattle.std.specs.Prelude.{Option, None}
use Rattle.packet.specs.declared.Rows.{Rows}
use Rattle.packet.specs.Verdict.{default}
use Rattle.draw.specs.Call.{within}
use Rattle.sound.specs.Step.{enough}
use Rattle.state.specs.declared.State.{State}
use Rattle.opening.specs.Opening.{Opening, started, refuses, opening_of}
use Rattle.opcodes.specs.Opcodes.{Answer, Step, taken, whole, unfinished, ended, refused, quiet}
use Rattle.film.specs.Film.{words, Lent, lent, Outcome, step_of}
use Rattle.walk.specs.Walk.{Forward, Moves, GoesTo, Walked}
use Rattle.walk.specs.Walk as walk
use Rattle.walk.specs.Play.{most}
use Rattle.walk.proofs.Walk.{step_moves, walked_few}
use Rattle.begin.specs.Begin.{zeros, allowance, step_before, goes, stops, course_of, Beginning, sized, stopped, Came, came, until, to_size, kept_by}
use Rattle.begin.specs.Begin as begin
use Rattle.begin.proofs.Before.{ample}
use Rattle.begin.proofs.Until.{roomy, until_sized, until_goes, until_stops, goes_forward}
use Rattle.separate.specs.Separate.{Bytes}
use Rattle.separate.specs.Separate as apart
use Rattle.separate.proofs.Separate as law
use Rattle.mve_answers.specs.Answer.{of_rows}
use Rattle.mve_states.specs.State.{is_state, state_of, of_state}
use Rattle.mve_steps.specs.Step.{stepped, kind_in, state_in, of_answer, of_step, of_no_state, of_opening, of_beginning, spare_of}
use Rattle.mve_steps.proofs.Steps.{nowhere_zeros}
use Rattle.exports.specs.Calls.{open_answer, Exported, exported, of_outcome, step_answer, Opens, opening, of_came, begin_answer}
use Rattle.exports.specs.Boundary.{Crosses, OfAnswer}
use Rattle.exports.specs.Row.{Steps, none, more, Beside, Ample, step_beside, columns_in, Stepping, kept, Separately}
use Rattle.exports.specs.Row as row
use Rattle.exports.proofs.Boundary.{state_crosses, state_numbers, read_crosses}
use Rattle.exports.proofs.Steps.{Lawful, Good, step_lawful, step_crosses, first_crosses}

-- ---- a step over numbers that are a state's

step_of_lem : (film m : List ℕ) (allowed form : ℕ) (l : Lent) → is_state m ≡ true
    → step_answer film m allowed form l ≡ of_outcome m (step_of film (state_of m) (within allowed (spare_of form)) l)
unfolding step_answer
step_of_lem film m allowed form l t = rw t

-- of a state that crosses
step_at : (film : List ℕ) → Bytes film → (st : State) → Crosses film st → (allowed form : ℕ) (l : Lent)
    → step_answer film (of_state st) allowed form l ≡ of_outcome (of_state st) (step_of film st (within allowed (spare_of form)) l)
step_at film bytes st c allowed form l =
    step_of_lem film (of_state st) allowed form l (state_numbers film bytes st c)
    ∙ ap (λ (s : State). of_outcome (of_state st) (step_of film s (within allowed (spare_of form)) l)) (state_crosses film st c)

-- an answer that is not refused was to such numbers
unrefused : (film m : List ℕ) (allowed form : ℕ) (l : Lent) → kind_in (step_answer film m allowed form l).answer < 4 → is_state m ≡ true
unfolding step_answer
unrefused film m allowed form l = by (is_state m)
  where
    by : (b : Bool) → kind_in (cond b (of_outcome m (step_of film (state_of m) (within allowed (spare_of form)) l)) (exported of_no_state l)).answer < 4 → b ≡ true
    by true k = refl
    by false k = absurd (let y : ⊥ = omega arith in y)

-- ---- the bound on steps

goes_to : (film m : List ℕ) (a : Answer) (stores bytes : ℕ) (t : Option Rows) → kind_in (of_answer m a stores bytes t) ≤ 1 → OfAnswer film a
    → GoesTo a (state_of (state_in (of_answer m a stores bytes t)))
unfolding of_answer GoesTo OfAnswer
goes_to film m (taken s) stores bytes t k g = sym (state_crosses film s g)
goes_to film m (whole s) stores bytes t k g = sym (state_crosses film s g)
goes_to film m (unfinished s) stores bytes t k g = absurd (let y : ⊥ = omega arith in y)
goes_to film m (ended s) stores bytes t k g = absurd (let y : ⊥ = omega arith in y)
goes_to film m (refused i j) stores bytes t k g = absurd (let y : ⊥ = omega arith in y)

step_goes : (film s : List ℕ) (allowed form : ℕ) (l : Lent) → kind_in (step_answer film s allowed form l).answer ≤ 1
    → GoesTo (step_of film (state_of s) (within allowed (spare_of form)) l).step.answer (state_of (state_in (step_answer film s allowed form l).answer))
step_goes film s allowed form l k =
    let t = unrefused film s allowed form l (omega arith) in
    let x = (step_of film (state_of s) (within allowed (spare_of form)) l).step in
    let e = step_of_lem film s allowed form l t in
    subst (λ (y : Exported). GoesTo x.answer (state_of (state_in y.answer))) (sym e)
    (goes_to film s x.answer x.stores x.bytes x.rows (subst (λ (y : Exported). kind_in y.answer ≤ 1) e k)
    (step_crosses film (state_of s) (read_crosses film s t) (within allowed (spare_of form)) l))

pub steps_walked : {film : List ℕ} {n : ℕ} {m t : List ℕ} → Steps film n m t → Walked film n (state_of m) (state_of t)
steps_walked none = walk.none
steps_walked {film = film} (more {s = s} w allowed form l k e) =
    let x = (step_of film (state_of s) (within allowed (spare_of form)) l).step in
    walk.more (steps_walked w) (within allowed (spare_of form)) l
    (subst (λ (t : List ℕ). GoesTo x.answer (state_of t)) e (step_goes film s allowed form l k))

pub steps_few : {film : List ℕ} {n : ℕ} {m t : List ℕ} → Steps film n m t → 4 * n ≤ length film
steps_few w = walked_few (steps_walked w)

-- ---- a step's answer as numbers, by its kind

columns_of : (st : State) → columns_in (of_state st) ≡ st.columns
unfolding of_state
columns_of st = refl

record Refuses (x : Step) : Type 0 where
  number : ℕ
  block : ℕ
  same : x ≡ quiet (refused number block)

refuses_by : (film m : List ℕ) (a : Answer) (x : Step) → kind_in (of_answer m a x.stores x.bytes x.rows) ≡ 4 → Lawful film a x → Refuses x
unfolding of_answer Lawful
refuses_by film m (taken s) x k g = absurd (let y : ⊥ = omega arith in y)
refuses_by film m (whole s) x k g = absurd (let y : ⊥ = omega arith in y)
refuses_by film m (unfinished s) x k g = absurd (let y : ⊥ = omega arith in y)
refuses_by film m (ended s) x k g = absurd (let y : ⊥ = omega arith in y)
refuses_by film m (refused i j) x k g = record { number = i; block = j; same = g }

ends_by : (m : List ℕ) (a : Answer) (stores bytes : ℕ) (t : Option Rows) → kind_in (of_answer m a stores bytes t) ≡ 3 → course_of a ≡ stops 21 0
unfolding of_answer course_of
ends_by m (taken s) stores bytes t k = absurd (let y : ⊥ = omega arith in y)
ends_by m (whole s) stores bytes t k = absurd (let y : ⊥ = omega arith in y)
ends_by m (unfinished s) stores bytes t k = absurd (let y : ⊥ = omega arith in y)
ends_by m (ended s) stores bytes t k = refl
ends_by m (refused i j) stores bytes t k = absurd (let y : ⊥ = omega arith in y)

-- a step that goes on: where to
record On (film m : List ℕ) (a : Answer) (stores bytes : ℕ) (t : Option Rows) : Type 0 where
  next : State
  course : course_of a ≡ goes next
  state : state_in (of_answer m a stores bytes t) ≡ of_state next
  crosses : Crosses film next

on_by : (film : List ℕ) (st : State) (m : List ℕ) → m ≡ of_state st → (a : Answer) (stores bytes : ℕ) (t : Option Rows) → kind_in (of_answer m a stores bytes t) < 3 → OfAnswer film a → Moves (length film) st a
    → On film m a stores bytes t
unfolding of_answer course_of OfAnswer Moves
on_by film st m e (taken s) stores bytes t k g v = record { next = s; course = refl; state = refl; crosses = g }
on_by film st m e (whole s) stores bytes t k g v = record { next = s; course = refl; state = refl; crosses = g }
on_by film st m e (unfinished s) stores bytes t k g v = record { next = s; course = refl; state = e ∙ ap (λ (s : State). of_state s) (sym v); crosses = g }
on_by film st m e (ended s) stores bytes t k g v = absurd (let y : ⊥ = omega arith in y)
on_by film st m e (refused i j) stores bytes t k g v = absurd (let y : ⊥ = omega arith in y)

-- ---- steps over numbers are steps over states

abbrev besides : Beside → apart.Beside
besides x = record { first = x.first; second = x.second; room = x.room; words = x.words; allowed = within x.allowed (spare_of x.form) }

amply : (x : Beside) → Ample x → apart.Ample (besides x)
amply x big = record { room = big.room; stores = big.stores }

record Ends (film : List ℕ) (st : State) (palette : List ℕ) (place : ℕ) (o : Opens) : Type 0 where
  came : Came
  steps : apart.Stepping film st palette place came
  same : of_came came ≡ o

module _ (film : List ℕ) (bytes : Bytes film) (palette : List ℕ) (place : ℕ) (m : List ℕ) (st : State) (e : m ≡ of_state st) (c : Crosses film st) where
  there_ends : (columns_in m ≡ 0 → ⊥) → Ends film st palette place (opening (stepped 0 0 0 0 0 (of_rows None) m) palette place)
  unfolding of_beginning
  there_ends h =
      record {
        came = begin.came (sized st) palette place;
        steps = apart.there (λ z. h (ap (λ (m : List ℕ). columns_in m) e ∙ columns_of st ∙ z));
        same = ap (λ (m : List ℕ). opening (stepped 0 0 0 0 0 (of_rows None) m) palette place) (sym e);
      }

  module _ (z : columns_in m ≡ 0) (x : Beside) (big : Ample x) where
    abbrev o : Outcome
    o = apart.step_beside (besides x) film st palette place

    unsized : st.columns ≡ 0
    unsized = sym (ap (λ (m : List ℕ). columns_in m) e ∙ columns_of st) ∙ z

    at_m : step_beside x film m palette place ≡ of_outcome m o
    at_m = subst (λ (m : List ℕ). step_beside x film m palette place ≡ of_outcome m o) (sym e) (step_at film bytes st c x.allowed x.form _)

    kind_m : kind_in (of_step m o.step) ≡ kind_in (step_beside x film m palette place).answer
    kind_m = sym (ap (λ (y : Exported). kind_in y.answer) at_m)

    lawful : Good film o.step
    lawful = step_lawful film st c (within x.allowed (spare_of x.form)) (lent palette x.first x.second place x.room x.words)

    refused_ends : kind_in (step_beside x film m palette place).answer ≡ 4 → Ends film st palette place (opening (step_beside x film m palette place).answer palette place)
    unfolding of_beginning of_answer course_of
    refused_ends k =
        let r = refuses_by film m o.step.answer o.step (kind_m ∙ k) lawful in
        record {
          came = begin.came (stopped r.number r.block st) palette place;
          steps = apart.ends unsized (besides x) (amply x big) (ap (λ (x : Step). course_of x.answer) r.same);
          same =
              ap (λ (m : List ℕ). opening (stepped 4 r.number r.block 0 0 (of_rows None) m) palette place) (sym e)
              ∙ sym (ap (λ (y : Exported). opening y.answer palette place) at_m ∙ ap (λ (x : Step). opening (of_step m x) palette place) r.same);
        }

    ended_ends : kind_in (step_beside x film m palette place).answer ≡ 3 → Ends film st palette place (opening (stepped 4 21 0 0 0 (of_rows None) m) palette place)
    unfolding of_beginning
    ended_ends k =
        record {
          came = begin.came (stopped 21 0 st) palette place;
          steps = apart.ends unsized (besides x) (amply x big) (ends_by m o.step.answer o.step.stores o.step.bytes o.step.rows (kind_m ∙ k));
          same = ap (λ (m : List ℕ). opening (stepped 4 21 0 0 0 (of_rows None) m) palette place) (sym e);
        }

    more_ends : (p : Opens) → kind_in (step_beside x film m palette place).answer < 3
        → ((t : State) → state_in (step_beside x film m palette place).answer ≡ of_state t → Crosses film t
        → Ends film t (step_beside x film m palette place).lent.palette (step_beside x film m palette place).lent.place p)
        → Ends film st palette place p
    more_ends p k rest =
        let g = step_crosses film st c (within x.allowed (spare_of x.form)) (lent palette x.first x.second place x.room x.words) in
        let v = step_moves film st (within x.allowed (spare_of x.form)) (lent palette x.first x.second place x.room x.words) in
        let n = on_by film st m e o.step.answer o.step.stores o.step.bytes o.step.rows (subst (λ (i : ℕ). i < 3) (sym kind_m) k) g v in
        let r = subst (λ (y : Exported). Ends film n.next y.lent.palette y.lent.place p) at_m (rest n.next (ap (λ (y : Exported). state_in y.answer) at_m ∙ n.state) n.crosses) in
        record { came = r.came; steps = apart.more unsized (besides x) (amply x big) n.course r.steps; same = r.same }

numbers_step : {film : List ℕ} → Bytes film → {palette : List ℕ} {place : ℕ} {m : List ℕ} {o : Opens} → Stepping film m palette place o → (st : State) → m ≡ of_state st → Crosses film st
    → Ends film st palette place o
numbers_step {film} b {palette} {place} {m} (row.there h) st e c = there_ends film b palette place m st e c h
numbers_step {film} b {palette} {place} {m} (row.refused z x big k) st e c = refused_ends film b palette place m st e c z x big k
numbers_step {film} b {palette} {place} {m} (row.ended z x big k) st e c = ended_ends film b palette place m st e c z x big k
numbers_step {film} b {palette} {place} {m} {o} (row.more z x big k s) st e c = more_ends film b palette place m st e c z x big o k (λ t f d. numbers_step b s t f d)

-- ---- and such steps end

form_0 : spare_of 0 ≡ default
unfolding spare_of
form_0 = refl

-- what the opening call's definition gives to its steps
abbrev plain : Beside
plain = record { first = []; second = []; room = zeros enough; words = words [] [] []; allowed = most; form = 0 }

always : Ample plain
always = record { room = roomy; stores = ample }

module _ (film : List ℕ) (bytes : Bytes film) where
  module _ (n : ℕ) (st : State) (palette : List ℕ) (place : ℕ) (c : Crosses film st) where
    abbrev after : Outcome
    after = step_before film st palette place

    abbrev l : Lent
    l = lent palette [] [] place (zeros enough) (words [] [] [])

    at_plain : step_beside plain film (of_state st) palette place ≡ of_outcome (of_state st) after
    at_plain =
        step_at film bytes st c most 0 l
        ∙ ap (λ (i : ℕ). of_outcome (of_state st) (step_of film st (within most i) l)) form_0

    -- its kind, where its answer is known
    kind_plain : (a : Answer) → after.step.answer ≡ a → kind_in (step_beside plain film (of_state st) palette place).answer ≡ kind_in (of_answer (of_state st) a after.step.stores after.step.bytes after.step.rows)
    kind_plain a e =
        ap (λ (y : Exported). kind_in y.answer) at_plain
        ∙ ap (λ (a : Answer). kind_in (of_answer (of_state st) a after.step.stores after.step.bytes after.step.rows)) e

    abbrev Done : Came → Type 0
    Done r = Stepping film (of_state st) palette place (of_came r)

    done_sized : (st.columns ≡ 0 → ⊥) → Done (until film (suc n) st palette place)
    unfolding of_beginning
    done_sized h = subst Done (sym (until_sized film n st palette place h)) (row.there (λ z. h (sym (columns_of st) ∙ z)))

    module _ (z : st.columns ≡ 0)
        (rest : (t : State) (q : List ℕ) (k : ℕ) → Crosses film t → Forward (length film) st t → Stepping film (of_state t) q k (of_came (until film n t q k))) where
      done_goes : kind_in (step_beside plain film (of_state st) palette place).answer < 3 → Done (until film (suc n) st palette place)
      done_goes k =
          let x = after.step in
          let g = step_crosses film st c allowance l in
          let v = step_moves film st allowance l in
          let i : kind_in (of_answer (of_state st) x.answer x.stores x.bytes x.rows) < 3 = subst (λ (i : ℕ). i < 3) (kind_plain x.answer refl) k in
          let o = on_by film st (of_state st) refl x.answer x.stores x.bytes x.rows i g v in
          let u = until film n o.next after.lent.palette after.lent.place in
          let r : Stepping film (of_state o.next) after.lent.palette after.lent.place (of_came u)
          = rest o.next after.lent.palette after.lent.place o.crosses (goes_forward film st allowance ample l o.next o.course) in
          let s : Stepping film (state_in (of_step (of_state st) x)) after.lent.palette after.lent.place (of_came u)
          = subst (λ (m : List ℕ). Stepping film m after.lent.palette after.lent.place (of_came u)) (sym o.state) r in
          subst Done (sym (until_goes film n st palette place z o.next o.course))
          (row.more (columns_of st ∙ z) plain always k
          (subst (λ (y : Exported). Stepping film (state_in y.answer) y.lent.palette y.lent.place (of_came u)) (sym at_plain) s))

      done_by : (a : Answer) → after.step.answer ≡ a → Lawful film a after.step → Done (until film (suc n) st palette place)
      unfolding of_answer course_of Lawful of_beginning
      done_by (taken t) e g = done_goes (let k = kind_plain (taken t) e in omega arith)
      done_by (whole t) e g = done_goes (let k = kind_plain (whole t) e in omega arith)
      done_by (unfinished t) e g = done_goes (let k = kind_plain (unfinished t) e in omega arith)
      done_by (ended t) e g =
          subst Done (sym (until_stops film n st palette place z 21 0 (ap course_of e))) (row.ended (columns_of st ∙ z) plain always (kind_plain (ended t) e))
      done_by (refused i k) e g =
          subst Done (sym (until_stops film n st palette place z i k (ap course_of e)))
          (subst (λ (y : List ℕ). Stepping film (of_state st) palette place (opening y palette place))
          (ap (λ (y : Exported). y.answer) at_plain ∙ ap (λ (x : Step). of_step (of_state st) x) g)
          (row.refused (columns_of st ∙ z) plain always (kind_plain (refused i k) e)))

    done : ((t : State) (q : List ℕ) (k : ℕ) → Crosses film t → Forward (length film) st t → Stepping film (of_state t) q k (of_came (until film n t q k)))
        → Done (until film (suc n) st palette place)
    done rest = by (ℕ_discrete st.columns 0)
      where
        by : Dec (st.columns ≡ 0) → Done (until film (suc n) st palette place)
        by (yes z) = done_by z rest after.step.answer refl (step_lawful film st c allowance l)
        by (no h) = done_sized h

  steps_end : (n : ℕ) (st : State) (palette : List ℕ) (place : ℕ) → Crosses film st → length film ≤ st.cursor.position + n
      → Stepping film (of_state st) palette place (of_came (until film (suc n) st palette place))
  steps_end zero st palette place c a = done zero st palette place c (λ t q k d f. absurd (let y : ⊥ = omega (arith, f.rises, f.ordered, f.inside) in y))
  steps_end (suc m) st palette place c a = done (suc m) st palette place c (λ t q k d f. steps_end m t q k d (omega (arith, f.rises)))

-- ---- the opening call

kept_by_lem : (palette : List ℕ) (place : ℕ) (c : Came) (b : Beginning)
    → of_came (kept_by b palette place c) ≡ cond (eqb (kind_in (of_beginning b)) 4) (opening (of_beginning b) palette place) (of_came c)
unfolding kept_by of_beginning
kept_by_lem palette place c (sized st) = refl
kept_by_lem palette place c (stopped n k st) = refl

kept_of : (palette : List ℕ) (place : ℕ) (c : Came) → of_came (begin.kept palette place c) ≡ kept palette place (of_came c)
unfolding kept
kept_of palette place c = kept_by_lem palette place c c.answer

module _ (film : List ℕ) (bytes : Bytes film) (stream : ℕ) (palette : List ℕ) (place : ℕ) where
  abbrev together : apart.Separately film stream palette place
  together = law.separately film bytes stream palette place

  -- by what opening comes to
  module _ (n k : ℕ) (e : opening_of film stream ≡ refuses n k) where
    kind_4 : kind_in (open_answer film stream) ≡ 4
    unfolding of_opening
    kind_4 = ap (λ (x : Opening). kind_in (of_opening x)) e

    begin_refused : begin_answer film stream palette place ≡ opening (open_answer film stream) palette place
    unfolding of_opening of_beginning
    begin_refused =
        ap (λ (c : Came). of_came c) (together.unopened n k e)
        ∙ ap (λ (m : List ℕ). opening (stepped 4 n k 0 0 (of_rows None) m) palette place) nowhere_zeros
        ∙ sym (ap (λ (x : Opening). opening (of_opening x) palette place) e)

  module _ (st : State) (e : opening_of film stream ≡ started st) where
    kind_0 : kind_in (open_answer film stream) ≡ 0
    unfolding of_opening
    kind_0 = ap (λ (x : Opening). kind_in (of_opening x)) e

    first : state_in (open_answer film stream) ≡ of_state st
    unfolding of_opening
    first = ap (λ (x : Opening). state_in (of_opening x)) e

    begin_opened : (o : Opens) → Stepping film (state_in (open_answer film stream)) palette place o → begin_answer film stream palette place ≡ kept palette place o
    begin_opened o s =
        let r = numbers_step bytes s st first (first_crosses film stream st e) in
        ap (λ (c : Came). of_came c) (together.opened st e r.came r.steps) ∙ kept_of palette place r.came ∙ ap (λ (o : Opens). kept palette place o) r.same

    begin_end : (o : Opens) × Stepping film (state_in (open_answer film stream)) palette place o
    begin_end =
        let s = steps_end film bytes (length film) st palette place (first_crosses film stream st e) (omega arith) in
        (of_came (to_size film st palette place), subst (λ (m : List ℕ). Stepping film m palette place (of_came (to_size film st palette place))) (sym first) s)

  unopened : (x : Opening) → opening_of film stream ≡ x → kind_in (open_answer film stream) ≡ 4 → begin_answer film stream palette place ≡ opening (open_answer film stream) palette place
  unopened (started st) e k = absurd (let z = kind_0 st e in let y : ⊥ = omega arith in y)
  unopened (refuses n i) e k = begin_refused n i e

  opened : (x : Opening) → opening_of film stream ≡ x → kind_in (open_answer film stream) ≡ 0 → (o : Opens) → Stepping film (state_in (open_answer film stream)) palette place o
      → begin_answer film stream palette place ≡ kept palette place o
  opened (started st) e k = begin_opened st e
  opened (refuses n i) e k = absurd (let z = kind_4 n i e in let y : ⊥ = omega arith in y)

  end : (x : Opening) → opening_of film stream ≡ x → kind_in (open_answer film stream) ≡ 0 → (o : Opens) × Stepping film (state_in (open_answer film stream)) palette place o
  end (started st) e k = begin_end st e
  end (refuses n i) e k = absurd (let z = kind_4 n i e in let y : ⊥ = omega arith in y)

  -- for every film of bytes, palette and place
  pub separately : Separately film stream palette place
  separately = record { unopened = unopened (opening_of film stream) refl; opened = opened (opening_of film stream) refl; end = end (opening_of film stream) refl }
