-- The first state of an opening is one before a size that 16 accepts: `first_early`. So is every state that a step leads to (`walk`): 16 is never met. Before a size no film
-- has true colour: `early_flat`.
-- Assumes nothing.
use mathlib.Core.Path.{◌≡◌, refl, subst}
use mathlib.Core.Bool.{false, false≢true}
use mathlib.Core.List.{List}
use Prim.Native.Nat.{ℕ, ◌≤◌}
use native.Mathlib.Omega.{arith}
use borrow.Author.Tests.{eq-eqb, ltb-false}
use lib.Dec.{ltb}
use lib.ListN.{length}
use Rattle.words.proofs.Tests.{first, not_first}
use Rattle.refusal.specs.Number.{accept}
use Rattle.draw.specs.declared.Allowed.{Allowed}
use Rattle.sound.specs.Format.{possible_format}
use Rattle.state.specs.declared.State.{State}
use Rattle.state.specs.State.{most_front, possible_size, map_inside, possible, state_verdict}
use Rattle.opening.specs.Opening.{started, first_state, opening_of, begins}
use Rattle.opening.specs.Opening as opening
use Rattle.opcodes.specs.Opcodes.{Answer, taken, whole, unfinished, ended, refused}
use Rattle.film.specs.Film.{Lent, step_of}
use Rattle.walk.specs.Possible.{OfState, Follows}
use Rattle.walk.proofs.Possible.{Kept, kept_is, accepts, unsized_flat}
use Rattle.walk.proofs.Possible as walk
use Rattle.begin.specs.Begin.{goes, course_of, Early}

-- ---- a state before a size

pub early_flat : (film : ℕ) (st : State) → Early film st → st.deep ≡ false
unfolding possible
early_flat film st y =
    let a = first (possible_size st.deep st.columns st.rows) _ _ _ false≢true (kept_is st film y.possible).rest in
    unsized_flat st.deep st.columns st.rows (eq-eqb _ _ y.unsized) a.0

-- ---- the first state

kept_first : (film stream : ℕ) → Kept film (first_state stream)
unfolding first_state map_inside most_front possible possible_size possible_format
kept_first film stream = record { map = refl; front = omega arith; rest = refl }

early_first : (film stream : ℕ) → 26 ≤ film → Early film (first_state stream)
unfolding first_state
early_first film stream h = record { unsized = refl; possible = accepts (first_state stream) film (omega arith) h (kept_first film stream) }

unstarted : (st : State) → opening.refuses 1 0 ≡ started st → ⊥
unstarted st q = let z : ◌≡◌ {A = ℕ} 0 1 = cc in omega arith

pub first_early : (film : List ℕ) (stream : ℕ) (st : State) → opening_of film stream ≡ started st → Early (length film) st
unfolding opening_of
first_early film stream st e =
    let a = not_first (ltb (length film) 26) _ _ _ (unstarted st) e in
    let b = first (begins film 26) _ _ _ (unstarted st) a.1 in
    let w = b.1 in
    let q : first_state stream ≡ st = cc in
    subst (Early (length film)) q (early_first (length film) stream (ltb-false _ _ a.0))

-- ---- a step

goes_given : (P : State → Type 0) (x : Answer) (t : State) → OfState P x → course_of x ≡ goes t → P t
unfolding OfState course_of
goes_given P (taken s) t h q = let e : s ≡ t = cc in subst P e h
goes_given P (whole s) t h q = let e : s ≡ t = cc in subst P e h
goes_given P (unfinished s) t h q = let e : s ≡ t = cc in subst P e h
goes_given P (ended s) t h q = absurd (let z : ◌≡◌ {A = ℕ} 0 1 = cc in let y : ⊥ = omega arith in y)
goes_given P (refused n k) t h q = absurd (let z : ◌≡◌ {A = ℕ} 0 1 = cc in let y : ⊥ = omega arith in y)

pub step_possible : (film : List ℕ) (st : State) (allowed : Allowed) (l : Lent) (t : State) → course_of (step_of film st allowed l).step.answer ≡ goes t
    → state_verdict t (length film) ≡ accept
step_possible film st allowed l t q = (goes_given (Follows (length film) st) _ t (walk.step_possible film st allowed l) q).possible
