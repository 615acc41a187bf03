-- `same_with_cuts`: what a film gives on the way, and its end, are the same whatever cuts occurred.
-- Assumes nothing.
use mathlib.Core.Path.{◌≡◌, refl, sym, ap, ap₂, ◌∙◌, subst}
use mathlib.Core.Bool.{Bool, true, false}
use mathlib.Core.List.{List, [], ◌∷◌, ◌++◌}
use Prim.Native.Nat.{ℕ}
use native.Mathlib.Omega.{arith}
use lib.ListN.{length}
use Rattle.draw.specs.Call.{within}
use Rattle.state.specs.declared.State.{State}
use Rattle.film.specs.Film.{Lent, with_room, Outcome}
use Rattle.walk.specs.Play.{most, Event, samples, shown_by, sent_by, events_of, End, lead_of, Plays}
use Rattle.walk.specs.Play as walk
use Rattle.walk.proofs.Play.{play_one, play_all}
use Rattle.cuts.specs.Cuts.{run, Same}
use Rattle.cuts.specs.Play.{called_at, PlaysCut, SameWithCuts}
use Rattle.cuts.specs.Play as play
use Rattle.cuts.proofs.Again.{cut_step}

-- all that is lent, but for the bytes of the room
record Near (k l : Lent) : Type 0 where
  others : with_room k l.room ≡ l
  room : length k.room ≡ length l.room

near_of : (x y : Outcome) → Same x y → Near x.lent y.lent
near_of x y s = record { others = s.others; room = s.room }

turn : (x y : Outcome) → Same x y → Same y x
turn x y s =
    record {
      answer = sym s.answer;
      bytes = sym s.bytes;
      rows = sym s.rows;
      others = ap (λ (l : Lent). with_room l x.lent.room) (sym s.others);
      samples = sym s.samples;
      room = sym s.room;
    }

-- the same picture is sent, with the same palette, and the same samples are given
sent_near : (a b : Bool) (t : State) (k l : Lent) → Near k l → sent_by a b t k ≡ sent_by a b t l
unfolding sent_by shown_by
sent_near true false t k l h = ap (λ (m : Lent). shown_by t m ∷ []) h.others
sent_near true true t k l h = refl
sent_near false b t k l h = refl

events_same : (st t : State) (x y : Outcome) → Same x y → events_of st t x ≡ events_of st t y
unfolding events_of
events_same st t x y s = ap₂ (λ (a b : List Event). a ++ b) (ap samples s.samples) (sent_near st.unsent t.unsent t x.lent y.lent (near_of x y s))

module _ (film : List ℕ) (spare : ℕ) where
  abbrev step : State → Lent → Outcome
  step = called_at film spare

  abbrev Uncut : State → Lent → List Event → End → Type 0
  Uncut = Plays film (within most spare)

  -- the room's bytes do not matter: a call that is cut before its first store
  near_step : (st : State) (k l : Lent) → Near k l → Same (step st k) (step st l)
  unfolding run
  near_step st k l h =
      let e : k ≡ with_room l k.room = ap (λ (x : Lent). with_room x k.room) h.others in
      subst (λ (x : Lent). Same (step st x) (step st l)) (sym e) (cut_step film st spare l 0 0 k.room h.room)

  -- a run without cuts from memory at which the first step comes to the same
  uncut_same : {st : State} {l : Lent} {s : List Event} {e : End} → Uncut st l s e → (k : Lent) → Same (step st k) (step st l) → Uncut st k s e
  uncut_same (walk.stops q) k h = walk.stops (ap lead_of h.answer ∙ q)
  uncut_same {st} {l} (walk.goes {next = t} {events = s} {e = e} q u) k h =
      let n = near_of (step st k) (step st l) h in
      subst (λ (x : List Event). Uncut st k (x ++ s) e) (events_same st t (step st k) (step st l) h)
      (walk.goes (ap lead_of h.answer ∙ q) (uncut_same u (step st k).lent (near_step t (step st k).lent (step st l).lent n)))

  -- the cuts left out
  pub cuts_out : {st : State} {l : Lent} {s : List Event} {e : End} → PlaysCut film spare st l s e → Uncut st l s e
  cuts_out (play.stops q) = walk.stops q
  cuts_out (play.goes q p) = walk.goes q (cuts_out p)
  cuts_out {st} {l} (play.cut n j room h p) = uncut_same (cuts_out p) l (turn _ _ (cut_step film st spare l n j room h))

  -- and none put in
  no_cuts : {st : State} {l : Lent} {s : List Event} {e : End} → Uncut st l s e → PlaysCut film spare st l s e
  no_cuts (walk.stops q) = play.stops q
  no_cuts (walk.goes q u) = play.goes q (no_cuts u)

  pub sent_same : {st : State} {l : Lent} {s s' : List Event} {e e' : End} → PlaysCut film spare st l s e → PlaysCut film spare st l s' e' → (s ≡ s') × (e ≡ e')
  sent_same p p' = play_one film (within most spare) (cuts_out p) (cuts_out p')

  pub same_with_cuts : (st : State) (l : Lent) → SameWithCuts film spare st l
  same_with_cuts st l =
      let u = play_all film (within most spare) (omega arith) st l in
      record { uncut = u; played = no_cuts u.plays; same = λ s e p. play_one film (within most spare) (cuts_out p) u.plays }
