-- The one list of a step, taken to the lists that it is made of: bytes of the palette, and the stores of a drawing.
-- Assumes nothing.
use mathlib.Core.Path.{◌≡◌, refl, sym, ap, ◌∙◌}
use mathlib.Core.List.{List, [], ◌∷◌}
use Prim.Native.Nat.{ℕ, zero, suc}
use lib.ListN.{take, set}
use lib.Seq.{take-nil}
use Rattle.stores.specs.Stores.{Plan, Memory, memory, apply}
use Rattle.stores.specs.Stores as drawing
use Rattle.listed.specs.Store as palette
use Rattle.state.specs.declared.State.{State}
use Rattle.film.specs.Film.{Lent, with_palette, with_pictures, with_room, Turn, bytes0, bytes1, words0, words1, words2, turn_of, last_in, new_in, oldest_in, with_new, drawn_at, with_drawn}
use Rattle.film.proofs.Pictures.{drawn_back, drawn_twice, drawn_at_lem}
use Rattle.cuts.specs.Cuts.{Store, drawn, of_palette, of_drawing, no_plan, make, run}

module _ (st : State) (d : Plan) where
  pub run_colours : (i : ℕ) (s : List palette.Store) (l : Lent) → run st d l (take i (of_palette s)) ≡ with_palette l (palette.applied (take i s) l.palette)
  unfolding run of_palette make palette.applied
  run_colours zero s l = refl
  run_colours (suc i) [] l = refl
  run_colours (suc i) (s ∷ ss) l = run_colours i ss (with_palette l (set l.palette s.index s.value))

module _ (st : State) (d : Plan) where
  pub run_draws : (i : ℕ) (s : List drawing.Store) (l : Lent) → run st d l (take i (of_drawing s)) ≡ with_drawn st l (drawing.run d (drawn_at st l) (take i s))
  unfolding run of_drawing make drawing.run
  run_draws zero s l = sym (drawn_back st l)
  run_draws (suc i) [] l = sym (drawn_back st l)
  run_draws (suc i) (s ∷ ss) l =
      let m = apply d (drawn_at st l) s in
      run_draws i ss (with_drawn st l m)
      ∙ ap (λ (x : Memory). with_drawn st (with_drawn st l m) (drawing.run d x (take i ss))) (drawn_at_lem st l m)
      ∙ drawn_twice st l m (drawing.run d m (take i ss))

-- ---- the place, and the room

-- the picture drawn on as it was, and another place
placed : (t : Turn) (l : Lent) (n : ℕ) → with_new t l (memory (new_in t l) n) ≡ with_pictures l l.first l.second n
unfolding with_new new_in
placed bytes0 l n = refl
placed bytes1 l n = refl
placed words0 l n = refl
placed words1 l n = refl
placed words2 l n = refl

-- the one store of 0F, of which i are made, sets the place alone
abbrev pub place_after : ℕ → Lent → ℕ
place_after zero l = l.place
place_after (suc i) l = 0

pub run_map : (st : State) (i : ℕ) (l : Lent) → run st no_plan l (take i (drawn (drawing.place 0) ∷ [])) ≡ with_pictures l l.first l.second (place_after i l)
unfolding run make drawing.apply
run_map st zero l = refl
run_map st (suc i) l = rw (take-nil {A = Store} i) (placed (turn_of st) l 0)

-- with other bytes in the room the pictures are the same
pub record Roomed (t : Turn) (l : Lent) (room : List ℕ) : Type 0 where
  pub last : last_in t (with_room l room) ≡ last_in t l
  pub new : new_in t (with_room l room) ≡ new_in t l
  pub oldest : oldest_in t (with_room l room) ≡ oldest_in t l
  pub drawn : (m : Memory) → with_new t (with_room l room) m ≡ with_room (with_new t l m) room

pub roomed : (t : Turn) (l : Lent) (room : List ℕ) → Roomed t l room
unfolding with_new new_in last_in oldest_in
roomed bytes0 l room = record { last = refl; new = refl; oldest = refl; drawn = λ m. refl }
roomed bytes1 l room = record { last = refl; new = refl; oldest = refl; drawn = λ m. refl }
roomed words0 l room = record { last = refl; new = refl; oldest = refl; drawn = λ m. refl }
roomed words1 l room = record { last = refl; new = refl; oldest = refl; drawn = λ m. refl }
roomed words2 l room = record { last = refl; new = refl; oldest = refl; drawn = λ m. refl }
