-- The pictures of a film by the one that is shown: what a drawing call on the new one leaves.
-- Assumes nothing.
use mathlib.Core.Path.{◌≡◌, refl}
use mathlib.Core.Bool.{Bool, true, false, cond}
use mathlib.Core.List.{List}
use Prim.Native.Nat.{ℕ, ◌≤◌}
use borrow.Author.Tests.{eq-eqb, ne_eqb}
use lib.Dec.{eqb}
use lib.ListN.{length}
use Rattle.stores.specs.Stores.{Memory, memory}
use Rattle.draw.specs.declared.Allowed.{Allowed}
use Rattle.draw.specs.Taken.{OldestLong}
use Rattle.state.specs.declared.State.{State}
use Rattle.state.specs.State.{shortest_of}
use Rattle.state.proofs.Tests.{bytes_fit, words_fit}
use Rattle.film.specs.Film.{Lent, shortest, Turn, bytes0, bytes1, words0, words1, words2, turn_by, turn_of, last_in, new_in, oldest_in, with_new, last_of, new_of, oldest_of, drawn_at, with_drawn, request_of}

-- ---- which one is shown

module _ (deep : Bool) (front : ℕ) where
  module _ (d : deep ≡ false) where
    pub first_shown : front ≡ 0 → turn_by deep front ≡ bytes0
    unfolding turn_by
    first_shown e = rw (d, eq-eqb _ _ e)

    pub second_shown : (front ≡ 0 → ⊥) → turn_by deep front ≡ bytes1
    unfolding turn_by
    second_shown n = rw (d, ne_eqb _ _ n)

  module _ (d : deep ≡ true) where
    pub shown_0 : front ≡ 0 → turn_by deep front ≡ words0
    unfolding turn_by
    shown_0 e = rw (d, eq-eqb _ _ e)

    pub shown_1 : front ≡ 1 → turn_by deep front ≡ words1
    unfolding turn_by
    shown_1 e = rw (d, e)

    pub shown_2 : (front ≡ 0 → ⊥) → (front ≡ 1 → ⊥) → turn_by deep front ≡ words2
    unfolding turn_by
    shown_2 n m = rw (d, ne_eqb _ _ n, ne_eqb _ _ m)

-- ---- with another new one

module _ (l : Lent) where
  back_in : (t : Turn) → with_new t l (memory (new_in t l) l.place) ≡ l
  unfolding with_new new_in
  back_in bytes0 = refl
  back_in bytes1 = refl
  back_in words0 = refl
  back_in words1 = refl
  back_in words2 = refl

  module _ (m : Memory) where
    new_in_lem : (t : Turn) → new_in t (with_new t l m) ≡ m.picture
    unfolding with_new new_in
    new_in_lem bytes0 = refl
    new_in_lem bytes1 = refl
    new_in_lem words0 = refl
    new_in_lem words1 = refl
    new_in_lem words2 = refl

    last_in_lem : (t : Turn) → last_in t (with_new t l m) ≡ last_in t l
    unfolding with_new last_in
    last_in_lem bytes0 = refl
    last_in_lem bytes1 = refl
    last_in_lem words0 = refl
    last_in_lem words1 = refl
    last_in_lem words2 = refl

    oldest_in_lem : (t : Turn) → oldest_in t (with_new t l m) ≡ oldest_in t l
    unfolding with_new oldest_in
    oldest_in_lem bytes0 = refl
    oldest_in_lem bytes1 = refl
    oldest_in_lem words0 = refl
    oldest_in_lem words1 = refl
    oldest_in_lem words2 = refl

    place_in : (t : Turn) → (with_new t l m).place ≡ m.place
    unfolding with_new
    place_in bytes0 = refl
    place_in bytes1 = refl
    place_in words0 = refl
    place_in words1 = refl
    place_in words2 = refl

    palette_in : (t : Turn) → (with_new t l m).palette ≡ l.palette
    unfolding with_new
    palette_in bytes0 = refl
    palette_in bytes1 = refl
    palette_in words0 = refl
    palette_in words1 = refl
    palette_in words2 = refl

    room_in : (t : Turn) → (with_new t l m).room ≡ l.room
    unfolding with_new
    room_in bytes0 = refl
    room_in bytes1 = refl
    room_in words0 = refl
    room_in words1 = refl
    room_in words2 = refl

    twice_in : (t : Turn) (n : Memory) → with_new t (with_new t l m) n ≡ with_new t l n
    unfolding with_new
    twice_in bytes0 n = refl
    twice_in bytes1 n = refl
    twice_in words0 n = refl
    twice_in words1 n = refl
    twice_in words2 n = refl

    shortest_in : (st : State) (t : Turn) → length m.picture ≡ length (new_in t l) → shortest st (with_new t l m) ≡ shortest st l
    unfolding with_new new_in
    shortest_in st bytes0 h = rw h
    shortest_in st bytes1 h = rw h
    shortest_in st words0 h = rw h
    shortest_in st words1 h = rw h
    shortest_in st words2 h = rw h

module _ (st : State) (l : Lent) where
  pub drawn_back : with_drawn st l (drawn_at st l) ≡ l
  drawn_back = back_in l (turn_of st)

  module _ (m : Memory) where
    pub drawn_new : new_of st (with_drawn st l m) ≡ m.picture
    drawn_new = new_in_lem l m (turn_of st)

    pub drawn_last : last_of st (with_drawn st l m) ≡ last_of st l
    drawn_last = last_in_lem l m (turn_of st)

    pub drawn_oldest : oldest_of st (with_drawn st l m) ≡ oldest_of st l
    drawn_oldest = oldest_in_lem l m (turn_of st)

    pub drawn_place : (with_drawn st l m).place ≡ m.place
    drawn_place = place_in l m (turn_of st)

    pub drawn_palette : (with_drawn st l m).palette ≡ l.palette
    drawn_palette = palette_in l m (turn_of st)

    pub drawn_room : (with_drawn st l m).room ≡ l.room
    drawn_room = room_in l m (turn_of st)

    pub drawn_twice : (n : Memory) → with_drawn st (with_drawn st l m) n ≡ with_drawn st l n
    drawn_twice n = twice_in l m (turn_of st) n

    pub drawn_shortest : length m.picture ≡ length (new_of st l) → shortest st (with_drawn st l m) ≡ shortest st l
    drawn_shortest h = shortest_in l m st (turn_of st) h

    -- the next call finds what this one left, and asks for the same
    pub drawn_at_lem : drawn_at st (with_drawn st l m) ≡ m
    drawn_at_lem = rw (drawn_new, drawn_place)

    pub drawn_request : (map packet : List ℕ) (allowed : Allowed) → request_of st map packet allowed (with_drawn st l m) ≡ request_of st map packet allowed l
    drawn_request map packet allowed = rw (drawn_last, drawn_oldest)

-- ---- the film's own pictures are as long as the shortest of them

fit : (deep : Bool) (front : ℕ) (l : Lent) (n : ℕ)
    → n ≤ shortest_of deep (length l.first) (length l.second) (length l.words.picture0) (length l.words.picture1) (length l.words.picture2)
    → (n ≤ length (last_in (turn_by deep front) l)) × (n ≤ length (new_in (turn_by deep front) l)) × OldestLong deep (length (oldest_in (turn_by deep front) l)) n
unfolding turn_by last_in new_in oldest_in
fit false front l n h = let f = bytes_fit n _ _ _ _ _ h in by (eqb front 0) f
  where
    by : (z : Bool) → (n ≤ length l.first) × (n ≤ length l.second)
        → (n ≤ length (last_in (cond z bytes0 bytes1) l)) × (n ≤ length (new_in (cond z bytes0 bytes1) l)) × OldestLong false (length (oldest_in (cond z bytes0 bytes1) l)) n
    by true f = (f.0, f.1, tt)
    by false f = (f.1, f.0, tt)
fit true front l n h = let f = words_fit n _ _ _ _ _ h in by (eqb front 0) (eqb front 1) f
  where
    by : (z o : Bool) → (n ≤ length l.words.picture0) × (n ≤ length l.words.picture1) × (n ≤ length l.words.picture2)
        → (n ≤ length (last_in (cond z words0 (cond o words1 words2)) l)) × (n ≤ length (new_in (cond z words0 (cond o words1 words2)) l))
        × OldestLong true (length (oldest_in (cond z words0 (cond o words1 words2)) l)) n
    by true o f = (f.0, f.1, f.2)
    by false true f = (f.1, f.2, f.0)
    by false false f = (f.2, f.0, f.1)

pub pictures_fit : (st : State) (l : Lent) (n : ℕ) → n ≤ shortest st l
    → (n ≤ length (last_of st l)) × (n ≤ length (new_of st l)) × OldestLong st.deep (length (oldest_of st l)) n
pictures_fit st l n h = fit st.deep st.front l n h
