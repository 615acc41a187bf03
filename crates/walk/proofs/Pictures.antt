-- What holds of each picture of two that are lent, by which picture is shown; and `step_only_new`: of every step.
-- Assumes nothing.
use mathlib.Core.Path.{◌≡◌, refl, sym, ap, ap₂, ◌∙◌, subst}
use mathlib.Core.Bool.{Bool, true, false, cond}
use mathlib.Core.List.{List, []}
use Prim.Native.Nat.{ℕ}
use native.Mathlib.Omega.{arith}
use borrow.Author.Tests.{ltb-true, ltb-false, lt-ltb, le-ltb}
use lib.Dec.{eqb, ltb}
use lib.ListN.{length}
use Rattle.stores.specs.Stores.{Memory, memory}
use Rattle.stores.proofs.Within.{take_short}
use Rattle.draw.specs.declared.Allowed.{Allowed}
use Rattle.state.specs.declared.State.{State}
use Rattle.state.specs.State.{least_of, shortest_of}
use Rattle.film.specs.Film.{Lent, lent, with_palette, with_room, shortest, Outcome, Turn, bytes0, bytes1, words0, words1, words2, turn_of, last_in, new_in, oldest_in, with_new, new_of, drawn_at, with_drawn, draw_on, map_to, hear}
use Rattle.film.proofs.Pictures.{drawn_back, drawn_palette, drawn_room, drawn_at_lem}
use Rattle.walk.specs.Pictures.{OnlyNew, Pictures}
use Rattle.walk.specs.View.{View, refuses, ends, enters, sounds, maps, colours, too_short, undrawn, draws, others}
use Rattle.walk.specs.Beyond.{EqualTo}
use Rattle.walk.proofs.View.{view_of}

module _ (P : List ℕ → List ℕ → Type 0) where
  pub all_kept : ((x : List ℕ) → P x x) → (l : Lent) → Pictures P l l
  all_kept r l = record { first = r _; second = r _; words0 = r _; words1 = r _; words2 = r _ }

  -- whatever else is lent
  pub beside : (l m : Lent) → Pictures P l m → (p p' : List ℕ) (n n' : ℕ) (r r' : List ℕ)
      → Pictures P (lent p l.first l.second n r l.words) (lent p' m.first m.second n' r' m.words)
  beside l m h p p' n n' r r' = record { first = h.first; second = h.second; words0 = h.words0; words1 = h.words1; words2 = h.words2 }

  module _ (l m : Lent) (h : Pictures P l m) where
    pub last_holds : (t : Turn) → P (last_in t l) (last_in t m)
    unfolding last_in
    last_holds bytes0 = h.first
    last_holds bytes1 = h.second
    last_holds words0 = h.words0
    last_holds words1 = h.words1
    last_holds words2 = h.words2

    pub new_holds : (t : Turn) → P (new_in t l) (new_in t m)
    unfolding new_in
    new_holds bytes0 = h.second
    new_holds bytes1 = h.first
    new_holds words0 = h.words1
    new_holds words1 = h.words2
    new_holds words2 = h.words0

    pub oldest_holds : P [] [] → (t : Turn) → P (oldest_in t l) (oldest_in t m)
    unfolding oldest_in
    oldest_holds e bytes0 = e
    oldest_holds e bytes1 = e
    oldest_holds e words0 = h.words2
    oldest_holds e words1 = h.words0
    oldest_holds e words2 = h.words1

    pub with_holds : (x y : Memory) → P x.picture y.picture → (t : Turn) → Pictures P (with_new t l x) (with_new t m y)
    unfolding with_new
    with_holds x y e bytes0 = record { first = h.first; second = e; words0 = h.words0; words1 = h.words1; words2 = h.words2 }
    with_holds x y e bytes1 = record { first = e; second = h.second; words0 = h.words0; words1 = h.words1; words2 = h.words2 }
    with_holds x y e words0 = record { first = h.first; second = h.second; words0 = h.words0; words1 = e; words2 = h.words2 }
    with_holds x y e words1 = record { first = h.first; second = h.second; words0 = h.words0; words1 = h.words1; words2 = e }
    with_holds x y e words2 = record { first = h.first; second = h.second; words0 = e; words1 = h.words1; words2 = h.words2 }

  -- of one that is lent, after a drawing and before it
  pub drawn_holds : ((x : List ℕ) → P x x) → (st : State) (l : Lent) (m : Memory) → P m.picture (new_of st l) → Pictures P (with_drawn st l m) l
  drawn_holds r st l m e = subst (λ (k : Lent). Pictures P (with_drawn st l m) k) (drawn_back st l) (with_holds l l (all_kept r l) m (drawn_at st l) e (turn_of st))

-- ---- the shortest

-- whether the shorter of two is shorter than n
least_short : (n a b : ℕ) → ltb (least_of a b) n ≡ cond (ltb a n) true (ltb b n)
unfolding least_of
least_short n a b = by (ltb a b) (ltb a n) refl refl
  where
    by : (t u : Bool) → ltb a b ≡ t → ltb a n ≡ u → ltb (cond t a b) n ≡ cond u true (ltb b n)
    by true true e f = f
    by true false e f = f ∙ sym (le-ltb b n (omega (arith, ltb-true a b e, ltb-false a n f)))
    by false true e f = lt-ltb b n (omega (arith, ltb-false a b e, ltb-true a n f))
    by false false e f = refl

-- the pictures up to n say whether the shortest is shorter than that
pub shortest_short : (n : ℕ) (st : State) (l m : Lent) → Pictures (EqualTo n) l m → ltb (shortest st l) n ≡ ltb (shortest st m) n
unfolding shortest_of
shortest_short n st l m h = by st.deep
  where
    both : (a b a' b' : ℕ) → ltb a n ≡ ltb a' n → ltb b n ≡ ltb b' n → ltb (least_of a b) n ≡ ltb (least_of a' b') n
    both a b a' b' e f = least_short n a b ∙ ap₂ (λ (x y : Bool). cond x true y) e f ∙ sym (least_short n a' b')

    by : (deep : Bool)
        → ltb (shortest_of deep (length l.first) (length l.second) (length l.words.picture0) (length l.words.picture1) (length l.words.picture2)) n
        ≡ ltb (shortest_of deep (length m.first) (length m.second) (length m.words.picture0) (length m.words.picture1) (length m.words.picture2)) n
    by true = both _ _ _ _ (both _ _ _ _ (take_short n _ _ h.words0) (take_short n _ _ h.words1)) (take_short n _ _ h.words2)
    by false = both _ _ _ _ (take_short n _ _ h.first) (take_short n _ _ h.second)

-- ---- a step stores to the new picture alone

-- palette and room apart
abbrev Alone : State → Lent → Lent → Type 0
Alone st l k = with_room (with_palette k l.palette) l.room ≡ with_drawn st l (drawn_at st k)

-- a step that stores no pixel
same_pictures : (st : State) (l : Lent) (p : List ℕ) (n : ℕ) (r : List ℕ) → Alone st l (lent p l.first l.second n r l.words)
unfolding with_new new_in
same_pictures st l p n r = by (turn_of st)
  where
    by : (t : Turn) → lent l.palette l.first l.second n l.room l.words ≡ with_new t l (memory (new_in t (lent p l.first l.second n r l.words)) n)
    by bytes0 = refl
    by bytes1 = refl
    by words0 = refl
    by words1 = refl
    by words2 = refl

alone_drawn : (st : State) (l : Lent) (m : Memory) → Alone st l (with_drawn st l m)
alone_drawn st l m =
    (λ i. with_room (with_palette (with_drawn st l m) (sym (drawn_palette st l m) i)) (sym (drawn_room st l m) i)) ∙ ap (with_drawn st l) (sym (drawn_at_lem st l m))

alone_by : (st : State) (l : Lent) (b : Bool) (x y : Outcome) → Alone st l x.lent → Alone st l y.lent → Alone st l (cond b x y).lent
alone_by st l true x y p q = p
alone_by st l false x y p q = q

module _ (film : List ℕ) (st : State) (allowed : Allowed) (l : Lent) where
  view_alone : {o : Outcome} → View film st allowed l o → Alone st l o.lent
  unfolding hear map_to draw_on
  view_alone (refuses n k e) = same_pictures st l _ _ _
  view_alone (ends e v) = same_pictures st l _ _ _
  view_alone (enters c e v) = same_pictures st l _ _ _
  view_alone (sounds o a h) = same_pictures st l _ _ _
  view_alone (maps o a u e) = alone_by st l (eqb allowed.stores 0) _ _ (same_pictures st l _ _ _) (same_pictures st l _ _ _)
  view_alone (colours o x a u c) = same_pictures st l _ _ _
  view_alone (too_short o a u e d n) = same_pictures st l _ _ _
  view_alone (undrawn o a u e m) = same_pictures st l _ _ _
  view_alone (draws o start long a u e m c) = alone_drawn st l _
  view_alone (others o a u x) = same_pictures st l _ _ _

  pub step_only_new : OnlyNew film st allowed l
  step_only_new = view_alone (view_of film st allowed l)
