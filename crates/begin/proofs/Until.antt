-- Steps until a size appears: how they go on, and the two loops over them. Each step that goes on passes four bytes of the film at least.
-- Assumes nothing.
use mathlib.Core.Path.{◌≡◌, refl, sym, ap, ◌∙◌, subst}
use mathlib.Core.Bool.{Bool, true, false, cond}
use mathlib.Core.List.{List, []}
use Prim.Native.Nat.{ℕ, zero, suc, ◌+◌, ◌-◌, ◌≤◌, ◌<◌}
use native.Mathlib.Omega.{arith}
use borrow.Author.Tests.{eq-eqb, ne_eqb}
use lib.ListN.{length, length-replicate}
use Rattle.refusal.specs.declared.Refusal.{Refusal}
use Rattle.refusal.specs.Number.{accept, number, block}
use Rattle.draw.specs.declared.Allowed.{Allowed}
use Rattle.sound.specs.Step.{enough}
use Rattle.sound.specs.Format.{first_sound}
use Rattle.sound.specs.declared.Sound.{Sound}
use Rattle.std.specs.Prelude.{None, Result, Ok, Err}
use Rattle.state.specs.declared.State.{State}
use Rattle.state.specs.State.{state_verdict}
use Rattle.opening.specs.Opening.{opened_as, opening_of}
use Rattle.opcodes.specs.Opcodes.{Answer, taken, whole, unfinished, ended, refused}
use Rattle.film.specs.Film.{Words, words, Lent, lent, standing, step_of}
use Rattle.walk.specs.Walk.{Forward, Moves}
use Rattle.walk.specs.Play.{most}
use Rattle.walk.proofs.Walk.{step_moves}
use Rattle.walk.proofs.View.{view_of}
use Rattle.walk.proofs.Play.{done}
use Rattle.begin.specs.Begin.{zeros, allowance, step_before, goes, stops, course_of, Early, turn_as, Beginning, sized, stopped, Came, came, follow, until, to_size, kept_by, kept, nowhere, begin_at, begin_of}
use Rattle.begin.proofs.Before.{ample, short_palette}
use Rattle.begin.proofs.Twin.{step_long}
use Rattle.begin.proofs.Possible.{first_early, step_possible}

-- ---- one step

module _ (film : List ℕ) (n : ℕ) (st : State) (palette : List ℕ) (place : ℕ) where
  pub until_sized : (st.columns ≡ 0 → ⊥) → until film (suc n) st palette place ≡ came (sized st) palette place
  unfolding until
  until_sized h = rw (ne_eqb _ _ h)

  module _ (z : st.columns ≡ 0) where
    pub until_goes : (t : State) → course_of (step_before film st palette place).step.answer ≡ goes t
        → until film (suc n) st palette place ≡ until film n t (step_before film st palette place).lent.palette (step_before film st palette place).lent.place
    unfolding until follow
    until_goes t e = rw (eq-eqb _ _ z, e)

    pub until_stops : (i k : ℕ) → course_of (step_before film st palette place).step.answer ≡ stops i k
        → until film (suc n) st palette place ≡ came (stopped i k st) palette place
    unfolding until follow
    until_stops i k e = rw (eq-eqb _ _ z, e)

stops_goes : (n k : ℕ) (t : State) → stops n k ≡ goes t → ⊥
stops_goes n k t e = let z : ◌≡◌ {A = ℕ} 0 1 = cc in omega arith

-- with enough stores no step is unfinished, so a step that goes on goes forward
forward : (film : ℕ) (st t : State) (a : Answer) → Moves film st a → ((s : State) → a ≡ unfinished s → ⊥) → course_of a ≡ goes t → Forward film st t
unfolding course_of Moves
forward film st t (taken s) m d e = let q : s ≡ t = cc in subst (Forward film st) q m
forward film st t (whole s) m d e = let q : s ≡ t = cc in subst (Forward film st) q m
forward film st t (unfinished s) m d e = absurd (d s refl)
forward film st t (ended s) m d e = absurd (stops_goes 21 0 t e)
forward film st t (refused n k) m d e = absurd (stops_goes n k t e)

pub goes_forward : (film : List ℕ) (st : State) (allowed : Allowed) → most ≤ allowed.stores → (l : Lent) (t : State) → course_of (step_of film st allowed l).step.answer ≡ goes t
    → Forward (length film) st t
goes_forward film st allowed big l t e = forward (length film) st t _ (step_moves film st allowed l) (done film st allowed big (view_of film st allowed l)) e

-- ---- a walk that has come from one state to another

pub record Onward (film : List ℕ) (first : State) (palette₀ : List ℕ) (place₀ : ℕ) (st : State) (palette : List ℕ) (place : ℕ) : Type 0 where
  pub left : ℕ
  pub ample : length film ≤ st.cursor.position + left
  pub same : to_size film first palette₀ place₀ ≡ until film (suc left) st palette place

pub onward_start : (film : List ℕ) (st : State) (palette : List ℕ) (place : ℕ) → Onward film st palette place st palette place
onward_start film st palette place = record { left = length film; ample = omega arith; same = refl }

module _ (film : List ℕ) (first : State) (palette₀ : List ℕ) (place₀ : ℕ) (st : State) (palette : List ℕ) (place : ℕ) (w : Onward film first palette₀ place₀ st palette place) where
  pub onward_sized : (st.columns ≡ 0 → ⊥) → came (sized st) palette place ≡ to_size film first palette₀ place₀
  onward_sized h = sym (w.same ∙ until_sized film w.left st palette place h)

  module _ (z : st.columns ≡ 0) where
    pub onward_stops : (i k : ℕ) → stops i k ≡ course_of (step_before film st palette place).step.answer → came (stopped i k st) palette place ≡ to_size film first palette₀ place₀
    onward_stops i k e = sym (w.same ∙ until_stops film w.left st palette place z i k (sym e))

    pub onward_more : (t : State) → goes t ≡ course_of (step_before film st palette place).step.answer → (q : List ℕ) (k : ℕ) → q ≡ (step_before film st palette place).lent.palette
        → k ≡ (step_before film st palette place).lent.place → Onward film first palette₀ place₀ t q k
    onward_more t e q k eq ek = by w.left w.ample w.same
      where
        f : Forward (length film) st t
        f = goes_forward film st allowance ample _ t (sym e)

        by : (left : ℕ) → length film ≤ st.cursor.position + left → to_size film first palette₀ place₀ ≡ until film (suc left) st palette place
            → Onward film first palette₀ place₀ t q k
        by zero a s = absurd (let y : ⊥ = omega (arith, f.rises, f.ordered, f.inside) in y)
        by (suc n) a s =
            record {
              left = n;
              ample = omega (arith, f.rises);
              same = rw (eq, ek) (s ∙ until_goes film (suc n) st palette place z t (sym e));
            }

-- ---- a refusal leaves palette and place as they were

module _ (palette : List ℕ) (place : ℕ) (c : Came) where
  stays_sized : (st : State) → kept_by (sized st) palette place c ≡ c
  unfolding kept_by
  stays_sized st = refl

  pub kept_sized : (st : State) → sized st ≡ c.answer → (d : Came) → d ≡ c → d ≡ kept palette place c
  kept_sized st e d f = f ∙ sym (stays_sized st) ∙ ap (λ (b : Beginning). kept_by b palette place c) e

  pub kept_stopped : (n k : ℕ) (st : State) → stopped n k st ≡ c.answer → came (stopped n k st) palette place ≡ kept palette place c
  unfolding kept_by
  kept_stopped n k st e = ap (λ (b : Beginning). kept_by b palette place c) e

-- ---- a palette of another length

-- the first step is refused
pub short_stops : (film : List ℕ) (st : State) (palette : List ℕ) (place : ℕ) → Early (length film) st → (length palette ≡ 768 → ⊥)
    → came (stopped 8 0 st) palette place ≡ kept palette place (to_size film st palette place)
unfolding step_of standing course_of
short_stops film st palette place y h =
    let e : course_of (step_before film st palette place).step.answer ≡ stops 8 0 = rw (short_palette film st (length palette) _ y h) refl in
    kept_stopped palette place _ 8 0 st (ap (λ (c : Came). c.answer) (sym (until_stops film (length film) st palette place y.unsized 8 0 e)))

-- ---- a turn, by what `foresee` says

abbrev pub Foreseen : List ℕ → State → Result State Refusal → Type 0
Foreseen film st r = (l : Lent) → length l.palette ≡ 768 → enough ≤ length l.room → turn_as r ≡ course_of (step_of film st allowance l).step.answer

zeros_long : (n : ℕ) → length (zeros n) ≡ n
unfolding zeros
zeros_long n = length-replicate n 0

pub roomy : enough ≤ length (zeros enough)
roomy = omega (arith, zeros_long enough)

module _ (film : List ℕ) (st : State) (y : Early (length film) st) (r : Result State Refusal) (s : Foreseen film st r) (t : State) (q : turn_as r ≡ goes t) where
  abbrev some : Lent
  some = lent (zeros 768) [] [] 0 (zeros enough) (words [] [] [])

  leads : course_of (step_of film st allowance some).step.answer ≡ goes t
  leads = sym (s some (zeros_long 768) (omega (arith, zeros_long enough))) ∙ q

  turn_forward : Forward (length film) st t
  turn_forward = goes_forward film st allowance ample some t leads

  turn_possible : state_verdict t (length film) ≡ accept
  turn_possible = step_possible film st allowance some t leads

-- ---- the loop: first the steps are judged, whatever palette and place they leave; then they are taken with their stores

sized_stopped : (s st : State) (n k : ℕ) → sized s ≡ stopped n k st → ⊥
sized_stopped s st n k e = let z : ◌≡◌ {A = ℕ} 0 1 = cc in omega arith

module _ (film : List ℕ) (first : State) (palette₀ : List ℕ) (place₀ : ℕ) where
  -- the steps so far lead on, with some palette and place
  pub record Judged (st : State) : Type 0 where
    pub palette : List ℕ
    pub place : ℕ
    pub long : length palette ≡ 768
    pub onward : Onward film first palette₀ place₀ st palette place

  -- they lead on with these; and to a size
  pub record Stored (st : State) (palette : List ℕ) (place : ℕ) : Type 0 where
    pub onward : Onward film first palette₀ place₀ st palette place
    pub reached : State
    pub end : sized reached ≡ (to_size film first palette₀ place₀).answer

  unfoldable pub Pass : Bool → State → List ℕ → ℕ → Type 0
  Pass false st palette place = Judged st × (palette ≡ palette₀) × (place ≡ place₀)
  Pass true st palette place = Stored st palette place

  pub record Passes (st : State) (palette : List ℕ) (place : ℕ) (storing : Bool) : Type 0 where
    pub long : length palette ≡ 768
    pub same : length palette ≡ length palette₀
    pub early : Early (length film) first
    pub possible : state_verdict st (length film) ≡ accept
    pub pass : Pass storing st palette place

  -- the same of a palette that a call gave back as it was
  pub passes_kept : (st : State) (palette palette' : List ℕ) (place : ℕ) (storing : Bool) → palette' ≡ palette → Passes st palette place storing → Passes st palette' place storing
  passes_kept st palette palette' place storing e p = subst (λ (l : List ℕ). Passes st l place storing) (sym e) p

  pub passes_start : length palette₀ ≡ 768 → Early (length film) first → Passes first palette₀ place₀ false
  unfolding Pass
  passes_start h e =
      record {
        long = h;
        same = refl;
        early = e;
        possible = e.possible;
        pass = (record { palette = palette₀; place = place₀; long = h; onward = onward_start film first palette₀ place₀ }, refl, refl);
      }

  module _ (st : State) (palette : List ℕ) (place : ℕ) (storing : Bool) (w : Passes st palette place storing) where
    judged : storing ≡ false → Judged st × (palette ≡ palette₀) × (place ≡ place₀)
    unfolding Pass
    judged e = rw e at w.pass

    stored : storing ≡ true → Stored st palette place
    unfolding Pass
    stored e = rw e at w.pass

    pub passes_early : st.columns ≡ 0 → Early (length film) st
    passes_early z = record { unsized = z; possible = w.possible }

    -- a size: from the start again, or the end
    pub passes_again : (st.columns ≡ 0 → ⊥) → storing ≡ false → Passes first palette place true
    unfolding Pass
    passes_again h e =
        record {
          long = w.long;
          same = w.same;
          early = w.early;
          possible = w.early.possible;
          pass =
              let j = judged e in
              record {
                onward = rw (j.1, j.2) (onward_start film first palette₀ place₀);
                reached = st;
                end = ap (λ (c : Came). c.answer) (onward_sized film first palette₀ place₀ st j.0.palette j.0.place j.0.onward h);
              };
        }

    pub passes_sized : (st.columns ≡ 0 → ⊥) → storing ≡ true → came (sized st) palette place ≡ kept palette₀ place₀ (to_size film first palette₀ place₀)
    passes_sized h e =
        let s = stored e in
        kept_sized palette₀ place₀ _ s.reached s.end _ (onward_sized film first palette₀ place₀ st palette place s.onward h)

    module _ (z : st.columns ≡ 0) (r : Result State Refusal) (s : Foreseen film st r) where
      said : (q : List ℕ) (k : ℕ) → length q ≡ 768 → turn_as r ≡ course_of (step_before film st q k).step.answer
      said q k h = s (lent q [] [] k (zeros enough) (words [] [] [])) h roomy

      -- a refusal, which only the first time can bring
      pub passes_stops : (i k : ℕ) → turn_as r ≡ stops i k → came (stopped i k st) palette place ≡ kept palette₀ place₀ (to_size film first palette₀ place₀)
      passes_stops i k q = by storing refl
        where
          by : (b : Bool) → storing ≡ b → came (stopped i k st) palette place ≡ kept palette₀ place₀ (to_size film first palette₀ place₀)
          by false e =
              let j = judged e in
              let o = onward_stops film first palette₀ place₀ st j.0.palette j.0.place j.0.onward z i k (sym q ∙ said j.0.palette j.0.place j.0.long) in
              rw (j.1, j.2) (kept_stopped palette₀ place₀ _ i k st (ap (λ (c : Came). c.answer) o))
          by true e =
              let y = stored e in
              let o = onward_stops film first palette₀ place₀ st palette place y.onward z i k (sym q ∙ said palette place w.long) in
              absurd (sized_stopped y.reached st i k (y.end ∙ sym (ap (λ (c : Came). c.answer) o)))

      module _ (t : State) (q : turn_as r ≡ goes t) where
        pub passes_judged : storing ≡ false → Passes t palette place storing
        unfolding Pass
        passes_judged e =
            record {
              long = w.long;
              same = w.same;
              early = w.early;
              possible = turn_possible film st (passes_early z) r s t q;
              pass =
                  rw e
                  (let j = judged e in
                  let v = j.0 in
                  let o = step_before film st v.palette v.place in (
                    record {
                      palette = o.lent.palette;
                      place = o.lent.place;
                      long = step_long film st z allowance ample (lent v.palette [] [] v.place (zeros enough) (words [] [] [])) ∙ v.long;
                      onward =
                          onward_more film first palette₀ place₀ st v.palette v.place v.onward z t (sym q ∙ said v.palette v.place v.long) _ _ refl refl;
                    },
                    j.1,
                    j.2,
                  ));
            }

        pub passes_stored : storing ≡ true → (p : List ℕ) (k : ℕ)
            → ((a b room : List ℕ) (w : Words) → p ≡ (step_of film st allowance (lent palette a b place room w)).lent.palette)
            → ((a b room : List ℕ) (w : Words) → k ≡ (step_of film st allowance (lent palette a b place room w)).lent.place)
            → length p ≡ length palette → Passes t p k storing
        unfolding Pass
        passes_stored e p k ep ek long =
            record {
              long = long ∙ w.long;
              same = long ∙ w.same;
              early = w.early;
              possible = turn_possible film st (passes_early z) r s t q;
              pass =
                  rw e
                  (let y = stored e in
                  record {
                    onward =
                        onward_more film first palette₀ place₀ st palette place y.onward z t (sym q ∙ said palette place w.long) p k
                        (ep [] [] (zeros enough) (words [] [] [])) (ek [] [] (zeros enough) (words [] [] []));
                    reached = y.reached;
                    end = y.end;
                  });
            }

        -- it ends: the cursor rises, and the second time comes after the first
        pub turn_less : (n : ℕ) → n + (length film - t.cursor.position) < n + (length film - st.cursor.position)
        turn_less n = let f = turn_forward film st (passes_early z) r s t q in omega (arith, f.rises, f.ordered, f.inside)

pub again_less : (storing : Bool) (film a b : ℕ) → storing ≡ false → 0 + (film - a) < cond storing 0 (suc film) + (film - b)
again_less storing film a b e = rw e (omega arith)

-- ---- opening

module _ (film : List ℕ) (stream : ℕ) (palette : List ℕ) (place : ℕ) (o : Result State Refusal) (e : opened_as o ≡ opening_of film stream) where
  pub begins : (st : State) → o ≡ Ok st → (c : Came) → c ≡ kept palette place (to_size film st palette place) → c ≡ begin_of film stream palette place
  unfolding begin_at
  begins st q c f = rw (← e, q) f

  pub begins_not : (r : Refusal) → o ≡ Err r → (s : State) → s ≡ nowhere → came (stopped (number r) (block r) s) palette place ≡ begin_of film stream palette place
  unfolding begin_at
  begins_not r q s f = rw (← e, q, f)

pub begin_early : (film : List ℕ) (stream : ℕ) (o : Result State Refusal) (st : State) → opened_as o ≡ opening_of film stream → o ≡ Ok st → Early (length film) st
begin_early film stream o st e q = first_early film stream st (sym e ∙ ap opened_as q)

pub is_nowhere : (s : Sound) → s ≡ first_sound 0
    → record { cursor = record { position = 0; chunk_end = 0 }; columns = 0; rows = 0; deep = false; front = 0; map = None; unsent = false; sound = s } ≡ nowhere
unfolding nowhere
is_nowhere s e = rw e
