-- Rows of blocks that a step does not touch: `step_unchanged`.
-- Assumes nothing.
use mathlib.Core.Path.{refl}
use mathlib.Core.Bool.{Bool, true, false, cond}
use mathlib.Core.List.{List}
use Prim.Native.Nat.{ℕ, ◌+◌}
use lib.Dec.{eqb}
use Rattle.std.specs.Prelude.{Option, None}
use Rattle.refusal.specs.Number.{Verdict, accept, refuse}
use Rattle.packet.specs.declared.Rows.{Rows}
use Rattle.packet.specs.Rows.{touched, Outside}
use Rattle.stores.specs.Stores.{Memory}
use Rattle.stores.specs.Calls.{answered, returns, call_of, outcome, happens, step}
use Rattle.draw.specs.declared.Allowed.{Allowed}
use Rattle.draw.specs.Call.{Request, call_plan, draw_verdict, comes, calling}
use Rattle.draw.specs.Call.{packet_of as packet_in}
use Rattle.book.proofs.Rows.{rows_unchanged}
use Rattle.state.specs.declared.State.{State}
use Rattle.opcodes.specs.Opcodes.{drawn_as, drawn_step}
use Rattle.film.specs.Film.{Lent, lent, drawn_at, Outcome, request_of, draw_on, part, map_to, hear}
use Rattle.walk.specs.Draws.{packet_of}
use Rattle.walk.specs.View.{end_of, View, refuses, ends, enters, sounds, maps, colours, too_short, undrawn, draws, others}
use Rattle.walk.specs.Pictures.{Pictures}
use Rattle.walk.specs.Rows.{PixelKept, Unchanged}
use Rattle.walk.proofs.Pictures.{all_kept, beside, drawn_holds}
use Rattle.walk.proofs.View.{view_of}

-- what lies outside the rows that an outcome tells stays
abbrev Keeps : ℕ → ℕ → Lent → Outcome → Type 0
Keeps columns t l o = Outside columns o.step.rows t → Pictures (PixelKept t) o.lent l

keeps_by : (columns t : ℕ) (l : Lent) (b : Bool) (x y : Outcome) → Keeps columns t l x → Keeps columns t l y → Keeps columns t l (cond b x y)
keeps_by columns t l true x y f g = f
keeps_by columns t l false x y f g = g

-- a step that leaves all pictures, whatever else it does
still : (t : ℕ) (l : Lent) (p : List ℕ) (n : ℕ) (r : List ℕ) → Pictures (PixelKept t) (lent p l.first l.second n r l.words) l
still t l p n r = beside (PixelKept t) l l (all_kept (PixelKept t) (λ x. refl) l) p _ n _ r _

-- a drawn step tells the rows of its drawing call, unless that is refused
drawn_rows : (columns t : ℕ) (st : State) (p : ℕ) (b : Bool) (n : ℕ) (u : Option Rows) → Outside columns (drawn_as st p (answered b) n u).rows t → Outside columns u t
unfolding drawn_as answered
drawn_rows columns t st p true n u o = o
drawn_rows columns t st p false n u o = o

rows_drawn : (columns t : ℕ) (st : State) (p : ℕ) (v : Verdict) (q : Request) (m : Memory)
    → Outside columns (drawn_step st p (outcome (call_plan q) (touched (packet_in q)) None m (comes v q.allowed.stores))).rows t
    → Outside columns (outcome (call_plan q) (touched (packet_in q)) None m (comes v q.allowed.stores)).rows t
unfolding outcome comes drawn_as Outside
rows_drawn columns t st p (refuse n k) q m o = tt
rows_drawn columns t st p accept q m o = drawn_rows columns t st p _ _ _ o

module _ (film : List ℕ) (st : State) (n : Allowed) (t : ℕ) where
  on_keeps : (p : ℕ) (map packet : List ℕ) (l : Lent) → Keeps st.columns t l (draw_on st p map packet n l)
  unfolding draw_on happens call_of
  on_keeps p map packet l o =
      let q = request_of st map packet n l in
      let m = drawn_at st l in
      drawn_holds (PixelKept t) (λ x. refl) st l (step calling m q) (rows_unchanged m (returns q) t (rows_drawn st.columns t st p (draw_verdict q m) q m o))

  view_keeps : {l : Lent} {o : Outcome} → View film st n l o → Keeps st.columns t l o
  unfolding hear map_to
  view_keeps {l} (refuses k b e) h = still t l _ _ _
  view_keeps {l} (ends e v) h = still t l _ _ _
  view_keeps {l} (enters c e v) h = still t l _ _ _
  view_keeps {l} (sounds o a s) h = still t l _ _ _
  view_keeps {l} (maps o a u e) h = keeps_by st.columns t l (eqb n.stores 0) _ _ (λ h. still t l _ _ _) (λ h. still t l _ _ _) h
  view_keeps {l} (colours o x a u c) h = still t l _ _ _
  view_keeps {l} (too_short o a u e d k) h = still t l _ _ _
  view_keeps {l} (undrawn o a u e m) h = still t l _ _ _
  view_keeps {l} (draws o start long a u e m c) h = on_keeps (end_of o) (part film start (start + long)) (packet_of film o) l h
  view_keeps {l} (others o a u x) h = still t l _ _ _

pub step_unchanged : (film : List ℕ) (st : State) (allowed : Allowed) (l : Lent) → Unchanged film st allowed l
step_unchanged film st n l t = view_keeps film st n t (view_of film st n l)
