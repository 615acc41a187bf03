-- A step where there is no size, by what code found: it draws nothing, whatever is lent.
-- Assumes nothing.
use mathlib.Core.Path.{◌≡◌, refl, sym, ap, ◌∙◌}
use mathlib.Core.Bool.{Bool, true, false, cond}
use mathlib.Core.List.{List, [], ◌∷◌, ◌++◌}
use Prim.Native.Nat.{ℕ, ◌+◌, ◌-◌, ◌≤◌, ◌<◌, zero-le}
use native.Mathlib.Decide.{ℕ_discrete}
use native.Mathlib.Nat.{not-suc-le-zero}
use native.Mathlib.Omega.{arith}
use borrow.Author.Tests.{le-ltb, ne_eqb}
use lib.ListN.{length}
use Rattle.refusal.specs.declared.Refusal.{Refusal}
use Rattle.refusal.specs.Number.{Verdict, accept, refuse, number, block}
use Rattle.packet.specs.Verdict.{legal, legal_size}
use Rattle.draw.specs.declared.Allowed.{Allowed}
use Rattle.palette.specs.Update.{Update, told, verdict_for, verdict_on, change_of, change_by, change_on, palette_after}
use Rattle.palette.specs.Gradient.{create_gradient}
use Rattle.palette.specs.Entries.{set_palette}
use Rattle.palette.specs.Mask.{set_palette_compressed}
use Rattle.palette.proofs.Gradients.{gradients_few}
use Rattle.palette.proofs.Entries.{entries_few}
use Rattle.palette.proofs.Groups.{groups_few}
use Rattle.sound.specs.declared.Heard.{Heard}
use Rattle.sound.specs.Format.{chosen}
use Rattle.sound.specs.Sound.{heard_as, answer, initialize_audio, audio_data, audio_silence}
use Rattle.state.specs.declared.Cursor.{Cursor}
use Rattle.state.specs.declared.Part.{Part}
use Rattle.std.specs.Prelude.{Option, Some, None, Result, Ok, Err}
use Rattle.state.specs.State.{some_part}
use Rattle.state.specs.declared.State.{State}
use Rattle.state.specs.Moves.{behind, into, mapped}
use Rattle.state.specs.State.{area, lent_verdict}
use Rattle.heads.specs.declared.Opcode.{Opcode}
use Rattle.heads.specs.Heads.{hears}
use Rattle.next.specs.declared.Next.{Next}
use Rattle.next.specs.declared.Next.TheVariants as found
use Rattle.next.specs.Next.{next_as, on, standing_at, next_of, Ready}
use Rattle.next.specs.Next as found'
use Rattle.opcodes.specs.declared.Stepped.{Stepped}
use Rattle.opcodes.specs.Opcodes.{Answer, Step, taken, refused, stored, quiet, stepped_as, quiet_answer, heard_step}
use Rattle.film.specs.Film.{Lent, with_pictures, Outcome, after, part, is_body_short, draw_by, palette_step, act, act_on, hear, take_on, shortest, stands_at, step_of}
use Rattle.walk.specs.Play.{most}
use Rattle.film.proofs.Steps as laws
use Rattle.begin.specs.Begin.{allowance, Course, goes, stops, course_of, Early, judged}

-- ---- sound

module _ (st : State) (kind version : ℕ) (body : List ℕ) (p : ℕ) (x : Step) (h : Result Heard Refusal) (f : x ≡ heard_step st p (heard_as h)) (l : Lent) where
  pub drops_format : kind ≡ 3 → heard_as h ≡ answer (initialize_audio st.sound version body) → x ≡ (hear st kind version body p l).step
  drops_format e q = ap (λ (o : Outcome). o.step) (laws.hears_format st kind version body p l x h f e q)

  pub drops_data : kind ≡ 8 → heard_as h ≡ answer (audio_data st.sound body (length l.room)) → x ≡ (hear st kind version body p l).step
  drops_data e q = ap (λ (o : Outcome). o.step) (laws.hears_data st kind version body p l x h f _ e q refl)

  pub drops_silence : (kind ≡ 3 → ⊥) → (kind ≡ 8 → ⊥) → heard_as h ≡ answer (audio_silence st.sound body (length l.room)) → x ≡ (hear st kind version body p l).step
  drops_silence n m q = ap (λ (o : Outcome). o.step) (laws.hears_silence st kind version body p l x h f _ n m q refl)

-- ---- 11

-- without a size it is refused, by 5 where the body is too short for a film with true colour
abbrev pub unable : State → List ℕ → ℕ
unable st body = cond (is_body_short st.deep (length body)) 5 9

unmapped : (m : Option Part) (film : List ℕ) (st : State) (body : List ℕ) (p : ℕ) (allowed : Allowed) (l : Lent) → false ≡ is_body_short st.deep (length body) → st.columns ≡ 0
    → after (quiet (refused 9 0)) l ≡ draw_by m film st body p allowed l
unmapped None film st body p allowed l g z = laws.no_map None film st body p allowed l false g refl refl
unmapped (Some map) film st body p allowed l g z = laws.no_size (Some map) film st body p allowed l false g refl map refl z

undrawn : (m : Option Part) (film : List ℕ) (st : State) (body : List ℕ) (p : ℕ) (allowed : Allowed) (l : Lent) → st.columns ≡ 0
    → after (quiet (refused (unable st body) 0)) l ≡ draw_by m film st body p allowed l
undrawn m film st body p allowed l z = by (is_body_short st.deep (length body)) refl
  where
    by : (b : Bool) → b ≡ is_body_short st.deep (length body) → after (quiet (refused (cond b 5 9) 0)) l ≡ draw_by m film st body p allowed l
    by true g = laws.short_body m film st body p allowed l true g refl
    by false g = unmapped m film st body p allowed l g z

flat_unable : (st : State) (body : List ℕ) → st.deep ≡ false → unable st body ≡ 9
unfolding is_body_short
flat_unable st body e = rw e

-- what is allowed is enough
pub ample : most ≤ allowance.stores
ample = omega arith

-- ---- 0B, 0C, 0D

module _ (st : State) (p : ℕ) (u : Result Unit Refusal) where
  pub judged_taken : (x : State) → u ≡ Ok tt → x ≡ behind st p → quiet (taken x) ≡ quiet (judged st p (told u))
  unfolding judged
  judged_taken x e f = rw (e, f)

  pub judged_refused : (r : Refusal) → u ≡ Err r → quiet (refused (number r) (block r)) ≡ quiet (judged st p (told u))
  unfolding judged
  judged_refused r e = rw e

-- all that are due are allowed
change_judged : (st : State) (p : ℕ) (u : Update) (n : ℕ) (palette : List ℕ) → (verdict_on u palette ≡ accept → length u.stores ≤ n)
    → judged st p (verdict_on u palette) ≡ (palette_step st p (change_on u n palette)).answer
unfolding judged palette_step change_by change_of
change_judged st p u n palette few = by (verdict_on u palette) few
  where
    by : (v : Verdict) → (v ≡ accept → length u.stores ≤ n) → judged st p v ≡ (palette_step st p (change_by v u.stores n)).answer
    by accept f = rw (le-ltb n (length u.stores) (f refl))
    by (refuse m k) f = refl

-- ---- an opcode that is no sound: what it comes to, and what it leaves

module _ (film : List ℕ) (st : State) (kind version s : ℕ) (body : List ℕ) (p : ℕ) (allowed : Allowed) (big : most ≤ allowed.stores) (l : Lent) where
  some : allowed.stores ≡ 0 → ⊥
  some z = omega (arith, big)

  pub acts_map : kind ≡ 15 → after (stored (taken (mapped st p (some_part s (p - s)))) 1) (with_pictures l l.first l.second 0) ≡ act film st kind version s body p allowed l
  acts_map e = laws.act_map film st kind version s body p allowed l _ 0 e some refl refl

  pub acts_draw : kind ≡ 17 → st.columns ≡ 0 → after (quiet (refused (unable st body) 0)) l ≡ act film st kind version s body p allowed l
  acts_draw e z = laws.act_draw film st kind version s body p allowed l _ e (undrawn st.map film st body p allowed l z)

  -- what it answers
  abbrev pub Says : Answer → Type 0
  Says x = x ≡ (act film st kind version s body p allowed l).step.answer

  says : (o : Outcome) → o ≡ act film st kind version s body p allowed l → Says o.step.answer
  says o e = ap (λ (o : Outcome). o.step.answer) e

  module _ (n : ℕ) (g : length l.palette ≡ n) (u : Result Unit Refusal) (x : Step) (f : x ≡ quiet (judged st p (told u))) where
    said : (w : Update) → told u ≡ verdict_for w n → (verdict_on w l.palette ≡ accept → length w.stores ≤ 1536)
        → x.answer ≡ (palette_step st p (change_on w allowed.stores l.palette)).answer
    said w v few =
        ap (λ (y : Step). y.answer) f ∙ ap (judged st p) (v ∙ ap (verdict_for w) (sym g))
        ∙ change_judged st p w allowed.stores l.palette (λ a. omega (arith, few a, big))

    pub judges_gradient : kind ≡ 11 → told u ≡ verdict_for (create_gradient body) n → Says x.answer
    judges_gradient e v =
        said (create_gradient body) v (λ a. gradients_few body (length l.palette) a)
        ∙ says _ (laws.act_gradient film st kind version s body p allowed l _ _ _ refl e refl refl)

    pub judges_entries : kind ≡ 12 → told u ≡ verdict_for (set_palette body) n → Says x.answer
    judges_entries e v =
        said (set_palette body) v (λ a. entries_few body (length l.palette) a)
        ∙ says _ (laws.act_entries film st kind version s body p allowed l _ _ _ refl e refl refl)

    pub judges_groups : kind ≡ 13 → told u ≡ verdict_for (set_palette_compressed body) n → Says x.answer
    judges_groups e v =
        said (set_palette_compressed body) v (λ a. groups_few body)
        ∙ says _ (laws.act_masks film st kind version s body p allowed l _ _ _ refl e refl refl)

  pub judges_map : (x : State) → kind ≡ 15 → x ≡ mapped st p (some_part s (p - s)) → Says (taken x)
  judges_map x e f = says _ (laws.act_map film st kind version s body p allowed l x 0 e some f refl)

  pub judges_draw : kind ≡ 17 → st.columns ≡ 0 → st.deep ≡ false → Says (refused 9 0)
  judges_draw e z f = ap (λ (n : ℕ). refused n 0) (sym (flat_unable st body f)) ∙ says _ (acts_draw e z)

  pub judges_quiet : (x : Step) → (kind ≡ 11 → ⊥) → (kind ≡ 12 → ⊥) → (kind ≡ 13 → ⊥) → (kind ≡ 15 → ⊥) → (kind ≡ 17 → ⊥)
      → x ≡ quiet (quiet_answer (length film) st kind version body p) → Says x.answer
  judges_quiet x n11 n12 n13 n15 n17 f = says _ (laws.act_quiet film st kind version s body p allowed l x n11 n12 n13 n15 n17 f)

  pub judges_low : kind < 11 → (x : Step) → x ≡ quiet (quiet_answer (length film) st kind version body p) → Says x.answer
  judges_low h x f = judges_quiet x (not 11 (omega arith)) (not 12 (omega arith)) (not 13 (omega arith)) (not 15 (omega arith)) (not 17 (omega arith)) f
    where
      not : (n : ℕ) → kind < n → kind ≡ n → ⊥
      not n l e = omega arith

  -- a palette and a place that are those which it leaves
  abbrev pub Left : List ℕ → ℕ → Type 0
  Left q k = (q ≡ (act film st kind version s body p allowed l).lent.palette) × (k ≡ (act film st kind version s body p allowed l).lent.place)

  left : (o : Outcome) → o ≡ act film st kind version s body p allowed l → Left o.lent.palette o.lent.place
  left o e = (ap (λ (o : Outcome). o.lent.palette) e, ap (λ (o : Outcome). o.lent.place) e)

  pub leaves_map : (k : ℕ) → kind ≡ 15 → k ≡ 0 → Left l.palette k
  leaves_map k e f = left _ (laws.act_map film st kind version s body p allowed l _ k e some refl f)

  module _ (q : List ℕ) where
    pub leaves_gradient : kind ≡ 11 → q ≡ palette_after (create_gradient body) allowed.stores l.palette → Left q l.place
    leaves_gradient e h = left _ (laws.act_gradient film st kind version s body p allowed l _ q _ refl e refl h)

    pub leaves_entries : kind ≡ 12 → q ≡ palette_after (set_palette body) allowed.stores l.palette → Left q l.place
    leaves_entries e h = left _ (laws.act_entries film st kind version s body p allowed l _ q _ refl e refl h)

    pub leaves_groups : kind ≡ 13 → q ≡ palette_after (set_palette_compressed body) allowed.stores l.palette → Left q l.place
    leaves_groups e h = left _ (laws.act_masks film st kind version s body p allowed l _ q _ refl e refl h)

  pub leaves_others : st.columns ≡ 0 → (kind ≡ 11 → ⊥) → (kind ≡ 12 → ⊥) → (kind ≡ 13 → ⊥) → (kind ≡ 15 → ⊥) → Left l.palette l.place
  leaves_others z n11 n12 n13 n15 = by (ℕ_discrete kind 17)
    where
      by : Dec (kind ≡ 17) → Left l.palette l.place
      by (yes e) = left _ (acts_draw e z)
      by (no n17) = left _ (laws.act_quiet film st kind version s body p allowed l _ n11 n12 n13 n15 n17 refl)

-- ---- an opcode

module _ (film : List ℕ) (st : State) (o : Opcode) (b c : Bool) (e : b ≡ chosen st.sound.stream) (q : c ≡ hears b o.kind) (l : Lent) (allowed : Allowed) where
  pub takes_dropped : c ≡ true → (x : Step) → x ≡ (hear st o.kind o.version (part film o.start (o.start + o.long)) (o.start + o.long) l).step
      → x.answer ≡ (take_on film st o allowed l).step.answer
  takes_dropped t x f = ap (λ (y : Step). y.answer) f ∙ ap (λ (o : Outcome). o.step.answer) (laws.takes_sound film st o allowed l b c e q _ t refl)

  pub takes_acted : c ≡ false → (x : Answer) → x ≡ (act_on film st o allowed l).step.answer → x ≡ (take_on film st o allowed l).step.answer
  takes_acted t x f = f ∙ ap (λ (o : Outcome). o.step.answer) (laws.takes_other film st o allowed l b c e q _ t refl)

-- ---- a step

-- by what code found
pub turn_as : (x y : Result Stepped Refusal) → x ≡ y → course_of (stepped_as y).answer ≡ course_of (stepped_as x).answer
turn_as x y e = ap (λ (s : Result Stepped Refusal). course_of (stepped_as s).answer) (sym e)

-- without a size no picture is too short
no_area : (columns rows : ℕ) → columns ≡ 0 → area columns rows ≡ 0
unfolding area legal_size legal
no_area columns rows z = rw z

all_long : (n s : ℕ) → lent_verdict 0 n s ≡ lent_verdict 0 n 0
unfolding lent_verdict
all_long n s = rw (le-ltb s 0 zero-le)

pub same_next : (film : List ℕ) (st : State) (n s : ℕ) → st.columns ≡ 0 → next_of film st n s ≡ next_of film st n 0
unfolding next_of
same_next film st n s z = rw (no_area st.columns st.rows z, all_long n s)

-- what stands there, where the palette has 768 bytes
pub next_early : (film : List ℕ) (st : State) (s : ℕ) → Early (length film) st → next_of film st 768 s ≡ standing_at (chosen st.sound.stream) film st.cursor
unfolding next_of on lent_verdict
next_early film st s e = rw (e.possible, no_area st.columns st.rows e.unsized, le-ltb s 0 zero-le)

-- else the step is refused
pub short_palette : (film : List ℕ) (st : State) (n s : ℕ) → Early (length film) st → (n ≡ 768 → ⊥) → next_of film st n s ≡ found'.refused 8 0
unfolding next_of on lent_verdict
short_palette film st n s e h = rw (e.possible, ne_eqb n 768 h)

-- an opcode that stands there is there in full
pub early_ready : (film : List ℕ) (st : State) (b : Bool) (x : Result Next Refusal) (o : Opcode) → Early (length film) st → b ≡ chosen st.sound.stream → next_as x ≡ standing_at b film st.cursor
    → x ≡ Ok (found.Opcode o) → Ready (length film) st.cursor o
early_ready film st b x o e h f q =
    (laws.step_ready film st 768 0 x o (f ∙ ap (λ (c : Bool). standing_at c film st.cursor) h ∙ sym (next_early film st 0 e)) q).1

module _ (film : List ℕ) (st : State) (y : Early (length film) st) (b : Bool) (h : b ≡ chosen st.sound.stream) (x : Result Next Refusal) (e : next_as x ≡ standing_at b film st.cursor)
    (l : Lent) (allowed : Allowed) (g : length l.palette ≡ 768) where
  stands : next_as x ≡ stands_at film st l
  stands =
      e ∙ ap (λ (c : Bool). standing_at c film st.cursor) h
      ∙ sym (next_early film st (shortest st l) y)
      ∙ ap (λ (m : ℕ). next_of film st m (shortest st l)) (sym g)

  abbrev pub Leads : Course → Type 0
  Leads c = c ≡ course_of (step_of film st allowed l).step.answer

  leads : (o : Outcome) → o ≡ step_of film st allowed l → Leads (course_of o.step.answer)
  leads o f = ap (λ (o : Outcome). course_of o.step.answer) f

  pub sees_refusal : (r : Refusal) → x ≡ Err r → Leads (stops (number r) (block r))
  unfolding course_of
  sees_refusal r q = leads _ (laws.step_refused film st allowed l x (shortest st l) refl stands r q)

  pub sees_end : x ≡ Ok found.Ended → Leads (stops 21 0)
  unfolding course_of
  sees_end q = leads _ (laws.step_ended film st allowed l x (shortest st l) refl stands q)

  pub sees_chunk : (c : Cursor) (y : State) → x ≡ Ok (found.Chunk c) → y ≡ into st c → Leads (goes y)
  unfolding course_of
  sees_chunk c y q f = leads _ (laws.step_chunk film st allowed l x (shortest st l) refl stands c y q f)

  pub sees_opcode : (o : Opcode) (y : Answer) (c : Course) → x ≡ Ok (found.Opcode o) → c ≡ course_of y → y ≡ (take_on film st o allowed l).step.answer → Leads c
  sees_opcode o y c q f h = f ∙ ap course_of h ∙ leads _ (laws.step_opcode film st allowed l x (shortest st l) refl stands o _ q refl)

  -- what the step leaves
  abbrev pub Kept : List ℕ → ℕ → Type 0
  Kept q k = (q ≡ (step_of film st allowed l).lent.palette) × (k ≡ (step_of film st allowed l).lent.place)

  keeps : (o : Outcome) → o ≡ step_of film st allowed l → Kept o.lent.palette o.lent.place
  keeps o f = (ap (λ (o : Outcome). o.lent.palette) f, ap (λ (o : Outcome). o.lent.place) f)

  pub keeps_refused : (r : Refusal) → x ≡ Err r → Kept l.palette l.place
  keeps_refused r q = keeps _ (laws.step_refused film st allowed l x (shortest st l) refl stands r q)

  pub keeps_ended : x ≡ Ok found.Ended → Kept l.palette l.place
  keeps_ended q = keeps _ (laws.step_ended film st allowed l x (shortest st l) refl stands q)

  pub keeps_chunk : (c : Cursor) → x ≡ Ok (found.Chunk c) → Kept l.palette l.place
  keeps_chunk c q = keeps _ (laws.step_chunk film st allowed l x (shortest st l) refl stands c (into st c) q refl)

  module _ (o : Opcode) (f : x ≡ Ok (found.Opcode o)) (c : Bool) (i : c ≡ hears b o.kind) where
    step_is : (y : Outcome) → y ≡ take_on film st o allowed l → y ≡ step_of film st allowed l
    step_is y j = laws.step_opcode film st allowed l x (shortest st l) refl stands o y f j

    pub keeps_sound : c ≡ true → Kept l.palette l.place
    unfolding hear
    keeps_sound t = keeps _ (step_is _ (laws.takes_sound film st o allowed l b c h i _ t refl))

    pub leaves_opcode : c ≡ false → (q : List ℕ) (k : ℕ) → q ≡ (act_on film st o allowed l).lent.palette → k ≡ (act_on film st o allowed l).lent.place → Kept q k
    leaves_opcode t q k j m = let y = keeps _ (step_is _ (laws.takes_other film st o allowed l b c h i _ t refl)) in (j ∙ y.0, m ∙ y.1)

-- what was lent of no bytes comes back so
pub nothing_lent : (part l : List ℕ) → length part ≡ 0 → part ++ l ≡ l
nothing_lent [] l e = refl
nothing_lent (x ∷ part) l e = let z : 1 ≤ 0 = omega arith in absurd (not-suc-le-zero z)
