-- No step before a size changes the palette's length: `step_long`.
-- Assumes nothing.
use mathlib.Core.Path.{◌≡◌, refl, sym, ap, ◌∙◌}
use mathlib.Core.Bool.{Bool, true, false, cond}
use mathlib.Core.List.{List}
use Prim.Native.Nat.{ℕ, ◌+◌, ◌≤◌}
use native.Mathlib.Decide.{ℕ_discrete}
use lib.ListN.{length}
use Rattle.draw.specs.declared.Allowed.{Allowed}
use Rattle.palette.specs.Gradient.{create_gradient}
use Rattle.palette.specs.Entries.{set_palette}
use Rattle.palette.specs.Mask.{set_palette_compressed}
use Rattle.palette.proofs.Outcome.{after_length}
use Rattle.sound.specs.Format.{chosen}
use Rattle.state.specs.declared.State.{State}
use Rattle.heads.specs.declared.Opcode.{Opcode}
use Rattle.heads.specs.Heads.{hears}
use Rattle.next.specs.Next.{Standing}
use Rattle.next.specs.Next as found
use Rattle.film.specs.Film.{Lent, Outcome, part, act, act_on, hear, take_on, standing, stands_at, step_of}
use Rattle.walk.specs.Play.{most}
use Rattle.begin.proofs.Before.{acts_draw, leaves_map, leaves_gradient, leaves_entries, leaves_groups, leaves_others}

-- ---- which opcode it is

pub data Which (kind : ℕ) : Type 0 where
  gradient : kind ≡ 11 → Which kind
  entries : kind ≡ 12 → Which kind
  groups : kind ≡ 13 → Which kind
  maps : kind ≡ 15 → Which kind
  draws : kind ≡ 17 → Which kind
  quiets : (kind ≡ 11 → ⊥) → (kind ≡ 12 → ⊥) → (kind ≡ 13 → ⊥) → (kind ≡ 15 → ⊥) → (kind ≡ 17 → ⊥) → Which kind

pub which : (kind : ℕ) → Which kind
which kind = by (ℕ_discrete kind 11) (ℕ_discrete kind 12) (ℕ_discrete kind 13) (ℕ_discrete kind 15) (ℕ_discrete kind 17)
  where
    by : Dec (kind ≡ 11) → Dec (kind ≡ 12) → Dec (kind ≡ 13) → Dec (kind ≡ 15) → Dec (kind ≡ 17) → Which kind
    by (yes e) b c d f = gradient e
    by (no n11) (yes e) c d f = entries e
    by (no n11) (no n12) (yes e) d f = groups e
    by (no n11) (no n12) (no n13) (yes e) f = maps e
    by (no n11) (no n12) (no n13) (no n15) (yes e) = draws e
    by (no n11) (no n12) (no n13) (no n15) (no n17) = quiets n11 n12 n13 n15 n17

-- ---- the palette's length

module _ (film : List ℕ) (st : State) (z : st.columns ≡ 0) (allowed : Allowed) (big : most ≤ allowed.stores) (l : Lent) where
  abbrev Long : Outcome → Type 0
  Long o = length o.lent.palette ≡ length l.palette

  act_long : (kind version s : ℕ) (body : List ℕ) (p : ℕ) → Which kind → Long (act film st kind version s body p allowed l)
  act_long kind version s body p (gradient e) =
      sym (ap length (leaves_gradient film st kind version s body p allowed big l _ e refl).0) ∙ after_length (create_gradient body) allowed.stores l.palette
  act_long kind version s body p (entries e) =
      sym (ap length (leaves_entries film st kind version s body p allowed big l _ e refl).0) ∙ after_length (set_palette body) allowed.stores l.palette
  act_long kind version s body p (groups e) =
      sym (ap length (leaves_groups film st kind version s body p allowed big l _ e refl).0) ∙ after_length (set_palette_compressed body) allowed.stores l.palette
  act_long kind version s body p (maps e) = sym (ap length (leaves_map film st kind version s body p allowed big l 0 e refl).0)
  act_long kind version s body p (draws e) = sym (ap (λ (o : Outcome). length o.lent.palette) (acts_draw film st kind version s body p allowed big l e z))
  act_long kind version s body p (quiets n11 n12 n13 n15 n17) = sym (ap length (leaves_others film st kind version s body p allowed big l z n11 n12 n13 n15).0)

  take_long : (o : Opcode) (b : Bool) → Long (cond b (hear st o.kind o.version (part film o.start (o.start + o.long)) (o.start + o.long) l) (act_on film st o allowed l))
  unfolding hear
  take_long o true = refl
  take_long o false = act_long o.kind o.version o.start (part film o.start (o.start + o.long)) (o.start + o.long) (which o.kind)

  standing_long : (s : Standing) → Long (standing s film st allowed l)
  unfolding standing take_on
  standing_long (found.refused n k) = refl
  standing_long found.ended = refl
  standing_long (found.chunk c) = refl
  standing_long (found.opcode o) = take_long o (hears (chosen st.sound.stream) o.kind)

  pub step_long : Long (step_of film st allowed l)
  unfolding step_of
  step_long = standing_long (stands_at film st l)
