-- `view_of`: every step has a view.
-- Assumes nothing.
use mathlib.Core.Path.{◌≡◌, refl}
use mathlib.Core.Bool.{Bool, true, false, cond}
use mathlib.Core.List.{List}
use Prim.Native.Nat.{ℕ, ◌+◌, ◌-◌}
use native.Mathlib.Omega.{arith}
use borrow.Author.Tests.{eqb-true, eqb-false, ltb-true}
use lib.Dec.{eqb, ltb}
use lib.ListN.{length}
use Rattle.refusal.specs.Number.{Verdict, accept, refuse}
use Rattle.draw.specs.declared.Allowed.{Allowed}
use Rattle.palette.specs.Gradient.{create_gradient}
use Rattle.palette.specs.Entries.{set_palette}
use Rattle.palette.specs.Mask.{set_palette_compressed}
use Rattle.state.specs.declared.Part.{Part}
use Rattle.std.specs.Prelude.{Option, Some, None}
use Rattle.state.specs.declared.State.{State}
use Rattle.state.specs.Moves.{mapped}
use Rattle.state.specs.State.{state_verdict, some_part}
use Rattle.heads.specs.declared.Opcode.{Opcode}
use Rattle.next.specs.Next.{Standing, on, next_of}
use Rattle.next.specs.Next as found
use Rattle.next.proofs.Standing.{found_ready}
use Rattle.opcodes.specs.Opcodes.{refused, quiet, quiet_answer}
use Rattle.film.specs.Film.{Lent, shortest, stands_at, after, draw_on, part, draw_mapped, is_body_short, draw_by, update, map_to, act, act_on, hear, take_on, standing, step_of}
use Rattle.walk.specs.Draws.{body_of, packet_of}
use Rattle.walk.specs.View.{end_of, AtOpcode, as_sound, gradient, entries, masks, no_map, no_size, View, refuses, ends, enters, sounds, maps, colours, too_short, undrawn, draws, others}

-- where something stands, 16 accepts the state
on_accept : (v : Verdict) (s x : Standing) → on v s ≡ x → ((n k : ℕ) → found.refused n k ≡ x → ⊥) → v ≡ accept
unfolding on
on_accept accept s x e f = refl
on_accept (refuse n k) s x e f = absurd (f n k e)

module _ (film : List ℕ) (st : State) (allowed : Allowed) (l : Lent) where
  accepted : (x : Standing) → stands_at film st l ≡ x → ((n k : ℕ) → found.refused n k ≡ x → ⊥) → state_verdict st (length film) ≡ accept
  unfolding next_of
  accepted x e f = on_accept _ _ x e f

  module _ (o : Opcode) (a : AtOpcode film st l o) (u : as_sound st o ≡ false) where
    by_map : o.kind ≡ 17 → (m : Option Part) → st.map ≡ m → View film st allowed l (draw_mapped m film st (body_of film o) (end_of o) allowed l)
    unfolding draw_mapped
    by_map k None e = undrawn o a u k (no_map e)
    by_map k (Some map) e = by (eqb st.columns 0) refl
      where
        by : (b : Bool) → eqb st.columns 0 ≡ b → View film st allowed l (cond b (after (quiet (refused 9 0)) l) (draw_on st (end_of o) (part film map.start (map.start + map.long)) (packet_of film o) allowed l))
        by true q = undrawn o a u k (no_size (eqb-true _ _ q))
        by false q = draws o map.start map.long a u k e (eqb-false _ _ q)

    by_body : o.kind ≡ 17 → View film st allowed l (draw_by st.map film st (body_of film o) (end_of o) allowed l)
    unfolding draw_by is_body_short
    by_body k = by st.deep (ltb (length (body_of film o)) 16) refl refl
      where
        by : (d t : Bool) → st.deep ≡ d → ltb (length (body_of film o)) 16 ≡ t
            → View film st allowed l (cond (cond d t false) (after (quiet (refused 5 0)) l) (draw_mapped st.map film st (body_of film o) (end_of o) allowed l))
        by true true e q = too_short o a u k e (ltb-true _ _ q)
        by true false e q = by_map k st.map refl
        by false t e q = by_map k st.map refl

    by_kind : View film st allowed l (act_on film st o allowed l)
    unfolding act
    by_kind = by (eqb o.kind 15) (eqb o.kind 17) (eqb o.kind 11) (eqb o.kind 12) (eqb o.kind 13) refl refl refl refl refl
      where
        by : (b15 b17 b11 b12 b13 : Bool) → eqb o.kind 15 ≡ b15 → eqb o.kind 17 ≡ b17 → eqb o.kind 11 ≡ b11 → eqb o.kind 12 ≡ b12 → eqb o.kind 13 ≡ b13
            → View film st allowed l
            (cond b15 (map_to st (mapped st (end_of o) (some_part o.start (end_of o - o.start))) allowed.stores l)
            (cond b17 (draw_by st.map film st (body_of film o) (end_of o) allowed l)
            (cond b11 (update st (end_of o) (create_gradient (body_of film o)) allowed.stores l)
            (cond b12 (update st (end_of o) (set_palette (body_of film o)) allowed.stores l)
            (cond b13 (update st (end_of o) (set_palette_compressed (body_of film o)) allowed.stores l)
            (after (quiet (quiet_answer (length film) st o.kind o.version (body_of film o) (end_of o))) l))))))
        by true b17 b11 b12 b13 e f g h i = maps o a u (eqb-true _ _ e)
        by false true b11 b12 b13 e f g h i = by_body (eqb-true _ _ f)
        by false false true b12 b13 e f g h i = colours o _ a u (gradient (eqb-true _ _ g))
        by false false false true b13 e f g h i = colours o _ a u (entries (eqb-true _ _ h))
        by false false false false true e f g h i = colours o _ a u (masks (eqb-true _ _ i))
        by false false false false false e f g h i =
            others o a u
            (record { not_0b = eqb-false _ _ g; not_0c = eqb-false _ _ h; not_0d = eqb-false _ _ i; not_0f = eqb-false _ _ e; not_11 = eqb-false _ _ f })

  by_opcode : (o : Opcode) → AtOpcode film st l o → View film st allowed l (take_on film st o allowed l)
  unfolding take_on
  by_opcode o a = by (as_sound st o) refl
    where
      by : (b : Bool) → as_sound st o ≡ b → View film st allowed l (cond b (hear st o.kind o.version (body_of film o) (end_of o) l) (act_on film st o allowed l))
      by true e = sounds o a e
      by false e = by_kind o a e

  by_standing : (s : Standing) → stands_at film st l ≡ s → View film st allowed l (standing s film st allowed l)
  unfolding standing
  by_standing (found.refused n k) e = refuses n k e
  by_standing found.ended e = ends e (accepted found.ended e (λ n k q. let z : ◌≡◌ {A = ℕ} 0 1 = cc in omega arith))
  by_standing (found.chunk c) e = enters c e (accepted (found.chunk c) e (λ n k q. let z : ◌≡◌ {A = ℕ} 0 1 = cc in omega arith))
  by_standing (found.opcode o) e =
      by_opcode o
      (record {
        stands = e;
        accepted = accepted (found.opcode o) e (λ n k q. let z : ◌≡◌ {A = ℕ} 0 1 = cc in omega arith);
        ready = (found_ready film st (length l.palette) (shortest st l) o e).1;
      })

  pub view_of : View film st allowed l (step_of film st allowed l)
  unfolding step_of
  view_of = by_standing (stands_at film st l) refl
