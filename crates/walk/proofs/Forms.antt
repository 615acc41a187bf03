-- The two forms of the film step: `step_forms`. What they come to is carried through each choice of the step by `Differ`.
-- Assumes nothing.
use mathlib.Core.Path.{◌≡◌, refl, sym, ap, ◌∙◌, subst}
use mathlib.Core.Logic.{◌⊎◌, inl, inr}
use mathlib.Core.Bool.{Bool, true, false, cond}
use mathlib.Core.List.{List}
use Prim.Native.Nat.{ℕ, ◌+◌, ◌-◌, zero-le}
use native.Mathlib.Decide.{dec_lt}
use native.Mathlib.Omega.{arith}
use borrow.Author.Tests.{eqb-true}
use lib.Dec.{eqb}
use lib.ListN.{length}
use Rattle.refusal.specs.Number.{Verdict}
use Rattle.packet.specs.Packet.{Packet, packet_in, blocks, start}
use Rattle.packet.specs.Rows.{touched}
use Rattle.packet.specs.Verdict.{default, strict}
use Rattle.packet.specs.Accepted.{Used}
use Rattle.packet.specs.Forms.{last_length, last_used, OneOver}
use Rattle.stores.specs.Stores.{Memory}
use Rattle.stores.specs.Calls.{leave, outcome}
use Rattle.draw.specs.Forms.{in_form}
use Rattle.draw.specs.Call.{Request, within, packet_of as packetOfCall, call_plan, draw_verdict, comes}
use Rattle.packet.proofs.Forms.{Differ as DifferAs}
use Rattle.packet.proofs.Forms as packet
use Rattle.draw.proofs.Forms.{verdicts_differ}
use Rattle.palette.specs.Gradient.{create_gradient}
use Rattle.palette.specs.Entries.{set_palette}
use Rattle.palette.specs.Mask.{set_palette_compressed}
use Rattle.state.specs.declared.Part.{Part}
use Rattle.std.specs.Prelude.{Option, Some, None}
use Rattle.state.specs.State.{some_part}
use Rattle.state.specs.declared.State.{State}
use Rattle.state.specs.Moves.{mapped}
use Rattle.sound.specs.Format.{chosen}
use Rattle.heads.specs.declared.Opcode.{Opcode}
use Rattle.heads.specs.Heads.{hears}
use Rattle.next.specs.Next.{Standing}
use Rattle.next.specs.Next as found
use Rattle.opcodes.specs.Opcodes.{refused, quiet, quiet_answer, drawn_as, drawn_step}
use Rattle.film.specs.Film.{Lent, drawn_at, with_drawn, stands_at, Outcome, after, request_of, draw_on, part, draw_mapped, is_body_short, draw_by, update, map_to, act, act_on, hear, take_on, standing, step_of}
use Rattle.film.proofs.Pictures.{drawn_back}
use Rattle.walk.specs.Draws.{packet_of, Draws, AtPacket, Drew}
use Rattle.walk.specs.Forms.{Odd, Forms}
use Rattle.walk.proofs.Draws.{drew_accepted, not_refused, draws_exactly}

-- the outcomes x of the default and y of the strict form: one, or a drawing that the strict form refuses by 15
abbrev Differ : Lent → Outcome → Outcome → Type 0
Differ l x y = (x ≡ y) ⊎ (Drew x.step.answer × (y ≡ after (quiet (refused 15 0)) l))

-- the same, with what is known where they differ
abbrev DifferIf : Type 0 → Lent → Outcome → Outcome → Type 0
DifferIf P l x y = (x ≡ y) ⊎ (P × Drew x.step.answer × (y ≡ after (quiet (refused 15 0)) l))

differ_if : (P : Type 0) (l : Lent) (x y : Outcome) → P → Differ l x y → DifferIf P l x y
differ_if P l x y p (inl e) = inl e
differ_if P l x y p (inr d) = inr (p, d.0, d.1)

differ_by : (l : Lent) (b : Bool) (x x' y y' : Outcome) → Differ l x x' → Differ l y y' → Differ l (cond b x y) (cond b x' y')
differ_by l true x x' y y' p q = p
differ_by l false x x' y y' p q = q

-- what may leave one byte over leaves none over, or one
used_either : (deep : Bool) (columns rows : ℕ) (map bytes : List ℕ) (n : ℕ) → Used default (packet_in deep columns rows map bytes) n
    → Used strict (packet_in deep columns rows map bytes) n ⊎ (last_length (packet_in deep columns rows map bytes) ≡ last_used (packet_in deep columns rows map bytes) n + 1)
used_either false columns rows map bytes n u =
    let p = packet_in false columns rows map bytes in
    elim (dec_lt (start p n).bytes (length p.bytes)) [
      | yes h ↦ inr (omega (arith, u.first))
      | no h ↦ inl (record { first = omega arith; second = zero-le })
    ]
used_either true columns rows map bytes n u =
    let p = packet_in true columns rows map bytes in
    elim (dec_lt (start p n).offsets (length p.offsets)) [
      | yes h ↦ inr (omega (arith, u.second))
      | no h ↦ inl (record { first = u.first; second = omega arith })
    ]

module _ (film : List ℕ) (st : State) (n : ℕ) where
  on_differ : (p : ℕ) (map packet : List ℕ) (l : Lent) → Differ l (draw_on st p map packet (within n default) l) (draw_on st p map packet (within n strict) l)
  unfolding draw_on outcome leave comes drawn_as
  on_differ p map packet l = by (verdicts_differ q m)
    where
      q : Request
      q = request_of st map packet (within n default) l

      m : Memory
      m = drawn_at st l

      outcome_by : Verdict → Outcome
      outcome_by v = after (drawn_step st p (outcome (call_plan q) (touched (packetOfCall q)) None m (comes v n))) (with_drawn st l (leave (call_plan q) m (comes v n)))

      by : DifferAs (OneOver (packetOfCall q)) (draw_verdict q m) (draw_verdict (in_form strict q) m)
          → Differ l (outcome_by (draw_verdict q m)) (outcome_by (draw_verdict (in_form strict q) m))
      by (inl e) = inl (ap outcome_by e)
      by (inr d) = inr (drew_accepted st p q m d.1, ap outcome_by d.2 ∙ ap (λ (k : Lent). after (quiet (refused 15 0)) k) (drawn_back st l))

  map_differ : (map : Option Part) (body : List ℕ) (p : ℕ) (l : Lent) → Differ l (draw_mapped map film st body p (within n default) l) (draw_mapped map film st body p (within n strict) l)
  unfolding draw_mapped
  map_differ None body p l = inl refl
  map_differ (Some map) body p l =
      differ_by l (eqb st.columns 0) _ _ _ _ (inl refl) (on_differ p (part film map.start (map.start + map.long)) (part body 14 (length body)) l)

  body_differ : (map : Option Part) (body : List ℕ) (p : ℕ) (l : Lent) → Differ l (draw_by map film st body p (within n default) l) (draw_by map film st body p (within n strict) l)
  unfolding draw_by
  body_differ map body p l = differ_by l (is_body_short st.deep (length body)) _ _ _ _ (inl refl) (map_differ map body p l)

  act_differ : (kind version s : ℕ) (body : List ℕ) (p : ℕ) (l : Lent)
      → DifferIf (kind ≡ 17) l (act film st kind version s body p (within n default) l) (act film st kind version s body p (within n strict) l)
  unfolding act
  act_differ kind version s body p l = by (eqb kind 15) (eqb kind 17) refl
    where
      other : Outcome
      other =
          cond (eqb kind 11) (update st p (create_gradient body) n l)
          (cond (eqb kind 12) (update st p (set_palette body) n l)
          (cond (eqb kind 13) (update st p (set_palette_compressed body) n l) (after (quiet (quiet_answer (length film) st kind version body p)) l)))

      by : (b c : Bool) → eqb kind 17 ≡ c
          → DifferIf (kind ≡ 17) l (cond b (map_to st (mapped st p (some_part s (p - s))) n l) (cond c (draw_by st.map film st body p (within n default) l) other))
          (cond b (map_to st (mapped st p (some_part s (p - s))) n l) (cond c (draw_by st.map film st body p (within n strict) l) other))
      by true c e = inl refl
      by false true e = differ_if (kind ≡ 17) l _ _ (eqb-true _ _ e) (body_differ st.map body p l)
      by false false e = inl refl

  module _ (l : Lent) where
    taken_differ : (o : Opcode) → stands_at film st l ≡ found.opcode o
        → DifferIf (AtPacket film st l) l (take_on film st o (within n default) l) (take_on film st o (within n strict) l)
    unfolding take_on
    taken_differ o q = by (hears (chosen st.sound.stream) o.kind) (act_differ o.kind o.version o.start (part film o.start (o.start + o.long)) (o.start + o.long) l)
      where
        heard : Outcome
        heard = hear st o.kind o.version (part film o.start (o.start + o.long)) (o.start + o.long) l

        by : (b : Bool) → DifferIf (o.kind ≡ 17) l (act_on film st o (within n default) l) (act_on film st o (within n strict) l)
            → DifferIf (AtPacket film st l) l (cond b heard (act_on film st o (within n default) l)) (cond b heard (act_on film st o (within n strict) l))
        by true d = inl refl
        by false (inl e) = inl e
        by false (inr d) = inr (record { found = o; stands = q; is_11 = d.0 }, d.1, d.2)

    standing_differ : (s : Standing) → stands_at film st l ≡ s
        → DifferIf (AtPacket film st l) l (standing s film st (within n default) l) (standing s film st (within n strict) l)
    unfolding standing
    standing_differ (found.refused k b) q = inl refl
    standing_differ found.ended q = inl refl
    standing_differ (found.chunk c) q = inl refl
    standing_differ (found.opcode o) q = taken_differ o q

    steps_differ : DifferIf (AtPacket film st l) l (step_of film st (within n default) l) (step_of film st (within n strict) l)
    unfolding step_of
    steps_differ = standing_differ (stands_at film st l) refl

    exactly : (spare : ℕ)
        → (Draws spare film st l → Drew (step_of film st (within n spare) l).step.answer) × (AtPacket film st l → Drew (step_of film st (within n spare) l).step.answer → Draws spare film st l)
    exactly spare = draws_exactly film st (within n spare) l

    at_packet : {spare : ℕ} → Draws spare film st l → AtPacket film st l
    at_packet d = record { found = d.found; stands = d.stands; is_11 = d.is_11 }

    -- the packet that a drawing uses up, with so many bytes that may be left over
    abbrev packet_at : Opcode → ℕ → ℕ → Packet
    packet_at o s long = packet_in st.deep st.columns st.rows (part film s (s + long)) (packet_of film o)

    abbrev UsedUp : ℕ → Opcode → ℕ → ℕ → Type 0
    UsedUp spare o s long = Used spare (packet_at o s long) (blocks (packet_at o s long))

    used_as : (spare : ℕ) (o o' : Opcode) (s s' long long' : ℕ) → o ≡ o' → s ≡ s' → long ≡ long' → UsedUp spare o s long → UsedUp spare o' s' long'
    used_as spare o o' s s' long long' e f g u = rw (← e, ← f, ← g) u

    opcode_is : (o o' : Opcode) → found.opcode o ≡ found.opcode o' → o ≡ o'
    opcode_is o o' e = cc

    part_is : (s long s' long' : ℕ) → some_part s long ≡ some_part s' long' → (s ≡ s') × (long ≡ long')
    part_is s long s' long' e =
        let q : record { start = s; long = long } ≡ record { start = s'; long = long' } = cc in
        (ap (λ (p : Part). p.start) q, ap (λ (p : Part). p.long) q)

    -- what the strict form draws leaves no byte over
    none_over : Draws strict film st l → Odd film st l → ⊥
    none_over d o =
        let a = o.draws in
        let m = part_is d.start d.long a.start a.long (sym d.mapped ∙ a.mapped) in
        let u = used_as strict d.found a.found d.start a.start d.long a.long (opcode_is d.found a.found (sym d.stands ∙ a.stands)) m.0 m.1 d.accepted.used in
        packet.none_over st.deep st.columns st.rows _ _ _ u o.over

    -- and what leaves none over the strict form draws
    strictly : (d : Draws default film st l) → UsedUp strict d.found d.start d.long → Draws strict film st l
    strictly d u =
        record {
          found = d.found;
          stands = d.stands;
          is_11 = d.is_11;
          start = d.start;
          long = d.long;
          mapped = d.mapped;
          accepted =
              record { wide = d.accepted.wide; high = d.accepted.high; mapped = d.accepted.mapped; parts = d.accepted.parts; drawn = d.accepted.drawn; used = u };
          within = d.within;
        }

    not_drawn : (x : Outcome) → x ≡ after (quiet (refused 15 0)) l → Drew x.step.answer → ⊥
    not_drawn x e d = not_refused 15 0 (subst (λ (y : Outcome). Drew y.step.answer) e d)

    odd_refused : Odd film st l → step_of film st (within n strict) l ≡ after (quiet (refused 15 0)) l
    odd_refused o = by steps_differ
      where
        by : DifferIf (AtPacket film st l) l (step_of film st (within n default) l) (step_of film st (within n strict) l) → step_of film st (within n strict) l ≡ after (quiet (refused 15 0)) l
        by (inr d) = d.2
        by (inl e) =
            absurd (none_over ((exactly strict).1 (at_packet o.draws) (subst (λ (y : Outcome). Drew y.step.answer) e ((exactly default).0 o.draws))) o)

    is_odd : (d : Draws default film st l) → (Draws strict film st l → ⊥) → Odd film st l
    is_odd d never = by (used_either st.deep st.columns st.rows _ _ _ d.accepted.used)
      where
        by : UsedUp strict d.found d.start d.long ⊎ OneOver (packet_at d.found d.start d.long) → Odd film st l
        by (inl u) = absurd (never (strictly d u))
        by (inr o) = record { draws = d; over = o }

    same_step : (Odd film st l → ⊥) → step_of film st (within n default) l ≡ step_of film st (within n strict) l
    same_step never = by steps_differ
      where
        by : DifferIf (AtPacket film st l) l (step_of film st (within n default) l) (step_of film st (within n strict) l) → step_of film st (within n default) l ≡ step_of film st (within n strict) l
        by (inl e) = e
        by (inr d) = absurd (never (is_odd ((exactly default).1 d.0 d.1) (λ s. not_drawn _ d.2 ((exactly strict).0 s))))

    pub step_forms : Forms film st n l
    step_forms =
        record {
          same = same_step;
          nothing_over =
              λ n. same_step (λ o. let d = o.draws in let z : ⊥ = omega (arith, n d.found d.start d.long d.stands d.is_11 d.mapped, o.over) in z);
          odd = λ o. ((exactly default).0 o.draws, odd_refused o);
          strict_draws = λ d. same_step (λ o. none_over ((exactly strict).1 (at_packet o.draws) d) o);
        }
