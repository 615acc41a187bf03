-- Before a size appears, the pictures, the room and the allowance make no difference to a step, where they are enough: `same_step`.
-- Assumes nothing.
use mathlib.Core.Path.{◌≡◌, refl, sym, ap, ◌∙◌, subst}
use mathlib.Core.Bool.{Bool, true, false, cond}
use mathlib.Core.List.{List}
use Prim.Native.Nat.{ℕ, ◌+◌, ◌-◌, ◌≤◌, ◌<◌}
use native.Mathlib.Decide.{dec_lt}
use native.Mathlib.Omega.{arith}
use lib.ListN.{length, take, drop, get_or, length-take, get_or-eq_default}
use lib.Seq.{get_or-drop, get_or-take}
use Rattle.words.specs.Word.{word_at}
use Rattle.refusal.specs.Number.{accept}
use Rattle.palette.specs.Update.{Update, verdict_on, Change}
use Rattle.palette.specs.Gradient.{create_gradient}
use Rattle.palette.specs.Entries.{set_palette}
use Rattle.palette.specs.Mask.{set_palette_compressed}
use Rattle.palette.proofs.Outcome.{change_enough, palette_enough}
use Rattle.palette.proofs.Gradients.{gradients_few}
use Rattle.palette.proofs.Entries.{entries_few}
use Rattle.palette.proofs.Groups.{groups_few}
use Rattle.sound.specs.declared.Sound.{Sound}
use Rattle.sound.specs.Format.{chosen}
use Rattle.sound.specs.Step as sound
use Rattle.sound.specs.Sound.{answer}
use Rattle.sound.proofs.Dropped.{same_data, same_silence}
use Rattle.state.specs.declared.State.{State}
use Rattle.heads.specs.declared.Opcode.{Opcode}
use Rattle.heads.specs.Heads.{hears}
use Rattle.next.specs.Next.{Standing, next_of}
use Rattle.next.specs.Next as found
use Rattle.opcodes.specs.Opcodes.{heard_step}
use Rattle.film.specs.Film.{Lent, lent, Outcome, part, palette_step, update, act, act_on, heard_by, hear, take_on, standing, shortest, step_of}
use Rattle.film.proofs.Steps as laws
use Rattle.begin.proofs.Before.{acts_map, acts_draw, same_next}
use Rattle.begin.proofs.Twin.{Which, gradient, entries, groups, maps, draws, quiets, which}
use Rattle.separate.specs.Separate.{Beside, Ample, step_beside, Bytes}

pub record Twin (x y : Outcome) : Type 0 where
  pub answer : x.step.answer ≡ y.step.answer
  pub palette : x.lent.palette ≡ y.lent.palette
  pub place : x.lent.place ≡ y.lent.place

twin_of : {x y : Outcome} (a b : Outcome) → x ≡ a → y ≡ b → Twin x y → Twin a b
twin_of {x} {y} a b e f t = subst (λ (o : Outcome). Twin o b) e (subst (λ (o : Outcome). Twin x o) f t)

-- a byte and a word of a part of a film of bytes
pub byte_part : (film : List ℕ) (s n i : ℕ) → Bytes film → get_or (take n (drop s film)) i 0 < 256
byte_part film s n i h = by (dec_lt i n)
  where
    by : Dec (i < n) → get_or (take n (drop s film)) i 0 < 256
    by (yes l) = rw (get_or-take, get_or-drop) (h (s + i))
    by (no l) =
        let g : length (take n (drop s film)) ≤ i = omega (arith, length-take n (drop s film)) in
        rw (get_or-eq_default (take n (drop s film)) 0 g) (omega arith)

word_part : (film : List ℕ) (s n i : ℕ) → Bytes film → word_at (take n (drop s film)) i < 65536
unfolding word_at
word_part film s n i h = omega (arith, byte_part film s n i h, byte_part film s n (i + 1) h)

module _ (film : List ℕ) (bytes : Bytes film) (st : State) (z : st.columns ≡ 0) (palette : List ℕ) (place : ℕ) (x y : Beside) (big : Ample x) (big' : Ample y) where
  abbrev l : Lent
  l = lent palette x.first x.second place x.room x.words

  abbrev m : Lent
  m = lent palette y.first y.second place y.room y.words

  -- all stores that are due are allowed to both
  colours_twin : (p : ℕ) (u : Update) → (verdict_on u palette ≡ accept → length u.stores ≤ 1536) → Twin (update st p u x.allowed.stores l) (update st p u y.allowed.stores m)
  colours_twin p u few =
      let f : verdict_on u palette ≡ accept → length u.stores ≤ x.allowed.stores = λ v. omega (arith, few v, big.stores) in
      let g : verdict_on u palette ≡ accept → length u.stores ≤ y.allowed.stores = λ v. omega (arith, few v, big'.stores) in
      record {
        answer = ap (λ (c : Change). (palette_step st p c).answer) (change_enough u x.allowed.stores palette f ∙ sym (change_enough u y.allowed.stores palette g));
        palette = palette_enough u x.allowed.stores palette f ∙ sym (palette_enough u y.allowed.stores palette g);
        place = refl;
      }

  act_twin : (kind version s : ℕ) (body : List ℕ) (p : ℕ) → Which kind → Twin (act film st kind version s body p x.allowed l) (act film st kind version s body p y.allowed m)
  act_twin kind version s body p (gradient e) =
      twin_of _ _ (laws.act_gradient film st kind version s body p x.allowed l _ _ _ refl e refl refl) (laws.act_gradient film st kind version s body p y.allowed m _ _ _ refl e refl refl)
      (colours_twin p (create_gradient body) (λ v. gradients_few body (length palette) v))
  act_twin kind version s body p (entries e) =
      twin_of _ _ (laws.act_entries film st kind version s body p x.allowed l _ _ _ refl e refl refl) (laws.act_entries film st kind version s body p y.allowed m _ _ _ refl e refl refl)
      (colours_twin p (set_palette body) (λ v. entries_few body (length palette) v))
  act_twin kind version s body p (groups e) =
      twin_of _ _ (laws.act_masks film st kind version s body p x.allowed l _ _ _ refl e refl refl) (laws.act_masks film st kind version s body p y.allowed m _ _ _ refl e refl refl)
      (colours_twin p (set_palette_compressed body) (λ v. groups_few body))
  act_twin kind version s body p (maps e) =
      twin_of _ _ (acts_map film st kind version s body p x.allowed big.stores l e) (acts_map film st kind version s body p y.allowed big'.stores m e)
      (record { answer = refl; palette = refl; place = refl })
  act_twin kind version s body p (draws e) =
      twin_of _ _ (acts_draw film st kind version s body p x.allowed big.stores l e z) (acts_draw film st kind version s body p y.allowed big'.stores m e z)
      (record { answer = refl; palette = refl; place = refl })
  act_twin kind version s body p (quiets n11 n12 n13 n15 n17) =
      twin_of _ _ (laws.act_quiet film st kind version s body p x.allowed l _ n11 n12 n13 n15 n17 refl) (laws.act_quiet film st kind version s body p y.allowed m _ n11 n12 n13 n15 n17 refl)
      (record { answer = refl; palette = refl; place = refl })

  same_heard : (s : Sound) (kind version : ℕ) (body : List ℕ) → word_at body 4 < 65536
      → heard_by s kind version body (length x.room) ≡ heard_by s kind version body (length y.room)
  unfolding heard_by
  same_heard s kind version body few = rw (same_data s body few _ _ big.room big'.room, same_silence s body few _ _ big.room big'.room)

  hear_twin : (kind version : ℕ) (body : List ℕ) (p : ℕ) → word_at body 4 < 65536 → Twin (hear st kind version body p l) (hear st kind version body p m)
  unfolding hear
  hear_twin kind version body p few =
      record {
        answer = ap (λ (s : sound.Step). (heard_step st p (answer s)).answer) (same_heard st.sound kind version body few);
        palette = refl;
        place = refl;
      }

  take_twin : (o : Opcode) (b : Bool)
      → Twin (cond b (hear st o.kind o.version (part film o.start (o.start + o.long)) (o.start + o.long) l) (act_on film st o x.allowed l))
      (cond b (hear st o.kind o.version (part film o.start (o.start + o.long)) (o.start + o.long) m) (act_on film st o y.allowed m))
  take_twin o true =
      hear_twin o.kind o.version (part film o.start (o.start + o.long)) (o.start + o.long) (word_part film o.start (o.start + o.long - o.start) 4 bytes)
  take_twin o false =
      act_twin o.kind o.version o.start (part film o.start (o.start + o.long)) (o.start + o.long) (which o.kind)

  standing_twin : (s : Standing) → Twin (standing s film st x.allowed l) (standing s film st y.allowed m)
  unfolding standing take_on
  standing_twin (found.refused n k) = record { answer = refl; palette = refl; place = refl }
  standing_twin found.ended = record { answer = refl; palette = refl; place = refl }
  standing_twin (found.chunk c) = record { answer = refl; palette = refl; place = refl }
  standing_twin (found.opcode o) = take_twin o (hears (chosen st.sound.stream) o.kind)

  pub same_step : Twin (step_beside x film st palette place) (step_beside y film st palette place)
  unfolding step_of
  same_step =
      rw (same_next film st (length palette) (shortest st l) z, same_next film st (length palette) (shortest st m) z)
      (standing_twin (next_of film st (length palette) 0))
