-- The opcodes of a chunk that are kept: one, and the loop over all of them.
-- Assumes nothing.
use mathlib.Core.Path.{◌≡◌, refl, sym, ap, ◌∙◌}
use mathlib.Core.Bool.{Bool, true, false, cond}
use mathlib.Core.List.{List, [], ◌∷◌, ◌++◌, append-nil, append_assoc}
use Prim.Native.Nat.{ℕ, zero, suc, ◌+◌, ◌-◌, ◌/◌, ◌%◌, ◌≤◌, ◌<◌}
use native.Mathlib.Omega.{arith}
use borrow.Author.Tests.{eq-eqb, ne_eqb}
use lib.ListN.{length, get_or, replicate, length-append}
use Rattle.parts.specs.Parts.{part, laid}
use Rattle.parts.proofs.Laying.{laid_then, stored_none, stored_length, stored_then}
use Rattle.parts.proofs.Parts.{part_length, part_two}
use Rattle.state.specs.Moves.{cursor, cursor_behind}
use Rattle.heads.specs.declared.Opcode.{Opcode}
use Rattle.next.specs.Next.{Standing, opcode, standing_at}
use Rattle.next.proofs.Standing.{standing_ready}
use Rattle.chunks.specs.Chunks.{end_of}
use Rattle.strip.specs.Strip.{is_kept, opcode_left, kept_at, kept_from, kept_of, head_with}
use Rattle.strip.specs.Asked.{Stored, Opcodes}

-- ---- one opcode

module _ (film : List ℕ) (stream p : ℕ) (o : Opcode) where
  module _ (b : Bool) (e : b ≡ is_kept stream o.kind (part film o.start (end_of o))) where
    left_kept : b ≡ true → opcode_left film stream p o ≡ part film p (end_of o)
    unfolding opcode_left
    left_kept h = rw (← e, h)

    left_not : b ≡ false → opcode_left film stream p o ≡ []
    unfolding opcode_left
    left_not h = rw (← e, h)

    module _ (h : b ≡ true) (inside : end_of o ≤ length film) where
      kept_long : length (opcode_left film stream p o) ≡ end_of o - p
      kept_long = ap length (left_kept h) ∙ part_length film p (end_of o) inside

      pub keep_fits : (storing : Bool) (to room : ℕ) → (storing ≡ true → to + length (opcode_left film stream p o) ≤ room) → storing ≡ true → to + (end_of o - p) ≤ room
      keep_fits storing to room f s = omega (arith, f s, kept_long)

      pub keeps_one : (storing : Bool) (to : ℕ) (room₀ room : List ℕ) → room ≡ cond storing (laid to (part film p (end_of o)) room₀) room₀
          → Stored storing (opcode_left film stream p o) to room₀ (end_of o - p) room
      keeps_one storing to room₀ room q =
          record { length_is = sym kept_long; room_after = q ∙ ap (λ (x : List ℕ). cond storing (laid to x room₀) room₀) (sym (left_kept h)) }

    pub keeps_none : b ≡ false → (storing : Bool) (to : ℕ) (room₀ : List ℕ) → Stored storing (opcode_left film stream p o) to room₀ 0 room₀
    keeps_none h storing to room₀ =
        record { length_is = sym (ap length (left_not h)); room_after = stored_none storing to room₀ ∙ ap (λ (x : List ℕ). cond storing (laid to x room₀) room₀) (sym (left_not h)) }

  left_short : p ≤ end_of o → end_of o ≤ length film → p + length (opcode_left film stream p o) ≤ end_of o
  left_short h inside = by (is_kept stream o.kind (part film o.start (end_of o))) refl
    where
      by : (b : Bool) → is_kept stream o.kind (part film o.start (end_of o)) ≡ b → p + length (opcode_left film stream p o) ≤ end_of o
      by true e = omega (arith, kept_long true (sym e) refl inside)
      by false e = omega (arith, ap length (left_not false (sym e) refl))

-- ---- a chunk's head

pub puts_head : (film r₀ r₁ r₂ r₃ : List ℕ) (to e n : ℕ) → to + 4 ≤ length r₀ → e + 4 ≤ length film → r₁ ≡ laid to (replicate 1 (n % 256)) r₀ → r₂ ≡ laid (to + 1) (replicate 1 (n / 256)) r₁
    → r₃ ≡ laid (to + 2) (part film (e + 2) (e + 4)) r₂ → r₃ ≡ laid to (head_with film e n) r₀
puts_head film r₀ r₁ r₂ r₃ to e n h k e₁ e₂ e₃ =
    let a : r₂ ≡ laid to (n % 256 ∷ n / 256 ∷ []) r₀ = e₂ ∙ ap (laid (to + 1) (n / 256 ∷ [])) e₁ ∙ laid_then to (n % 256 ∷ []) (n / 256 ∷ []) r₀ (omega arith) in
    let i : e + 4 ≡ e + 2 + 2 = omega arith in
    let j : e + 2 + 1 ≡ e + 3 = omega arith in
    let t : part film (e + 2) (e + 4) ≡ get_or film (e + 2) 0 ∷ get_or film (e + 3) 0 ∷ [] =
    ap (part film (e + 2)) i ∙ part_two film (e + 2) (omega arith) ∙ ap (λ (m : ℕ). get_or film (e + 2) 0 ∷ get_or film m 0 ∷ []) j in
    e₃ ∙ ap (λ (x : List ℕ). laid (to + 2) x r₂) t ∙ ap (laid (to + 2) (get_or film (e + 2) 0 ∷ get_or film (e + 3) 0 ∷ [])) a
    ∙ laid_then to (n % 256 ∷ n / 256 ∷ []) (get_or film (e + 2) 0 ∷ get_or film (e + 3) 0 ∷ []) r₀ (omega arith)

-- ---- the opcodes of a chunk

-- from p to at; what is kept of them is stored, or not
pub record Keeping (storing : Bool) (film : List ℕ) (stream p e to : ℕ) (room₀ : List ℕ) (at kept : ℕ) (room : List ℕ) : Type 0 where
  pub turns : ℕ
  pub bytes : List ℕ
  pub enough : e - at < turns
  pub within : at ≤ e
  pub few : p + kept ≤ at
  pub kept_is : kept ≡ length bytes
  pub room_is : room ≡ cond storing (laid to bytes room₀) room₀
  pub same : kept_of film stream (cursor p e) ≡ bytes ++ kept_from turns film stream (cursor at e)

module _ (storing : Bool) (film : List ℕ) (stream p e to : ℕ) (room₀ : List ℕ) (q : Opcodes storing film stream p e to (length room₀)) where
  pub keeping_start : Keeping storing film stream p e to room₀ p 0 room₀
  keeping_start =
      record {
        turns = suc (length film);
        bytes = [];
        enough = omega (arith, q.inside);
        within = q.ordered;
        few = omega arith;
        kept_is = refl;
        room_is = stored_none storing to room₀;
        same = refl;
      }

  module _ (at kept : ℕ) (room : List ℕ) (s : Keeping storing film stream p e to room₀ at kept room) where
    abbrev rest : List ℕ
    rest = kept_from s.turns film stream (cursor at e)

    pub room_long : length room ≡ length room₀
    room_long = ap length s.room_is ∙ stored_length storing to s.bytes room₀ (λ t. omega (arith, q.room_for t, ap length s.same, length-append s.bytes rest))

    -- nothing more is kept
    all_kept : rest ≡ [] → Stored storing (kept_of film stream (cursor p e)) to room₀ kept room
    all_kept z =
        let k : kept_of film stream (cursor p e) ≡ s.bytes = s.same ∙ ap (λ (x : List ℕ). s.bytes ++ x) z ∙ append-nil s.bytes in
        record { length_is = s.kept_is ∙ ap length (sym k); room_after = s.room_is ∙ ap (λ (x : List ℕ). cond storing (laid to x room₀) room₀) (sym k) }

    pub keeping_end : e ≤ at → Stored storing (kept_of film stream (cursor p e)) to room₀ kept room
    unfolding kept_from
    keeping_end h = all_kept (over s.turns (omega (arith, s.within)))
      where
        over : (n : ℕ) → at ≡ e → kept_from n film stream (cursor at e) ≡ []
        over zero z = refl
        over (suc n) z = rw (eq-eqb _ _ z)

    module _ (h : at < e) where
      then : Standing → List ℕ
      then y = kept_at film stream at y (λ o. kept_from (s.turns - 1) film stream (cursor (end_of o) e))

      next : (y : Standing) → y ≡ standing_at true film (cursor at e) → rest ≡ then y
      unfolding kept_from cursor_behind then
      next y ey =
          let n : at ≡ e → ⊥ = λ z. omega arith in
          let t : s.turns ≡ suc (s.turns - 1) = omega (arith, s.enough) in
          ap (λ (m : ℕ). kept_from m film stream (cursor at e)) t ∙ rw (ne_eqb at e n) (ap then (sym ey))

      -- no opcode stands there
      pub keeping_stops : (y : Standing) → y ≡ standing_at true film (cursor at e) → ((f : Opcode → List ℕ) → kept_at film stream at y f ≡ []) → Stored storing (kept_of film stream (cursor p e)) to room₀ kept room
      unfolding then
      keeping_stops y ey n = all_kept (next y ey ∙ n (λ o. kept_from (s.turns - 1) film stream (cursor (end_of o) e)))

      module _ (o : Opcode) (y : opcode o ≡ standing_at true film (cursor at e)) where
        pub keeping_ends : (at + 4 ≤ end_of o) × (end_of o ≤ e)
        keeping_ends = let r = standing_ready true film (cursor at e) o q.inside (sym y) in (omega (arith, r.behind), r.within)

        one : List ℕ
        one = opcode_left film stream at o

        more : List ℕ
        more = kept_from (s.turns - 1) film stream (cursor (end_of o) e)

        on_opcode : kept_of film stream (cursor p e) ≡ (s.bytes ++ one) ++ more
        unfolding kept_at then one more
        on_opcode = s.same ∙ ap (λ (w : List ℕ). s.bytes ++ w) (next (opcode o) y) ∙ sym (append_assoc s.bytes one more)

        pub keeping_room : storing ≡ true → to + kept + length (opcode_left film stream at o) ≤ length room
        unfolding one
        keeping_room t = omega (arith, q.room_for t, room_long, ap length on_opcode, length-append (s.bytes ++ one) more, length-append s.bytes one, s.kept_is)

        pub keeping_on : (n : ℕ) (room' : List ℕ) → Stored storing (opcode_left film stream at o) (to + kept) room n room' → Keeping storing film stream p e to room₀ (end_of o) (kept + n) room'
        unfolding one more
        keeping_on n room' w =
            record {
              turns = s.turns - 1;
              bytes = s.bytes ++ one;
              enough = omega (arith, keeping_ends, s.enough);
              within = keeping_ends.1;
              few = omega (arith, s.few, w.length_is, left_short film stream at o (omega (arith, keeping_ends)) (omega (arith, keeping_ends, q.inside)));
              kept_is = omega (arith, length-append s.bytes one, s.kept_is, w.length_is);
              room_is =
                  w.room_after ∙ ap (λ (y : List ℕ). cond storing (laid (to + kept) one y) y) s.room_is
                  ∙ stored_then storing to s.bytes one room₀ (to + kept) (ap (λ (n : ℕ). to + n) s.kept_is) (λ t. omega (arith, q.room_for t));
              same = on_opcode;
            }
