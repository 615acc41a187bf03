-- A chunk: its opcodes measured, then its head and its opcodes written.
-- Assumes nothing.
use mathlib.Core.Path.{◌≡◌, refl, sym, ap, ◌∙◌}
use mathlib.Core.Bool.{Bool, true, false, cond}
use mathlib.Core.List.{List, [], ◌∷◌, ◌++◌}
use Prim.Native.Nat.{ℕ, ◌+◌, ◌≤◌}
use native.Mathlib.Omega.{arith}
use lib.ListN.{length}
use Rattle.words.specs.Word.{word_at}
use Rattle.parts.specs.Parts.{laid}
use Rattle.parts.proofs.Laying.{laid_length, laid_then, stored_none}
use Rattle.state.specs.Moves.{cursor}
use Rattle.strip.specs.Strip.{kept_of, head_with, chunk_with, chunk_left, left_of_chunk}
use Rattle.strip.specs.Asked.{Stored, Opcodes, Chunk}

no : false ≡ true → ⊥
no t = let z : ◌≡◌ {A = ℕ} 0 1 = cc in omega arith

-- nothing is left of an empty body
left_none : (film : List ℕ) (e : ℕ) (k : List ℕ) → length k ≡ 0 → chunk_left film e k ≡ []
unfolding chunk_left
left_none film e [] h = refl
left_none film e (x ∷ k) h = absurd (let z : ⊥ = omega arith in z)

left_more : (film : List ℕ) (e : ℕ) (k : List ℕ) → (length k ≡ 0 → ⊥) → chunk_left film e k ≡ chunk_with film e k
unfolding chunk_left
left_more film e [] h = absurd (h refl)
left_more film e (x ∷ k) h = refl

module _ (storing : Bool) (film : List ℕ) (stream e to : ℕ) (room₀ : List ℕ) (q : Chunk storing film stream e to (length room₀)) (w : ℕ) (ew : w ≡ word_at film e) where
  abbrev kept : List ℕ
  kept = kept_of film stream (cursor (e + 4) (e + 4 + w))

  abbrev left : List ℕ
  left = left_of_chunk film stream e (e + 4 + word_at film e)

  left_is : left ≡ chunk_left film e kept
  left_is = ap (λ (m : ℕ). left_of_chunk film stream e (e + 4 + m)) (sym ew)

  pub measuring : (room : ℕ) → Opcodes false film stream (e + 4) (e + 4 + w) (to + 4) room
  measuring room = record { ordered = omega arith; inside = omega (arith, q.inside); behind = omega (arith, q.behind); room_for = λ t. absurd (no t) }

  module _ (n : ℕ) (room₁ : List ℕ) (s : Stored false (kept_of film stream (cursor (e + 4) (e + 4 + w))) (to + 4) room₀ n room₁) where
    as_it_was : room₁ ≡ room₀
    as_it_was = s.room_after

    pub chunk_none : n ≡ 0 → Stored storing (left_of_chunk film stream e (e + 4 + word_at film e)) to room₀ 0 room₁
    chunk_none z =
        let k : left ≡ [] = left_is ∙ left_none film e kept (sym s.length_is ∙ z) in
        record { length_is = sym (ap length k); room_after = as_it_was ∙ stored_none storing to room₀ ∙ ap (λ (x : List ℕ). cond storing (laid to x room₀) room₀) (sym k) }

    module _ (z : n ≡ 0 → ⊥) where
      left_whole : left ≡ head_with film e n ++ kept
      left_whole = left_is ∙ left_more film e kept (λ y. z (s.length_is ∙ y)) ∙ ap (λ (m : ℕ). head_with film e m ++ kept) (sym s.length_is)

      left_long : length left ≡ 4 + n
      left_long = ap length left_whole ∙ omega (arith, s.length_is)

      pub chunk_measured : storing ≡ false → Stored storing (left_of_chunk film stream e (e + 4 + word_at film e)) to room₀ (4 + n) room₁
      chunk_measured t = record { length_is = sym left_long; room_after = as_it_was ∙ rw t }

      module _ (t : storing ≡ true) where
        chunk_room : to + (4 + n) ≤ length room₁
        chunk_room = omega (arith, q.room_for t, left_long, ap length as_it_was)

        pub head_asks : (to + 4 ≤ length room₁) × (e + 4 ≤ length film)
        head_asks = (omega (arith, chunk_room), omega (arith, q.inside))

        module _ (room₂ : List ℕ) (e₂ : room₂ ≡ laid to (head_with film e n) room₁) where
          head_long : length room₂ ≡ length room₁
          head_long = ap length e₂ ∙ laid_length to (head_with film e n) room₁ (omega (arith, chunk_room))

          pub storing_asks : Opcodes true film stream (e + 4) (e + 4 + w) (to + 4) (length room₂)
          storing_asks =
              record { ordered = omega arith; inside = omega (arith, q.inside); behind = omega (arith, q.behind); room_for = λ _. omega (arith, chunk_room, head_long, s.length_is) }

          pub chunk_written : (m : ℕ) (room₃ : List ℕ) → Stored true (kept_of film stream (cursor (e + 4) (e + 4 + w))) (to + 4) room₂ m room₃
              → Stored storing (left_of_chunk film stream e (e + 4 + word_at film e)) to room₀ (4 + n) room₃
          chunk_written m room₃ u =
              let a : room₃ ≡ laid to (head_with film e n ++ kept) room₁ = u.room_after ∙ ap (laid (to + 4) kept) e₂ ∙ laid_then to (head_with film e n) kept room₁ (omega (arith, chunk_room)) in
              record { length_is = sym left_long; room_after = a ∙ ap (laid to (head_with film e n ++ kept)) as_it_was ∙ ap (λ (x : List ℕ). laid to x room₀) (sym left_whole) ∙ rw t }
