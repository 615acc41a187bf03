-- `left_rest`: what is left of a film, opcode by opcode and chunk by chunk. `rest_left`: what is known of each is enough.
-- Assumes nothing.
use mathlib.Core.Path.{◌≡◌, refl, sym, ap, ◌∙◌, subst}
use mathlib.Core.Bool.{Bool, true, false, cond}
use mathlib.Core.List.{List, [], ◌∷◌, ◌++◌, append-nil}
use Prim.Native.Nat.{ℕ, zero, suc, ◌+◌, ◌-◌, ◌≤◌, ◌<◌}
use native.Mathlib.Omega.{arith}
use borrow.Author.Tests.{eq-eqb, ne_eqb}
use lib.ListN.{length, length-append}
use Rattle.parts.specs.Parts.{part}
use Rattle.parts.proofs.Parts.{part_length}
use Rattle.state.specs.Moves.{cursor, cursor_behind}
use Rattle.heads.specs.declared.Opcode.{Opcode}
use Rattle.next.specs.Next.{opcode, on, standing_at, opcode_standing}
use Rattle.chunks.specs.Chunks.{end_of, intact, scratched, Following, chunk_to, following_at}
use Rattle.chunks.specs.Holds.{Stands, Passes, chunk_over, last_is_00, passes_on, Holds}
use Rattle.chunks.proofs.Heads.{Ahead, at_film_end, is_past, is_chunk, ahead, There, there}
use Rattle.chunks.proofs.Holding.{condition_holds, stands_ends}
use Rattle.chunks.proofs.Moved.{stands_start, stands_last}
use Rattle.strip.specs.Strip.{opcode_left, kept_at, kept_from, kept_of, chunk_left, left_of_chunk, Left, remains, meets, before, go_on, left_from}
use Rattle.stripped.specs.Leaves.{kept_in, Body, Rest}
use Rattle.stripped.specs.Leaves as known
use Rattle.stripped.proofs.Laws.{last_kept}

-- ---- the opcodes of a chunk

module _ (film : List ℕ) (stream : ℕ) where
  stands_at_lem : (p e : ℕ) (o : Opcode) → Stands film (cursor p e) o → standing_at true film (cursor p e) ≡ opcode o
  unfolding standing_at opcode_standing on
  stands_at_lem p e o s =
      let n : p ≡ e → ⊥ = λ z. omega (arith, stands_ends film p e o s) in
      rw (ne_eqb p e n, s.head, s.shape)

  kept_over : (n e : ℕ) → kept_from n film stream (cursor e e) ≡ []
  unfolding kept_from
  kept_over zero e = refl
  kept_over (suc n) e = rw (eq-eqb e e refl)

  kept_one : (n p e : ℕ) (o : Opcode) → Stands film (cursor p e) o
      → kept_from (suc n) film stream (cursor p e) ≡ cond (kept_in film stream o) (part film p (end_of o)) [] ++ kept_from n film stream (cursor (end_of o) e)
  unfolding kept_from kept_at opcode_left cursor_behind
  kept_one n p e o s =
      let z : p ≡ e → ⊥ = λ y. omega (arith, stands_ends film p e o s) in
      rw (ne_eqb p e z, stands_at_lem p e o s)

  kept_last : (n p e : ℕ) (o : Opcode) → Stands film (cursor p e) o → o.kind ≡ 0 → kept_from (suc n) film stream (cursor p e) ≡ part film p (end_of o)
  kept_last n p e o s k =
      let q : end_of o ≡ e = omega (arith, stands_start film p e o s, stands_last film p e o s (omega arith)) in
      kept_one n p e o s ∙ rw (last_kept film stream o k) (ap (λ (x : List ℕ). part film p (end_of o) ++ x) (ap (λ (x : ℕ). kept_from n film stream (cursor x e)) q ∙ kept_over n e) ∙ append-nil (part film p (end_of o)))

  -- a chunk that passes
  passes_body : {p e : ℕ} {z : Bool} → Passes film p e z → (n : ℕ) → e - p < n → Body film stream p e (kept_from n film stream (cursor p e)) z
  passes_body (chunk_over {e = e}) n l = rw (kept_over n e) known.none
  passes_body (last_is_00 o s k) zero l = absurd (let z : ⊥ = omega arith in z)
  passes_body {p} {e} (last_is_00 o s k) (suc n) l = rw (kept_last n p e o s k) (known.last o s k)
  passes_body (passes_on o s k r) zero l = absurd (let z : ⊥ = omega arith in z)
  passes_body {p} {e} {z} (passes_on o s k r) (suc n) l =
      rw (kept_one n p e o s) (by (kept_in film stream o) refl (passes_body r n (omega (arith, stands_ends film p e o s))))
    where
      by : (b : Bool) → kept_in film stream o ≡ b → Body film stream (end_of o) e (kept_from n film stream (cursor (end_of o) e)) z
          → Body film stream p e (cond b (part film p (end_of o)) [] ++ kept_from n film stream (cursor (end_of o) e)) z
      by true q x = known.keep o s q k x
      by false q x = known.drop o s q k x

  pub body_passes : {p e : ℕ} {b : List ℕ} {z : Bool} → Body film stream p e b z → Passes film p e z
  body_passes known.none = chunk_over
  body_passes (known.drop o s q k x) = passes_on o s k (body_passes x)
  body_passes (known.keep o s q k x) = passes_on o s k (body_passes x)
  body_passes (known.last o s k) = last_is_00 o s k

  pub body_kept : {p e : ℕ} {b : List ℕ} {z : Bool} → Body film stream p e b z → (n : ℕ) → e - p < n → kept_from n film stream (cursor p e) ≡ b
  body_kept (known.none {e = e}) n l = kept_over n e
  body_kept (known.drop o s q k x) zero l = absurd (let z : ⊥ = omega arith in z)
  body_kept {p} {e} (known.drop o s q k x) (suc n) l = kept_one n p e o s ∙ rw q (body_kept x n (omega (arith, stands_ends film p e o s)))
  body_kept (known.keep o s q k x) zero l = absurd (let z : ⊥ = omega arith in z)
  body_kept {p} {e} (known.keep o s q k x) (suc n) l =
      kept_one n p e o s ∙ rw q (ap (λ (y : List ℕ). part film p (end_of o) ++ y) (body_kept x n (omega (arith, stands_ends film p e o s))))
  body_kept (known.last o s k) zero l = absurd (let z : ⊥ = omega arith in z)
  body_kept {p} {e} (known.last o s k) (suc n) l = kept_last n p e o s k

  -- a chunk with 00 is not empty
  closed_body : {p e : ℕ} {b : List ℕ} {z : Bool} → Body film stream p e b z → e ≤ length film → z ≡ true → length b ≡ 0 → ⊥
  closed_body known.none l q w = let z : ◌≡◌ {A = ℕ} 0 1 = cc in omega arith
  closed_body (known.drop o s k n x) l q w = closed_body x l q w
  closed_body {p} {e} (known.keep {b = b} o s k n x) l q w = closed_body x l q (omega (arith, length-append (part film p (end_of o)) b))
  closed_body {p} {e} (known.last o s k) l q w =
      omega (arith, part_length film p (end_of o) (omega (arith, stands_ends film p e o s)), stands_ends film p e o s)

-- ---- the chunks

module _ (film : List ℕ) (stream : ℕ) where
  chunk_body : (e x : ℕ) (z : Bool) → There film e x (intact z) → Body film stream (e + 4) x (kept_of film stream (cursor (e + 4) x)) z
  unfolding Holds
  chunk_body e x z t =
      let h : Holds film (e + 4) x (intact z) = subst (Holds film (e + 4) x) (sym t.is) (condition_holds film x (e + 4) (omega (arith, t.ends)) t.inside) in
      passes_body film stream h (suc (length film)) (omega (arith, t.inside))

  -- the bytes in front of what is left
  left_before : (a : List ℕ) (y : Left) (r : List ℕ) → before a y ≡ remains r → (P : List ℕ → Type 0) → ((b : List ℕ) → y ≡ remains b → P (a ++ b)) → P r
  unfolding before
  left_before a (remains b) r q P f = let z : a ++ b ≡ r = cc in subst P z (f b refl)
  left_before a (meets n) r q P f = absurd (let z : ◌≡◌ {A = ℕ} 0 1 = cc in let y : ⊥ = omega arith in y)

  module _ (n e : ℕ) (ih : (x : ℕ) → x ≤ length film → length film - x < n → (r : List ℕ) → left_from n film stream x ≡ remains r → Rest film stream x r) (l : length film - e < suc n) where
    by_more : (x : ℕ) → following_at film e ≡ chunk_to x (intact false) → There film e x (intact false) → (r : List ℕ) → go_on film stream e (chunk_to x (intact false)) (λ y. left_from n film stream y) ≡ remains r
        → Rest film stream e r
    unfolding go_on chunk_left
    by_more x f t r q =
        left_before (left_of_chunk film stream e x) (left_from n film stream x) r q (Rest film stream e)
        (λ b eb. by (kept_of film stream (cursor (e + 4) x)) (chunk_body e x false t) b (ih x t.inside (omega (arith, t.ends)) b eb))
      where
        by : (k : List ℕ) → Body film stream (e + 4) x k false → (b : List ℕ) → Rest film stream x b → Rest film stream e (chunk_left film e k ++ b)
        by [] y b w = known.empty f y w
        by (v ∷ k) y b w = known.chunk f y w

    by_last : (x : ℕ) → following_at film e ≡ chunk_to x (intact true) → There film e x (intact true) → Rest film stream e (left_of_chunk film stream e x)
    unfolding chunk_left
    by_last x f t = by (kept_of film stream (cursor (e + 4) x)) (chunk_body e x true t)
      where
        by : (k : List ℕ) → Body film stream (e + 4) x k true → Rest film stream e (chunk_left film e k)
        by [] y = absurd (closed_body film stream y t.inside refl refl)
        by (v ∷ k) y = known.closing f y

    by_ahead : (f : Following) → Ahead film e f → following_at film e ≡ f → (r : List ℕ) → go_on film stream e f (λ y. left_from n film stream y) ≡ remains r → Rest film stream e r
    unfolding go_on
    by_ahead f (at_film_end z) g r q = let w : [] ≡ r = cc in subst (Rest film stream e) w (known.over z)
    by_ahead f (is_past z w) g r q = absurd (let z : ◌≡◌ {A = ℕ} 0 1 = cc in let y : ⊥ = omega arith in y)
    by_ahead f (is_chunk x (intact true) t) g r q = let w : left_of_chunk film stream e x ≡ r = cc in subst (Rest film stream e) w (by_last x g t)
    by_ahead f (is_chunk x (intact false) t) g r q = by_more x g t r q
    by_ahead f (is_chunk x (scratched m) t) g r q = absurd (let z : ◌≡◌ {A = ℕ} 0 1 = cc in let y : ⊥ = omega arith in y)

  pub left_rest : (n e : ℕ) → e ≤ length film → length film - e < n → (r : List ℕ) → left_from n film stream e ≡ remains r → Rest film stream e r
  unfolding left_from
  left_rest zero e h l r q = absurd (let z : ⊥ = omega arith in z)
  left_rest (suc n) e h l r q = by_ahead n e (λ x a b s w. left_rest n x a b s w) l (following_at film e) (ahead film e h) refl r q

  -- the other way
  body_is : (e x : ℕ) {b : List ℕ} {z : Bool} → e ≤ length film → following_at film e ≡ chunk_to x (intact z) → Body film stream (e + 4) x b z → kept_of film stream (cursor (e + 4) x) ≡ b
  body_is e x {z = z} h f y = body_kept film stream y (suc (length film)) (omega (arith, (there film e x (intact z) h f).inside))

  pub rest_left : {e : ℕ} {r : List ℕ} → Rest film stream e r → e ≤ length film → (n : ℕ) → length film - e < n → left_from n film stream e ≡ remains r
  unfolding left_from go_on before chunk_left
  rest_left (known.over q) h zero l = absurd (let z : ⊥ = omega arith in z)
  rest_left {e} (known.over q) h (suc n) l = by (following_at film e) (ahead film e h)
    where
      by : (f : Following) → Ahead film e f → go_on film stream e f (λ x. left_from n film stream x) ≡ remains []
      by f (at_film_end z) = refl
      by f (is_past z w) = absurd (let y : ⊥ = omega arith in y)
      by f (is_chunk x k t) = absurd (let y : ⊥ = omega (arith, t.ends, t.inside) in y)
  rest_left (known.chunk f y w) h zero l = absurd (let z : ⊥ = omega arith in z)
  rest_left {e} (known.chunk {x = x} f y w) h (suc n) l =
      let t = there film e x (intact false) h f in
      rw (f, body_is e x h f y, rest_left w t.inside n (omega (arith, t.ends)))
  rest_left (known.empty f y w) h zero l = absurd (let z : ⊥ = omega arith in z)
  rest_left {e} (known.empty {x = x} f y w) h (suc n) l =
      let t = there film e x (intact false) h f in
      rw (f, body_is e x h f y, rest_left w t.inside n (omega (arith, t.ends)))
  rest_left (known.closing f y) h zero l = absurd (let z : ⊥ = omega arith in z)
  rest_left {e} (known.closing {x = x} f y) h (suc n) l = rw (f, body_is e x h f y)
