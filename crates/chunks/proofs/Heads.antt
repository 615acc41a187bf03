-- The heads of opcodes and chunks that are taken: what is known of them, and that what is known is enough.
-- Assumes nothing.
use mathlib.Core.Path.{◌≡◌, refl, ap, ◌∙◌}
use mathlib.Core.Bool.{Bool, true, false, cond}
use mathlib.Core.List.{List}
use Prim.Native.Nat.{ℕ, ◌+◌, ◌≤◌, ◌<◌}
use native.Mathlib.Omega.{arith}
use borrow.Author.Tests.{ltb-true, ltb-false, lt-ltb, eqb-true, eqb-false, le-ltb, eq-eqb, ne_eqb}
use lib.Dec.{eqb, ltb}
use lib.ListN.{length, get_or}
use Rattle.words.specs.Word.{word_at}
use Rattle.words.proofs.Tests.{not_first}
use Rattle.state.specs.declared.Cursor.{Cursor}
use Rattle.state.specs.Moves.{cursor, cursor_into}
use Rattle.heads.specs.declared.Opcode.{Opcode}
use Rattle.heads.specs.Heads.{gives, refused, opcode, opcode_of, opcode_at, chunk_of, chunk_at}
use Rattle.next.specs.Next.{standing_at, end_of_chunk, chunk_standing}
use Rattle.chunks.specs.Chunks.{Condition, Following, film_end, past_end, chunk_to, condition_of, following, following_at}

-- ---- an opcode's

no_head : (n k : ℕ) (o : Opcode) → refused n k ≡ gives o → ⊥
no_head n k o e = let z : ◌≡◌ {A = ℕ} 0 1 = cc in omega arith

-- what is known of one that is taken: 00 and 01 are the last of their chunk
pub record Taken (p e long kind version : ℕ) (o : Opcode) : Type 0 where
  pub is : o ≡ opcode kind version (p + 4) long
  pub fits : p + 4 + long ≤ e
  pub last : kind ≤ 1 → p + 4 + long ≡ e

pub taken : (p e long kind version : ℕ) (o : Opcode) → opcode_of p e long kind version ≡ gives o → Taken p e long kind version o
unfolding opcode_of
taken p e long kind version o h =
    let a = not_first (ltb e (p + 4)) _ _ _ (no_head 3 0 o) h in
    let b = not_first (ltb e (p + 4 + long)) _ _ _ (no_head 3 0 o) a.1 in
    by (ltb 1 kind) (eqb (p + 4 + long) e) refl refl (ltb-false _ _ b.0) b.1
  where
    by : (t u : Bool) → ltb 1 kind ≡ t → eqb (p + 4 + long) e ≡ u → p + 4 + long ≤ e
        → cond t (gives (opcode kind version (p + 4) long)) (cond u (gives (opcode kind version (p + 4) long)) (refused 3 0)) ≡ gives o
        → Taken p e long kind version o
    by true u f g l q = record { is = cc; fits = l; last = λ z. absurd (let y : ⊥ = omega (arith, ltb-true 1 kind f) in y) }
    by false true f g l q = record { is = cc; fits = l; last = λ z. eqb-true _ _ g }
    by false false f g l q = absurd (no_head 3 0 o q)

-- a head that fits is taken
pub takes : (p e long kind version : ℕ) → p + 4 + long ≤ e → (kind ≤ 1 → p + 4 + long ≡ e) → opcode_of p e long kind version ≡ gives (opcode kind version (p + 4) long)
unfolding opcode_of
takes p e long kind version l f =
    rw (le-ltb e (p + 4) (omega arith), le-ltb e (p + 4 + long) l) (by (ltb 1 kind) refl)
  where
    by : (t : Bool) → ltb 1 kind ≡ t
        → cond t (gives (opcode kind version (p + 4) long)) (cond (eqb (p + 4 + long) e) (gives (opcode kind version (p + 4) long)) (refused 3 0)) ≡ gives (opcode kind version (p + 4) long)
    by true q = refl
    by false q = rw (eq-eqb _ _ (f (ltb-false 1 kind q)))

pub head_taken : (film : List ℕ) (c : Cursor) (o : Opcode) → opcode_at film c ≡ gives o
    → Taken c.position c.chunk_end (word_at film c.position) (get_or film (c.position + 2) 0) (get_or film (c.position + 3) 0) o
unfolding opcode_at
head_taken film c o h = taken c.position c.chunk_end (word_at film c.position) (get_or film (c.position + 2) 0) (get_or film (c.position + 3) 0) o h

pub head_ends : (film : List ℕ) (c : Cursor) (o : Opcode) → opcode_at film c ≡ gives o → (c.position + 4 ≤ o.start + o.long) × (o.start + o.long ≤ c.chunk_end)
head_ends film c o h =
    let k = head_taken film c o h in
    let s : o.start ≡ c.position + 4 = ap (λ (x : Opcode). x.start) k.is in
    let l : o.long ≡ word_at film c.position = ap (λ (x : Opcode). x.long) k.is in
    (omega arith, omega (arith, k.fits))

-- ---- a chunk's

-- a chunk that ends at x, in this condition, has its head at e
pub record There (film : List ℕ) (e x : ℕ) (k : Condition) : Type 0 where
  pub ends : x ≡ e + 4 + word_at film e
  pub inside : x ≤ length film
  pub is : k ≡ condition_of film (cursor (e + 4) x)

module _ (film : List ℕ) (e : ℕ) where
  at_end : standing_at true film (cursor e e) ≡ end_of_chunk film (cursor e e)
  unfolding standing_at
  at_end = rw (eq-eqb e e refl)

  pub following_end : e ≡ length film → following_at film e ≡ film_end
  unfolding end_of_chunk following
  following_end q = ap (following film) at_end ∙ rw (eq-eqb e (length film) q)

  module _ (l : e < length film) where
    heads : standing_at true film (cursor e e) ≡ chunk_standing (chunk_of (length film) (cursor e e) (word_at film e))
    unfolding end_of_chunk chunk_at
    heads = let n : e ≡ length film → ⊥ = λ z. omega arith in at_end ∙ rw (ne_eqb e (length film) n)

    pub following_past : length film < e + 4 + word_at film e → following_at film e ≡ past_end
    unfolding following chunk_standing chunk_of
    following_past h = ap (following film) heads ∙ by (ltb (length film) (e + 4))
      where
        by : (t : Bool) → following film (chunk_standing (cond t (refused 2 0) (cond (ltb (length film) (e + 4 + word_at film e)) (refused 2 0) (gives (cursor_into (cursor e e) (word_at film e)))))) ≡ past_end
        by true = refl
        by false = rw (lt-ltb (length film) (e + 4 + word_at film e) h)

  pub following_chunk : (x : ℕ) → x ≡ e + 4 + word_at film e → x ≤ length film → following_at film e ≡ chunk_to x (condition_of film (cursor (e + 4) x))
  unfolding following chunk_standing chunk_of cursor_into
  following_chunk x q h =
      ap (following film) (heads (omega arith))
      ∙ rw (le-ltb (length film) (e + 4) (omega arith), le-ltb (length film) (e + 4 + word_at film e) (omega arith), q)

-- what stands at a chunk's end, by cases
pub data Ahead (film : List ℕ) (e : ℕ) : Following → Type 0 where
  at_film_end : e ≡ length film → Ahead film e film_end
  is_past : e < length film → length film < e + 4 + word_at film e → Ahead film e past_end
  is_chunk : (x : ℕ) (k : Condition) → There film e x k → Ahead film e (chunk_to x k)

pub ahead : (film : List ℕ) (e : ℕ) → e ≤ length film → Ahead film e (following_at film e)
ahead film e h = by (eqb e (length film)) refl (ltb (length film) (e + 4 + word_at film e)) refl
  where
    by : (t : Bool) → eqb e (length film) ≡ t → (u : Bool) → ltb (length film) (e + 4 + word_at film e) ≡ u → Ahead film e (following_at film e)
    by true q u r = rw (following_end film e (eqb-true _ _ q)) (at_film_end (eqb-true _ _ q))
    by false q true r =
        let ne : e ≡ length film → ⊥ = eqb-false _ _ q in
        let l : e < length film = omega arith in
        rw (following_past film e l (ltb-true _ _ r)) (is_past l (ltb-true _ _ r))
    by false q false r =
        rw (following_chunk film e (e + 4 + word_at film e) refl (ltb-false _ _ r)) (is_chunk _ _ (record { ends = refl; inside = ltb-false _ _ r; is = refl }))

pub there : (film : List ℕ) (e x : ℕ) (k : Condition) → e ≤ length film → following_at film e ≡ chunk_to x k → There film e x k
there film e x k h q = by (following_at film e) (ahead film e h) q
  where
    by : (f : Following) → Ahead film e f → f ≡ chunk_to x k → There film e x k
    by f (at_film_end z) r = absurd (let z : ◌≡◌ {A = ℕ} 0 1 = cc in let y : ⊥ = omega arith in y)
    by f (is_past z w) r = absurd (let z : ◌≡◌ {A = ℕ} 0 1 = cc in let y : ⊥ = omega arith in y)
    by f (is_chunk y j t) r =
        let a : y ≡ x = cc in
        let b : j ≡ k = cc in
        rw (← a, ← b) t
