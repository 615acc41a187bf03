-- `moved_chunk`: an intact chunk is intact in another film where the same bytes stand.
-- Assumes nothing.
use mathlib.Core.Path.{◌≡◌, sym, ap, ap₂, ◌∙◌, subst}
use mathlib.Core.Bool.{Bool, false}
use mathlib.Core.List.{List}
use Prim.Native.Nat.{ℕ, suc, ◌+◌, ◌-◌, ◌*◌, ◌≤◌}
use native.Mathlib.Omega.{arith}
use lib.ListN.{length, get_or}
use Rattle.words.specs.Word.{word_at}
use Rattle.parts.specs.Parts.{part}
use Rattle.parts.proofs.Parts.{Same, same_within, same_front, same_part}
use Rattle.state.specs.Moves.{cursor}
use Rattle.heads.specs.declared.Opcode.{Opcode}
use Rattle.heads.specs.Heads.{opcode, opcode_at}
use Rattle.chunks.specs.Chunks.{end_of, is_exact, Condition, intact, chunk_to, following_at}
use Rattle.chunks.specs.Holds.{Stands, Passes, chunk_over, last_is_00, passes_on, Holds}
use Rattle.chunks.proofs.Heads.{Taken, takes, head_taken, there, following_chunk}
use Rattle.chunks.proofs.Holding.{condition_holds, passes_told}

-- ---- words and opcodes

module _ (film : List ℕ) (p : ℕ) (film' : List ℕ) (p' n : ℕ) (m : Same film p film' p' n) where
  pub same_word : 2 ≤ n → word_at film p ≡ word_at film' p'
  unfolding word_at
  same_word h =
      let z : p + 0 ≡ p = omega arith in
      let z' : p' + 0 ≡ p' = omega arith in
      let b : get_or film p 0 ≡ get_or film' p' 0 = rw (z, z') at (m.byte 0 (omega arith)) in
      ap₂ (λ (x y : ℕ). x + 256 * y) b (m.byte 1 (omega arith))

-- an opcode that stands in a chunk
module _ (film : List ℕ) (p e : ℕ) (o : Opcode) (s : Stands film (cursor p e) o) where
  known : Taken p e (word_at film p) (get_or film (p + 2) 0) (get_or film (p + 3) 0) o
  known = head_taken film (cursor p e) o s.head

  long_is : o.long ≡ word_at film p
  long_is = ap (λ (x : Opcode). x.long) known.is

  kind_is : o.kind ≡ get_or film (p + 2) 0
  kind_is = ap (λ (x : Opcode). x.kind) known.is

  pub stands_start : o.start ≡ p + 4
  stands_start = ap (λ (x : Opcode). x.start) known.is

  pub stands_fits : p + (4 + o.long) ≤ e
  stands_fits = omega (arith, known.fits, long_is)

  -- 00 and 01 are the last of it
  pub stands_last : o.kind ≤ 1 → p + (4 + o.long) ≡ e
  stands_last l = omega (arith, known.last (subst (λ (x : ℕ). x ≤ 1) kind_is l), long_is)

  -- where the same bytes stand in a chunk of another film, which may end elsewhere
  module _ (film' : List ℕ) (p' e' : ℕ) (m : Same film p film' p' (4 + o.long)) where
    pub moved_body : part film o.start (end_of o) ≡ part film' (p' + 4) (p' + 4 + o.long)
    moved_body = ap (λ (x : ℕ). part film x (x + o.long)) stands_start ∙ same_part film (p + 4) film' (p' + 4) o.long (same_within film p film' p' (4 + o.long) m 4 o.long (omega arith))

    pub moved_stands : p' + (4 + o.long) ≤ e' → (o.kind ≤ 1 → p' + (4 + o.long) ≡ e') → Stands film' (cursor p' e') (opcode o.kind o.version (p' + 4) o.long)
    unfolding opcode_at
    moved_stands h f =
        let w : word_at film' p' ≡ o.long = sym (same_word film p film' p' (4 + o.long) m (omega arith)) ∙ sym long_is in
        let k : get_or film' (p' + 2) 0 ≡ o.kind = sym (m.byte 2 (omega arith)) ∙ sym kind_is in
        let v : get_or film' (p' + 3) 0 ≡ o.version = sym (m.byte 3 (omega arith)) ∙ sym (ap (λ (x : Opcode). x.version) known.is) in
        record {
          head = rw (w, k, v) (takes p' e' o.long o.kind o.version (omega arith) (λ z. omega (arith, f z)));
          shape = s.shape;
          exact = ap (is_exact o.kind) (sym moved_body) ∙ s.exact;
        }

-- ---- the opcodes of a chunk

module _ (film film' : List ℕ) where
  pub moved_passes : {p e : ℕ} {b : Bool} → Passes film p e b → (p' n e' : ℕ) → e ≡ p + n → e' ≡ p' + n → Same film p film' p' n → Passes film' p' e' b
  moved_passes (chunk_over {e = e}) p' n e' q q' m = let z : p' ≡ e' = omega arith in subst (λ (x : ℕ). Passes film' p' x false) z chunk_over
  moved_passes {p} {e} (last_is_00 o s k) p' n e' q q' m =
      last_is_00 {p = p'} {e = e'} (opcode o.kind o.version (p' + 4) o.long)
      (moved_stands film p e o s film' p' e' (same_front film p film' p' n m (4 + o.long) (omega (arith, stands_fits film p e o s))) (omega (arith, stands_fits film p e o s)) (λ z. omega (arith, stands_last film p e o s z))) k
  moved_passes {p} {e} (passes_on o s k r) p' n e' q q' m =
      let few = stands_fits film p e o s in
      let st = stands_start film p e o s in
      let i = 4 + o.long in
      let a : p + i ≡ end_of o = omega arith in
      let a' : p' + i ≡ p' + 4 + o.long = omega arith in
      let m₁ : Same film (end_of o) film' (p' + 4 + o.long) (n - i) = rw (a, a') at (same_within film p film' p' n m i (n - i) (omega arith)) in
      passes_on {p = p'} {e = e'} (opcode o.kind o.version (p' + 4) o.long)
      (moved_stands film p e o s film' p' e' (same_front film p film' p' n m i (omega arith)) (omega arith) (λ z. omega (arith, stands_last film p e o s z))) k
      (moved_passes r (p' + 4 + o.long) (n - i) e' (omega arith) (omega arith) m₁)

-- ---- a chunk

pub moved_chunk : (film : List ℕ) (e x : ℕ) (b : Bool) (film' : List ℕ) (e' : ℕ) → e ≤ length film → following_at film e ≡ chunk_to x (intact b) → Same film e film' e' (x - e)
    → following_at film' e' ≡ chunk_to (e' + (x - e)) (intact b)
unfolding Holds
moved_chunk film e x b film' e' h q m =
    let t = there film e x (intact b) h q in
    let w : word_at film e ≡ word_at film' e' = same_word film e film' e' (x - e) m (omega (arith, t.ends)) in
    let n = word_at film e in
    let i : x ≡ e + 4 + n = t.ends in
    let x' : e' + (x - e) ≡ e' + 4 + word_at film' e' = omega arith in
    let body : Same film (e + 4) film' (e' + 4) n = same_within film e film' e' (x - e) m 4 n (omega arith) in
    let p : Passes film (e + 4) x b = passes t.is (condition_holds film x (e + 4) (omega arith) t.inside) in
    let p' : Passes film' (e' + 4) (e' + (x - e)) b = moved_passes film film' p (e' + 4) n (e' + (x - e)) i (omega arith) body in
    following_chunk film' e' (e' + (x - e)) x' m.inside' ∙ ap (chunk_to (e' + (x - e))) (passes_told p' (suc (length film')) (omega (arith, m.inside')))
  where
    passes : {k : Condition} {p : ℕ} → intact b ≡ k → Holds film p x k → Passes film p x b
    passes r y = rw (← r) at y
