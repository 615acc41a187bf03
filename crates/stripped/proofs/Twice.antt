-- `rest_short`: what is left of a film is never longer. `rest_twice`: nothing is dropped from it.
-- Assumes nothing.
use mathlib.Core.Path.{◌≡◌, refl, sym, ap, ◌∙◌, subst}
use mathlib.Core.Bool.{Bool, true, false}
use mathlib.Core.List.{List, [], ◌∷◌, ◌++◌, append-nil, append_assoc}
use Prim.Native.Nat.{ℕ, suc, ◌+◌, ◌-◌, ◌≤◌}
use native.Mathlib.Omega.{arith}
use lib.ListN.{length, get_or, drop, length-append, length-take}
use Rattle.words.specs.Word.{word_at}
use Rattle.parts.specs.Parts.{part}
use Rattle.parts.proofs.Parts.{Same, same_part}
use Rattle.state.specs.Moves.{cursor}
use Rattle.heads.specs.declared.Opcode.{Opcode}
use Rattle.heads.specs.Heads.{opcode}
use Rattle.chunks.specs.Chunks.{end_of, intact, chunk_to, following_at}
use Rattle.chunks.specs.Holds.{Stands}
use Rattle.chunks.proofs.Heads.{There, there, following_chunk}
use Rattle.chunks.proofs.Holding.{passes_told, stands_ends}
use Rattle.chunks.proofs.Moved.{stands_start, stands_fits, stands_last, moved_body, moved_stands}
use Rattle.strip.specs.Strip.{is_kept, chunk_with}
use Rattle.stripped.specs.Leaves.{kept_in, Body, Rest}
use Rattle.stripped.specs.Leaves as known
use Rattle.stripped.proofs.Bytes.{part_long, kept_same, head, head_word, head_type, behind_head, behind_part}
use Rattle.stripped.proofs.Leaving.{body_passes}

-- where an opcode ends that stands at p
pub ends_at : (film : List ℕ) (p e : ℕ) (o : Opcode) → Stands film (cursor p e) o → end_of o ≡ p + (4 + o.long)
ends_at film p e o s = omega (arith, stands_start film p e o s)

-- no opcode stands at a chunk's end
pub body_end : {film : List ℕ} {stream p e : ℕ} {b : List ℕ} {z : Bool} → Body film stream p e b z → p ≡ e → (b ≡ []) × (z ≡ false)
body_end known.none q = (refl, refl)
body_end {film} {stream} {p} {e} (known.drop o s k n x) q = absurd (let y : ⊥ = omega (arith, stands_fits film p e o s) in y)
body_end {film} {stream} {p} {e} (known.keep o s k n x) q = absurd (let y : ⊥ = omega (arith, stands_fits film p e o s) in y)
body_end {film} {stream} {p} {e} (known.last o s k) q = absurd (let y : ⊥ = omega (arith, stands_fits film p e o s) in y)

module _ (film : List ℕ) (stream : ℕ) where
  -- ---- never longer

  part_most : (p q : ℕ) → length (part film p q) ≤ q - p
  part_most p q = omega (arith, length-take (q - p) (drop p film))

  body_short : {p e : ℕ} {b : List ℕ} {z : Bool} → Body film stream p e b z → p + length b ≤ e
  body_short known.none = omega arith
  body_short {p} {e} (known.drop o s k n x) = omega (arith, body_short x, stands_ends film p e o s)
  body_short {p} {e} (known.keep {b = b} o s k n x) = omega (arith, body_short x, stands_ends film p e o s, length-append (part film p (end_of o)) b, part_most p (end_of o))
  body_short {p} {e} (known.last o s k) = omega (arith, stands_ends film p e o s, part_most p (end_of o))

  pub rest_short : {e : ℕ} {r : List ℕ} → Rest film stream e r → e ≤ length film → e + length r ≤ length film
  rest_short (known.over q) l = omega arith
  rest_short {e} (known.chunk {x = x} {b = b} {r = r} f y w) l =
      let t = there film e x (intact false) l f in
      omega (arith, rest_short w t.inside, body_short y, length-append b r)
  rest_short {e} (known.empty {x = x} f y w) l =
      let t = there film e x (intact false) l f in
      omega (arith, rest_short w t.inside, t.ends)
  rest_short {e} (known.closing {x = x} f y) l =
      let t = there film e x (intact true) l f in
      omega (arith, body_short y, t.inside)

  -- ---- nothing is dropped from what is left

  module _ (out : List ℕ) where
    -- an opcode that is kept stands in what is left
    module _ (p e : ℕ) (o : Opcode) (s : Stands film (cursor p e) o) (inside : e ≤ length film) (pre b r : List ℕ) (bytes : out ≡ pre ++ ((part film p (end_of o) ++ b) ++ r)) where
      abbrev n : ℕ
      n = 4 + o.long

      abbrev pub o' : Opcode
      o' = opcode o.kind o.version (length pre + 4) o.long

      here : p + n ≤ length film
      here = omega (arith, stands_fits film p e o s)

      pub kept_there : Same film p out (length pre) n
      kept_there = kept_same film out pre b r p n here (bytes ∙ ap (λ (m : ℕ). pre ++ ((part film p m ++ b) ++ r)) (ends_at film p e o s))

      pub kept_long : length (part film p (end_of o)) ≡ n
      kept_long = ap (λ (m : ℕ). length (part film p m)) (ends_at film p e o s) ∙ part_long film p n here

      pub kept_part : part out (length pre) (end_of o') ≡ part film p (end_of o)
      kept_part =
          let k : length pre + 4 + o.long ≡ length pre + n = omega arith in
          ap (part out (length pre)) k ∙ sym (same_part film p out (length pre) n kept_there) ∙ ap (part film p) (sym (ends_at film p e o s))

      pub kept_keeps : kept_in out stream o' ≡ kept_in film stream o
      kept_keeps = ap (is_kept stream o.kind) (sym (moved_body film p e o s out (length pre) e kept_there))

      pub kept_stands : (e' : ℕ) → e' ≡ length pre + length (part film p (end_of o) ++ b) → (o.kind ≤ 1 → b ≡ []) → Stands out (cursor (length pre) e') o'
      kept_stands e' q only =
          moved_stands film p e o s out (length pre) e' kept_there (omega (arith, length-append (part film p (end_of o)) b, kept_long))
          (λ z. omega (arith, length-append (part film p (end_of o)) b, kept_long, ap length (only z)))

    body_twice : {p e : ℕ} {b : List ℕ} {z : Bool} → Body film stream p e b z → e ≤ length film → (pre r : List ℕ) → out ≡ pre ++ (b ++ r) → (p' e' : ℕ) → p' ≡ length pre → e' ≡ length pre + length b
        → Body out stream p' e' b z
    body_twice known.none l pre r q p' e' ep ee = let k : p' ≡ e' = omega arith in subst (λ (m : ℕ). Body out stream p' m [] false) k known.none
    body_twice (known.drop o s k n x) l pre r q p' e' ep ee = body_twice x l pre r q p' e' ep ee
    body_twice {p} {e} (known.keep {b = b} {z = z} o s k n x) l pre r q p' e' ep ee =
        let only : o.kind ≤ 1 → b ≡ [] = λ w. (body_end x (ends_at film p e o s ∙ stands_last film p e o s w)).0 in
        let y = part film p (end_of o) in
        let long = kept_long p e o s l pre b r q in
        let ih : Body out stream (length pre + 4 + o.long) e' b z =
        body_twice x l (pre ++ y) r (behind_part out pre y b r q) (length pre + 4 + o.long) e' (omega (arith, length-append pre y, long)) (omega (arith, length-append pre y, length-append y b)) in
        subst (λ (m : ℕ). Body out stream m e' (y ++ b) z) (sym ep)
        (subst (λ (w : List ℕ). Body out stream (length pre) e' (w ++ b) z) (kept_part p e o s l pre b r q)
        (known.keep (o' p e o s l pre b r q) (kept_stands p e o s l pre b r q e' ee only) (kept_keeps p e o s l pre b r q ∙ k) n ih))
    body_twice {p} {e} (known.last o s k) l pre r q p' e' ep ee =
        let y = part film p (end_of o) in
        let q' : out ≡ pre ++ ((y ++ []) ++ r) = q ∙ ap (λ (w : List ℕ). pre ++ (w ++ r)) (sym (append-nil y)) in
        let ee' : e' ≡ length pre + length (y ++ []) = ee ∙ ap (λ (w : List ℕ). length pre + length w) (sym (append-nil y)) in
        subst (λ (m : ℕ). Body out stream m e' y true) (sym ep)
        (subst (λ (w : List ℕ). Body out stream (length pre) e' w true) (kept_part p e o s l pre [] r q')
        (known.last (o' p e o s l pre [] r q') (kept_stands p e o s l pre [] r q' e' ee' (λ _. refl)) k))

    -- a chunk that is left
    module _ (e x y : ℕ) (b r pre : List ℕ) (z : Bool) (t : There film e x (intact z)) (w : Body film stream (e + 4) x (y ∷ b) z) (q : out ≡ pre ++ (chunk_with film e (y ∷ b) ++ r)) where
      abbrev m : ℕ
      m = length (y ∷ b)

      abbrev x' : ℕ
      x' = length pre + 4 + m

      abbrev first : List ℕ
      first = head m (get_or film (e + 2) 0) (get_or film (e + 3) 0)

      pub chunk_behind : out ≡ (pre ++ first) ++ ((y ∷ b) ++ r)
      chunk_behind = behind_head out pre m (get_or film (e + 2) 0) (get_or film (e + 3) 0) ((y ∷ b) ++ r) q

      pub chunk_twice : Body out stream (length pre + 4) x' (y ∷ b) z
      chunk_twice = body_twice w t.inside (pre ++ first) r chunk_behind (length pre + 4) x' (sym (length-append pre first)) (omega (arith, length-append pre first))

      chunk_inside : x' ≤ length out
      chunk_inside = omega (arith, ap length q, length-append pre (chunk_with film e (y ∷ b) ++ r), length-append (y ∷ b) r)

      pub chunk_follows : following_at out (length pre) ≡ chunk_to x' (intact z)
      chunk_follows =
          let k : x' ≡ length pre + 4 + word_at out (length pre) = ap (λ (i : ℕ). length pre + 4 + i) (sym (head_word out pre m (get_or film (e + 2) 0) (get_or film (e + 3) 0) ((y ∷ b) ++ r) q)) in
          following_chunk out (length pre) x' k chunk_inside ∙ ap (chunk_to x') (passes_told (body_passes out stream chunk_twice) (suc (length out)) (omega (arith, chunk_inside)))

      pub chunk_typed : chunk_with out (length pre) (y ∷ b) ≡ chunk_with film e (y ∷ b)
      chunk_typed =
          let k = head_type out pre m (get_or film (e + 2) 0) (get_or film (e + 3) 0) ((y ∷ b) ++ r) q in
          rw (k.0, k.1)

    pub rest_twice : {e : ℕ} {r : List ℕ} → Rest film stream e r → e ≤ length film → (pre : List ℕ) → out ≡ pre ++ r → Rest out stream (length pre) r
    rest_twice (known.over q) l pre e = known.over (sym (ap length (e ∙ append-nil pre)))
    rest_twice {e} (known.chunk {x = x} {y = y} {b = b} {r = r} f w g) l pre q =
        let t = there film e x (intact false) l f in
        let c = chunk_with film e (y ∷ b) in
        let k : length (pre ++ c) ≡ length pre + 4 + length (y ∷ b) = omega (arith, length-append pre c) in
        let ih : Rest out stream (length pre + 4 + length (y ∷ b)) r = subst (λ (m : ℕ). Rest out stream m r) k (rest_twice g t.inside (pre ++ c) (q ∙ sym (append_assoc pre c r))) in
        subst (λ (v : List ℕ). Rest out stream (length pre) (v ++ r)) (chunk_typed e x y b r pre false t w q)
        (known.chunk (chunk_follows e x y b r pre false t w q) (chunk_twice e x y b r pre false t w q) ih)
    rest_twice {e} (known.empty {x = x} f w g) l pre q = rest_twice g (there film e x (intact false) l f).inside pre q
    rest_twice {e} (known.closing {x = x} {y = y} {b = b} f w) l pre q =
        let t = there film e x (intact true) l f in
        let q' : out ≡ pre ++ (chunk_with film e (y ∷ b) ++ []) = q ∙ ap (λ (v : List ℕ). pre ++ v) (sym (append-nil (chunk_with film e (y ∷ b)))) in
        subst (λ (v : List ℕ). Rest out stream (length pre) v) (chunk_typed e x y b [] pre true t w q')
        (known.closing (chunk_follows e x y b [] pre true t w q') (chunk_twice e x y b [] pre true t w q'))
