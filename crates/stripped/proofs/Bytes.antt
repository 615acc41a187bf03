-- Bytes that stand behind others in what is left of a film.
-- Assumes nothing.
use mathlib.Core.Path.{◌≡◌, sym, ap, ap₂, ◌∙◌, subst}
use mathlib.Core.List.{List, [], ◌∷◌, ◌++◌, append_assoc}
use Prim.Native.Nat.{ℕ, ◌+◌, ◌-◌, ◌*◌, ◌/◌, ◌%◌, ◌≤◌}
use native.Mathlib.Omega.{arith}
use native.Mathlib.Nat.{div-add-mod'}
use lib.ListN.{length, get_or}
use lib.Seq.{get_or-append-add}
use Rattle.words.specs.Word.{word_at}
use Rattle.parts.specs.Parts.{part}
use Rattle.parts.proofs.Parts.{Same, same_behind}
use Rattle.parts.proofs.Parts as parts

-- the n bytes at p
pub part_long : (film : List ℕ) (p n : ℕ) → p + n ≤ length film → length (part film p (p + n)) ≡ n
part_long film p n inside = parts.part_length film p (p + n) inside ∙ omega arith

pub kept_same : (film out pre b r : List ℕ) (p n : ℕ) → p + n ≤ length film → out ≡ pre ++ ((part film p (p + n) ++ b) ++ r) → Same film p out (length pre) n
kept_same film out pre b r p n inside e =
    let k : p + n - p ≡ n = omega arith in
    let q : out ≡ pre ++ (part film p (p + n) ++ (b ++ r)) = e ∙ ap (λ (y : List ℕ). pre ++ y) (append_assoc (part film p (p + n)) b r) in
    subst (λ (m : ℕ). Same film p out (length pre) m) k (same_behind film out pre (b ++ r) p (p + n) (omega arith) inside q)

-- a chunk's head
abbrev pub head : ℕ → ℕ → ℕ → List ℕ
head n t u = n % 256 ∷ n / 256 ∷ t ∷ u ∷ []

module _ (out pre : List ℕ) (n t u : ℕ) (rest : List ℕ) (e : out ≡ pre ++ (head n t u ++ rest)) where
  at : (i : ℕ) → get_or out (length pre + i) 0 ≡ get_or (head n t u ++ rest) i 0
  at i = ap (λ (x : List ℕ). get_or x (length pre + i) 0) e ∙ get_or-append-add pre (head n t u ++ rest) i 0

  pub head_word : word_at out (length pre) ≡ n
  unfolding word_at
  head_word =
      let z : length pre ≡ length pre + 0 = omega arith in
      ap₂ (λ (x y : ℕ). x + 256 * y) (ap (λ (i : ℕ). get_or out i 0) z ∙ at 0) (at 1) ∙ omega (arith, div-add-mod' n 256)

  pub head_type : (get_or out (length pre + 2) 0 ≡ t) × (get_or out (length pre + 3) 0 ≡ u)
  head_type = (at 2, at 3)

  pub behind_head : out ≡ (pre ++ head n t u) ++ rest
  behind_head = e ∙ sym (append_assoc pre (head n t u) rest)

pub behind_part : (out pre x b r : List ℕ) → out ≡ pre ++ ((x ++ b) ++ r) → out ≡ (pre ++ x) ++ (b ++ r)
behind_part out pre x b r e = e ∙ ap (λ (y : List ℕ). pre ++ y) (append_assoc x b r) ∙ sym (append_assoc pre x (b ++ r))
