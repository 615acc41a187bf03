-- Parts of bytes, and the same bytes in two places.
-- Assumes nothing.
use mathlib.Core.Path.{◌≡◌, refl, sym, ap, ◌∙◌}
use mathlib.Core.List.{List, [], ◌∷◌, ◌++◌}
use Prim.Native.Nat.{ℕ, suc, ◌+◌, ◌-◌, ◌≤◌, ◌<◌}
use native.Mathlib.Omega.{arith}
use lib.ListN.{length, take, drop, get_or, length-append, length-drop, get_or-append}
use lib.Seq.{drop-cons, get_or-take, get_or-drop, get_or-append-add, ext_get_or, length-take-le, take_at, drop_at}
use Rattle.parts.specs.Parts.{part}

pub part_length : (s : List ℕ) (from end : ℕ) → end ≤ length s → length (part s from end) ≡ end - from
part_length s from end h = length-take-le (end - from) (drop from s) (omega (arith, length-drop from s))

pub part_at : (s : List ℕ) (from end i : ℕ) → i < end - from → get_or (part s from end) i 0 ≡ get_or s (from + i) 0
part_at s from end i h = get_or-take (end - from) (drop from s) i 0 h ∙ get_or-drop from s i 0

-- what stands behind pre
pub part_behind : (whole pre x rest : List ℕ) (at : ℕ) → whole ≡ pre ++ (x ++ rest) → at ≡ length pre → part whole at (at + length x) ≡ x
part_behind whole pre x rest at q e =
    let n : at + length x - at ≡ length x = omega arith in
    rw (q, n, e) (ap (take (length x)) (drop_at pre (x ++ rest) (length pre) refl) ∙ take_at x rest (length x) refl)

pub part_two : (s : List ℕ) (from : ℕ) → from + 2 ≤ length s → part s from (from + 2) ≡ get_or s from 0 ∷ get_or s (from + 1) 0 ∷ []
part_two s from h =
    let n : from + 2 - from ≡ 2 = omega arith in
    let b : drop (suc from) s ≡ get_or s (from + 1) 0 ∷ drop (suc (suc from)) s = drop-cons s (suc from) 0 (omega arith) ∙ ap (λ (i : ℕ). get_or s i 0 ∷ drop (suc (suc from)) s) (omega arith) in
    ap (λ (i : ℕ). take i (drop from s)) n ∙ ap (take 2) (drop-cons s from 0 (omega arith) ∙ ap (λ (x : List ℕ). get_or s from 0 ∷ x) b)

-- the same n bytes stand at p of some bytes and at p' of others
pub record Same (s : List ℕ) (p : ℕ) (s' : List ℕ) (p' n : ℕ) : Type 0 where
  pub byte : (i : ℕ) → i < n → get_or s (p + i) 0 ≡ get_or s' (p' + i) 0
  pub inside : p + n ≤ length s
  pub inside' : p' + n ≤ length s'

module _ (s : List ℕ) (p : ℕ) (s' : List ℕ) (p' n : ℕ) (m : Same s p s' p' n) where
  -- some of them
  pub same_within : (i k : ℕ) → i + k ≤ n → Same s (p + i) s' (p' + i) k
  same_within i k h =
      record {
        byte = λ j l. at (p + i + j) (p' + i + j) (i + j) (omega arith) (omega arith) (omega arith);
        inside = omega (arith, m.inside);
        inside' = omega (arith, m.inside');
      }
    where
      at : (a b c : ℕ) → a ≡ p + c → b ≡ p' + c → c < n → get_or s a 0 ≡ get_or s' b 0
      at a b c ea eb h = rw (ea, eb) (m.byte c h)

  -- the first of them
  pub same_front : (k : ℕ) → k ≤ n → Same s p s' p' k
  same_front k h = record { byte = λ i l. m.byte i (omega arith); inside = omega (arith, m.inside); inside' = omega (arith, m.inside') }

  pub same_part : part s p (p + n) ≡ part s' p' (p' + n)
  same_part =
      let l : length (part s p (p + n)) ≡ n = part_length s p (p + n) m.inside ∙ omega arith in
      let l' : length (part s' p' (p' + n)) ≡ n = part_length s' p' (p' + n) m.inside' ∙ omega arith in
      ext_get_or 0 (part s p (p + n)) (part s' p' (p' + n)) (l ∙ sym l')
      (λ i h. part_at s p (p + n) i (omega (arith, l)) ∙ m.byte i (omega (arith, l)) ∙ sym (part_at s' p' (p' + n) i (omega (arith, l))))

-- a part, and where it stands behind pre
pub same_behind : (s whole pre rest : List ℕ) (from end : ℕ) → from ≤ end → end ≤ length s → whole ≡ pre ++ (part s from end ++ rest) → Same s from whole (length pre) (end - from)
same_behind s whole pre rest from end h k q =
    let l : length (part s from end) ≡ end - from = part_length s from end k in
    record {
      byte = λ i b. sym (rw q (get_or-append-add pre (part s from end ++ rest) i 0 ∙ get_or-append (part s from end) rest 0 i (omega (arith, l)) ∙ part_at s from end i b));
      inside = omega arith;
      inside' = omega (arith, l, ap length q, length-append pre (part s from end ++ rest), length-append (part s from end) rest);
    }
