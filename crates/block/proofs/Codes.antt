-- Laws of a block's code: each code's data bytes and copy, as the code's own functions find them.
-- Assumes nothing.
use mathlib.Core.Path.{◌≡◌, refl, sym, ap, ◌∙◌, subst}
use mathlib.Core.Bool.{Bool, true, false, cond}
use mathlib.Core.List.{List}
use Prim.Native.Nat.{ℕ, zero, suc, ◌+◌, ◌-◌, ◌*◌, ◌^◌, ◌/◌, ◌%◌, ◌≤◌, ◌<◌}
use native.Mathlib.Nat.{div-one, not-suc-le-zero, le_of_suc-le-suc}
use native.Mathlib.Omega.{arith}
use native.Mathlib.Decide.{ℕ_discrete}
use borrow.Author.Tests.{lt-ltb, le-ltb, eq-eqb, ne_eqb}
use lib.Dec.{eqb, ltb}
use lib.ListN.{get_or}
use Rattle.pattern.specs.declared.Form.{Form}
use Rattle.pattern.specs.declared.Form.TheVariants.{Two1x1, Two2x2, TwoQuarters, TwoLeftRight, TwoTopBottom, Four1x1, Four2x2, Four2x1, Four1x2, FourQuarters, FourLeftRight, FourTopBottom}
use Rattle.pattern.specs.Form.{bytes, shape, falling, form7, form8, form9, form_a}
use Rattle.pattern.specs.Pattern.{colours, cells, part_length, pattern_length}
use Rattle.pattern.proofs.Bounds.{small}
use Rattle.motion.specs.declared.Vector.{Vector}
use Rattle.motion.specs.Motion.{vector, ahead_vector, negated, near_vector, far_vector, points_inside, Short, Onward}
use Rattle.motion.proofs.Vectors.{ahead_onward, ahead_short, negated_short, near_short, far_short}
use Rattle.block.specs.declared.Picture.{Picture}
use Rattle.block.specs.declared.Picture.TheVariants.{Last, New, Oldest}
use Rattle.block.specs.Block.{Side, one, two, four, eight, pixels, Kind, same, kept, copied, patterned, celled, dithered, refused, kinds, kind_of, colour_bytes, data_length, offset_length, is_refused, copy_inside, cell_source, dither_source}
use Rattle.block.specs.Asked.{Sided, last_copied, first_offset, vector_at}

-- what holds of each of the sixteen codes holds of every code
pub each_code : (P : ℕ → Type 0) → P 0 → P 1 → P 2 → P 3 → P 4 → P 5 → P 6 → P 7 → P 8 → P 9 → P 10 → P 11 → P 12 → P 13 → P 14 → P 15 → (c : ℕ) → c < 16 → P c
each_code P p0 p1 p2 p3 p4 p5 p6 p7 p8 p9 pA pB pC pD pE pF zero h = p0
each_code P p0 p1 p2 p3 p4 p5 p6 p7 p8 p9 pA pB pC pD pE pF (suc zero) h = p1
each_code P p0 p1 p2 p3 p4 p5 p6 p7 p8 p9 pA pB pC pD pE pF (suc (suc zero)) h = p2
each_code P p0 p1 p2 p3 p4 p5 p6 p7 p8 p9 pA pB pC pD pE pF (suc (suc (suc zero))) h = p3
each_code P p0 p1 p2 p3 p4 p5 p6 p7 p8 p9 pA pB pC pD pE pF (suc (suc (suc (suc c)))) h =
    by_4 c (omega arith)
  where
    by_4 : (c : ℕ) → c < 12 → P (suc (suc (suc (suc c))))
    by_4 zero h = p4
    by_4 (suc zero) h = p5
    by_4 (suc (suc zero)) h = p6
    by_4 (suc (suc (suc zero))) h = p7
    by_4 (suc (suc (suc (suc zero)))) h = p8
    by_4 (suc (suc (suc (suc (suc zero))))) h = p9
    by_4 (suc (suc (suc (suc (suc (suc zero)))))) h = pA
    by_4 (suc (suc (suc (suc (suc (suc (suc zero))))))) h = pB
    by_4 (suc (suc (suc (suc (suc (suc (suc (suc zero)))))))) h = pC
    by_4 (suc (suc (suc (suc (suc (suc (suc (suc (suc zero))))))))) h = pD
    by_4 (suc (suc (suc (suc (suc (suc (suc (suc (suc (suc zero)))))))))) h = pE
    by_4 (suc (suc (suc (suc (suc (suc (suc (suc (suc (suc (suc zero))))))))))) h = pF
    by_4 (suc (suc (suc (suc (suc (suc (suc (suc (suc (suc (suc (suc c)))))))))))) h = absurd (let z : ⊥ = omega arith in z)

-- ---- the code that is refused

module _ (s o : List ℕ) where
  Known : Bool → ℕ → Type 0
  Known deep c = (deep ≡ false → c ≡ 6 → ⊥) → is_refused (kind_of deep c s o) ≡ false

  -- a code is refused exactly where it is 6 and the film has no true colour
  pub code_known : (deep : Bool) (c : ℕ) → c < 16 → (deep ≡ false → c ≡ 6 → ⊥) → is_refused (kind_of deep c s o) ≡ false
  unfolding Known kind_of kinds is_refused
  code_known false =
      each_code (Known false) (λ n. refl) (λ n. refl) (λ n. refl) (λ n. refl) (λ n. refl) (λ n. refl) (λ n. absurd (n refl refl)) (λ n. refl)
      (λ n. refl) (λ n. refl) (λ n. refl) (λ n. refl) (λ n. refl) (λ n. refl) (λ n. refl) (λ n. refl)
  code_known true =
      each_code (Known true) (λ n. refl) (λ n. refl) (λ n. refl) (λ n. refl) (λ n. refl) (λ n. refl) (λ n. refl) (λ n. refl)
      (λ n. refl) (λ n. refl) (λ n. refl) (λ n. refl) (λ n. refl) (λ n. refl) (λ n. refl) (λ n. refl)

  pub code_refused : (c : ℕ) → c ≡ 6 → is_refused (kind_of false c s o) ≡ true
  unfolding kind_of kinds is_refused
  code_refused c e = rw e

-- the test of a code
pub refused_deep : (s o : List ℕ) (c : ℕ) → c < 16 → false ≡ is_refused (kind_of true c s o)
refused_deep s o c l = sym (code_known s o true c l (λ d. absurd (let z : ◌≡◌ {A = ℕ} 0 1 = cc in let y : ⊥ = omega arith in y)))

pub refused_flat : (s o : List ℕ) (c : ℕ) → c < 16 → eqb c 6 ≡ is_refused (kind_of false c s o)
refused_flat s o c l = elim (ℕ_discrete c 6) [ yes e ↦ eq-eqb _ _ e ∙ sym (code_refused s o c e) | no n ↦ ne_eqb _ _ n ∙ sym (code_known s o false c l (λ d. n)) ]

-- ---- each code's kind, by what code found

module _ (deep : Bool) (s o : List ℕ) (c : ℕ) where
  pub kind_0 : c ≡ 0 → kind_of deep c s o ≡ same Last
  unfolding kind_of kinds
  kind_0 e = rw e

  pub kind_1 : c ≡ 1 → kind_of deep c s o ≡ cond deep (same Oldest) kept
  unfolding kind_of kinds
  kind_1 e = rw e

  pub kind_6 : c ≡ 6 → kind_of deep c s o ≡ cond deep (copied Oldest (far_vector (get_or s 0 0) (get_or s 1 0)) 2 0) refused
  unfolding kind_of kinds
  kind_6 e = rw e

  pub kind_7 : (f : Form) → c ≡ 7 → f ≡ form7 deep s → kind_of deep c s o ≡ patterned f
  unfolding kind_of kinds
  kind_7 f e p = rw (e, p)

  pub kind_8 : (f : Form) → c ≡ 8 → f ≡ form8 deep s → kind_of deep c s o ≡ patterned f
  unfolding kind_of kinds
  kind_8 f e p = rw (e, p)

  pub kind_9 : (f : Form) → c ≡ 9 → f ≡ form9 deep s → kind_of deep c s o ≡ patterned f
  unfolding kind_of kinds
  kind_9 f e p = rw (e, p)

  pub kind_A : (f : Form) → c ≡ 10 → f ≡ form_a deep s → kind_of deep c s o ≡ patterned f
  unfolding kind_of kinds
  kind_A f e p = rw (e, p)

  pub kind_B : c ≡ 11 → kind_of deep c s o ≡ celled one
  unfolding kind_of kinds
  kind_B e = rw e

  pub kind_C : c ≡ 12 → kind_of deep c s o ≡ celled two
  unfolding kind_of kinds
  kind_C e = rw e

  pub kind_D : c ≡ 13 → kind_of deep c s o ≡ celled four
  unfolding kind_of kinds
  kind_D e = rw e

  pub kind_E : c ≡ 14 → kind_of deep c s o ≡ celled eight
  unfolding kind_of kinds
  kind_E e = rw e

  pub kind_F : c ≡ 15 → kind_of deep c s o ≡ cond deep (same Oldest) dithered
  unfolding kind_of kinds
  kind_F e = rw e

-- codes 2 to 6: the picture that is copied, by the vector that code finds
pub kind_2 : (deep : Bool) (s o : List ℕ) (c : ℕ) → c ≡ 2 → kind_of deep c s o ≡ copied Oldest (vector_at deep c s o) (cond deep 0 1) (cond deep 1 0)
unfolding kind_of kinds vector_at first_offset
kind_2 false s o c e = rw e
kind_2 true s o c e = rw e

pub kind_3 : (deep : Bool) (s o : List ℕ) (c : ℕ) → c ≡ 3 → kind_of deep c s o ≡ copied New (vector_at deep c s o) (cond deep 0 1) (cond deep 1 0)
unfolding kind_of kinds vector_at first_offset
kind_3 false s o c e = rw e
kind_3 true s o c e = rw e

pub kind_4 : (deep : Bool) (s o : List ℕ) (c : ℕ) → c ≡ 4 → kind_of deep c s o ≡ copied Last (vector_at deep c s o) (cond deep 0 1) (cond deep 1 0)
unfolding kind_of kinds vector_at first_offset
kind_4 false s o c e = rw e
kind_4 true s o c e = rw e

pub kind_5 : (deep : Bool) (s o : List ℕ) (c : ℕ) → c ≡ 5 → kind_of deep c s o ≡ copied Last (vector_at deep c s o) 2 0
unfolding kind_of kinds vector_at first_offset
kind_5 false s o c e = rw e
kind_5 true s o c e = rw e

pub kind_6_deep : (s o : List ℕ) (c : ℕ) → c ≡ 6 → kind_of true c s o ≡ copied Oldest (vector_at true c s o) 2 0
unfolding kind_of kinds vector_at first_offset
kind_6_deep s o c e = rw e

-- ---- one of two vectors

-- chosen number by number
pub each_chosen : (t : Bool) (a b : Vector) (p q r s : ℕ) → p ≡ cond t a.right b.right → q ≡ cond t a.left b.left → r ≡ cond t a.down b.down → s ≡ cond t a.up b.up
    → vector p q r s ≡ cond t a b
each_chosen true a b p q r s ep eq er es = rw (ep, eq, er, es)
each_chosen false a b p q r s ep eq er es = rw (ep, eq, er, es)

-- and short where both are
chosen_short : (t : Bool) (a b r : Vector) → r ≡ cond t a b → Short a → Short b → Short r
chosen_short true a b r e h g = subst Short (sym e) h
chosen_short false a b r e h g = subst Short (sym e) g

pub back_short : (b : ℕ) (t : Bool) (u v r : Vector) → b < 256 → u ≡ negated (ahead_vector b) → v ≡ ahead_vector b → r ≡ cond t u v → Short r
back_short b t u v r h n e q =
    chosen_short t u v r q (subst Short (sym n) (negated_short _ (ahead_short b h))) (subst Short (sym e) (ahead_short b h))

pub front_short : (b d : ℕ) (t : Bool) (u v r : Vector) → b < 256 → u ≡ near_vector b → v ≡ far_vector b d → r ≡ cond t u v → Short r
front_short b d t u v r h e f q =
    chosen_short t u v r q (subst Short (sym e) (near_short b h)) (subst Short (sym f) (far_short b d))

-- ---- data bytes

halves_8 : (deep a b : Bool) → cond a (4 * bytes deep + 8) (8 * bytes deep + 8) ≡ pattern_length (shape deep (cond a (cond b TwoTopBottom TwoLeftRight) TwoQuarters))
unfolding pattern_length part_length cells colours
halves_8 true true true = refl
halves_8 true true false = refl
halves_8 true false true = refl
halves_8 true false false = refl
halves_8 false true true = refl
halves_8 false true false = refl
halves_8 false false true = refl
halves_8 false false false = refl

halves_A : (deep a b : Bool) → cond a (8 * bytes deep + 16) (16 * bytes deep + 16) ≡ pattern_length (shape deep (cond a (cond b FourTopBottom FourLeftRight) FourQuarters))
unfolding pattern_length part_length cells colours
halves_A true true true = refl
halves_A true true false = refl
halves_A true false true = refl
halves_A true false false = refl
halves_A false true true = refl
halves_A false true false = refl
halves_A false false true = refl
halves_A false false false = refl

forms_7 : (deep a : Bool) → cond a (2 * bytes deep + 2) (2 * bytes deep + 8) ≡ pattern_length (shape deep (cond a Two2x2 Two1x1))
unfolding pattern_length part_length cells colours
forms_7 true true = refl
forms_7 true false = refl
forms_7 false true = refl
forms_7 false false = refl

forms_9 : (deep a b : Bool) → cond a (4 * bytes deep + 8) (cond b (4 * bytes deep + 4) (4 * bytes deep + 16)) ≡ pattern_length (shape deep (cond a (cond b Four1x2 Four2x1) (cond b Four2x2 Four1x1)))
unfolding pattern_length part_length cells colours
forms_9 true true true = refl
forms_9 true true false = refl
forms_9 true false true = refl
forms_9 true false false = refl
forms_9 false true true = refl
forms_9 false true false = refl
forms_9 false false true = refl
forms_9 false false false = refl

module _ (deep : Bool) (s o : List ℕ) where
  pub length_7 : cond (falling deep s 0) (2 * bytes deep + 2) (2 * bytes deep + 8) ≡ data_length deep (kind_of deep 7 s o)
  unfolding kind_of kinds data_length form7
  length_7 = forms_7 deep (falling deep s 0)

  pub length_8 : cond (falling deep s 0) (4 * bytes deep + 8) (8 * bytes deep + 8) ≡ data_length deep (kind_of deep 8 s o)
  unfolding kind_of kinds data_length form8
  length_8 = halves_8 deep (falling deep s 0) (falling deep s (2 * bytes deep + 4))

  pub length_9 : cond (falling deep s 0) (4 * bytes deep + 8) (cond (falling deep s (2 * bytes deep)) (4 * bytes deep + 4) (4 * bytes deep + 16)) ≡ data_length deep (kind_of deep 9 s o)
  unfolding kind_of kinds data_length form9
  length_9 = forms_9 deep (falling deep s 0) (falling deep s (2 * bytes deep))

  pub length_A : cond (falling deep s 0) (8 * bytes deep + 16) (16 * bytes deep + 16) ≡ data_length deep (kind_of deep 10 s o)
  unfolding kind_of kinds data_length form_a
  length_A = halves_A deep (falling deep s 0) (falling deep s (4 * bytes deep + 8))

  -- the same by the bytes n of a pixel and the tests that code found
  module _ (r n : ℕ) (a : Bool) (e : n ≡ bytes deep) (f : a ≡ falling deep s 0) where
    pub found_7 : (c : ℕ) → c ≡ 7 → r ≡ cond a (2 * n + 2) (2 * n + 8) → r ≡ data_length deep (kind_of deep c s o)
    found_7 c k q = rw (q, k, e, f) length_7

    pub found_8 : (c : ℕ) → c ≡ 8 → r ≡ cond a (4 * n + 8) (8 * n + 8) → r ≡ data_length deep (kind_of deep c s o)
    found_8 c k q = rw (q, k, e, f) length_8

    pub found_9 : (b : Bool) (t : ℕ) → b ≡ falling deep s (2 * n) → t ≡ cond b (4 * n + 4) (4 * n + 16) → r ≡ cond a (4 * n + 8) t → r ≡ data_length deep (kind_of deep 9 s o)
    found_9 b t g p q = rw (q, p, g, e, f) length_9

    pub found_A : (c : ℕ) → c ≡ 10 → r ≡ cond a (8 * n + 16) (16 * n + 16) → r ≡ data_length deep (kind_of deep c s o)
    found_A c k q = rw (q, k, e, f) length_A

-- codes 0 to 6 and B to F, by the bytes n of a pixel
module _ (deep : Bool) (s o : List ℕ) where
  pub length_low : (c : ℕ) → c < 2 → 0 ≡ data_length deep (kind_of deep c s o)
  unfolding kind_of kinds data_length
  length_low zero l = refl
  length_low (suc zero) l = by deep
    where
      by : (d : Bool) → 0 ≡ data_length d (cond d (same Oldest) kept)
      by false = refl
      by true = refl
  length_low (suc (suc c)) l = absurd (let z : ⊥ = omega arith in z)

  pub length_beside : (c : ℕ) → 1 < c → c < 5 → cond deep 0 1 ≡ data_length deep (kind_of deep c s o)
  unfolding kind_of kinds data_length
  length_beside zero g l = absurd (let z : ⊥ = omega arith in z)
  length_beside (suc zero) g l = absurd (let z : ⊥ = omega arith in z)
  length_beside (suc (suc zero)) g l = refl
  length_beside (suc (suc (suc zero))) g l = refl
  length_beside (suc (suc (suc (suc zero)))) g l = refl
  length_beside (suc (suc (suc (suc (suc c))))) g l = absurd (let z : ⊥ = omega arith in z)

  pub length_5 : (c : ℕ) → c ≡ 5 → 2 ≡ data_length deep (kind_of deep c s o)
  unfolding kind_of kinds data_length
  length_5 c e = rw e

  pub length_6 : (c : ℕ) → c ≡ 6 → cond deep 2 0 ≡ data_length deep (kind_of deep c s o)
  unfolding kind_of kinds data_length
  length_6 c e = rw e (by deep)
    where
      by : (d : Bool) → cond d 2 0 ≡ data_length d (cond d (copied Oldest (far_vector (get_or s 0 0) (get_or s 1 0)) 2 0) refused)
      by false = refl
      by true = refl

  pub length_F : (c : ℕ) → c ≡ 15 → cond deep 0 2 ≡ data_length deep (kind_of deep c s o)
  unfolding kind_of kinds data_length
  length_F c e = rw e (by deep)
    where
      by : (d : Bool) → cond d 0 2 ≡ data_length d (cond d (same Oldest) dithered)
      by false = refl
      by true = refl

  pub length_celled : (c n : ℕ) (a : Side) → kind_of deep c s o ≡ celled a → n ≡ bytes deep → 8 / pixels a * (8 / pixels a) * n ≡ data_length deep (kind_of deep c s o)
  unfolding data_length
  length_celled c n a k e = rw (k, e) (by deep)
    where
      by : (d : Bool) → 8 / pixels a * (8 / pixels a) * bytes d ≡ colour_bytes d (8 / pixels a * (8 / pixels a))
      by false = omega arith
      by true = omega arith

-- those that are not celled
pub ruleset lengths = (length_low, length_beside, length_5, length_6, length_F)

-- codes B to F with true colour: a quarter from code to code
WordCells : List ℕ → List ℕ → ℕ → Type 0
WordCells s o c = 10 < c → 128 / 2 ^ (2 * (c - 11)) ≡ data_length true (kind_of true c s o)

pub word_cells : (c : ℕ) → 10 < c → c < 16 → (s o : List ℕ) → 128 / 2 ^ (2 * (c - 11)) ≡ data_length true (kind_of true c s o)
unfolding WordCells kind_of kinds data_length pixels
word_cells c g h s o =
    each_code (WordCells s o) (λ h. absurd (let z : ⊥ = omega arith in z)) (λ h. absurd (let z : ⊥ = omega arith in z)) (λ h. absurd (let z : ⊥ = omega arith in z)) (λ h. absurd (let z : ⊥ = omega arith in z)) (λ h. absurd (let z : ⊥ = omega arith in z))
    (λ h. absurd (let z : ⊥ = omega arith in z)) (λ h. absurd (let z : ⊥ = omega arith in z)) (λ h. absurd (let z : ⊥ = omega arith in z)) (λ h. absurd (let z : ⊥ = omega arith in z)) (λ h. absurd (let z : ⊥ = omega arith in z)) (λ h. absurd (let z : ⊥ = omega arith in z))
    (λ h. refl) (λ h. refl) (λ h. refl) (λ h. refl) (λ h. refl) c h g

-- ---- the second part

Beside : Bool → List ℕ → List ℕ → ℕ → Type 0
Beside deep s o c = 1 < c → cond (cond deep (ltb c 5) false) 1 0 ≡ offset_length (kind_of deep c s o)

pub offset_low : (deep : Bool) (s o : List ℕ) (c : ℕ) → c < 2 → 0 ≡ offset_length (kind_of deep c s o)
unfolding kind_of kinds offset_length
offset_low deep s o zero l = refl
offset_low true s o (suc zero) l = refl
offset_low false s o (suc zero) l = refl
offset_low deep s o (suc (suc c)) l = absurd (let z : ⊥ = omega arith in z)

pub offset_high : (deep : Bool) (s o : List ℕ) (c : ℕ) → c < 16 → 1 < c → cond (cond deep (ltb c 5) false) 1 0 ≡ offset_length (kind_of deep c s o)
unfolding Beside kind_of kinds offset_length
offset_high true s o =
    each_code (Beside true s o) (λ h. absurd (let z : ⊥ = omega arith in z)) (λ h. absurd (let z : ⊥ = omega arith in z)) (λ h. refl) (λ h. refl) (λ h. refl) (λ h. refl) (λ h. refl) (λ h. refl)
    (λ h. refl) (λ h. refl) (λ h. refl) (λ h. refl) (λ h. refl) (λ h. refl) (λ h. refl) (λ h. refl)
offset_high false s o =
    each_code (Beside false s o) (λ h. absurd (let z : ⊥ = omega arith in z)) (λ h. absurd (let z : ⊥ = omega arith in z)) (λ h. refl) (λ h. refl) (λ h. refl) (λ h. refl) (λ h. refl) (λ h. refl)
    (λ h. refl) (λ h. refl) (λ h. refl) (λ h. refl) (λ h. refl) (λ h. refl) (λ h. refl) (λ h. refl)

-- an 8-bit film has no second part
pub offset_flat : (s o : List ℕ) (c : ℕ) → c < 16 → 0 ≡ offset_length (kind_of false c s o)
unfolding kind_of kinds offset_length
offset_flat s o =
    each_code (λ (c : ℕ). 0 ≡ offset_length (kind_of false c s o)) refl refl refl refl refl refl refl refl refl refl refl refl refl refl refl refl

-- ---- copies

module _ (s o : List ℕ) where
  pub copy_low : (deep : Bool) (c w h x y : ℕ) → c < 2 → true ≡ copy_inside (kind_of deep c s o) w h x y
  unfolding kind_of kinds copy_inside
  copy_low deep zero w h x y l = refl
  copy_low true (suc zero) w h x y l = refl
  copy_low false (suc zero) w h x y l = refl
  copy_low deep (suc (suc c)) w h x y l = absurd (let z : ⊥ = omega arith in z)

  High : Bool → ℕ → ℕ → ℕ → ℕ → ℕ → Type 0
  High deep w h x y c = last_copied deep < c → true ≡ copy_inside (kind_of deep c s o) w h x y

  pub copy_high : (deep : Bool) (c w h x y : ℕ) → c < 16 → last_copied deep < c → true ≡ copy_inside (kind_of deep c s o) w h x y
  unfolding kind_of kinds copy_inside High
  copy_high true c w h x y l =
      each_code (High true w h x y) (no 0 (omega arith)) (no 1 (omega arith)) (no 2 (omega arith)) (no 3 (omega arith)) (no 4 (omega arith)) (no 5 (omega arith)) (no 6 (omega arith))
      (λ _. refl) (λ _. refl) (λ _. refl) (λ _. refl) (λ _. refl) (λ _. refl) (λ _. refl) (λ _. refl) (λ _. refl) c l
    where
      no : (c : ℕ) → c ≤ 6 → High true w h x y c
      no c a b = absurd (let z : ⊥ = omega arith in z)
  copy_high false c w h x y l =
      each_code (High false w h x y) (no 0 (omega arith)) (no 1 (omega arith)) (no 2 (omega arith)) (no 3 (omega arith)) (no 4 (omega arith)) (no 5 (omega arith)) (λ _. refl)
      (λ _. refl) (λ _. refl) (λ _. refl) (λ _. refl) (λ _. refl) (λ _. refl) (λ _. refl) (λ _. refl) (λ _. refl) c l
    where
      no : (c : ℕ) → c ≤ 5 → High false w h x y c
      no c a b = absurd (let z : ⊥ = omega arith in z)

  -- what holds of codes 2 to 6 holds of each that is copied by a vector
  copying : (P : ℕ → Type 0) → P 2 → P 3 → P 4 → P 5 → P 6 → (c : ℕ) → 1 < c → c < 7 → P c
  copying P p2 p3 p4 p5 p6 zero g l = absurd (let z : ⊥ = omega arith in z)
  copying P p2 p3 p4 p5 p6 (suc zero) g l = absurd (let z : ⊥ = omega arith in z)
  copying P p2 p3 p4 p5 p6 (suc (suc zero)) g l = p2
  copying P p2 p3 p4 p5 p6 (suc (suc (suc zero))) g l = p3
  copying P p2 p3 p4 p5 p6 (suc (suc (suc (suc zero)))) g l = p4
  copying P p2 p3 p4 p5 p6 (suc (suc (suc (suc (suc zero))))) g l = p5
  copying P p2 p3 p4 p5 p6 (suc (suc (suc (suc (suc (suc zero)))))) g l = p6
  copying P p2 p3 p4 p5 p6 (suc (suc (suc (suc (suc (suc (suc c))))))) g l = absurd (let z : ⊥ = omega arith in z)

  -- a block that is copied by a vector
  pub Moved : Bool → ℕ → Type 0
  Moved deep c = (p : Picture) × (n : ℕ) × (m : ℕ) × (kind_of deep c s o ≡ copied p (vector_at deep c s o) n m)

  Moving : Bool → ℕ → Type 0
  Moving deep c = c ≤ last_copied deep → Moved deep c

  pub moved : (deep : Bool) (c : ℕ) → 1 < c → c ≤ last_copied deep → Moved deep c
  unfolding Moved Moving kind_of kinds first_offset vector_at
  moved true c g l =
      copying (Moving true) (λ h. (Oldest, 0, 1, refl)) (λ h. (New, 0, 1, refl)) (λ h. (Last, 0, 1, refl)) (λ h. (Last, 2, 0, refl)) (λ h. (Oldest, 2, 0, refl)) c g (omega arith) l
  moved false c g l =
      copying (Moving false) (λ h. (Oldest, 1, 0, refl)) (λ h. (New, 1, 0, refl)) (λ h. (Last, 1, 0, refl)) (λ h. (Last, 2, 0, refl)) (λ h. absurd (let z : ⊥ = omega arith in z)) c g (omega arith) l

  pub copy_judged : (deep : Bool) (c w h x y : ℕ) (v : Vector) (r : Bool) → 1 < c → c ≤ last_copied deep → v ≡ vector_at deep c s o → r ≡ points_inside v w h x y → r ≡ copy_inside (kind_of deep c s o) w h x y
  unfolding Moved copy_inside
  copy_judged deep c w h x y v r g l e q = let (p, n, m, k) = moved deep c g l in rw k (q ∙ ap (λ (u : Vector). points_inside u w h x y) e)

-- the vector as it is chosen: of codes 2 and 3 by 3, of 4 to 6 by 4
module _ (deep : Bool) (s o : List ℕ) (c b : ℕ) (u v r : Vector) (e : b ≡ first_offset deep c s o) where
  pub chosen_back : c < 4 → u ≡ negated (ahead_vector b) → v ≡ ahead_vector b → r ≡ cond (eqb c 3) u v → r ≡ vector_at deep c s o
  unfolding vector_at
  chosen_back l n a q = rw (q, n, a, e, lt-ltb _ _ l)

  pub chosen_front : (d : ℕ) → 4 ≤ c → d ≡ get_or s 1 0 → u ≡ near_vector b → v ≡ far_vector b d → r ≡ cond (eqb c 4) u v → r ≡ vector_at deep c s o
  unfolding vector_at
  chosen_front d l ed en ef q = rw (q, en, ef, e, ed, le-ltb _ _ l)

-- ---- cells

-- pixel i of a block of cells n pixels wide and high: no divisor is 0, and its byte is one of the block's
pub record Cell (n i : ℕ) : Type 0 where
  pub some : 0 < n
  pub row_few : i / 8 / n * (8 / n) ≤ 56
  pub column_few : i % 8 / n ≤ 7
  pub inside : i / 8 / n * (8 / n) + i % 8 / n < 8 / n * (8 / n)

cell_of : (c : Side) (i : ℕ) → i < 64 → Cell (pixels c) i
cell_of one i h = omega arith
cell_of two i h = omega arith
cell_of four i h = omega arith
cell_of eight i h = omega arith

pub cell : (n i : ℕ) → Sided n → i < 64 → Cell n i
cell n i (c, e) h = subst (λ (x : ℕ). Cell x i) e (cell_of c i h)

pub cell_inside : (n i : ℕ) → Sided n → i < 64 → cell_source n i < 8 / n * (8 / n)
unfolding cell_source
cell_inside n i z h = (cell n i z h).inside

pub dither_below : (i : ℕ) → dither_source i < 2
unfolding dither_source
dither_below i = omega arith

-- colour n of so many ends within their bytes
pub colour_within : (deep : Bool) (n m : ℕ) → n < m → colour_bytes deep n + bytes deep ≤ colour_bytes deep m
colour_within false n m h = omega arith
colour_within true n m h = omega arith

-- ---- no block has more than 128 data bytes, nor more than 1 in the second part

abbrev pub Few : Bool → List ℕ → List ℕ → ℕ → Type 0
Few deep s o c = (data_length deep (kind_of deep c s o) ≤ 128) × (offset_length (kind_of deep c s o) ≤ 1)

pub length_few : (deep : Bool) (s o : List ℕ) (c : ℕ) → c < 16 → Few deep s o c
unfolding kind_of kinds data_length offset_length
length_few true s o =
    each_code (Few true s o) (omega arith, omega arith) (omega arith, omega arith) (omega arith, omega arith) (omega arith, omega arith) (omega arith, omega arith) (omega arith, omega arith) (omega arith, omega arith)
    (form (form7 true s)) (form (form8 true s)) (form (form9 true s)) (form (form_a true s))
    (omega arith, omega arith) (omega arith, omega arith) (omega arith, omega arith) (omega arith, omega arith) (omega arith, omega arith)
  where
    form : (f : Form) → (pattern_length (shape true f) ≤ 128) × (0 ≤ 1)
    form f = (omega (arith, (small {q = shape true f} (true, f, refl)).length_few), omega arith)
length_few false s o =
    each_code (Few false s o) (omega arith, omega arith) (omega arith, omega arith) (omega arith, omega arith) (omega arith, omega arith) (omega arith, omega arith) (omega arith, omega arith) (omega arith, omega arith)
    (form (form7 false s)) (form (form8 false s)) (form (form9 false s)) (form (form_a false s))
    (omega arith, omega arith) (omega arith, omega arith) (omega arith, omega arith) (omega arith, omega arith) (omega arith, omega arith)
  where
    form : (f : Form) → (pattern_length (shape false f) ≤ 128) × (0 ≤ 1)
    form f = (omega (arith, (small {q = shape false f} (false, f, refl)).length_few), omega arith)

-- ---- the code of a block, by a shift

pub nibble : (b k : ℕ) → b / 2 ^ (4 * (k % 2)) % 16 ≡ cond (eqb (k % 2) 0) (b % 16) (b / 16 % 16)
nibble b k = by (k % 2) (omega arith)
  where
    by : (m : ℕ) → m < 2 → b / 2 ^ (4 * m) % 16 ≡ cond (eqb m 0) (b % 16) (b / 16 % 16)
    by zero h = ap (λ (n : ℕ). n % 16) (div-one b)
    by (suc zero) h = refl
    by (suc (suc m)) h = absurd (not-suc-le-zero (le_of_suc-le-suc (le_of_suc-le-suc h)))

-- ---- a block that is copied from the picture that is drawn on is copied from later blocks or from earlier ones

-- by a vector that leads on, or by the negation of one; the oldest picture is drawn on in an 8-bit film alone
abbrev pub Led : Bool → Kind → Type 0
Led deep (same Last) = Unit
Led deep (same New) = ⊥
Led false (same Oldest) = ⊥
Led true (same Oldest) = Unit
Led deep kept = Unit
Led deep (copied Last v n m) = Unit
Led deep (copied New v n m) = (u : Vector) × (v ≡ negated u) × Onward u
Led false (copied Oldest v n m) = Onward v
Led true (copied Oldest v n m) = Unit
Led deep (patterned f) = Unit
Led deep (celled c) = Unit
Led deep dithered = Unit
Led deep refused = Unit

LedAt : Bool → List ℕ → List ℕ → ℕ → Type 0
LedAt deep s o c = Led deep (kind_of deep c s o)

pub led : (deep : Bool) (s o : List ℕ) (c : ℕ) → c < 16 → Led deep (kind_of deep c s o)
unfolding LedAt kind_of kinds
led false s o = each_code (LedAt false s o) tt tt (ahead_onward _) (ahead_vector _, refl, ahead_onward _) tt tt tt tt tt tt tt tt tt tt tt tt
led true s o = each_code (LedAt true s o) tt tt tt (ahead_vector _, refl, ahead_onward _) tt tt tt tt tt tt tt tt tt tt tt tt
