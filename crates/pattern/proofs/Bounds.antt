-- What is known of the numbers of a form, and of a pixel under them: one omega for each of the twelve forms and each width.
-- Assumes nothing.
use mathlib.Core.Path.{◌≡◌, refl, sym, ap, ◌∙◌, subst}
use mathlib.Core.Logic.{◌⊎◌, inl, inr}
use mathlib.Core.Bool.{Bool, true, false, cond}
use mathlib.Core.List.{List}
use Prim.Native.Nat.{ℕ, zero, suc, ◌+◌, ◌-◌, ◌*◌, ◌/◌, ◌%◌, ◌^◌, ◌≤◌, ◌<◌}
use native.Mathlib.Omega.{arith}
use Rattle.pattern.specs.declared.Form.{Form}
use Rattle.pattern.specs.declared.Form.TheVariants.{Two1x1, Two2x2, TwoQuarters, TwoLeftRight, TwoTopBottom, Four1x1, Four2x2, Four2x1, Four1x2, FourQuarters, FourLeftRight, FourTopBottom}
use Rattle.pattern.specs.declared.Shape.{Shape}
use Rattle.pattern.specs.Form.{bytes, shape, falling, form7, form8, form9, form_a}
use Rattle.pattern.specs.Pattern.{Shaped, FieldInside, colours, cells, part_length, pattern_length, part_start, field_number, field_at, pattern_source}

-- of a form's numbers: no divisor is 0, and nothing is large
pub record Small (q : Shape) : Type 0 where
  pub colour_some : 1 ≤ q.colour
  pub colour_few : q.colour ≤ 2
  pub colours_few : q.colour * (2 * q.bits) ≤ 8
  pub bits_some : 1 ≤ q.bits
  pub bits_few : q.bits ≤ 2
  pub across_some : 0 < q.across
  pub down_some : 0 < q.down
  pub wide_some : 0 < q.wide
  pub high_some : 0 < q.high
  pub cells_few : q.across / q.wide * (q.down / q.high) ≤ 64
  pub bits_all : q.across / q.wide * (q.down / q.high) * q.bits ≤ 128
  pub part_few : part_length q ≤ 24
  pub length_few : pattern_length q ≤ 48

-- of pixel i: its part and its field are small, and the field's byte is one of the block's
pub record Placed (q : Shape) (i : ℕ) : Type 0 where
  pub column_few : i % 8 / q.across * (8 / q.down) ≤ 8
  pub row_few : i / 8 / q.down ≤ 8
  pub start_few : (i % 8 / q.across * (8 / q.down) + i / 8 / q.down) * part_length q ≤ 64
  pub line_few : i / 8 % q.down / q.high * (q.across / q.wide) ≤ 64
  pub cell_few : i % 8 % q.across / q.wide ≤ 8
  pub field_few : field_number q i < 64
  pub part_inside : part_start q i + part_length q ≤ pattern_length q
  pub field_inside : q.colour * (2 * q.bits) + field_number q i * q.bits / 8 < part_length q

small_of : (deep : Bool) (f : Form) → Small (shape deep f)
unfolding colours cells part_length pattern_length
small_of false Two1x1 = omega arith
small_of false Two2x2 = omega arith
small_of false TwoQuarters = omega arith
small_of false TwoLeftRight = omega arith
small_of false TwoTopBottom = omega arith
small_of false Four1x1 = omega arith
small_of false Four2x2 = omega arith
small_of false Four2x1 = omega arith
small_of false Four1x2 = omega arith
small_of false FourQuarters = omega arith
small_of false FourLeftRight = omega arith
small_of false FourTopBottom = omega arith
small_of true Two1x1 = omega arith
small_of true Two2x2 = omega arith
small_of true TwoQuarters = omega arith
small_of true TwoLeftRight = omega arith
small_of true TwoTopBottom = omega arith
small_of true Four1x1 = omega arith
small_of true Four2x2 = omega arith
small_of true Four2x1 = omega arith
small_of true Four1x2 = omega arith
small_of true FourQuarters = omega arith
small_of true FourLeftRight = omega arith
small_of true FourTopBottom = omega arith

placed_of : (deep : Bool) (f : Form) (i : ℕ) → i < 64 → Placed (shape deep f) i
unfolding colours cells part_length pattern_length part_start field_number
placed_of false Two1x1 i h = omega arith
placed_of false Two2x2 i h = omega arith
placed_of false TwoQuarters i h = omega arith
placed_of false TwoLeftRight i h = omega arith
placed_of false TwoTopBottom i h = omega arith
placed_of false Four1x1 i h = omega arith
placed_of false Four2x2 i h = omega arith
placed_of false Four2x1 i h = omega arith
placed_of false Four1x2 i h = omega arith
placed_of false FourQuarters i h = omega arith
placed_of false FourLeftRight i h = omega arith
placed_of false FourTopBottom i h = omega arith
placed_of true Two1x1 i h = omega arith
placed_of true Two2x2 i h = omega arith
placed_of true TwoQuarters i h = omega arith
placed_of true TwoLeftRight i h = omega arith
placed_of true TwoTopBottom i h = omega arith
placed_of true Four1x1 i h = omega arith
placed_of true Four2x2 i h = omega arith
placed_of true Four2x1 i h = omega arith
placed_of true Four1x2 i h = omega arith
placed_of true FourQuarters i h = omega arith
placed_of true FourLeftRight i h = omega arith
placed_of true FourTopBottom i h = omega arith

bits_of : (deep : Bool) (f : Form) → ((shape deep f).bits ≡ 1) ⊎ ((shape deep f).bits ≡ 2)
bits_of deep Two1x1 = inl refl
bits_of deep Two2x2 = inl refl
bits_of deep TwoQuarters = inl refl
bits_of deep TwoLeftRight = inl refl
bits_of deep TwoTopBottom = inl refl
bits_of deep Four1x1 = inr refl
bits_of deep Four2x2 = inr refl
bits_of deep Four2x1 = inr refl
bits_of deep Four1x2 = inr refl
bits_of deep FourQuarters = inr refl
bits_of deep FourLeftRight = inr refl
bits_of deep FourTopBottom = inr refl

-- the colours of a form are those of its film
colour_of : (deep : Bool) (f : Form) → (shape deep f).colour ≡ bytes deep
colour_of deep Two1x1 = refl
colour_of deep Two2x2 = refl
colour_of deep TwoQuarters = refl
colour_of deep TwoLeftRight = refl
colour_of deep TwoTopBottom = refl
colour_of deep Four1x1 = refl
colour_of deep Four2x2 = refl
colour_of deep Four2x1 = refl
colour_of deep Four1x2 = refl
colour_of deep FourQuarters = refl
colour_of deep FourLeftRight = refl
colour_of deep FourTopBottom = refl

-- the parts beside each other make up a row of eight pixels
row_of : (deep : Bool) (f : Form) → (shape deep f).across * (8 / (shape deep f).across) ≡ 8
row_of deep Two1x1 = refl
row_of deep Two2x2 = refl
row_of deep TwoQuarters = refl
row_of deep TwoLeftRight = refl
row_of deep TwoTopBottom = refl
row_of deep Four1x1 = refl
row_of deep Four2x2 = refl
row_of deep Four2x1 = refl
row_of deep Four1x2 = refl
row_of deep FourQuarters = refl
row_of deep FourLeftRight = refl
row_of deep FourTopBottom = refl

-- field n of b bits: it lies in one byte, and its number of colours is a power of two
pub record Field (b n : ℕ) : Type 0 where
  pub some : 1 ≤ b
  pub few : b ≤ 2
  pub last : n * b ≤ 128
  pub room : n * b % 8 ≤ 8 - b
  pub twice : 2 * b ≡ 2 ^ b

pub field : (b n : ℕ) → (b ≡ 1) ⊎ (b ≡ 2) → n < 64 → Field b n
field b n (inl e) h = subst (λ (x : ℕ). Field x n) (sym e) (record { some = omega arith; few = omega arith; last = omega arith; room = omega arith; twice = refl })
field b n (inr e) h = subst (λ (x : ℕ). Field x n) (sym e) (record { some = omega arith; few = omega arith; last = omega arith; room = omega arith; twice = refl })

-- the same of numbers that are a form's
pub small : {q : Shape} → Shaped q → Small q
small (d, f, e) = subst Small e (small_of d f)

pub placed : {q : Shape} (i : ℕ) → Shaped q → i < 64 → Placed q i
placed i (d, f, e) h = subst (λ (q : Shape). Placed q i) e (placed_of d f i h)

pub row : {q : Shape} → Shaped q → q.across * (8 / q.across) ≡ 8
row (d, f, e) = subst (λ (q : Shape). q.across * (8 / q.across) ≡ 8) e (row_of d f)

pub bits : {q : Shape} → Shaped q → (q.bits ≡ 1) ⊎ (q.bits ≡ 2)
bits (d, f, e) = subst (λ (q : Shape). (q.bits ≡ 1) ⊎ (q.bits ≡ 2)) e (bits_of d f)

pub colours_twice : {q : Shape} → Shaped q → 2 * q.bits ≡ colours q
unfolding colours
colours_twice {q} s = (field q.bits 0 (bits s) (omega arith)).twice

-- pixel i's field, found from the start of its part, lies in the block's data
pub field_lies : {q : Shape} {part n long : ℕ} (i : ℕ) → Shaped q → i < 64 → pattern_length q ≤ long → part ≡ part_start q i → n ≡ field_number q i → FieldInside long (part + q.colour * (2 * q.bits)) q.bits n
field_lies i z h l e g =
    let p = placed i z h in
    rw (e, g) (record { bits = bits z; number = p.field_few; byte = omega (arith, p.part_inside, p.field_inside) })

-- and what it numbers, counted from the start of the part, is the byte that gives the pixel
pub source_met : {q : Shape} {part n f : ℕ} (s : List ℕ) (i : ℕ) → Shaped q → part ≡ part_start q i → n ≡ field_number q i → f ≡ field_at s (part + q.colour * (2 * q.bits)) q.bits n → part + q.colour * f ≡ pattern_source q s i
unfolding pattern_source
source_met s i z e g h = rw (h, e, g, colours_twice z)

-- a field is the number of a colour
pub field_below : {r : ℕ} (s : List ℕ) (p b n : ℕ) → r ≡ field_at s p b n → (b ≡ 1) ⊎ (b ≡ 2) → r < 2 * b
unfolding field_at
field_below s p b n f (inl e) = rw (f, e) (omega arith)
field_below s p b n f (inr e) = rw (f, e) (omega arith)

-- a colour of one or two bytes, of so many
pub scaled : (q : Shape) (f m : ℕ) → Small q → f < m → q.colour * f + q.colour ≤ q.colour * m
scaled q f m k h = by q.colour k.colour_some k.colour_few
  where
    by : (c : ℕ) → 1 ≤ c → c ≤ 2 → c * f + c ≤ c * m
    by zero a b = absurd (let z : ⊥ = omega arith in z)
    by (suc zero) a b = omega arith
    by (suc (suc zero)) a b = omega arith
    by (suc (suc (suc c))) a b = absurd (let z : ⊥ = omega arith in z)

-- the bytes that give a pixel are among the block's
pub source_inside : (q : Shape) (s : List ℕ) (i : ℕ) → Shaped q → i < 64 → pattern_source q s i + q.colour ≤ pattern_length q
unfolding pattern_source
source_inside q s i z h =
    let p = placed i z h in
    let f = field_below s (part_start q i + q.colour * colours q) q.bits (field_number q i) refl (bits z) in
    let g = scaled q _ _ (small z) f in
    omega (arith, g, p.part_inside, p.field_inside)

pub form_inside : (deep : Bool) (f : Form) (s : List ℕ) (i : ℕ) → i < 64 → pattern_source (shape deep f) s i + bytes deep ≤ pattern_length (shape deep f)
form_inside deep f s i h = omega (arith, source_inside (shape deep f) s i (deep, f, refl) h, colour_of deep f)

-- ---- the bytes that choose a form

chosen_8 : (deep a b : Bool) → 2 * bytes deep + 5 < pattern_length (shape deep (cond a (cond b TwoTopBottom TwoLeftRight) TwoQuarters))
unfolding pattern_length part_length cells colours
chosen_8 false true true = omega arith
chosen_8 false true false = omega arith
chosen_8 false false b = omega arith
chosen_8 true true true = omega arith
chosen_8 true true false = omega arith
chosen_8 true false b = omega arith

chosen_A : (deep a b : Bool) → 4 * bytes deep + 9 < pattern_length (shape deep (cond a (cond b FourTopBottom FourLeftRight) FourQuarters))
unfolding pattern_length part_length cells colours
chosen_A false true true = omega arith
chosen_A false true false = omega arith
chosen_A false false b = omega arith
chosen_A true true true = omega arith
chosen_A true true false = omega arith
chosen_A true false b = omega arith

chosen_7 : (deep a : Bool) → 1 < pattern_length (shape deep (cond a Two2x2 Two1x1))
unfolding pattern_length part_length cells colours
chosen_7 false true = omega arith
chosen_7 false false = omega arith
chosen_7 true true = omega arith
chosen_7 true false = omega arith

chosen_9 : (deep a b : Bool) → 2 * bytes deep + 1 < pattern_length (shape deep (cond a (cond b Four1x2 Four2x1) (cond b Four2x2 Four1x1)))
unfolding pattern_length part_length cells colours
chosen_9 false true true = omega arith
chosen_9 false true false = omega arith
chosen_9 false false true = omega arith
chosen_9 false false false = omega arith
chosen_9 true true true = omega arith
chosen_9 true true false = omega arith
chosen_9 true false true = omega arith
chosen_9 true false false = omega arith

-- a form has more bytes than those that choose it: a block that is too short for them is too short for its form
pub chosen_inside : (deep : Bool) (s : List ℕ)
    → (1 < pattern_length (shape deep (form7 deep s))) × (2 * bytes deep + 5 < pattern_length (shape deep (form8 deep s)))
    × (2 * bytes deep + 1 < pattern_length (shape deep (form9 deep s))) × (4 * bytes deep + 9 < pattern_length (shape deep (form_a deep s)))
unfolding form7 form8 form9 form_a
chosen_inside d s =
    (chosen_7 d (falling d s 0), chosen_8 d (falling d s 0) (falling d s (2 * bytes d + 4)), chosen_9 d (falling d s 0) (falling d s (2 * bytes d)), chosen_A d (falling d s 0) (falling d s (4 * bytes d + 8)))

-- ---- a form's numbers written out as literals

pub numbers_shaped : (deep : Bool) (f g : Form) (q : Shape) (long : ℕ) → f ≡ g → shape deep g ≡ q → pattern_length (shape deep f) ≤ long → Shaped q × (pattern_length q ≤ long)
numbers_shaped deep f g q long e n h = ((deep, g, n), subst (λ (x : Shape). pattern_length x ≤ long) (ap (shape deep) e ∙ n) h)
