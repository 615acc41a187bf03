-- Tests of numbers in definitions: the rules by which a function that goes by the same tests meets its definition, and what a chosen case says of the test.
-- Assumes nothing.
use mathlib.Core.Path.{◌≡◌, refl, sym, ◌∙◌}
use mathlib.Core.Bool.{Bool, true, false, cond}
use Prim.Native.Nat.{ℕ, ◌+◌, ◌≤◌}
use native.Mathlib.Omega.{arith}
use borrow.Author.Tests.{lt-ltb, le-ltb, le-leb, lt-leb, eq-eqb, ne_eqb}

-- closes each return of a ladder of tests on numbers
pub ruleset decide = (lt-ltb, le-ltb, le-leb, lt-leb, eq-eqb, ne_eqb)

-- a function that tests a, which is b, and returns r meets a choice by b; each is asked for on its own, so that a wrong test shows as a wrong equation
pub on : {A : Type 0} {a b : Bool} {r x : A} (y : A) → a ≡ b → a ≡ true → r ≡ x → r ≡ cond b x y
on y e t h = rw (sym e ∙ t) h

pub off : {A : Type 0} {a b : Bool} {r y : A} (x : A) → a ≡ b → a ≡ false → r ≡ y → r ≡ cond b x y
off x e t h = rw (sym e ∙ t) h

-- a choice that is not its first case is its second, and the other way round
pub not_first : {A : Type 0} (b : Bool) (k x y : A) → (k ≡ y → ⊥) → cond b k x ≡ y → (b ≡ false) × (x ≡ y)
not_first true k x y h e = absurd (h e)
not_first false k x y h e = (refl, e)

pub first : {A : Type 0} (b : Bool) (k x y : A) → (k ≡ y → ⊥) → cond b x k ≡ y → (b ≡ true) × (x ≡ y)
first true k x y h e = (refl, e)
first false k x y h e = absurd (h e)

-- one step towards the last arm of a choice by number: it is none of the numbers so far
pub beyond : (a c : ℕ) → a ≤ c → (c ≡ a → ⊥) → a + 1 ≤ c
beyond a c h n = omega arith
