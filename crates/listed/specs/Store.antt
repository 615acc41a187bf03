-- What becomes of lent bytes is a list of stores, made one by one in order.
-- Assumes nothing.
use Rattle.std.specs.Prelude.{List, [], ◌∷◌, ◌++◌, ℕ, zero, suc, ◌+◌, ◌<◌, get_or, set}

-- the byte at the index becomes the value
pub record Store : Type 0 where
  pub index : ℕ
  pub value : ℕ

abbrev pub store : ℕ → ℕ → Store
store index value = record { index = index; value = value }

-- the bytes after the stores of a list
unfoldable pub applied : List Store → List ℕ → List ℕ
applied [] b = b
applied (s ∷ l) b = applied l (set b s.index s.value)

-- ---- lists of stores

-- one alone
abbrev pub one : ℕ → ℕ → List Store
one index value = store index value ∷ []

-- the stores that f gives for 0, 1, .. n - 1
unfoldable pub each : (ℕ → List Store) → ℕ → List Store
each f zero = []
each f (suc n) = each f n ++ f n

-- byte i of some side by side from index first on: it becomes value i
unfoldable pub byte : ℕ → (ℕ → ℕ) → ℕ → List Store
byte first value i = one (first + i) (value i)

-- the first n of them
abbrev pub bytes : ℕ → (ℕ → ℕ) → ℕ → List Store
bytes first value n = each (byte first value) n

-- the values that stand in a body from position at on
unfoldable pub from : List ℕ → ℕ → ℕ → ℕ
from body at i = get_or body (at + i) 0

-- ---- what is said of them

-- every index is below n
unfoldable pub Within : ℕ → List Store → Type 0
Within n [] = Unit
Within n (s ∷ l) = (s.index < n) × Within n l
