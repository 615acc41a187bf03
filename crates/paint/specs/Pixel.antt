-- What the type of a pixel says: a picture's numbers are those of its pixels, in order.
-- Assumes nothing.
use Rattle.std.proofs.lemmas.List.{get_or_default}
use Rattle.std.specs.Prelude.{◌≡◌, refl, List, ℕ, ◌<◌, length, get_or, set}

pub record Laws {A : Type 0} (number : A → ℕ) (numbers : List A → List ℕ) : Type 0 where
  -- as many
  pub long : (xs : List A) → length (numbers xs) ≡ length xs
  -- a store
  pub changed : (xs : List A) (i : ℕ) (v : A) → numbers (set xs i v) ≡ set (numbers xs) i (number v)
  -- a pixel that is read
  pub at : (xs : List A) (i : ℕ) (d : A) → i < length xs → get_or (numbers xs) i 0 ≡ number (get_or xs i d)

-- of pixels that are numbers themselves
pub plain : Laws {A = ℕ} (λ v. v) (λ xs. xs)
plain = record { long = λ xs. refl; changed = λ xs i v. refl; at = λ xs i d l. get_or_default xs i 0 d l }
