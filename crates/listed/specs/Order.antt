-- Stores in the list's order (document 01, "Packet, blocks, place"). A function that makes one store of a list asks `Due` of it: so it can be called
-- for store j only where the first j are made, and calls in another order are not provable.
-- Assumes nothing.
use Rattle.std.specs.Prelude.{◌≡◌, List, ◌++◌, ℕ, ◌≤◌, length, take, drop}
use Rattle.listed.specs.Store.{Store, applied, Within}

-- the bytes are as the first j stores of a list leave them, from whatever those found
pub record Begun (list : List Store) (j : ℕ) (b : List ℕ) : Type 0 where
  pub found : List ℕ
  pub made : b ≡ applied (take j list) found
  pub count : j ≤ length list

-- and the stores of a part of the list come next, each at an index of these bytes
pub record Due (list : List Store) (j : ℕ) (part : List Store) (b : List ℕ) : Type 0 where
  pub begun : Begun list j b
  pub rest : List Store
  pub next : drop j list ≡ part ++ rest
  pub inside : Within (length b) part
