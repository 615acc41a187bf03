-- A part of a list up to its end is all that follows.
-- Assumes nothing.
use mathlib.Core.Path.{◌≡◌}
use mathlib.Core.List.{List}
use Prim.Native.Nat.{ℕ, ◌-◌}
use native.Mathlib.Omega.{arith}
use lib.ListN.{length, take, drop, length-drop}
use lib.Seq.{take_all}

pub part_to_end : (s : List ℕ) (i : ℕ) → take (length s - i) (drop i s) ≡ drop i s
part_to_end s i = take_all (length s - i) (drop i s) (omega (arith, length-drop i s))
