-- What is left of a film, as numbers. `sums_numbers`: header, kept, lost and rest add up to the film's length.
-- Assumes nothing.
use mathlib.Core.Path.{◌≡◌, sym, subst}
use mathlib.Core.List.{List}
use Prim.Native.Nat.{ℕ, ◌+◌}
use lib.ListN.{length}
use Rattle.salvage.specs.Salvage.{Tally, SalvageAnswer, writes, answer_of}
use Rattle.salvage.proofs.Sums.{sums_told}
use Rattle.mve_salvages.specs.Salvages.{of_salvage}

-- the sums that a host is told, of every film that is saved
pub sums_numbers : (film : List ℕ) (room list : ℕ) (t : Tally) → answer_of film room list ≡ writes t
    → (of_salvage (answer_of film room list)).header + ((of_salvage (answer_of film room list)).kept + ((of_salvage (answer_of film room list)).lost + (of_salvage (answer_of film room list)).rest)) ≡ length film
unfolding of_salvage
sums_numbers film room list t q =
    subst (λ (a : SalvageAnswer). (of_salvage a).header + ((of_salvage a).kept + ((of_salvage a).lost + (of_salvage a).rest)) ≡ length film) (sym q) (sums_told film room list t q)
