-- `saved_walks`: every chunk that is kept has no opcode that 3, 4 or 5 refuses, and every chunk left out has its refusal, the first met.
-- Assumes nothing.
use mathlib.Core.Bool.{true, false}
use mathlib.Core.List.{List}
use Prim.Native.Nat.{ℕ, zero, suc, ◌+◌, ◌-◌, ◌≤◌, ◌<◌}
use native.Mathlib.Omega.{arith}
use lib.ListN.{length}
use Rattle.chunks.specs.Chunks.{Condition, intact, scratched, Following, chunk_to, following_at}
use Rattle.chunks.specs.Holds.{Holds}
use Rattle.chunks.proofs.Heads.{Ahead, at_film_end, is_past, is_chunk, ahead, There}
use Rattle.chunks.proofs.Holding.{condition_holds}
use Rattle.salvage.specs.Salvage.{go_on, save_from, saved}
use Rattle.salvage.specs.Walks.{Walks, stops_at_end, stops_by_2, keeps, keeps_last, leaves_out}

module _ (film : List ℕ) where
  module _ (n e : ℕ) (l : length film - e < suc n) (ih : (x : ℕ) → x ≤ length film → length film - x < n → Walks film x (save_from n film x)) where
    by_chunk : (x : ℕ) (k : Condition) → There film e x k → Holds film (e + 4) x k → Walks film e (go_on film e (chunk_to x k) (λ y. save_from n film y))
    unfolding go_on Holds
    by_chunk x (intact true) t y = keeps_last (record { ends = t.ends; inside = t.inside }) y
    by_chunk x (intact false) t y = keeps (record { ends = t.ends; inside = t.inside }) y (ih x t.inside (omega (arith, t.ends)))
    by_chunk x (scratched m) t y = leaves_out (record { ends = t.ends; inside = t.inside }) y (ih x t.inside (omega (arith, t.ends)))

    by_following : (f : Following) → Ahead film e f → Walks film e (go_on film e f (λ y. save_from n film y))
    unfolding go_on
    by_following f (at_film_end q) = stops_at_end q
    by_following f (is_past q r) = stops_by_2 q r
    by_following f (is_chunk x k t) = by_chunk x k t (rw t.is (condition_holds film x (e + 4) (omega (arith, t.ends)) t.inside))

  walks : (n e : ℕ) → e ≤ length film → length film - e < n → Walks film e (save_from n film e)
  unfolding save_from
  walks zero e h l = absurd (let z : ⊥ = omega arith in z)
  walks (suc n) e h l = by_following n e l (λ x a b. walks n x a b) (following_at film e) (ahead film e h)

  pub saved_walks : 26 ≤ length film → Walks film 26 (saved film)
  saved_walks h = walks (suc (length film)) 26 h (omega arith)
