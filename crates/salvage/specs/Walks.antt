-- The walk chunk by chunk, with what is known of every chunk that is kept and of every one that is left out.
-- Assumes nothing.
use Rattle.std.specs.Prelude.{◌≡◌, true, false, List, ℕ, ◌+◌, ◌-◌, ◌≤◌, ◌<◌, length}
use Rattle.words.specs.Word.{word_at}
use Rattle.chunks.specs.Holds.{Passes, Fails}
use Rattle.salvage.specs.Salvage.{Saved, at_end, behind_00, by_2, no_more, keeping, losing}

-- a chunk has its head at e and ends at x
pub record Spans (film : List ℕ) (e x : ℕ) : Type 0 where
  pub ends : x ≡ e + 4 + word_at film e
  pub inside : x ≤ length film

-- the walk from a chunk's end e on comes to this
pub data Walks (film : List ℕ) : ℕ → Saved → Type 0 where
  stops_at_end : {e : ℕ} → e ≡ length film → Walks film e (no_more at_end (length film - e))
  stops_by_2 : {e : ℕ} → e < length film → length film < e + 4 + word_at film e → Walks film e (no_more by_2 (length film - e))
  keeps : {e x : ℕ} {s : Saved} → Spans film e x → Passes film (e + 4) x false → Walks film x s → Walks film e (keeping film e x s)
  keeps_last : {e x : ℕ} → Spans film e x → Passes film (e + 4) x true → Walks film e (keeping film e x (no_more behind_00 (length film - x)))
  leaves_out : {e x n : ℕ} {s : Saved} → Spans film e x → Fails film (e + 4) x n → Walks film x s → Walks film e (losing e x n s)
