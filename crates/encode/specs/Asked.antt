-- The pictures as code holds them, and a pair of colours and marks as it writes them.
-- Assumes nothing.
use Rattle.std.specs.Prelude.{◌≡◌, cond, List, ◌∷◌, ℕ, ◌+◌, ◌-◌, ◌*◌, eqb}
use Rattle.choice.specs.declared.Square.{Square}
use Rattle.choice.specs.Choice.{cell_first, bits, listed, choice}
use Rattle.choice.specs.Asked.{Stands, pixels_in, Within, pixels_of}
use Rattle.encode.specs.Encode.{Task as Pictures, task, Lent, block_in, way_at}
use Rattle.encode.specs.declared.Task.{Task}

-- a task as code holds it: its pictures, that they are long enough, and its number of blocks
abbrev pub task_of : Task → Pictures
task_of t = task t.columns t.wanted.now t.front.now t.back.now

abbrev pub Ready : Task → Type 0
Ready t = Lent (task_of t) t.rows

abbrev pub blocks : Task → ℕ
blocks t = t.columns * t.rows

-- the 8x8 of its block k, which stands in all three pictures
pub record Placed (t : Task) (k : ℕ) (s : Square) : Type 0 where
  pub wanted : Within s
  pub front : Stands s t.front.now
  pub back : Stands s t.back.now
  pub is : pixels_of s ≡ block_in t.wanted.now t.columns k
  pub way : choice (pixels_of s) (pixels_in s t.front.now) (pixels_in s t.back.now) ≡ way_at (task_of t) k

-- a pair of colours and n bytes of marks of the second, a bit a cell
unfoldable pub pair_data : (ℕ → ℕ) → ℕ → ℕ → ℕ → ℕ → List ℕ
pair_data f side first second n = first ∷ second ∷ listed n (λ r. bits (λ c. f (cell_first side (8 * r + c))) second) 0

-- byte j of it
unfoldable pub pair_byte : (ℕ → ℕ) → ℕ → ℕ → ℕ → ℕ → ℕ
pair_byte f side first second j =
    cond (eqb j 0) first (cond (eqb j 1) second (bits (λ c. f (cell_first side (8 * (j - 2) + c))) second))
