-- Document 01 asks of the loops that make the stores: after j of them memory is as the first j leave it. `Made` is that invariant, literally,
-- and `Called` is what a function whose loop keeps it says of its call. The law of each turn and of each way out is in proofs/Loop.
-- `Next` is what the function asks that makes one store of a pixel: it is the list's next. So stores in another order are not provable.
use Rattle.std.specs.Prelude.{◌≡◌, List, [], ℕ, ◌≤◌, ◌<◌, length, take, drop}
use Rattle.stores.specs.Stores.{Plan, due, rest, Memory, memory, run, first_pixels, after, count}

-- From the memory m₀, j of the stores due are made. The picture is b, the place is k, and pixel i of block k is next.
pub record Made (d : Plan) (m₀ : Memory) (j k i : ℕ) (b : List ℕ) : Type 0 where
  -- memory is as the first j leave it
  pub now : memory b k ≡ run d m₀ (take j (due d m₀.place))
  -- what is left begins at pixel i of block k
  pub left : k < d.blocks → drop j (due d m₀.place) ≡ rest d k i
  -- past the last block nothing is left
  pub over : d.blocks ≤ k → drop j (due d m₀.place) ≡ []
  -- j is no more than are due
  pub fits : j ≤ length (due d m₀.place)

-- A call allowed n stores at the memory m₀ leaves the picture b and the place k, and gives the count j.
pub record Called (d : Plan) (m₀ : Memory) (n : ℕ) (b : List ℕ) (k j : ℕ) : Type 0 where
  pub leaves : memory b k ≡ after d m₀ n
  pub counts : j ≡ count d m₀ n

-- Memory is as the first i pixel stores of block k leave it, from whatever picture they found.
pub record Begun (d : Plan) (k i : ℕ) (b : List ℕ) : Type 0 where
  pub found : List ℕ
  pub made : b ≡ first_pixels d k found i

-- The next store is that of pixel i of block k, at index at the value v.
pub record Next (d : Plan) (k i : ℕ) (b : List ℕ) (at v : ℕ) : Type 0 where
  -- those before it are made
  pub begun : Begun d k i b
  -- it is listed
  pub listed : i < d.size k
  pub target : at ≡ d.target k i
  pub value : v ≡ d.value k i b
  -- it stands in the picture
  pub inside : at < length b
