-- A picture is drawn block by block, one store after the other. A plan says which pixels a block stores, where they stand and what each becomes.
-- Its stores are listed in order, each pixel takes its value from memory as the stores before it left it, and a call makes the first stores of the
-- list from the place on. A picture is a list of numbers: the codec, the width of a pixel and the other pictures that are read are the plan's.
use Rattle.std.specs.Prelude.{◌≡◌, ◌≢◌, List, [], ◌∷◌, ◌++◌, ℕ, zero, suc, ◌-◌, ◌≤◌, ◌<◌, length, get_or, set, take}

-- ---- a plan

-- blocks: the block count; blocks are numbered from 0.
-- size k: how many pixels block k stores; 0 where it is left untouched.
-- target k i: the index of pixel i of block k in the picture drawn on.
-- value k i b: what pixel i of block k becomes where the picture drawn on is b. What else it reads, as data and pictures that no store changes, is
-- fixed within the plan.
pub record Plan : Type 0 where
  pub blocks : ℕ
  pub size : ℕ → ℕ
  pub target : ℕ → ℕ → ℕ
  pub value : ℕ → ℕ → List ℕ → ℕ

-- ---- the list of stores

-- pixel k i: pixel i of block k is stored. place n: the place is set to n.
pub data Store : Type 0 where
  pixel : ℕ → ℕ → Store
  place : ℕ → Store

-- n pixels of block k, from pixel i on
unfoldable pub pixels : ℕ → ℕ → ℕ → List Store
pixels k i zero = []
pixels k i (suc n) = pixel k i ∷ pixels k (suc i) n

-- the stores of block k: its pixels in order, then the place, set to the next block number
unfoldable pub stores : (ℕ → ℕ) → ℕ → List Store
stores size k = pixels k 0 (size k) ++ (place (suc k) ∷ [])

-- the stores of n blocks, from block k on
unfoldable pub following : (ℕ → ℕ) → ℕ → ℕ → List Store
following size k zero = []
following size k (suc n) = stores size k ++ following size (suc k) n

-- the stores due from block k's first pixel on; they depend on the sizes alone
abbrev pub due : Plan → ℕ → List Store
due d k = following d.size k (d.blocks - k)

-- the stores due from pixel i of block k on
unfoldable pub rest : Plan → ℕ → ℕ → List Store
rest d k i = pixels k i (d.size k - i) ++ (place (suc k) ∷ due d (suc k))

-- ---- what stores do

-- picture: the picture drawn on, document 01's "back". (Its "front", the shown picture, is never stored to: a plan's values may read it.)
-- place: document 01's "place", the number of the block that is drawn next, or the block count. One store sets it.
pub record Memory : Type 0 where
  pub picture : List ℕ
  pub place : ℕ

abbrev pub memory : List ℕ → ℕ → Memory
memory b k = record { picture = b; place = k }

-- memory after one store
unfoldable pub apply : Plan → Memory → Store → Memory
apply d m (pixel k i) = memory (set m.picture (d.target k i) (d.value k i m.picture)) m.place
apply d m (place n) = memory m.picture n

-- memory after the stores of a list, in order
unfoldable pub run : Plan → Memory → List Store → Memory
run d m [] = m
run d m (s ∷ ss) = run d (apply d m s) ss

-- the picture after the first n pixel stores of block k on the picture b
unfoldable pub first_pixels : Plan → ℕ → List ℕ → ℕ → List ℕ
first_pixels d k b n = (run d (memory b k) (pixels k 0 n)).picture

-- the picture after n pixel stores of block k on the picture b, from pixel i on
unfoldable pub further : Plan → ℕ → List ℕ → ℕ → ℕ → List ℕ
further d k b i n = (run d (memory b k) (pixels k i n)).picture

-- ---- a call allowed n stores: it makes the first n of those due from the first pixel of the block at the place, or all

-- the memory that it leaves
unfoldable pub after : Plan → Memory → ℕ → Memory
after d m n = run d m (take n (due d m.place))

-- the number of stores that it makes
unfoldable pub count : Plan → Memory → ℕ → ℕ
count d m n = length (take n (due d m.place))

-- ---- the picture of demand 2 and the book of demand 3

-- the picture b with the blocks below k drawn, each once, in order
unfoldable pub stage : Plan → List ℕ → ℕ → List ℕ
stage d b zero = b
stage d b (suc k) = first_pixels d k (stage d b k) (d.size k)

-- the picture of demand 2: all blocks drawn
abbrev pub final : Plan → List ℕ → List ℕ
final d b = stage d b d.blocks

-- the book: the same stores, each pixel with its value in the picture of demand 2
abbrev pub book : Plan → List ℕ → Plan
book d b = record { blocks = d.blocks; size = d.size; target = d.target; value = λ k i c. get_or (final d b) (d.target k i) 0 }

-- ---- what is asked of a plan

-- no block stores more than p pixels
abbrev pub Sized : Plan → ℕ → Type 0
Sized d p = (k : ℕ) → k < d.blocks → d.size k ≤ p

-- index t is no pixel of block k
abbrev pub Off : Plan → ℕ → ℕ → Type 0
Off d k t = (j : ℕ) → j < d.size k → t ≢ d.target k j

-- on pictures of length n, the values of block k do not read the block itself: where two pictures agree outside it, they give the same values
abbrev pub Own : Plan → ℕ → ℕ → Type 0
Own d n k =
    (i : ℕ) → i < d.size k → (a b : List ℕ) → length a ≡ n → length b ≡ n
    → ((t : ℕ) → Off d k t → get_or a t 0 ≡ get_or b t 0) → d.value k i a ≡ d.value k i b

-- distinct: no two pixels have one target. inside: each target is an index of a picture of length n. own: as `Own` says, for every block.
pub record Lawful (d : Plan) (n : ℕ) : Type 0 where
  pub distinct : (k k' i i' : ℕ) → k < d.blocks → k' < d.blocks → i < d.size k → i' < d.size k'
      → d.target k i ≡ d.target k' i' → (k ≡ k') × (i ≡ i')
  pub inside : (k i : ℕ) → k < d.blocks → i < d.size k → d.target k i < n
  pub own : (k : ℕ) → k < d.blocks → Own d n k
