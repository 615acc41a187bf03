-- Lists of stores, cut and joined: what `run` does with them; what is due, opened at its next pixels, at its next place and at its end; and a call,
-- taken block by block: it has no block left, or ends within a block, or goes on behind it. `by_blocks` is the recursion over these three.
use mathlib.Core.Path.{◌≡◌, refl, sym, ap, ◌∙◌}
use mathlib.Core.List.{List, [], ◌∷◌, ◌++◌, append_assoc}
use Prim.Native.Nat.{ℕ, zero, suc, ◌+◌, ◌-◌, ◌*◌, ◌≤◌, ◌<◌}
use native.Mathlib.Nat.{zero-add, add-zero, suc-mul}
use native.Mathlib.Decide.{dec_lt}
use native.Mathlib.Omega.{arith}
use lib.ListN.{length, take, length-append, length-set}
use lib.Seq.{take_all, take-nil, take_at, take-append-add}
use Rattle.stores.specs.Stores.{Plan, Store, pixel, place, pixels, stores, following, due, rest, Memory, memory, apply, run, first_pixels, after, Sized}

-- ---- runs

pub run_append : (d : Plan) (m : Memory) (a b : List Store) → run d m (a ++ b) ≡ run d (run d m a) b
unfolding run
run_append d m [] b = refl
run_append d m (s ∷ a) b = run_append d (apply d m s) a b

-- no store changes the picture's length
pub run_length : (d : Plan) (m : Memory) (a : List Store) → length (run d m a).picture ≡ length m.picture
unfolding run apply
run_length d m [] = refl
run_length d m (pixel k i ∷ a) = run_length d (apply d m (pixel k i)) a ∙ simp length-set
run_length d m (place n ∷ a) = run_length d (apply d m (place n)) a

-- pixels leave the place
pub run_pixels : (d : Plan) (m : Memory) (k i n : ℕ) → (run d m (pixels k i n)).place ≡ m.place
unfolding run apply pixels
run_pixels d m k i zero = refl
run_pixels d m k i (suc n) = run_pixels d (apply d m (pixel k i)) k (suc i) n

-- ---- lists of pixels

pub pixels_length : (k i n : ℕ) → length (pixels k i n) ≡ n
unfolding pixels
pixels_length k i zero = refl
pixels_length k i (suc n) = ap suc (pixels_length k (suc i) n)

pub pixels_add : (k i n m : ℕ) → pixels k i (n + m) ≡ pixels k i n ++ pixels k (i + n) m
unfolding pixels
pixels_add k i zero m = rw (zero-add m, add-zero i) refl
pixels_add k i (suc n) m =
    let e : suc n + m ≡ suc (n + m) = omega arith in
    let q : suc i + n ≡ i + suc n = omega arith in
    ap (pixels k i) e
    ∙ ap (λ (l : List Store). pixel k i ∷ l) (pixels_add k (suc i) n m ∙ ap (λ (x : ℕ). pixels k (suc i) n ++ pixels k x m) q)

-- ---- what is due

pub due_end : (d : Plan) (k : ℕ) → d.blocks ≤ k → due d k ≡ []
unfolding following
due_end d k h = let e : d.blocks - k ≡ 0 = omega arith in rw e

-- the stores of block k are due, its pixels and then the place, and those of the blocks behind it
pub due_block : (d : Plan) (k : ℕ) → k < d.blocks → due d k ≡ pixels k 0 (d.size k) ++ (place (suc k) ∷ due d (suc k))
unfolding following stores
due_block d k h =
    let q : d.blocks - k ≡ suc (d.blocks - suc k) = omega arith in
    rw q (append_assoc (pixels k 0 (d.size k)) (place (suc k) ∷ []) (due d (suc k)))

pub due_rest : (d : Plan) (k : ℕ) → k < d.blocks → due d k ≡ rest d k 0
unfolding rest
due_rest d k h = let e : d.size k - 0 ≡ d.size k = omega arith in rw e (due_block d k h)

-- n pixels of block k are next
pub rest_pixels : (d : Plan) (k i n : ℕ) → i + n ≤ d.size k → rest d k i ≡ pixels k i n ++ rest d k (i + n)
unfolding rest
rest_pixels d k i n h =
    let e : d.size k - i ≡ n + (d.size k - (i + n)) = omega arith in
    ap (λ (x : ℕ). pixels k i x ++ (place (suc k) ∷ due d (suc k))) e ∙ rw (pixels_add k i n (d.size k - (i + n)), append_assoc)

-- the place is next
pub rest_place : (d : Plan) (k i : ℕ) → d.size k ≤ i → rest d k i ≡ place (suc k) ∷ due d (suc k)
unfolding rest pixels
rest_place d k i h = let e : d.size k - i ≡ 0 = omega arith in rw e

pub due_length : (d : Plan) (k : ℕ) → k < d.blocks → length (due d k) ≡ d.size k + suc (length (due d (suc k)))
due_length d k h = ap length (due_block d k h) ∙ simp (length-append, pixels_length)

-- of n blocks that store at most p pixels each
pub due_few : (d : Plan) (p : ℕ) → Sized d p → (n k : ℕ) → k + n ≡ d.blocks → length (due d k) ≤ n * (p + 1)
due_few d p z zero k e = omega (arith, ap length (due_end d k (omega arith)))
due_few d p z (suc n) k e =
    let h : k < d.blocks = omega arith in
    omega (arith, due_length d k h, due_few d p z n (suc k) (omega arith), z k h, suc-mul n (p + 1))

-- ---- a call, block by block

-- the pixels of a block, from memory to memory
pub first_memory : (d : Plan) (b : List ℕ) (k n : ℕ) → run d (memory b k) (pixels k 0 n) ≡ memory (first_pixels d k b n) k
unfolding first_pixels
first_memory d b k n = ap (memory (run d (memory b k) (pixels k 0 n)).picture) (run_pixels d (memory b k) k 0 n)

-- no store is allowed
pub after_none : (d : Plan) (m : Memory) → after d m 0 ≡ m
unfolding after run
after_none d m = refl

-- no block is left
pub after_end : (d : Plan) (m : Memory) (n : ℕ) → d.blocks ≤ m.place → after d m n ≡ m
unfolding after run
after_end d m n h = simp (due_end d m.place h, take-nil)

-- the call ends within block k
pub after_part : (d : Plan) (b : List ℕ) (k n : ℕ) → k < d.blocks → n ≤ d.size k → after d (memory b k) n ≡ memory (first_pixels d k b n) k
unfolding after
after_part d b k n h q =
    let e : take n (due d k) ≡ pixels k 0 n =
    ap (take n) (due_rest d k h ∙ rest_pixels d k 0 n (omega arith)) ∙ take_at (pixels k 0 n) (rest d k (0 + n)) n (pixels_length k 0 n) in
    ap (run d (memory b k)) e ∙ first_memory d b k n

-- the call goes on behind block k
pub after_block : (d : Plan) (b : List ℕ) (k n : ℕ) → k < d.blocks → d.size k < n
    → after d (memory b k) n ≡ after d (memory (first_pixels d k b (d.size k)) (suc k)) (n - suc (d.size k))
unfolding after run apply
after_block d b k n h q =
    let xs = pixels k 0 (d.size k) in
    let ys = place (suc k) ∷ due d (suc k) in
    let r = n - suc (d.size k) in
    let e : n ≡ length xs + suc r = omega (arith, pixels_length k 0 (d.size k)) in
    let cut : take n (due d k) ≡ xs ++ take (suc r) ys =
    ap (take n) (due_block d k h) ∙ ap (λ (x : ℕ). take x (xs ++ ys)) e ∙ take-append-add xs ys (suc r) in
    ap (run d (memory b k)) cut
    ∙ run_append d (memory b k) xs (take (suc r) ys)
    ∙ ap (λ (m : Memory). run d m (take (suc r) ys)) (first_memory d b k (d.size k))

-- all that is due is made
pub after_enough : (d : Plan) (m : Memory) (n n' : ℕ) → length (due d m.place) ≤ n → length (due d m.place) ≤ n' → after d m n ≡ after d m n'
unfolding after
after_enough d m n n' h h' = ap (run d m) (take_all n (due d m.place) h ∙ sym (take_all n' (due d m.place) h'))

-- what is shown of each call from a place within the blocks: no block is left; it ends within block k; it goes on behind block k
module _ (d : Plan) (P : Memory → ℕ → Type 0) (end : (m : Memory) (n : ℕ) → d.blocks ≤ m.place → P m n)
    (part : (b : List ℕ) (k n : ℕ) → k < d.blocks → n ≤ d.size k → P (memory b k) n)
    (block : (b : List ℕ) (k n : ℕ) → k < d.blocks → d.size k < n
    → P (memory (first_pixels d k b (d.size k)) (suc k)) (n - suc (d.size k)) → P (memory b k) n) where
  -- l blocks are left
  by_left : (l k : ℕ) → k + l ≡ d.blocks → (b : List ℕ) (n : ℕ) → P (memory b k) n
  by_left zero k e b n = end (memory b k) n (omega arith)
  by_left (suc l) k e b n =
      elim (dec_lt (d.size k) n) [
        | yes h ↦ block b k n (omega arith) h (by_left l (suc k) (omega arith) (first_pixels d k b (d.size k)) (n - suc (d.size k)))
        | no h ↦ part b k n (omega arith) (omega arith)
      ]

  pub by_blocks : (m : Memory) (n : ℕ) → m.place ≤ d.blocks → P m n
  by_blocks m n h = by_left (d.blocks - m.place) m.place (omega arith) m.picture n
