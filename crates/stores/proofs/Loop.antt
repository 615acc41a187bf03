-- A loop that makes the stores keeps `Made`: a law for each turn and for each way out. Numbers go up by `+ 1`, as in code, and each value that code
-- has found is a variable with an equation.
use mathlib.Core.Path.{◌≡◌, refl, sym, ap, ◌∙◌}
use mathlib.Core.List.{List, [], ◌∷◌, ◌++◌}
use Prim.Native.Nat.{ℕ, suc, ◌+◌, ◌≤◌, ◌<◌}
use native.Mathlib.Nat.{zero-add}
use native.Mathlib.Numerals.{add-one}
use native.Mathlib.Omega.{arith}
use lib.ListN.{length, set, take, drop, length-append, length-drop}
use lib.Seq.{take_all, take_at, drop_at, take-add, drop-drop, length-take-le}
use Rattle.stores.specs.Stores.{Plan, Store, place, pixels, due, rest, Memory, memory, apply, run, first_pixels, after, count}
use Rattle.stores.specs.Calls.{Call, refused, allowed, refusal, leave, outcome}
use Rattle.stores.specs.Loop.{Made, Called}
use Rattle.stores.proofs.Steps.{run_append, run_length, run_pixels, pixels_length, due_end, due_rest, rest_pixels, rest_place, after_part}

-- before the first turn
pub made_none : (d : Plan) (m₀ : Memory) (j : ℕ) → j ≡ 0 → Made d m₀ j m₀.place 0 m₀.picture
unfolding run
made_none d m₀ j e =
    rw e (record { now = refl; left = λ h. due_rest d m₀.place h; over = λ h. due_end d m₀.place h; fits = omega arith })

-- the stores a, n of them, are made on the memory m, and r is left
record More (d : Plan) (m₀ : Memory) (m : Memory) (j n : ℕ) (a r : List Store) : Type 0 where
  now : run d m a ≡ run d m₀ (take (j + n) (due d m₀.place))
  left : drop (j + n) (due d m₀.place) ≡ r
  fits : j + n ≤ length (due d m₀.place)

module _ (d : Plan) (m₀ : Memory) (j k i : ℕ) (b : List ℕ) (h : Made d m₀ j k i b) where
  more : (n : ℕ) (a r : List Store) → length a ≡ n → drop j (due d m₀.place) ≡ a ++ r → More d m₀ (memory b k) j n a r
  more n a r q e =
      let l = due d m₀.place in
      let taken : take (j + n) l ≡ take j l ++ a =
      take-add j n l ∙ ap (λ (x : List Store). take j l ++ take n x) e ∙ ap (λ (x : List Store). take j l ++ x) (take_at a r n q) in
      record {
        now = ap (λ (m : Memory). run d m a) h.now ∙ sym (run_append d m₀ (take j l) a) ∙ ap (run d m₀) (sym taken);
        left = sym (drop-drop n j l) ∙ ap (drop n) e ∙ drop_at a r n q;
        fits = omega (arith, length-drop j l, ap length e, length-append a r, h.fits);
      }

  -- n pixels
  row : k < d.blocks → (n : ℕ) → i + n ≤ d.size k → Made d m₀ (j + n) k (i + n) (run d (memory b k) (pixels k i n)).picture
  row kb n q =
      let a = pixels k i n in
      let x = more n a (rest d k (i + n)) (pixels_length k i n) (h.left kb ∙ rest_pixels d k i n q) in
      record {
        now = ap (memory (run d (memory b k) a).picture) (sym (run_pixels d (memory b k) k i n)) ∙ x.now;
        left = λ _. x.left;
        over = λ z. absurd (let y : ⊥ = omega arith in y);
        fits = x.fits;
      }

  -- a turn that stores one pixel: at t the value v
  pub made_pixel : k < d.blocks → i < d.size k → (t v : ℕ) (b' : List ℕ) → t ≡ d.target k i → v ≡ d.value k i b → b' ≡ set b t v
      → Made d m₀ (j + 1) k (i + 1) b'
  unfolding pixels run apply
  made_pixel kb is t v b' et ev e = rw (e, et, ev) (row kb 1 (omega arith))

  -- a turn that stores the place
  pub made_place : k < d.blocks → d.size k ≤ i → Made d m₀ (j + 1) (k + 1) 0 b
  unfolding run apply
  made_place kb is =
      let x = more 1 (place (suc k) ∷ []) (due d (suc k)) refl (h.left kb ∙ rest_place d k i is) in
      rw (add-one k)
      (record {
        now = x.now;
        left = λ q. x.left ∙ due_rest d (suc k) q;
        over = λ q. x.left ∙ due_end d (suc k) q;
        fits = x.fits;
      })

  -- the picture keeps its length
  pub made_length : length b ≡ length m₀.picture
  made_length = ap (λ (m : Memory). length m.picture) h.now ∙ run_length d m₀ (take j (due d m₀.place))

  -- out: as many stores as allowed are made
  pub made_stopped : (n p q : ℕ) → n ≡ j → p ≡ k → q ≡ j → Called d m₀ n b p q
  unfolding after count
  made_stopped n p q en ep eq =
      rw (en, ep, eq) (record { leaves = h.now; counts = omega (arith, length-take-le j (due d m₀.place) h.fits) })

  -- out: no block is left
  pub made_over : (n p q : ℕ) → d.blocks ≤ k → j ≤ n → p ≡ k → q ≡ j → Called d m₀ n b p q
  unfolding after count
  made_over n p q kb jn ep eq =
      let l = due d m₀.place in
      let z : j ≡ length l = omega (arith, length-drop j l, ap length (h.over kb), h.fits) in
      let e : take n l ≡ l = take_all n l (omega arith) in
      let e' : take j l ≡ l = take_all j l (omega arith) in
      rw (ep, eq) (record { leaves = h.now ∙ ap (run d m₀) (e' ∙ sym e); counts = omega (arith, ap length e) })

-- out of a loop over the pixels of block k alone: the first n are made
pub made_first : (d : Plan) (b₀ : List ℕ) (k n : ℕ) (b : List ℕ) → Made d (memory b₀ k) n k n b → k < d.blocks → n ≤ d.size k → b ≡ first_pixels d k b₀ n
unfolding after
made_first d b₀ k n b h kb q = ap (λ (m : Memory). m.picture) (h.now ∙ after_part d b₀ k n kb q)

-- ---- a turn that is one call, from the start of block k

module _ (d : Plan) (m₀ : Memory) (j k : ℕ) (b : List ℕ) (h : Made d m₀ j k 0 b) (kb : k < d.blocks) where
  -- the call makes the first n pixels of the block
  pub made_pixels : (n : ℕ) (b' : List ℕ) → n ≤ d.size k → b' ≡ first_pixels d k b n → Made d m₀ (j + n) k n b'
  unfolding first_pixels
  made_pixels n b' q e = let z : 0 + n ≤ d.size k = omega arith in rw e (rw (zero-add n) at (row d m₀ j k 0 b h kb n z))

  -- out: it is stopped there, since the a stores allowed are made
  pub made_part : (n : ℕ) (b' : List ℕ) → n ≤ d.size k → b' ≡ first_pixels d k b n
      → (a p q : ℕ) → a ≡ j + n → p ≡ k → q ≡ j + n → Called d m₀ a b' p q
  made_part n b' l e = made_stopped d m₀ (j + n) k n b' (made_pixels n b' l e)

  -- the call makes the u pixels of the block, and then the place is stored
  pub made_block : (u : ℕ) (b' : List ℕ) → u ≡ d.size k → b' ≡ first_pixels d k b u → (j' k' : ℕ) → j' ≡ j + (u + 1) → k' ≡ k + 1
      → Made d m₀ j' k' 0 b'
  made_block u b' eu e j' k' ej ek =
      let z : j' ≡ (j + u) + 1 = omega arith in
      rw (z, ek) (made_place d m₀ (j + u) k u b' (made_pixels u b' (omega arith) e) kb (omega arith))

-- ---- what a function says of its call, in the words of specs/Calls

-- v: what the call comes to
module _ {R : Type 0} (d : Plan) (m₀ : Memory) (v : Call R) where
  pub refused_leaves : (r : R) → v ≡ refused r → m₀ ≡ leave d m₀ v
  unfolding leave
  refused_leaves r e = rw e

  pub refused_answers : {T : Type 0} (t none : T) (r : R) → v ≡ refused r → record { answer = refusal r; count = 0; rows = none } ≡ outcome d t none m₀ v
  unfolding outcome
  refused_answers t none r e = rw e

  module _ (n : ℕ) (b : List ℕ) (k j : ℕ) (h : Called d m₀ n b k j) (e : v ≡ allowed n) where
    pub called_leaves : memory b k ≡ leave d m₀ v
    unfolding leave
    called_leaves = rw e h.leaves
