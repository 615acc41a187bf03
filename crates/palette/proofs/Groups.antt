-- The groups of a body: their positions, the walk over them, and what is tested and stored of each.
-- Assumes nothing.
use mathlib.Core.Path.{◌≡◌, refl, sym, ap, ◌∙◌}
use mathlib.Core.List.{List}
use Prim.Native.Nat.{ℕ, zero, suc, ◌+◌, ◌-◌, ◌*◌, ◌≤◌, ◌<◌, zero-le, min}
use native.Mathlib.Omega.{arith}
use native.Mathlib.Numerals.{add-one}
use borrow.Author.Tests.{eqb-true}
use lib.ListN.{length, get_or, take}
use Rattle.listed.specs.Store.{Store, applied, each, bytes, from, Within}
use Rattle.refusal.specs.Number.{accept}
use Rattle.palette.specs.Update.{legal, verdict_for}
use Rattle.listed.proofs.Lists.{each_few, bytes_add, bytes_length, from_add, within_each, within_bytes}
use Rattle.palette.proofs.Allowing.{due_list, Allowing, allowing_end}
use Rattle.palette.proofs.Outcome.{taken_on}
use Rattle.palette.proofs.Judging.{legal_append, legal_bytes}
use Rattle.palette.specs.Mask.{bit, ones, group_end, group_at, masked, group_stores, set_palette_compressed}
use Rattle.palette.specs.Asked.{Next, Group}
use Rattle.palette.proofs.Order.{next_turn, count_more}
use Rattle.palette.proofs.Masks.{bit_most, ones_most, rising}

-- ---- positions

group_more : (body : List ℕ) (k : ℕ) → group_at body (k + 1) ≡ group_end body (group_at body k)
unfolding group_at
group_more body k = rw (add-one k)

-- what is known of a body that is taken: all bytes are used up
pub used_up : (body : List ℕ) (n : ℕ) → accept ≡ verdict_for (set_palette_compressed body) n → (group_at body 32 ≡ length body) × (n ≡ 768)
used_up body n v = let q = taken_on (set_palette_compressed body) n v in (eqb-true _ _ q.1.exact, q.0)

-- groups are short
group_few : (body : List ℕ) (k : ℕ) → group_at body k ≤ 25 * k
unfolding group_at group_end
group_few body zero = zero-le
group_few body (suc k) = omega (arith, group_few body k, ones_most (get_or body (group_at body k) 0) 8)

group_below : (body : List ℕ) (i n : ℕ) → i ≤ n → group_at body i ≤ group_at body n
unfolding group_at group_end
group_below body i n h = rising (group_at body) (λ k. omega arith) i n h

-- where all bytes are used up, every group's are there
pub group_there : (body : List ℕ) (k : ℕ) → group_at body 32 ≡ length body → k < 32 → group_end body (group_at body k) ≤ length body
group_there body k e h = let l : k + 1 ≤ 32 = omega arith in omega (arith, group_below body (k + 1) 32 l, group_more body k)

pub end_is : (body : List ℕ) (at : ℕ) → group_end body at ≡ at + 1 + 3 * ones (get_or body at 0) 8
unfolding group_end
end_is body at = refl

-- ---- the walk over the groups: group k starts at position at

pub record Walked (body : List ℕ) (k at : ℕ) : Type 0 where
  pub within : k ≤ 32
  pub found : at ≡ group_at body k

pub walked_start : (body : List ℕ) → Walked body 0 0
unfolding group_at
walked_start body = record { within = zero-le; found = refl }

module _ (body : List ℕ) (k at : ℕ) (w : Walked body k at) where
  pub walked_small : at ≤ 800
  walked_small = omega (arith, group_few body k, w.found, w.within)

  pub walked_end : 32 ≤ k → at ≡ group_at body 32
  walked_end h = let e : k ≡ 32 = omega (arith, w.within) in w.found ∙ ap (group_at body) e

  pub walked_more : k < 32 → (end : ℕ) → end ≡ group_end body at → Walked body (k + 1) end
  walked_more h end e = record { within = omega arith; found = e ∙ ap (group_end body) w.found ∙ sym (group_more body k) }

  -- where all bytes are used up, the group is there
  module _ (used : group_at body 32 ≡ length body) (h : k < 32) where
    pub walked_there : at + 1 + 3 * ones (get_or body at 0) 8 ≤ length body
    walked_there = rw (← end_is body at, w.found) (group_there body k used h)

    pub walked_group : (mask : ℕ) → mask ≡ get_or body at 0 → mask < 256 → (p : List ℕ) → length p ≡ 768 → Group body p mask (at + 1) (8 * k)
    walked_group mask e b p l = record { byte = b; there = rw e walked_there; room = omega arith }

-- ---- a group's components: the bytes behind its mask

masked_legal : (body : List ℕ) (mask at entry n : ℕ) → legal (each (masked body mask at entry) n) ≡ legal (bytes 0 (from body at) (3 * ones mask n))
unfolding each ones
masked_legal body mask at entry zero = refl
masked_legal body mask at entry (suc n) =
    let a = 3 * ones mask n in
    let b = 3 * bit mask n in
    let e : 3 * (ones mask n + bit mask n) ≡ a + b = omega arith in
    rw (
      e,
      bytes_add 0 (from body at) (from body (at + a)) a b (from_add body at a),
      legal_append (each (masked body mask at entry) n) (masked body mask at entry n),
      legal_append (bytes 0 (from body at) a) _,
      masked_legal body mask at entry n,
      legal_bytes (3 * (entry + n)) (0 + a) (from body (at + a)) b,
    )

-- group k's are the bytes behind its mask
pub group_legal : (body : List ℕ) (k at end : ℕ) → Walked body k at → end ≡ group_end body at
    → legal (bytes 0 (from body (at + 1)) (end - (at + 1))) ≡ legal (group_stores body k)
unfolding group_stores
group_legal body k at end w e =
    let n : end - (at + 1) ≡ 3 * ones (get_or body at 0) 8 = omega (arith, end_is body at) in
    rw (n, w.found) (sym (masked_legal body _ _ (8 * k) 8))

-- its stores, by the mask and the position that code has found
pub group_is : (body : List ℕ) (k at mask : ℕ) → Walked body k at → mask ≡ get_or body at 0 → each (masked body mask (at + 1) (8 * k)) 8 ≡ group_stores body k
unfolding group_stores
group_is body k at mask w m = rw (m, w.found)

pub group_stored : (body : List ℕ) (k at mask : ℕ) → Walked body k at → mask ≡ get_or body at 0
    → (left : ℕ) (p q : List ℕ) → q ≡ applied (take left (each (masked body mask (at + 1) (8 * k)) 8)) p → q ≡ applied (take left (group_stores body k)) p
group_stored body k at mask w m left p q e = e ∙ ap (λ (l : List Store). applied (take left l) p) (group_is body k at mask w m)

-- ---- indices: each is one of the palette's, whatever the masks are

pub masks_within : (body : List ℕ) → Within 768 (set_palette_compressed body).stores
unfolding group_stores
masks_within body =
    within_each 768 (group_stores body) 32
    (λ k h. within_each 768 _ 8
    (λ i l. let b = bit_most (get_or body (group_at body k) 0) i in within_bytes 768 (3 * (8 * k + i)) _ _ (λ j m. omega arith)))

-- ---- the list

pub groups_few : (body : List ℕ) → length (each (group_stores body) 32) ≤ 1536
unfolding group_stores
groups_few body =
    let group : (k : ℕ) → length (group_stores body k) ≤ 24 =
    λ k. each_few (masked body (get_or body (group_at body k) 0) (group_at body k + 1) (8 * k)) 3 8
    (λ i. omega (arith, bytes_length (3 * (8 * k + i)) (from body (group_at body k + 1 + 3 * ones (get_or body (group_at body k) 0) i)) (3 * bit (get_or body (group_at body k) 0) i), bit_most (get_or body (group_at body k) 0) i)) in
    omega (arith, each_few (group_stores body) 24 32 group)

pub groups_next : (body : List ℕ) (allowed : ℕ) (p : List ℕ) → length p ≡ 768 → Next (each (group_stores body) 32) allowed 0 (each (group_stores body) 32) p
groups_next body allowed p l =
    let z : min 0 allowed ≡ 0 = omega arith in
    record { due = rw z (due_list (allowed - 0) _ p (rw l (masks_within body))); few = omega (arith, groups_few body) }

-- group k, with the count that code keeps
module _ (body : List ℕ) (allowed before k at mask : ℕ) (w : Walked body k at) (n : before ≡ 0 + length (each (group_stores body) k)) (m : mask ≡ get_or body at 0) where
  pub group_next : (p₀ : List ℕ) → length p₀ ≡ 768 → (p : List ℕ) → Allowing (group_stores body) p₀ (allowed - 0) 32 p k → k < 32
      → Next (each (group_stores body) 32) allowed before (each (masked body mask (at + 1) (8 * k)) 8) p
  group_next p₀ l p g h = rw (group_is body k at mask w m) (next_turn (each (group_stores body) 32) allowed 0 (group_stores body) 32 p₀ (groups_next body allowed p₀ l) p k g h before n)

  pub group_left : (p q : List ℕ) → q ≡ applied (take (allowed - before) (each (masked body mask (at + 1) (8 * k)) 8)) p
      → q ≡ applied (take (allowed - 0 - length (each (group_stores body) k)) (group_stores body k)) p
  group_left p q e =
      let z : allowed - before ≡ allowed - 0 - length (each (group_stores body) k) = omega arith in
      rw (← z) (group_stored body k at mask w m (allowed - before) p q e)

  pub group_count : (r : ℕ) → r ≡ before + length (each (masked body mask (at + 1) (8 * k)) 8) → r ≡ 0 + length (each (group_stores body) (k + 1))
  group_count r e = count_more (group_stores body) 0 k before (length (each (masked body mask (at + 1) (8 * k)) 8)) r n (ap length (group_is body k at mask w m)) e

-- behind the last group
pub groups_count : (body p₀ : List ℕ) (allowed : ℕ) (p : List ℕ) (k before : ℕ) → Allowing (group_stores body) p₀ (allowed - 0) 32 p k → 32 ≤ k → before ≡ 0 + length (each (group_stores body) k)
    → before ≡ length (each (group_stores body) 32)
groups_count body p₀ allowed p k before g h n =
    let e : k ≡ 32 = omega (arith, g.within) in
    omega (arith, n, ap (λ (i : ℕ). length (each (group_stores body) i)) e)

pub groups_stored : (body p₀ : List ℕ) (allowed : ℕ) (p : List ℕ) (k : ℕ) → Allowing (group_stores body) p₀ (allowed - 0) 32 p k → 32 ≤ k → p ≡ applied (take allowed (each (group_stores body) 32)) p₀
groups_stored body p₀ allowed p k g h = let z : allowed - 0 ≡ allowed = omega arith in rw z at (allowing_end (group_stores body) p₀ (allowed - 0) 32 p k g h)
