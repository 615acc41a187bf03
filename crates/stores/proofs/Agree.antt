-- Two plans that store the same: a call leaves the same memory under both and makes the same number of stores, and the picture of demand 2 is one.
use mathlib.Core.Path.{◌≡◌, refl, sym, ap, ◌∙◌}
use mathlib.Core.List.{List}
use Prim.Native.Nat.{ℕ, zero, suc, ◌-◌, ◌≤◌, ◌<◌}
use native.Mathlib.Decide.{dec_lt}
use native.Mathlib.Omega.{arith}
use lib.ListN.{length, take}
use Rattle.stores.specs.Stores.{Plan, Store, stores, following, due, Memory, memory, first_pixels, after, count, stage, final}
use Rattle.stores.specs.Calls.{Call, refused, allowed, leave, outcome, leave_cut}
use Rattle.stores.proofs.Steps.{after_end, after_part, after_block, by_blocks}
use Rattle.stores.proofs.Pixels.{first_agree}
use Rattle.stores.proofs.Within.{cut_least}

-- of each block below the block count: as many pixels, and each pixel at one index with one value, whatever picture is drawn on
pub record Alike (d e : Plan) : Type 0 where
  pub blocks : d.blocks ≡ e.blocks
  pub sizes : (k : ℕ) → k < d.blocks → d.size k ≡ e.size k
  pub targets : (k i : ℕ) → k < d.blocks → i < d.size k → d.target k i ≡ e.target k i
  pub values : (k i : ℕ) → k < d.blocks → i < d.size k → (b : List ℕ) → d.value k i b ≡ e.value k i b

module _ (d e : Plan) (h : Alike d e) where
  first_alike : (k : ℕ) → k < d.blocks → (b : List ℕ) (n : ℕ) → n ≤ d.size k → first_pixels d k b n ≡ first_pixels e k b n
  first_alike k kb b n l =
      first_agree d e k k b n (λ i hi. h.targets k i kb (omega arith)) (λ i hi a la. h.values k i kb (omega arith) a)

  -- ---- a call

  within_agree : (m : Memory) (n : ℕ) → m.place ≤ d.blocks → after d m n ≡ after e m n
  within_agree =
      by_blocks d (λ m n. after d m n ≡ after e m n)
      (λ m n l. after_end d m n l ∙ sym (after_end e m n (omega (arith, h.blocks))))
      (λ b k n kb l.
      let kb' : k < e.blocks = omega (arith, h.blocks) in
      let z = h.sizes k kb in
      after_part d b k n kb l ∙ ap (λ (c : List ℕ). memory c k) (first_alike k kb b n l) ∙ sym (after_part e b k n kb' (omega (arith, z))))
      (λ b k n kb l ih.
      let kb' : k < e.blocks = omega (arith, h.blocks) in
      let z = h.sizes k kb in
      let q : first_pixels d k b (d.size k) ≡ first_pixels e k b (e.size k) =
      first_alike k kb b (d.size k) (omega arith) ∙ ap (first_pixels e k b) z in
      after_block d b k n kb l ∙ ih
      ∙ rw (q, z) (sym (after_block e b k n kb' (omega (arith, z)))))

  pub after_agree : (m : Memory) (n : ℕ) → after d m n ≡ after e m n
  after_agree m n =
      elim (dec_lt d.blocks m.place) [
        | yes l ↦ after_end d m n (omega arith) ∙ sym (after_end e m n (omega (arith, h.blocks)))
        | no l ↦ within_agree m n (omega arith)
      ]

  following_agree : (n k : ℕ) → n ≤ d.blocks - k → following d.size k n ≡ following e.size k n
  unfolding following stores
  following_agree zero k l = refl
  following_agree (suc n) k l =
      rw (h.sizes k (omega arith), following_agree n (suc k) (omega arith))

  due_agree : (k : ℕ) → due d k ≡ due e k
  due_agree k = following_agree (d.blocks - k) k (omega arith) ∙ ap (λ (n : ℕ). following e.size k (n - k)) h.blocks

  pub count_agree : (m : Memory) (n : ℕ) → count d m n ≡ count e m n
  unfolding count
  count_agree m n = ap (λ (l : List Store). length (take n l)) (due_agree m.place)

  module _ {R : Type 0} where
    -- what a call leaves, what it answers with its count and rows, and what it leaves where it is cut
    pub leave_agree : (m : Memory) (c : Call R) → leave d m c ≡ leave e m c
    unfolding leave
    leave_agree m (refused r) = refl
    leave_agree m (allowed n) = after_agree m n

    pub outcome_agree : {T : Type 0} (t none : T) (m : Memory) (c : Call R) → outcome d t none m c ≡ outcome e t none m c
    unfolding outcome
    outcome_agree t none m (refused r) = refl
    outcome_agree t none m (allowed n) = rw (after_agree m n, count_agree m n, h.blocks)

    pub cut_agree : (m : Memory) (c : Call R) (j : ℕ) → leave_cut d m c j ≡ leave_cut e m c j
    unfolding leave_cut
    cut_agree m (refused r) j = refl
    cut_agree m (allowed n) j = cut_least {R = R} d m (allowed n) n j refl ∙ after_agree m _ ∙ sym (cut_least {R = R} e m (allowed n) n j refl)

  -- ---- the picture of demand 2

  stage_agree : (b : List ℕ) (k : ℕ) → k ≤ d.blocks → stage d b k ≡ stage e b k
  unfolding stage
  stage_agree b zero l = refl
  stage_agree b (suc k) l =
      first_alike k l (stage d b k) (d.size k) (omega arith)
      ∙ rw (stage_agree b k (omega arith), h.sizes k l)

  pub final_agree : (b : List ℕ) → final d b ≡ final e b
  final_agree b = stage_agree b d.blocks (omega arith) ∙ ap (stage e b) h.blocks
