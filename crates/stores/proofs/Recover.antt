-- One call on memory that calls have reached from the first picture and place 0 (`Reached`): it leaves what the book leaves, and calls may go on
-- from there (`going`). A block's values do not read the block, so what an earlier call stored of a block that is begun again does not matter.
-- Also, what the blocks make of a pixel of the picture of demand 2 (`stage_off`, `stage_pixel`); and, from any memory, a call cut short and made
-- again (`cut_again`), and what a call leaves alone (`after_off`).
use mathlib.Core.Path.{◌≡◌, refl, sym, ap, ◌∙◌, subst}
use mathlib.Core.Logic.{◌⊎◌, inl, inr, ⊎_elim}
use mathlib.Core.List.{List}
use Prim.Native.Nat.{ℕ, zero, suc, ◌-◌, ◌≤◌, ◌<◌}
use native.Mathlib.Nat.{eq-or-lt_of_le}
use native.Mathlib.Omega.{arith}
use lib.ListN.{length, get_or}
use lib.Seq.{ext_get_or}
use Rattle.stores.specs.Stores.{Plan, due, Memory, memory, first_pixels, after, stage, final, book, Sized, Off, Own, Lawful}
use Rattle.stores.proofs.Steps.{due_length, after_end, after_part, after_block, after_enough, by_blocks}
use Rattle.stores.proofs.Pixels.{first_long, first_met, first_off, first_value, first_same, first_again, first_own}

-- ---- the picture block by block

pub stage_length : (d : Plan) (first : List ℕ) (k : ℕ) → length (stage d first k) ≡ length first
unfolding stage
stage_length d first zero = refl
stage_length d first (suc k) = first_long d k (stage d first k) (d.size k) ∙ stage_length d first k

-- blocks k to n - 1 leave alone what is no pixel of theirs
pub stage_off : (d : Plan) (first : List ℕ) (k n t : ℕ) → k ≤ n → ((j : ℕ) → k ≤ j → j < n → Off d j t)
    → get_or (stage d first n) t 0 ≡ get_or (stage d first k) t 0
unfolding stage
stage_off d first k zero t h f = let e : k ≡ 0 = omega arith in rw e
stage_off d first k (suc n) t h f =
    ⊎_elim
    (λ (e : k ≡ suc n). rw e)
    (λ (l : k < suc n).
    first_off d n (stage d first n) (d.size n) (omega arith) t (f n (omega arith) (omega arith))
    ∙ stage_off d first k n t (omega arith) (λ j a b. f j a (omega arith)))
    (eq-or-lt_of_le h)

-- memory that calls reach: the picture is that of the place's turn, but for pixels of the block that is next
pub record Reached (d : Plan) (first : List ℕ) (m : Memory) : Type 0 where
  pub low : m.place ≤ d.blocks
  pub long : length m.picture ≡ length first
  pub off : (t : ℕ) → (m.place < d.blocks → Off d m.place t) → get_or m.picture t 0 ≡ get_or (stage d first m.place) t 0

pub reached_first : (d : Plan) (first : List ℕ) → Reached d first (memory first 0)
unfolding stage
reached_first d first = record { low = omega arith; long = refl; off = λ t f. refl }

-- at the last place it is the picture of demand 2
pub reached_final : (d : Plan) (first : List ℕ) (m : Memory) → Reached d first m → m.place ≡ d.blocks → m ≡ memory (final d first) d.blocks
reached_final d first m r e =
    let q : m.picture ≡ stage d first m.place =
    ext_get_or 0 m.picture (stage d first m.place) (r.long ∙ sym (stage_length d first m.place))
    (λ t h. r.off t (λ l. absurd (let z : ⊥ = omega arith in z))) in
    λ x. memory ((q ∙ ap (stage d first) e) x) (e x)

module _ (d : Plan) (first : List ℕ) (laws : Lawful d (length first)) where
  stage_laws : (k : ℕ) → Lawful d (length (stage d first k))
  stage_laws k = subst (Lawful d) (sym (stage_length d first k)) laws

  -- a pixel has its block's value, and no later block changes it
  pub stage_pixel : (k i : ℕ) → i < d.size k → (m : ℕ) → k < m → m ≤ d.blocks → get_or (stage d first m) (d.target k i) 0 ≡ d.value k i (stage d first k)
  unfolding stage
  stage_pixel k i hi m km mb =
      stage_off d first (suc k) m (d.target k i) km
      (λ j l h n hn q. let z : k ≡ j = (laws.distinct k j i n (omega arith) (omega arith) hi hn q).0 in omega arith)
      ∙ first_own d (stage d first k) (stage_laws k) k (omega arith) (d.size k) (omega arith) i hi

  module _ (b : List ℕ) (k : ℕ) (kb : k < d.blocks) (r : Reached d first (memory b k)) where
    off_block : (t : ℕ) → Off d k t → get_or b t 0 ≡ get_or (stage d first k) t 0
    off_block t f = r.off t (λ _. f)

    -- the pixels of block k are the book's
    booked_pixels : (n : ℕ) → n ≤ d.size k → first_pixels d k b n ≡ first_pixels (book d first) k b n
    booked_pixels n h =
        let own = laws.own k kb in
        first_met d (book d first) k k b n (λ i q. refl)
        (λ i q.
        first_value d (length first) k own b r.long i i (omega arith) (omega arith)
        ∙ own i (omega arith) b (stage d first k) r.long (stage_length d first k) off_block
        ∙ sym (stage_pixel k i (omega arith) d.blocks kb (omega arith)))

    -- with all of them stored it is the next block's turn
    whole_block : first_pixels d k b (d.size k) ≡ stage d first (suc k)
    unfolding stage
    whole_block = first_same d (length first) k (laws.own k kb) b (stage d first k) r.long (stage_length d first k) off_block

    reached_part : (n : ℕ) → n ≤ d.size k → Reached d first (memory (first_pixels d k b n) k)
    reached_part n h =
        record {
          low = omega arith;
          long = first_long d k b n ∙ r.long;
          off = λ t f. first_off d k b n h t (f kb) ∙ r.off t f;
        }

    reached_block : Reached d first (memory (first_pixels d k b (d.size k)) (suc k))
    reached_block =
        record {
          low = kb;
          long = first_long d k b (d.size k) ∙ r.long;
          off = λ t f. ap (λ (c : List ℕ). get_or c t 0) whole_block;
        }

-- ---- a call allowed n stores

-- same: it leaves what the book leaves. reached: calls may go on from there. up, forward: the place never falls, and rises where the call is allowed
-- more stores than the next block has pixels. through: all that is due ends the drawing.
pub record Going (d : Plan) (first : List ℕ) (m : Memory) (n : ℕ) : Type 0 where
  pub same : after d m n ≡ after (book d first) m n
  pub reached : Reached d first (after d m n)
  pub up : m.place ≤ (after d m n).place
  pub forward : m.place < d.blocks → d.size m.place < n → m.place < (after d m n).place
  pub through : length (due d m.place) ≤ n → (after d m n).place ≡ d.blocks

module _ (d : Plan) (first : List ℕ) (laws : Lawful d (length first)) where
  going_end : (m : Memory) (n : ℕ) → d.blocks ≤ m.place → Reached d first m → Going d first m n
  going_end m n e r =
      let q = after_end d m n e in
      record {
        same = q ∙ sym (after_end (book d first) m n e);
        reached = rw q r;
        up = rw q (omega arith);
        forward = λ l _. absurd (let z : ⊥ = omega arith in z);
        through = λ _. rw q (omega (arith, r.low));
      }

  going_part : (b : List ℕ) (k n : ℕ) → k < d.blocks → n ≤ d.size k → Reached d first (memory b k) → Going d first (memory b k) n
  going_part b k n kb h r =
      let q = after_part d b k n kb h in
      record {
        same = q ∙ ap (λ (c : List ℕ). memory c k) (booked_pixels d first laws b k kb r n h) ∙ sym (after_part (book d first) b k n kb h);
        reached = rw q (reached_part d first laws b k kb r n h);
        up = rw q (omega arith);
        forward = λ _ l. absurd (let z : ⊥ = omega arith in z);
        through = λ l. absurd (let z : ⊥ = omega (arith, due_length d k kb) in z);
      }

  going_block : (b : List ℕ) (k n : ℕ) → k < d.blocks → d.size k < n
      → (Reached d first (memory (first_pixels d k b (d.size k)) (suc k))
      → Going d first (memory (first_pixels d k b (d.size k)) (suc k)) (n - suc (d.size k)))
      → Reached d first (memory b k) → Going d first (memory b k) n
  going_block b k n kb h ih r =
      let q = after_block d b k n kb h in
      let g = ih (reached_block d first laws b k kb r) in
      record {
        same =
            q
            ∙ g.same
            ∙ ap (λ (c : List ℕ). after (book d first) (memory c (suc k)) (n - suc (d.size k))) (booked_pixels d first laws b k kb r (d.size k) (omega arith))
            ∙ sym (after_block (book d first) b k n kb h);
        reached = rw q g.reached;
        up = rw q (omega (arith, g.up));
        forward = λ _ _. rw q g.up;
        through = λ l. rw q (g.through (omega (arith, due_length d k kb)));
      }

  pub going : (m : Memory) (n : ℕ) → Reached d first m → Going d first m n
  going m n r = by_blocks d (λ m n. Reached d first m → Going d first m n) going_end going_part going_block m n r.low r

  -- more stores than any block has pixels raise the place, or it is the last
  pub rises : (m : Memory) → Reached d first m → (n p : ℕ) → Sized d p → p < n → (m.place < (after d m n).place) ⊎ ((after d m n).place ≡ d.blocks)
  rises m r n p h q =
      let g = going m n r in
      ⊎_elim
      (λ e. inr (omega (arith, g.up, g.reached.low)))
      (λ l. inl (g.forward l (omega (arith, h m.place l))))
      (eq-or-lt_of_le r.low)

-- ---- from any memory

-- a call cut after j stores, and made again with enough stores, leaves what one call leaves
module _ (d : Plan) (w : ℕ) (own : (k : ℕ) → k < d.blocks → Own d w k) where
  -- two numbers of stores that are enough
  abbrev Again : Memory → ℕ → Type 0
  Again m j =
      length m.picture ≡ w → (n n' : ℕ) → length (due d m.place) ≤ n → length (due d m.place) ≤ n' → after d (after d m j) n ≡ after d m n'

  again_end : (m : Memory) (j : ℕ) → d.blocks ≤ m.place → Again m j
  again_end m j e lw n n' h h' = rw (after_end d m j e) (after_end d m n e ∙ sym (after_end d m n' e))

  again_part : (b : List ℕ) (k j : ℕ) → k < d.blocks → j ≤ d.size k → Again (memory b k) j
  again_part b k j kb q lw n n' h h' =
      let l = due_length d k kb in
      rw (after_part d b k j kb q, after_block d (first_pixels d k b j) k n kb (omega arith), after_block d b k n' kb (omega arith), first_again d w k (own k kb) b lw j q)
      (after_enough d (memory (first_pixels d k b (d.size k)) (suc k)) (n - suc (d.size k)) (n' - suc (d.size k)) (omega arith) (omega arith))

  again_block : (b : List ℕ) (k j : ℕ) → k < d.blocks → d.size k < j
      → Again (memory (first_pixels d k b (d.size k)) (suc k)) (j - suc (d.size k)) → Again (memory b k) j
  again_block b k j kb q ih lw n n' h h' =
      let l = due_length d k kb in
      rw (after_block d b k j kb q, after_block d b k n' kb (omega arith))
      (ih (first_long d k b (d.size k) ∙ lw) n (n' - suc (d.size k)) (omega arith) (omega arith))

  pub cut_again : (m : Memory) → length m.picture ≡ w → m.place ≤ d.blocks → (j n : ℕ) → length (due d m.place) ≤ n
      → after d (after d m j) n ≡ after d m n
  cut_again m lw low j n h = by_blocks d Again again_end again_part again_block m j low lw n n h h

-- a call leaves alone what is no pixel of any block
pub after_off : (d : Plan) (t : ℕ) → ((k : ℕ) → k < d.blocks → Off d k t) → (m : Memory) (n : ℕ) → m.place ≤ d.blocks
    → get_or (after d m n).picture t 0 ≡ get_or m.picture t 0
after_off d t off =
    by_blocks d (λ m n. get_or (after d m n).picture t 0 ≡ get_or m.picture t 0)
    (λ m n e. rw (after_end d m n e))
    (λ b k n kb h. rw (after_part d b k n kb h) (first_off d k b n h t (off k kb)))
    (λ b k n kb h ih. rw (after_block d b k n kb h) (ih ∙ first_off d k b (d.size k) (omega arith) t (off k kb)))
