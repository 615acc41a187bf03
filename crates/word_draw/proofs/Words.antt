-- The loop over the blocks of a packet with true colour. The laws are those of `draw/proofs/Going`; here with a second part, and 64 pixels for every block.
-- Assumes nothing.
use mathlib.Core.Path.{◌≡◌, refl, ap, ◌∙◌}
use mathlib.Core.Bool.{true}
use mathlib.Core.List.{List}
use Prim.Native.Nat.{ℕ, ◌+◌, ◌-◌, ◌*◌, ◌≤◌, ◌<◌}
use native.Mathlib.Omega.{arith}
use lib.ListN.{length, take, drop}
use Rattle.words.proofs.Past.{part_to_end}
use Rattle.block.specs.Block.{code_at, kind_of, data_length, offset_length}
use Rattle.packet.specs.Packet.{Packet, parted, left, top}
use Rattle.packet.proofs.Walk.{code_below}
use Rattle.stores.specs.Stores.{memory, first_pixels}
use Rattle.stores.specs.Loop.{Called}
use Rattle.paint.specs.Value.{pixel_count, older, word_plan}
use Rattle.paint.specs.Asked.{WordCanvas, WordDrawable}
use Rattle.paint.proofs.Counts.{count_deep}
use Rattle.draw.specs.Drawing.{plan_over}
use Rattle.draw.proofs.Going.{Going, canvas, drawable, right, below, going_stop, going_block}
use Rattle.word_draw.specs.Asked.{WordAccepted}

abbrev pub WordGoing : ℕ → ℕ → List ℕ → List ℕ → List ℕ → List ℕ → List ℕ → List ℕ → ℕ → ℕ → List ℕ → ℕ → ℕ → ℕ → ℕ → ℕ → ℕ → ℕ → Type 0
WordGoing columns rows map bytes offsets last oldest b₀ k₀ n b place k at aside l x y =
    Going (parted true columns rows map bytes offsets) (older last oldest) b₀ k₀ n b place k at aside l x y

-- a part from there on, as code takes it
abbrev pub from : List ℕ → ℕ → List ℕ
from bytes at = take (length bytes - at) (drop at bytes)

module _ (columns rows : ℕ) (map bytes offsets last oldest b₀ : List ℕ) (k₀ n : ℕ) (b : List ℕ) (place k at aside l x y : ℕ)
    (g : WordGoing columns rows map bytes offsets last oldest b₀ k₀ n b place k at aside l x y)
    (a : WordAccepted (parted true columns rows map bytes offsets) (length last) (length b₀) (length oldest) k₀) (h : k < columns * rows) where
  abbrev p : Packet
  p = parted true columns rows map bytes offsets

  pub word_canvas : WordCanvas (8 * columns) (8 * rows) x y (length last) (length b) (length oldest)
  word_canvas =
      let q = canvas _ _ _ _ _ _ _ _ _ _ _ _ _ g a.accepted h _ _ _ refl refl refl in
      record {
        width = q.width;
        height = q.height;
        across = q.across;
        down = q.down;
        last_room = q.front_room;
        new_room = q.back_room;
        oldest_room = a.oldest_room;
      }

  -- the corner of the next block, in this row or the next
  pub word_right : (x + 8 ≡ 8 * columns → ⊥) → (x + 8 ≡ left p (k + 1)) × (y ≡ top p (k + 1))
  word_right = right _ _ _ _ _ _ _ _ _ _ _ _ _ g a.accepted h _ _ _ refl refl refl

  pub word_below : x + 8 ≡ 8 * columns → (0 ≡ left p (k + 1)) × (y + 8 ≡ top p (k + 1))
  word_below = below _ _ _ _ _ _ _ _ _ _ _ _ _ g a.accepted h _ _ _ refl refl refl

  -- block k, its code as code found it
  module _ (c : ℕ) (ec : c ≡ code_at map k) where
    count : 64 ≡ pixel_count (kind_of true c (from bytes at) (from offsets aside))
    count = count_deep (from bytes at) (from offsets aside) c (rw ec (code_below map k))

    pub word_drawable : (m : ℕ) → m ≤ 64 → WordDrawable c (from bytes at) (from offsets aside) (8 * columns) (8 * rows) x y m
    word_drawable m q =
        drawable _ _ _ _ _ _ _ _ _ _ _ _ _ g a.accepted h c _ _ ec (part_to_end bytes at) (part_to_end offsets aside) m (omega (arith, count))

    pub word_stop : (b' : List ℕ) → l ≤ 64 → b' ≡ first_pixels (word_plan c (from bytes at) (from offsets aside) last oldest (8 * columns) x y) 0 b l
        → Called (plan_over p (older last oldest)) (memory b₀ k₀) n b' place n
    word_stop b' q e =
        going_stop _ _ _ _ _ _ _ _ _ _ _ _ _ g a.accepted h c _ _ ec (part_to_end bytes at) (part_to_end offsets aside) 64 b' count q e

    pub word_block : (z m : ℕ) (b' : List ℕ) (place' : ℕ) → z ≡ data_length true (kind_of true c (from bytes at) (from offsets aside))
        → m ≡ offset_length (kind_of true c (from bytes at) (from offsets aside)) → 64 < l
        → b' ≡ first_pixels (word_plan c (from bytes at) (from offsets aside) last oldest (8 * columns) x y) 0 b 64 → place' ≡ k + 1
        → (x' y' : ℕ) → (x' ≡ left p (k + 1)) × (y' ≡ top p (k + 1))
        → WordGoing columns rows map bytes offsets last oldest b₀ k₀ n b' place' (k + 1) (at + z) (aside + m) (l - 65) x' y'
    word_block z m b' place' ez em q e =
        going_block _ _ _ _ _ _ _ _ _ _ _ _ _ g a.accepted h c _ _ ec (part_to_end bytes at) (part_to_end offsets aside) 64 z m b' place' count ez em q
        (e ∙ ap (first_pixels (word_plan c (from bytes at) (from offsets aside) last oldest (8 * columns) x y) 0 b) count)
