-- Two lists that agree in the data bytes of a block, and two that agree in its bytes of the second part: one kind, one source of each pixel, and one value there.
-- Assumes nothing.
use mathlib.Core.Path.{◌≡◌, refl, ap, ◌∙◌}
use mathlib.Core.Bool.{Bool, true, false}
use mathlib.Core.List.{List}
use Prim.Native.Nat.{ℕ, ◌+◌, ◌≤◌, ◌<◌}
use native.Mathlib.Omega.{arith}
use Rattle.words.specs.Word.{word_at}
use Rattle.pattern.specs.Form.{bytes, shape}
use Rattle.pattern.specs.Pattern.{pattern_source}
use Rattle.pattern.proofs.Bounds.{form_inside}
use Rattle.pattern.proofs.Agree.{Agree, same_form7, same_form8, same_form9, same_form_a, same_pattern}
use Rattle.block.specs.declared.Source.{Source}
use Rattle.block.specs.declared.Source.TheVariants.{Data}
use Rattle.block.specs.Block.{pixels, Kind, same, kept, copied, patterned, celled, dithered, refused, kinds, kind_of, colour_bytes, data_length, offset_length, is_refused, cell_source, dither_source, source, colour_at, stored, fetched}
use Rattle.block.proofs.Codes.{each_code, cell_inside, dither_below, colour_within}

-- ---- the kind

module _ (s s' o o' : List ℕ) where
  Kinded : Bool → ℕ → Type 0
  Kinded deep c = Agree (data_length deep (kind_of deep c s o)) s s' → Agree (offset_length (kind_of deep c s o)) o o' → kind_of deep c s o ≡ kind_of deep c s' o'

  pub same_kind : (deep : Bool) (c : ℕ) → c < 16 → Agree (data_length deep (kind_of deep c s o)) s s' → Agree (offset_length (kind_of deep c s o)) o o'
      → kind_of deep c s o ≡ kind_of deep c s' o'
  unfolding Kinded kind_of kinds data_length offset_length
  same_kind false =
      each_code (Kinded false) (λ h g. refl) (λ h g. refl) (λ h g. rw (h 0 (omega arith))) (λ h g. rw (h 0 (omega arith))) (λ h g. rw (h 0 (omega arith)))
      (λ h g. rw (h 0 (omega arith), h 1 (omega arith))) (λ h g. refl)
      (λ h g. ap patterned (same_form7 false s s' h)) (λ h g. ap patterned (same_form8 false s s' h)) (λ h g. ap patterned (same_form9 false s s' h)) (λ h g. ap patterned (same_form_a false s s' h))
      (λ h g. refl) (λ h g. refl) (λ h g. refl) (λ h g. refl) (λ h g. refl)
  same_kind true =
      each_code (Kinded true) (λ h g. refl) (λ h g. refl) (λ h g. rw (g 0 (omega arith))) (λ h g. rw (g 0 (omega arith))) (λ h g. rw (g 0 (omega arith)))
      (λ h g. rw (h 0 (omega arith), h 1 (omega arith))) (λ h g. rw (h 0 (omega arith), h 1 (omega arith)))
      (λ h g. ap patterned (same_form7 true s s' h)) (λ h g. ap patterned (same_form8 true s s' h)) (λ h g. ap patterned (same_form9 true s s' h)) (λ h g. ap patterned (same_form_a true s s' h))
      (λ h g. refl) (λ h g. refl) (λ h g. refl) (λ h g. refl) (λ h g. refl)

-- an 8-bit film has no second part
pub no_second : (c : ℕ) (s o o' : List ℕ) → kind_of false c s o ≡ kind_of false c s o'
unfolding kind_of kinds
no_second c s o o' = refl

-- ---- a colour

same_colour : (deep : Bool) (s s' : List ℕ) (j n : ℕ) → j + bytes deep ≤ n → Agree n s s' → colour_at deep s j ≡ colour_at deep s' j
unfolding word_at
same_colour false s s' j n l h = h j (omega arith)
same_colour true s s' j n l h = rw (h j (omega arith), h (j + 1) (omega arith))

-- ---- a pixel

module _ (deep : Bool) (s s' : List ℕ) (w x y i : ℕ) (l : i < 64) where
  pub same_source : (κ : Kind) → Agree (data_length deep κ) s s' → source deep κ s w x y i ≡ source deep κ s' w x y i
  unfolding source data_length
  same_source (same p) h = refl
  same_source kept h = refl
  same_source (copied p v n m) h = refl
  same_source (patterned f) h = ap Data (same_pattern deep s s' (shape deep f) i (deep, f, refl) l h)
  same_source (celled c) h = refl
  same_source dithered h = refl
  same_source refused h = refl

  module _ (last new oldest : List ℕ) where
    at_data : (κ : Kind) (j : ℕ) → j + bytes deep ≤ data_length deep κ → Agree (data_length deep κ) s s'
        → fetched deep (Data j) s last new oldest ≡ fetched deep (Data j) s' last new oldest
    unfolding fetched
    at_data κ j k h = ap (stored deep) (same_colour deep s s' j (data_length deep κ) k h)

    -- one source, two lists; a kind that is refused has no data bytes, and yet byte 0 for its source
    at_source : (κ : Kind) → is_refused κ ≡ false → Agree (data_length deep κ) s s'
        → fetched deep (source deep κ s w x y i) s last new oldest ≡ fetched deep (source deep κ s w x y i) s' last new oldest
    unfolding fetched source data_length is_refused
    at_source (same p) r h = refl
    at_source kept r h = refl
    at_source (copied p v n m) r h = refl
    at_source (patterned f) r h = at_data (patterned f) (pattern_source (shape deep f) s i) (form_inside deep f s i l) h
    at_source (celled c) r h = at_data (celled c) (colour_bytes deep (cell_source (pixels c) i)) (colour_within deep _ _ (cell_inside (pixels c) i (c, refl) l)) h
    at_source dithered r h = at_data dithered (colour_bytes deep (dither_source i)) (colour_within deep _ _ (dither_below i)) h
    at_source refused r h = absurd (let z : ◌≡◌ {A = ℕ} 0 1 = cc in let y : ⊥ = omega arith in y)

    pub same_fetched : (κ : Kind) → is_refused κ ≡ false → Agree (data_length deep κ) s s'
        → fetched deep (source deep κ s w x y i) s last new oldest ≡ fetched deep (source deep κ s' w x y i) s' last new oldest
    same_fetched κ r h = at_source κ r h ∙ ap (λ (u : Source). fetched deep u s' last new oldest) (same_source κ h)
