-- Laws of a pixel's source, by the kind of its block, as code finds it.
-- Assumes nothing.
use mathlib.Core.Path.{◌≡◌, refl, sym, ◌∙◌, subst}
use mathlib.Core.Bool.{Bool, true, false}
use mathlib.Core.List.{List}
use Prim.Native.Nat.{ℕ, ◌+◌, ◌*◌, ◌/◌, ◌≤◌, ◌<◌}
use native.Mathlib.Omega.{arith}
use native.Mathlib.Decide.{ℕ_discrete}
use native.Mathlib.Nat.{mul-le-mul_right, add-mul}
use lib.ListN.{length}
use Rattle.pattern.specs.declared.Form.{Form}
use Rattle.pattern.specs.Form.{shape}
use Rattle.pattern.specs.Pattern.{pattern_length, pattern_source}
use Rattle.pattern.proofs.Bounds.{form_inside}
use Rattle.motion.specs.declared.Vector.{Vector}
use Rattle.motion.specs.Motion.{points_inside, raster_index, copied_index, Short, Inside}
use Rattle.motion.proofs.Vectors.{inside_each}
use Rattle.block.specs.declared.Picture.{Picture}
use Rattle.block.specs.declared.Picture.TheVariants.{Last, New, Oldest}
use Rattle.block.specs.declared.Source.{Source}
use Rattle.block.specs.declared.Source.TheVariants.{Data, Copied}
use Rattle.block.specs.Block.{Side, pixels, Kind, same, kept, copied, patterned, celled, dithered, refused, kinds, kind_of, colour_bytes, data_length, is_refused, copy_inside, cell_source, dither_source, source, pictured}
use Rattle.block.specs.Asked.{Sided, last_copied, vector_at, Readable, Among}
use Rattle.block.proofs.Codes.{code_known, copy_judged, cell, kind_4, kind_5, kind_6_deep, cell_inside, dither_below, colour_within}

-- ---- what each source asks

module _ (deep : Bool) (code : ℕ) (s o : List ℕ) (w h x y i : ℕ) where
  abbrev pub Pointed : Vector → Type 0
  Pointed v = Short v × Inside w x y i × (h ≤ 480) × (points_inside v w h x y ≡ true)

  pub copied_asked : (v : Vector) → Readable deep code s o w h x y i → 1 < code → code ≤ last_copied deep → v ≡ vector_at deep code s o → Short v → Pointed v
  copied_asked v r g l e t = (t, r.at, r.high, copy_judged s o deep code w h x y v _ g l e refl ∙ r.inside)

  pub form_asked : (f : Form) → Readable deep code s o w h x y i → kind_of deep code s o ≡ patterned f → (pattern_length (shape deep f) ≤ length s) × (i < 64)
  unfolding data_length
  form_asked f r k = (subst (λ (κ : Kind). data_length deep κ ≤ length s) k r.there, omega (arith, r.at.pixel))

-- a block has few cells
pub cell_few : (side i j : ℕ) → Sided side → i < 64 → j ≡ cell_source side i → j < 64
unfolding cell_source
cell_few side i j z l e = let c = cell side i z l in omega (arith, e, c.row_few, c.column_few)

-- codes 2 to 5 are copied by a vector in either film
pub copied_code : (deep : Bool) (code : ℕ) → code ≤ 5 → code ≤ last_copied deep
copied_code false code l = l
copied_code true code l = omega arith

-- ---- which source it is

module _ (deep : Bool) (κ : Kind) (s : List ℕ) (w x y i : ℕ) where
  pub same_source : (p : Picture) (j : ℕ) → κ ≡ same p → j ≡ raster_index w x y i → Copied p j ≡ source deep κ s w x y i
  unfolding source
  same_source p j k e = rw (k, e)

  pub copied_source : (p : Picture) (j n m : ℕ) (u v : Vector) → κ ≡ copied p u n m → v ≡ u → j ≡ copied_index v w x y i → Copied p j ≡ source deep κ s w x y i
  unfolding source
  copied_source p j n m u v k e q = rw (k, ← e, q)

  pub form_source_is : (j : ℕ) (f : Form) → κ ≡ patterned f → j ≡ pattern_source (shape deep f) s i → Data j ≡ source deep κ s w x y i
  unfolding source
  form_source_is j f k q = rw (k, q)

  pub cell_source_is : (j n : ℕ) (c : Side) → κ ≡ celled c → n ≡ cell_source (pixels c) i → j ≡ colour_bytes deep n → Data j ≡ source deep κ s w x y i
  unfolding source
  cell_source_is j n c k q e = rw (k, e, q)

-- codes 4 and 5 copy the last picture
pub last_source : (deep : Bool) (s o : List ℕ) (w x y i code j : ℕ) (v : Vector) → 3 < code → code < 6 → v ≡ vector_at deep code s o → j ≡ copied_index v w x y i
    → Copied Last j ≡ source deep (kind_of deep code s o) s w x y i
last_source deep s o w x y i code j v g l e q =
    elim (ℕ_discrete code 4) [
      | yes a ↦ copied_source deep _ s w x y i Last j _ _ _ v (kind_4 deep s o code a) e q
      | no n ↦ copied_source deep _ s w x y i Last j _ _ _ v (kind_5 deep s o code (omega arith)) e q
    ]

-- code 1 is the block of the oldest picture, touched or not
pub oldest_source : (deep : Bool) (s o : List ℕ) (w x y i code j : ℕ) → code ≡ 1 → j ≡ raster_index w x y i → Copied Oldest j ≡ source deep (kind_of deep code s o) s w x y i
unfolding source kind_of kinds
oldest_source false s o w x y i code j c e = rw (c, e)
oldest_source true s o w x y i code j c e = rw (c, e)

-- codes 6 and F in each film
pub deep_6 : (deep : Bool) → deep ≡ true → 6 ≤ last_copied deep
deep_6 deep d = rw d (omega arith)

pub six_deep : (deep : Bool) (s o : List ℕ) (w x y i j : ℕ) (v : Vector) → deep ≡ true → v ≡ vector_at deep 6 s o → j ≡ copied_index v w x y i
    → Copied Oldest j ≡ source deep (kind_of deep 6 s o) s w x y i
six_deep deep s o w x y i j v d e q =
    copied_source deep (kind_of deep 6 s o) s w x y i Oldest j 2 0 _ v (subst (λ (z : Bool). kind_of z 6 s o ≡ copied Oldest (vector_at z 6 s o) 2 0) (sym d) (kind_6_deep s o 6 refl)) e q

pub six_flat : (deep : Bool) (s o : List ℕ) (w x y i : ℕ) → deep ≡ false → Data 0 ≡ source deep (kind_of deep 6 s o) s w x y i
unfolding source kind_of kinds
six_flat deep s o w x y i d = rw d

pub last_deep : (deep : Bool) (s o : List ℕ) (w x y i j : ℕ) → deep ≡ true → j ≡ raster_index w x y i → Copied Oldest j ≡ source deep (kind_of deep 15 s o) s w x y i
unfolding source kind_of kinds
last_deep deep s o w x y i j d e = rw (d, e)

pub last_flat : (deep : Bool) (s o : List ℕ) (w x y i j : ℕ) → deep ≡ false → j ≡ dither_source i → Data j ≡ source deep (kind_of deep 15 s o) s w x y i
unfolding source kind_of kinds
last_flat deep s o w x y i j d e = rw (d, e)

-- ---- every source is there

-- a pixel of an 8x8 that lies inside a picture is one of the picture's
pub raster_below : (w h x y i : ℕ) → x + 8 ≤ w → y + 8 ≤ h → i < 64 → raster_index w x y i < h * w
unfolding raster_index
raster_below w h x y i across down l =
    let a : y + i / 8 + 1 ≤ h = omega arith in
    omega (arith, mul-le-mul_right w a, add-mul (y + i / 8) 1 w)

-- the pictures hold the size
pub record Rooms (w h last new oldest : ℕ) : Type 0 where
  pub in_last : h * w ≤ last
  pub in_new : h * w ≤ new
  pub in_oldest : h * w ≤ oldest

pub in_room : (w h last new oldest : ℕ) → Rooms w h last new oldest → (p : Picture) (j : ℕ) → j < h * w → j < pictured p last new oldest
in_room w h last new oldest r Last j l = omega (arith, r.in_last)
in_room w h last new oldest r New j l = omega (arith, r.in_new)
in_room w h last new oldest r Oldest j l = omega (arith, r.in_oldest)

module _ (deep : Bool) (s : List ℕ) (w h x y i last new oldest : ℕ) (across : x + 8 ≤ w) (down : y + 8 ≤ h) (l : i < 64) (room : Rooms w h last new oldest) where
  copied_below : (v : Vector) → points_inside v w h x y ≡ true → copied_index v w x y i < h * w
  unfolding copied_index
  copied_below v p =
      let q = inside_each v w h x y p in
      raster_below w h _ _ i (omega (arith, q.left, q.right)) (omega (arith, q.up, q.down)) l

  kind_among : (κ : Kind) → is_refused κ ≡ false → data_length deep κ ≤ length s → copy_inside κ w h x y ≡ true → Among deep (source deep κ s w x y i) (length s) last new oldest
  unfolding source is_refused data_length copy_inside
  kind_among (same p) r d c = in_room w h last new oldest room p _ (raster_below w h x y i across down l)
  kind_among kept r d c = in_room w h last new oldest room Oldest _ (raster_below w h x y i across down l)
  kind_among (copied p v n m) r d c = in_room w h last new oldest room p _ (copied_below v c)
  kind_among (patterned g) r d c = omega (arith, form_inside deep g s i l)
  kind_among (celled a) r d c = omega (arith, colour_within deep _ _ (cell_inside (pixels a) i (a, refl) l))
  kind_among dithered r d c = omega (arith, colour_within deep _ _ (dither_below i))
  kind_among refused r d c = absurd (let z : ◌≡◌ {A = ℕ} 0 1 = cc in let y : ⊥ = omega arith in y)

  -- the source of each pixel of a block of any code but 6 of an 8-bit film
  pub source_among : (o : List ℕ) (code : ℕ) (u : Source) → Readable deep code s o w h x y i → (deep ≡ false → code ≡ 6 → ⊥) → u ≡ source deep (kind_of deep code s o) s w x y i
      → Among deep u (length s) last new oldest
  source_among o code u r n e = rw e (kind_among (kind_of deep code s o) (code_known s o deep code r.known n) r.there r.inside)
