-- Each family of blocks: what its function asks, its room in the pictures and the sources of its pixels. The laws are for both widths where none says otherwise.
-- Assumes nothing.
use mathlib.Core.Path.{◌≡◌, refl, sym, ap, ◌∙◌, subst}
use mathlib.Core.Logic.{◌⊎◌, inl, inr, ⊎_elim}
use mathlib.Core.Bool.{Bool, false, cond}
use mathlib.Core.List.{List, []}
use Prim.Native.Nat.{ℕ, zero, suc, ◌+◌, ◌-◌, ◌*◌, ◌≤◌, ◌<◌}
use native.Mathlib.Omega.{arith}
use native.Mathlib.Nat.{mul-le-mul_right}
use lib.ListN.{length, get_or}
use Rattle.pattern.specs.declared.Form.{Form}
use Rattle.pattern.specs.Form.{shape}
use Rattle.pattern.specs.Pattern.{pattern_source}
use Rattle.motion.specs.declared.Vector.{Vector}
use Rattle.motion.specs.Motion.{ahead_vector, negated, raster_index, copied_index, Short, Onward}
use Rattle.motion.proofs.Vectors.{ahead_onward, negated_twice, inside_each, onward_past}
use Rattle.block.specs.declared.Picture.{Picture}
use Rattle.block.specs.declared.Picture.TheVariants.{Last, New, Oldest}
use Rattle.block.specs.declared.Source.{Source}
use Rattle.block.specs.declared.Source.TheVariants.{Data, Copied}
use Rattle.block.specs.Block.{Side, one, pixels, Kind, same, copied, patterned, celled, dithered, kind_of, byte_kind, colour_bytes, data_length, cell_source, dither_source, source, colour_at, stored, pictured, fetched}
use Rattle.block.specs.Asked.{last_copied, first_offset, vector_at}
use Rattle.block.proofs.Codes.{kind_0, kind_1, kind_2, kind_3, kind_4, kind_5, copy_judged}
use Rattle.pixel.proofs.Sources.{same_source, copied_source, form_source_is, cell_source_is}
use Rattle.stores.specs.Stores.{Plan}
use Rattle.paint.specs.Value.{pixel_count, Older, flat, pixel_value, block_plan, plan_of}
use Rattle.paint.specs.Asked.{Square, Canvas, Drawable, ByteDrawable}
use Rattle.rows.specs.Row.{colour, Block, Disjoint}
use Rattle.rows.proofs.Colours.{raw_source}
use Rattle.whole.specs.Asked.{Pointed, Reached, Clear}

-- ---- the picture

module _ (w h x y front back : ℕ) (c : Canvas w h x y front back) where
  tall : (y + 8) * w ≤ h * w
  tall = mul-le-mul_right w c.down

  pub front_square : Square w x y front
  front_square =
      record { width = c.width; across = c.across; down = omega (arith, c.down, c.height); room = omega (arith, tall, c.front_room) }

  pub back_square : Square w x y back
  back_square =
      record { width = c.width; across = c.across; down = omega (arith, c.down, c.height); room = omega (arith, tall, c.back_room) }

  pub back_canvas : Canvas w h x y back back
  back_canvas =
      record { width = c.width; height = c.height; across = c.across; down = c.down; front_room = c.back_room; back_room = c.back_room }

  -- the 8x8 that a vector points at
  module _ (v : Vector) (p : Pointed v w h x y) where
    pub starts : (v.left ≤ x + v.right) × (v.up ≤ y + v.down)
    starts = let i = inside_each v w h x y p.inside in (i.left, i.up)

    pointed_canvas : Canvas w h (x + v.right - v.left) (y + v.down - v.up) front back
    pointed_canvas =
        let i = inside_each v w h x y p.inside in
        record {
          width = c.width;
          height = c.height;
          across = omega (arith, i.left, i.right);
          down = omega (arith, i.up, i.down);
          front_room = c.front_room;
          back_room = c.back_room;
        }

    -- none of its rows overlaps the block's
    pub pointed_apart : Clear v → Disjoint (raster_index w (x + v.right - v.left) (y + v.down - v.up) 0) (raster_index w x y 0)
    unfolding negated
    pointed_apart clear =
        let i = inside_each v w h x y p.inside in
        let x' : ℕ = x + v.right - v.left in
        let y' : ℕ = y + v.down - v.up in
        ⊎_elim
        (λ on. omega (arith, onward_past w x y x' y' v on c.across (omega (arith, i.left)) (omega (arith, i.up))))
        (λ on. omega (arith, onward_past w x' y' x y (negated v) on (omega (arith, i.left, i.right)) (omega (arith, i.left)) (omega (arith, i.up))))
        clear

pub pointed_front : (w h x y front back : ℕ) → Canvas w h x y front back → (v : Vector) → Pointed v w h x y → Square w (x + v.right - v.left) (y + v.down - v.up) front
pointed_front w h x y front back c v p = front_square _ _ _ _ _ _ (pointed_canvas w h x y front back c v p)

-- ---- what each kind asks

-- codes 2 and 3, 4 and 5
two_three : (c : ℕ) → 1 < c → c < 4 → (c ≡ 2) ⊎ (c ≡ 3)
two_three zero g l = absurd (let z : ⊥ = omega arith in z)
two_three (suc zero) g l = absurd (let z : ⊥ = omega arith in z)
two_three (suc (suc zero)) g l = inl refl
two_three (suc (suc (suc zero))) g l = inr refl
two_three (suc (suc (suc (suc c)))) g l = absurd (let z : ⊥ = omega arith in z)

pub four_five : (c : ℕ) → 3 < c → c < 6 → (c ≡ 4) ⊎ (c ≡ 5)
four_five c g l = ⊎_elim (λ e. inl (omega (arith, e))) (λ e. inr (omega (arith, e))) (two_three (c - 2) (omega arith) (omega arith))

-- the vector of code 2 or 3 leads on or back
pub copy_clear : (deep : Bool) (code : ℕ) (s o : List ℕ) (v : Vector) → 1 < code → code < 4 → v ≡ vector_at deep code s o → Clear v
unfolding vector_at
copy_clear deep code s o v g l e = ⊎_elim (λ k. inl (subst Onward (sym (e ∙ ahead_is k)) (ahead_onward _))) (λ k. inr (subst Onward (sym (ap negated (e ∙ behind_is k) ∙ negated_twice _)) (ahead_onward _))) (two_three code g l)
  where
    ahead_is : code ≡ 2 → vector_at deep code s o ≡ ahead_vector (first_offset deep code s o)
    ahead_is k = rw k

    behind_is : code ≡ 3 → vector_at deep code s o ≡ negated (ahead_vector (first_offset deep code s o))
    behind_is k = rw k

-- in an 8-bit film the vector is that of the block's kind, which has no second part
pub vector_flat : (code : ℕ) (s o : List ℕ) → vector_at false code s o ≡ vector_at false code s []
unfolding vector_at first_offset
vector_flat code s o = refl

module _ {deep : Bool} {code : ℕ} {s o : List ℕ} {w h x y n : ℕ} (d : Drawable deep code s o w h x y n) where
  -- the vector of a copied block points inside
  pub copy_pointed : (v : Vector) → 1 < code → code ≤ last_copied deep → v ≡ vector_at deep code s o → Short v → Pointed v w h x y
  copy_pointed v g l e t = record { short = t; inside = copy_judged s o deep code w h x y v _ g l e refl ∙ d.inside }

  -- the data bytes of its kind are there
  pub there : (κ : Kind) → kind_of deep code s o ≡ κ → data_length deep κ ≤ length s
  there κ k = subst (λ (z : Kind). data_length deep z ≤ length s) k d.there

-- code 1 of an 8-bit film stores nothing, so where pixels are stored and the code is below 2, it is 0
pub same_kind : {code : ℕ} {s : List ℕ} {w h x y n : ℕ} → ByteDrawable code s w h x y n → code < 2 → 0 < n → byte_kind code s ≡ same Last
unfolding pixel_count
same_kind {code} {s} {n = n} d l g = ⊎_elim (λ z. kind_0 false s [] code z) (λ z. absurd (let m : n ≤ 0 = subst (λ (k : Kind). n ≤ pixel_count k) (kind_1 false s [] code z) d.count in let y : ⊥ = omega arith in y)) (below_2 code l)
  where
    below_2 : (c : ℕ) → c < 2 → (c ≡ 0) ⊎ (c ≡ 1)
    below_2 zero h = inl refl
    below_2 (suc zero) h = inr refl
    below_2 (suc (suc c)) h = absurd (let z : ⊥ = omega arith in z)

-- ---- what each family's function asks

-- the 8x8 that a vector points at
pub reached : {w h x y from to : ℕ} → Canvas w h x y from to → {v : Vector} → Pointed v w h x y → Reached v w x y from to
reached {w} {h} {x} {y} {from} {to} c {v} p =
    record {
      short = p.short;
      right = (starts w h x y from to c v p).0;
      down = (starts w h x y from to c v p).1;
      source = pointed_front w h x y from to c v p;
      room = back_square w h x y from to c;
    }

-- none of its rows overlaps the block's
pub copied_apart : {w h x y front back : ℕ} → Canvas w h x y front back → {v : Vector} → Pointed v w h x y → Clear v → Disjoint (copied_index v w x y 0) (raster_index w x y 0)
unfolding copied_index
copied_apart {w} {h} {x} {y} {front} {back} c {v} p clear = pointed_apart w h x y front back c v p clear

module _ {deep : Bool} {code : ℕ} {s o : List ℕ} {w h x y : ℕ} (d : Drawable deep code s o w h x y 64) (older : Older) {p : Plan} (e : p ≡ block_plan deep (kind_of deep code s o) s w x y older) where
  -- what each pixel becomes: what stands at its source
  block_of : (from : ℕ → Source) → ((i : ℕ) → from i ≡ source deep (kind_of deep code s o) s w x y i) → (value : ℕ → List ℕ → ℕ)
      → ((i : ℕ) (b : List ℕ) → value i b ≡ fetched deep (from i) s older.last b (cond deep older.oldest b)) → Block p w x y value
  unfolding pixel_value
  block_of from f value v =
      rw e
      (record {
        all = d.count;
        targets = λ i l. refl;
        values = λ i l b. v i b ∙ ap (λ (u : Source). fetched deep u s older.last b (cond deep older.oldest b)) (f i);
      })

  pub same_block : (q : Picture) → kind_of deep code s o ≡ same q → Block p w x y (λ i b. stored deep (get_or (pictured q older.last b (cond deep older.oldest b)) (raster_index w x y i) 0))
  unfolding fetched
  same_block q k = block_of (λ i. Copied q (raster_index w x y i)) (λ i. same_source deep (kind_of deep code s o) s w x y i q _ k refl) _ (λ i b. refl)

  pub copied_block : (q : Picture) (v : Vector) (n m : ℕ) → kind_of deep code s o ≡ copied q (vector_at deep code s o) n m → v ≡ vector_at deep code s o
      → Block p w x y (λ i b. stored deep (get_or (pictured q older.last b (cond deep older.oldest b)) (copied_index v w x y i) 0))
  unfolding fetched
  copied_block q v n m k f =
      block_of (λ i. Copied q (copied_index v w x y i)) (λ i. copied_source deep (kind_of deep code s o) s w x y i q _ n m _ v k f refl) _ (λ i b. refl)

  pub form_block : (f : Form) → kind_of deep code s o ≡ patterned f → Block p w x y (λ i b. stored deep (colour_at deep s (pattern_source (shape deep f) s i)))
  unfolding fetched
  form_block f k =
      block_of (λ i. Data (pattern_source (shape deep f) s i)) (λ i. form_source_is deep (kind_of deep code s o) s w x y i _ f k refl) _ (λ i b. refl)

  pub cell_block : (c : Side) → kind_of deep code s o ≡ celled c → Block p w x y (λ i b. colour deep s (cell_source (pixels c) i))
  unfolding fetched
  cell_block c k =
      block_of (λ i. Data (colour_bytes deep (cell_source (pixels c) i))) (λ i. cell_source_is deep (kind_of deep code s o) s w x y i _ _ c k refl refl) _ (λ i b. refl)

  -- code B: a colour a pixel
  pub raw_block : kind_of deep code s o ≡ celled one → Block p w x y (λ i b. colour deep s i)
  unfolding fetched
  raw_block k =
      block_of (λ i. Data (colour_bytes deep (cell_source 1 i))) (λ i. cell_source_is deep (kind_of deep code s o) s w x y i _ _ one k refl refl) _
      (λ i b. ap (colour deep s) (raw_source i))

-- of an 8-bit film
module _ {code : ℕ} {s : List ℕ} {w h x y : ℕ} (d : ByteDrawable code s w h x y 64) (front : List ℕ) {p : Plan} (e : p ≡ plan_of code s front w x y) where
  -- codes 2 and 3 copy the picture that is drawn on, 4 and 5 the last, by the vector of their kind
  pub back_block : (v : Vector) → 1 < code → code < 4 → v ≡ vector_at false code s [] → Block p w x y (λ i b. get_or b (copied_index v w x y i) 0)
  back_block v g l f =
      ⊎_elim (λ k. copied_block d (flat front) e Oldest v 1 0 (kind_2 false s [] code k) f)
      (λ k. copied_block d (flat front) e New v 1 0 (kind_3 false s [] code k) f)
      (two_three code g l)

  pub front_block : (v : Vector) → 3 < code → code < 6 → v ≡ vector_at false code s [] → Block p w x y (λ i b. get_or front (copied_index v w x y i) 0)
  front_block v g l f =
      ⊎_elim (λ k. copied_block d (flat front) e Last v 1 0 (kind_4 false s [] code k) f)
      (λ k. copied_block d (flat front) e Last v 2 0 (kind_5 false s [] code k) f)
      (four_five code g l)

  pub dither_block : byte_kind code s ≡ dithered → Block p w x y (λ i b. get_or s (dither_source i) 0)
  unfolding fetched source
  dither_block k = block_of d (flat front) e (λ i. Data (dither_source i)) (λ i. ap (λ (κ : Kind). source false κ s w x y i) (sym k)) _ (λ i b. refl)
