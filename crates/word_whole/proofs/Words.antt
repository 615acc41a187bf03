-- What each function that stores a whole block of words asks: its room in the pictures, and what its pixels become by its code. The laws of families are those of `whole`.
-- Assumes nothing.
use mathlib.Core.Path.{◌≡◌, refl, sym, ap, ◌∙◌}
use mathlib.Core.Bool.{true, false, false≢true, true≢false}
use mathlib.Core.List.{List}
use Prim.Native.Nat.{ℕ, ◌+◌, ◌-◌, ◌*◌, ◌≤◌, ◌<◌}
use native.Mathlib.Decide.{ℕ_discrete}
use native.Mathlib.Omega.{arith}
use borrow.Author.Tests.{ne_eqb, eqb-false, ltb-false}
use lib.Dec.{eqb, ltb}
use lib.ListN.{length, get_or}
use Rattle.words.proofs.Tests.{not_first}
use Rattle.motion.specs.declared.Vector.{Vector}
use Rattle.motion.specs.Motion.{vector, points_inside, raster_index, copied_index, Short}
use Rattle.motion.proofs.Vectors.{inside_all}
use Rattle.block.specs.declared.Picture.{Picture}
use Rattle.block.specs.declared.Picture.TheVariants.{Last, New, Oldest}
use Rattle.block.specs.declared.Source.{Source}
use Rattle.block.specs.declared.Source.TheVariants.{Copied}
use Rattle.block.specs.Block.{kinds, kind_of, copy_inside, source, stored, pictured, fetched}
use Rattle.block.specs.Asked.{first_offset, vector_at}
use Rattle.block.proofs.Codes.{each_code, kind_3}
use Rattle.stores.specs.Stores.{Plan, first_pixels}
use Rattle.stores.specs.Loop.{Begun}
use Rattle.paint.specs.Value.{older, pixel_value, word_plan}
use Rattle.paint.specs.Asked.{Canvas, WordCanvas, WordDrawable}
use Rattle.paint.proofs.Counts.{count_deep}
use Rattle.rows.specs.Row.{Block, Fixed, Disjoint}
use Rattle.whole.specs.Asked.{Pointed, Reached}
use Rattle.whole.proofs.Families.{copy_pointed, copy_clear, copied_apart, copied_block, reached}
use Rattle.word_whole.specs.Older.{is_older, older_picture, older_vector}

-- ---- the pictures

module _ {w h x y last new oldest : ℕ} (c : WordCanvas w h x y last new oldest) where
  pub last_canvas : Canvas w h x y last new
  last_canvas = record { width = c.width; height = c.height; across = c.across; down = c.down; front_room = c.last_room; back_room = c.new_room }

  new_canvas : Canvas w h x y new new
  new_canvas = record { width = c.width; height = c.height; across = c.across; down = c.down; front_room = c.new_room; back_room = c.new_room }

-- ---- the codes that are copied

-- a code that copies an older picture: the source of each pixel, that the 8x8 lies inside, and its room
record Copy (s o last oldest : List ℕ) (w h x y code : ℕ) : Type 0 where
  picture : Picture
  fixed : (new : List ℕ) → older_picture last oldest code ≡ pictured picture last new oldest
  each : (i : ℕ) → Copied picture (copied_index (older_vector code s o) w x y i) ≡ source true (kind_of true code s o) s w x y i
  inside : copy_inside (kind_of true code s o) w h x y ≡ true → points_inside (older_vector code s o) w h x y ≡ true
  room : h * w ≤ length (older_picture last oldest code)

copy : (s o last oldest : List ℕ) {w h x y new : ℕ} → WordCanvas w h x y (length last) new (length oldest) → (code : ℕ) → code < 16 → is_older code ≡ true → Copy s o last oldest w h x y code
unfolding is_older older_picture older_vector kind_of kinds vector_at first_offset source copy_inside copied_index
copy s o last oldest {w} {h} {x} {y} c =
    each_code (λ (code : ℕ). is_older code ≡ true → Copy s o last oldest w h x y code)
    (λ e. record { picture = Last; fixed = λ new. refl; each = same Last; inside = λ p. still; room = c.last_room })
    (λ e. record { picture = Oldest; fixed = λ new. refl; each = same Oldest; inside = λ p. still; room = c.oldest_room })
    (λ e. record { picture = Oldest; fixed = λ new. refl; each = λ i. refl; inside = λ p. p; room = c.oldest_room })
    other
    (λ e. record { picture = Last; fixed = λ new. refl; each = λ i. refl; inside = λ p. p; room = c.last_room })
    (λ e. record { picture = Last; fixed = λ new. refl; each = λ i. refl; inside = λ p. p; room = c.last_room })
    (λ e. record { picture = Oldest; fixed = λ new. refl; each = λ i. refl; inside = λ p. p; room = c.oldest_room })
    other other other other other other other other
    (λ e. record { picture = Oldest; fixed = λ new. refl; each = same Oldest; inside = λ p. still; room = c.oldest_room })
  where
    other : {A : Type 0} → false ≡ true → A
    other e = absurd (false≢true e)

    same : (p : Picture) (i : ℕ) → Copied p (copied_index (vector 0 0 0 0) w x y i) ≡ Copied p (raster_index w x y i)
    same p i = rw (let a : x + 0 - 0 ≡ x = omega arith in a, let a : y + 0 - 0 ≡ y = omega arith in a)

    still : points_inside (vector 0 0 0 0) w h x y ≡ true
    still = sym (inside_all (vector 0 0 0 0) w h x y (record { left = omega arith; right = omega (arith, c.across); up = omega arith; down = omega (arith, c.down) }))

-- of the codes that copy no older picture the one that is none of 7 to E
lone : (code : ℕ) → code < 16 → is_older code ≡ false → (6 < code → 14 < code) → code ≡ 3
unfolding is_older
lone code l e n =
    elim (ℕ_discrete code 3) [
      | yes k ↦ k
      | no m ↦ let f = not_first (eqb code 15) true (ltb code 7) false true≢false (rw (ne_eqb code 3 m) at e) in omega (arith, n (ltb-false code 7 f.1), eqb-false code 15 f.0)
    ]

-- what a block that is copied asks
module _ {code : ℕ} {s o : List ℕ} {w h x y : ℕ} (d : WordDrawable code s o w h x y 64) (last oldest : List ℕ) {p : Plan} (e : p ≡ word_plan code s o last oldest w x y) where
  -- from an older picture
  pub older_block : (t : List ℕ) (v : Vector) {new : ℕ} → WordCanvas w h x y (length last) new (length oldest) → is_older code ≡ true → t ≡ older_picture last oldest code → v ≡ older_vector code s o
      → Fixed p w x y (λ i. stored true (get_or t (copied_index v w x y i) 0))
  unfolding fetched pixel_value
  older_block t v c f g q =
      let k = copy s o last oldest c code d.known f in
      rw e
      (record {
        all = d.count;
        targets = λ i l. refl;
        values = λ i l b.
            let r : Copied k.picture (copied_index v w x y i) ≡ source true (kind_of true code s o) s w x y i = rw q (k.each i) in
            ap (λ (u : List ℕ). stored true (get_or u (copied_index v w x y i) 0)) (g ∙ k.fixed b) ∙ ap (λ (u : Source). fetched true u s last b oldest) r;
      })

  pub older_reached : (t : List ℕ) (v : Vector) {new : ℕ} → WordCanvas w h x y (length last) new (length oldest) → is_older code ≡ true → t ≡ older_picture last oldest code
      → (v ≡ older_vector code s o) × Short v → Reached v w x y (length t) new
  older_reached t v {new} c f g (q, short) =
      let k = copy s o last oldest c code d.known f in
      let a : Canvas w h x y (length t) new = record { width = c.width; height = c.height; across = c.across; down = c.down; front_room = rw g k.room; back_room = c.new_room } in
      let i : Pointed v w h x y = record { short = short; inside = rw q (k.inside d.inside) } in
      reached a i

  -- from the new one
  pub new_asked : {v : Vector} {new : ℕ} → WordCanvas w h x y (length last) new (length oldest) → is_older code ≡ false → (6 < code → 14 < code) → (v ≡ vector_at true code s o) × Short v
      → Block p w x y (λ i b. stored true (get_or b (copied_index v w x y i) 0)) × Reached v w x y new new × Disjoint (copied_index v w x y 0) (raster_index w x y 0)
  new_asked {v} c f n (q, short) =
      let k : code ≡ 3 = lone code d.known f n in
      let i = copy_pointed d v (omega arith) (omega arith) q short in (
        copied_block d (older last oldest) e New v 0 1 (kind_3 true s o code k) q,
        reached (new_canvas c) i,
        copied_apart (new_canvas c) i (copy_clear true code s o v (omega arith) (omega arith) q),
      )

  -- all pixels stand
  pub all_begun : (b b' : List ℕ) → b' ≡ first_pixels p 0 b 64 → Begun p 0 (p.size 0) b'
  all_begun b b' k = record { found = b; made = k ∙ ap (first_pixels p 0 b) (count_deep s o code d.known ∙ sym (ap (λ (q : Plan). q.size 0) e)) }
