-- The byte or the pixel that a trace names is the one that the rules read, and it holds the value that the pixel has in the picture of demand 2:
-- `explains`. That each pixel of this picture has what stands at its source, and that code 3 reads an earlier block, are laws of `book/proofs/Picture`.
-- Assumes nothing.
use mathlib.Core.Path.{◌≡◌, refl, sym, ap, ◌∙◌, subst}
use mathlib.Core.Bool.{Bool, true, false, cond}
use mathlib.Core.List.{List, []}
use Prim.Native.Nat.{ℕ, ◌*◌, ◌/◌, ◌%◌, ◌+◌, ◌≤◌, ◌<◌}
use native.Mathlib.Nat.{div-add-mod', mod-lt, div-lt_iff_lt-mul}
use native.Mathlib.Omega.{arith}
use borrow.Author.Tests.{leb-false}
use lib.ListN.{length, get_or, length-drop}
use lib.Seq.{get_or-drop}
use Rattle.words.proofs.Tests.{not_first}
use Rattle.refusal.specs.Number.{Verdict, accept, refuse}
use Rattle.block.specs.declared.Picture.{Picture}
use Rattle.block.specs.declared.Picture.TheVariants.{Last, New, Oldest}
use Rattle.block.specs.declared.Source.{Source}
use Rattle.block.specs.declared.Source.TheVariants.{Data, Copied}
use Rattle.block.specs.Block.{kinds, kind_of, source, fetched}
use Rattle.block.proofs.Codes.{each_code}
use Rattle.paint.specs.Value.{flat}
use Rattle.packet.proofs.Walk.{code_below}
use Rattle.block.specs.Asked.{Among}
use Rattle.packet.specs.Packet.{Packet, packet, blocks, width, height, left, top, code, start, data_of, offsets_of, kind, block_of}
use Rattle.packet.specs.Verdict.{and_then, default}
use Rattle.packet.specs.Accepted.{Whole}
use Rattle.packet.specs.Asked.{Sized}
use Rattle.draw.specs.Drawing.{target_at}
use Rattle.draw.proofs.Judged.{accepted_call}
use Rattle.book.specs.Picture.{source_at, stands_at}
use Rattle.book.proofs.Picture.{reads_earlier, decoded}
use Rattle.origin.specs.declared.Origin.{Origin}
use Rattle.origin.specs.Trace.{block_at, pixel_at, picture_origin, named, origin_of, found, found_at, position_verdict, trace_verdict, answered, trace_of}
use Rattle.origin.specs.Asked.{Traceable}
use Rattle.origin.specs.Explains.{index_at, new_picture, stands, There, Read, Explains}
use Rattle.origin.proofs.Inside.{byte_below, pixel_few, column_is, row_is, index_is, inside, among}
use Rattle.origin.proofs.Answers.{traceable}

refuses : (n k : ℕ) → refuse n k ≡ accept → ⊥
refuses n k e = let z : ◌≡◌ {A = ℕ} 0 1 = cc in omega arith

-- ---- which code reads which picture, in an 8-bit film

module _ (s o : List ℕ) (w x y i j : ℕ) where
  another : {A : Type 0} (a b : Picture) (n : ℕ) → (a ≡ b → ⊥) → Copied a n ≡ Copied b j → A
  another a b n f e = absurd (f cc)

  no_data : {A : Type 0} (n : ℕ) → Data n ≡ Copied New j → A
  no_data n e = absurd (let z : ◌≡◌ {A = ℕ} 0 1 = cc in let y : ⊥ = omega arith in y)

  last_new : Last ≡ New → ⊥
  last_new e = let z : ◌≡◌ {A = ℕ} 0 1 = cc in omega arith

  oldest_new : Oldest ≡ New → ⊥
  oldest_new e = let z : ◌≡◌ {A = ℕ} 0 1 = cc in omega arith

  New3 : ℕ → Type 0
  New3 c = source false (kind_of false c s o) s w x y i ≡ Copied New j → c ≡ 3

  reads_new : (c : ℕ) → c < 16 → source false (kind_of false c s o) s w x y i ≡ Copied New j → c ≡ 3
  unfolding New3 kind_of kinds source
  reads_new =
      each_code New3 (another Last New _ last_new) (another Oldest New _ oldest_new) (another Oldest New _ oldest_new) (λ e. refl) (another Last New _ last_new) (another Last New _ last_new)
      (no_data _) (no_data _) (no_data _) (no_data _) (no_data _) (no_data _) (no_data _) (no_data _) (no_data _) (no_data _)

  reads_oldest : (c : ℕ) → source false (kind_of false c s o) s w x y i ≡ Copied Oldest j → c ≡ 3 → ⊥
  unfolding kind_of kinds source
  reads_oldest c e q =
      let f : source false (kind_of false 3 s o) s w x y i ≡ Copied Oldest j = rw q at e in
      let g : Oldest ≡ New = cc in oldest_new g

-- the same of any film that has no true colour
module _ (deep : Bool) (d : deep ≡ false) (s o : List ℕ) (w x y i j : ℕ) where
  pub is_3 : (c : ℕ) → c < 16 → source deep (kind_of deep c s o) s w x y i ≡ Copied New j → c ≡ 3
  is_3 c l e = reads_new s o w x y i j c l (subst (λ (z : Bool). source z (kind_of z c s o) s w x y i ≡ Copied New j) d e)

  pub not_3 : (c : ℕ) → source deep (kind_of deep c s o) s w x y i ≡ Copied Oldest j → c ≡ 3 → ⊥
  not_3 c e = reads_oldest s o w x y i j c (subst (λ (z : Bool). source z (kind_of z c s o) s w x y i ≡ Copied Oldest j) d e)

-- what stands at a source, where the oldest picture is the one drawn on as it was lent
fetched_flat : (deep : Bool) → deep ≡ false → (u : Source) (s last new oldest back : List ℕ) → fetched false u s last new back ≡ fetched deep u s last new (cond deep oldest back)
fetched_flat false d u s last new oldest back = refl
fetched_flat true d u s last new oldest back = absurd (let z : ◌≡◌ {A = ℕ} 0 1 = cc in let y : ⊥ = omega arith in y)

-- ---- block k, pixel i

module _ (p : Packet) (d : p.deep ≡ false) (z : Sized p) (w : Whole p) (front back : List ℕ) (k i : ℕ) (hk : k < blocks p) (hi : i < 64) where
  again : (t : ℕ) (b : List ℕ) → get_or b (t / width p * width p + t % width p) 0 ≡ get_or b t 0
  again t b = ap (λ (n : ℕ). get_or b n 0) (div-add-mod' t (width p))

  -- what stands at a source by its name
  stands_named : (u : Source) → stands p front back (named (width p) (start p k).bytes u) ≡ fetched false u (data_of p k) front (new_picture p front back) back
  unfolding stands named picture_origin fetched
  stands_named (Data j) = sym (get_or-drop (start p k).bytes p.bytes j 0)
  stands_named (Copied Last j) = again j front
  stands_named (Copied New j) = again j (new_picture p front back)
  stands_named (Copied Oldest j) = again j back

  pub holds : height p * width p ≤ length back → stands p front back (origin_of p k i) ≡ get_or (new_picture p front back) (target_at p k i) 0
  unfolding origin_of stands_at
  holds room =
      stands_named (source_at p k i) ∙ fetched_flat p.deep d (source_at p k i) (data_of p k) front (new_picture p front back) [] back
      ∙ sym ((decoded p z w (flat front) back room).drawn k i hk hi)

  -- it is what the rules read
  read_by : (u : Source) → source_at p k i ≡ u → Read p k i (named (width p) (start p k).bytes u)
  unfolding Read named picture_origin block_of block_at
  read_by (Data j) e = (j, e, refl)
  read_by (Copied Last j) e = e ∙ ap (Copied Last) (sym (div-add-mod' j (width p)))
  read_by (Copied New j) e = (
    e ∙ ap (Copied New) (sym (div-add-mod' j (width p))),
    is_3 p.deep d (data_of p k) (offsets_of p k) (width p) (left p k) (top p k) i j (code p k) (code_below p.map k) e,
    reads_earlier p z w k i j hk hi e,
  )
  read_by (Copied Oldest j) e = (
    e ∙ ap (Copied Oldest) (sym (div-add-mod' j (width p))),
    not_3 p.deep d (data_of p k) (offsets_of p k) (width p) (left p k) (top p k) i j (code p k) e,
  )

  pub read_is : Read p k i (origin_of p k i)
  unfolding origin_of
  read_is = read_by (source_at p k i) refl

  -- it is there
  pixel_there : (j : ℕ) → j < height p * width p → (j % width p < width p) × (j / width p < height p)
  pixel_there j l = let s : 0 < width p = omega (arith, z.some_columns) in (mod-lt j s, (div-lt_iff_lt-mul {x = j} {y = height p} s).1 l)

  pub there_by : (u : Source) → Among p.deep u (length (data_of p k)) (height p * width p) (height p * width p) (height p * width p) → There p (named (width p) (start p k).bytes u)
  unfolding There named picture_origin
  there_by (Data j) l = omega (arith, byte_below p.deep j _ l, length-drop (start p k).bytes p.bytes)
  there_by (Copied Last j) l = pixel_there j l
  there_by (Copied New j) l = pixel_there j l
  there_by (Copied Oldest j) l = pixel_there j l

-- ---- the pixel at x, y

module _ (p : Packet) (x y : ℕ) (t : Traceable p x y) (front back : List ℕ) (room : height p * width p ≤ length back) where
  abbrev at_block : ℕ
  at_block = block_at p.columns x y

  stands_at_lem : target_at p at_block (pixel_at x y) ≡ index_at (width p) x y
  unfolding target_at
  stands_at_lem = index_is p.columns p.rows x y t.across t.down

  there_at : There p (origin_of p at_block (pixel_at x y))
  unfolding origin_of
  there_at =
      there_by p t.flat t.sized t.taken front back at_block (pixel_at x y) (inside p x y t) (pixel_few x y) (source_at p at_block (pixel_at x y))
      (among p x y t (code p at_block) (start p at_block).bytes (data_of p at_block) (offsets_of p at_block) refl refl refl (source_at p at_block (pixel_at x y)) (sym (source_at_lem)))
    where
      source_at_lem : source p.deep (kind p at_block) (data_of p at_block) (width p) (8 * (x / 8)) (8 * (y / 8)) (pixel_at x y) ≡ source_at p at_block (pixel_at x y)
      source_at_lem = rw (column_is p.columns p.rows x y t.across t.down, row_is p.columns p.rows x y t.across t.down)

  explains_at : Explains p front back x y at_block (code p at_block) (origin_of p at_block (pixel_at x y))
  explains_at =
      let h = inside p x y t in
      let l = pixel_few x y in
      record {
        i = pixel_at x y;
        block = h;
        pixel = l;
        at = stands_at_lem;
        coded = refl;
        read = read_is p t.flat t.sized t.taken front back at_block (pixel_at x y) h l;
        there = there_at;
        holds = holds p t.flat t.sized t.taken front back at_block (pixel_at x y) h l room ∙ ap (λ (n : ℕ). get_or (new_picture p front back) n 0) stands_at_lem;
      }

-- ---- the answer

both : (v u : Verdict) → and_then v u ≡ accept → (v ≡ accept) × (u ≡ accept)
unfolding and_then
both accept u e = (refl, e)
both (refuse n k) u e = absurd (refuses n k e)

position_is : (columns rows x y : ℕ) → position_verdict columns rows x y ≡ accept → (x < 8 * columns) × (y < 8 * rows)
unfolding position_verdict
position_is columns rows x y e =
    let a = not_first _ _ _ _ (refuses 22 0) e in
    let b = not_first _ _ _ _ (refuses 22 0) a.1 in
    (leb-false _ _ a.0, leb-false _ _ b.0)

module _ (columns rows : ℕ) (map bytes front back : List ℕ) (x y : ℕ) where
  accepted_explains : trace_verdict columns rows map bytes (length front) (length back) x y ≡ accept
      → Explains (packet columns rows map bytes) front back x y (block_at columns x y) (code (packet columns rows map bytes) (block_at columns x y))
      (origin_of (packet columns rows map bytes) (block_at columns x y) (pixel_at x y))
  unfolding trace_verdict
  accepted_explains e =
      let v = both _ _ e in
      let i = position_is columns rows x y v.1 in
      explains_at (packet columns rows map bytes) x y (traceable columns rows map bytes (length front) (length back) x y (sym v.0) i.0 i.1) front back
      (accepted_call false default columns rows map bytes (length front) 0 (length back) 0 v.0).1.back_room

  -- what is found is so explained
  pub explains : (k c : ℕ) (o : Origin) → trace_of columns rows map bytes (length front) (length back) x y ≡ found k c o
      → Explains (packet columns rows map bytes) front back x y k c o
  unfolding answered found_at
  explains k c o e = by (trace_verdict columns rows map bytes (length front) (length back) x y) refl e
    where
      by : (v : Verdict) → trace_verdict columns rows map bytes (length front) (length back) x y ≡ v → answered v (packet columns rows map bytes) x y ≡ found k c o
          → Explains (packet columns rows map bytes) front back x y k c o
      by (refuse n b) q f = absurd (let z : ◌≡◌ {A = ℕ} 0 1 = cc in let y : ⊥ = omega arith in y)
      by accept q f =
          let ek : block_at columns x y ≡ k = cc in
          let ec : code (packet columns rows map bytes) (block_at columns x y) ≡ c = cc in
          let eo : origin_of (packet columns rows map bytes) (block_at columns x y) (pixel_at x y) ≡ o = cc in
          rw (← eo, ← ec, ← ek) (accepted_explains q)
