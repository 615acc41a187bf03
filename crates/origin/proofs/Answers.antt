-- What a trace answers, by what code found.
-- Assumes nothing.
use mathlib.Core.Path.{◌≡◌, refl, sym}
use mathlib.Core.Bool.{true, false}
use mathlib.Core.List.{List}
use Prim.Native.Nat.{ℕ, ◌+◌, ◌*◌, ◌/◌, ◌%◌, ◌≤◌, ◌<◌, zero-le}
use borrow.Author.Tests.{le-leb, lt-leb, le-ltb}
use Rattle.refusal.specs.Number.{accept, refuse}
use Rattle.block.specs.declared.Picture.{Picture}
use Rattle.block.specs.declared.Source.{Source}
use Rattle.block.specs.declared.Source.TheVariants.{Data, Copied}
use Rattle.packet.specs.Packet.{Packet, packet, blocks, pixels, width, code, start}
use Rattle.packet.specs.Verdict.{and_then, default, legal_size, verdict_in, verdict}
use Rattle.draw.specs.Call.{call_verdict_in, call_verdict}
use Rattle.draw.proofs.Judged.{accepted_call}
use Rattle.origin.specs.declared.Origin.{Origin}
use Rattle.origin.specs.declared.Origin.TheVariants.{Byte}
use Rattle.book.specs.Picture.{source_at}
use Rattle.origin.specs.Trace.{block_at, pixel_at, picture_origin, named, origin_of, Answer, found, refused, found_at, position_verdict, trace_verdict, answered, trace_of}
use Rattle.origin.specs.Asked.{Traceable}

-- ---- an accepted packet, by the source that was read

module _ (p : Packet) (x y c at j : ℕ) (u : Source) (ec : c ≡ code p (block_at p.columns x y)) (ea : at ≡ (start p (block_at p.columns x y)).bytes)
    (eu : u ≡ source_at p (block_at p.columns x y) (pixel_at x y)) where
  -- o: what the source is called
  named_so : (v : Source) (o : Origin) → u ≡ v → o ≡ named (width p) at v → found (block_at p.columns x y) c o ≡ found_at p x y
  unfolding found_at origin_of
  named_so v o e q = rw (q, ec, ea, ← e, eu)

  pub found_byte : u ≡ Data j → found (block_at p.columns x y) c (Byte (at + j)) ≡ found_at p x y
  unfolding named
  found_byte e = named_so (Data j) (Byte (at + j)) e refl

  pub found_pixel : (picture : Picture) (o : Origin) → u ≡ Copied picture j → o ≡ picture_origin picture (j % width p) (j / width p)
      → found (block_at p.columns x y) c o ≡ found_at p x y
  unfolding named
  found_pixel picture o e q = named_so (Copied picture j) o e q

-- ---- the tests in order

-- where the size is legal and the pictures are long enough, they are those of the check
pub as_checked : (columns rows : ℕ) (map bytes : List ℕ) (front back : ℕ) → legal_size columns rows ≡ true → pixels columns rows ≤ front → pixels columns rows ≤ back
    → verdict default columns rows map bytes ≡ call_verdict default columns rows map bytes front back 0
unfolding verdict_in call_verdict_in
as_checked columns rows map bytes front back e f b =
    rw (e, le-ltb _ _ f, le-ltb _ _ b, le-ltb (blocks (packet columns rows map bytes)) 0 zero-le)

module _ (columns rows : ℕ) (map bytes : List ℕ) (front back x y : ℕ) where
  pub refused_as : (n k : ℕ) → refuse n k ≡ call_verdict default columns rows map bytes front back 0 → refused n k ≡ trace_of columns rows map bytes front back x y
  unfolding answered trace_verdict and_then
  refused_as n k e = rw (← e)

  module _ (e : accept ≡ call_verdict default columns rows map bytes front back 0) where
    pub right_of : 8 * columns ≤ x → refused 22 0 ≡ trace_of columns rows map bytes front back x y
    unfolding answered trace_verdict and_then position_verdict
    right_of h = rw (← e, le-leb _ _ h)

    module _ (across : x < 8 * columns) where
      pub below_of : 8 * rows ≤ y → refused 22 0 ≡ trace_of columns rows map bytes front back x y
      unfolding answered trace_verdict and_then position_verdict
      below_of h = rw (← e, lt-leb _ _ across, le-leb _ _ h)

      module _ (down : y < 8 * rows) where
        pub traceable : Traceable (packet columns rows map bytes) x y
        traceable =
            let a = (accepted_call false default columns rows map bytes front 0 back 0 (sym e)).1 in
            record { flat = refl; sized = a.sized; taken = a.taken; across = across; down = down }

        pub found_as : (a : Answer) → a ≡ found_at (packet columns rows map bytes) x y → a ≡ trace_of columns rows map bytes front back x y
        unfolding answered trace_verdict and_then position_verdict
        found_as a q = rw (← e, lt-leb _ _ across, lt-leb _ _ down) q
