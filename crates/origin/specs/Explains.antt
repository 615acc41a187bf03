-- What the answer of a trace means: the byte or the pixel named is the one that the rules read, it is there, and it holds the value that the pixel has in
-- the picture of demand 2 (`proofs/Explains`).
-- Assumes nothing.
use Rattle.std.specs.Prelude.{◌≡◌, ◌≢◌, List, ℕ, ◌+◌, ◌*◌, ◌<◌, length, get_or}
use Rattle.block.specs.declared.Picture.TheVariants.{Last, New, Oldest}
use Rattle.block.specs.declared.Source.TheVariants.{Data, Copied}
use Rattle.packet.specs.Packet.{Packet, blocks, width, height, code, start}
use Rattle.stores.specs.Stores.{final}
use Rattle.draw.specs.Drawing.{target_at, plan}
use Rattle.book.specs.Picture.{source_at}
use Rattle.origin.specs.declared.Origin.{Origin}
use Rattle.origin.specs.declared.Origin.TheVariants.{Byte, InFront, InBack, InNew}
use Rattle.origin.specs.Trace.{block_at}

-- the index of the pixel at x, y in a picture w pixels wide
abbrev pub index_at : ℕ → ℕ → ℕ → ℕ
index_at w x y = y * w + x

-- the picture of demand 2, all blocks drawn on back as it was lent
abbrev pub new_picture : Packet → List ℕ → List ℕ → List ℕ
new_picture p front back = final (plan p front) back

-- what stands at an origin
unfoldable pub stands : Packet → List ℕ → List ℕ → Origin → ℕ
stands p front back (Byte n) = get_or p.bytes n 0
stands p front back (InFront x y) = get_or front (index_at (width p) x y) 0
stands p front back (InBack x y) = get_or back (index_at (width p) x y) 0
stands p front back (InNew x y) = get_or (new_picture p front back) (index_at (width p) x y) 0

-- it is a byte of the packet or a pixel of the picture
unfoldable pub There : Packet → Origin → Type 0
There p (Byte n) = n < length p.bytes
There p (InFront x y) = (x < width p) × (y < height p)
There p (InBack x y) = (x < width p) × (y < height p)
There p (InNew x y) = (x < width p) × (y < height p)

-- it is what the rules read pixel i of block k from; what code 3 reads is drawn before block k
unfoldable pub Read : Packet → ℕ → ℕ → Origin → Type 0
Read p k i (Byte n) = (j : ℕ) × (source_at p k i ≡ Data j) × (n ≡ (start p k).bytes + j)
Read p k i (InFront x y) = source_at p k i ≡ Copied Last (index_at (width p) x y)
Read p k i (InBack x y) = (source_at p k i ≡ Copied Oldest (index_at (width p) x y)) × (code p k ≢ 3)
Read p k i (InNew x y) = (source_at p k i ≡ Copied New (index_at (width p) x y)) × (code p k ≡ 3) × (block_at p.columns x y < k)

-- block k of this code, and an origin, are those of the pixel at x, y; i is its number in the block
pub record Explains (p : Packet) (front back : List ℕ) (x y k c : ℕ) (origin : Origin) : Type 0 where
  pub i : ℕ
  pub block : k < blocks p
  pub pixel : i < 64
  pub at : target_at p k i ≡ index_at (width p) x y
  pub coded : c ≡ code p k
  pub read : Read p k i origin
  pub there : There p origin
  pub holds : stands p front back origin ≡ get_or (new_picture p front back) (index_at (width p) x y) 0
