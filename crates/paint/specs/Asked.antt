-- What the functions that store pixels ask of their callers.
-- Assumes nothing.
use Rattle.std.specs.Prelude.{◌≡◌, ◌≢◌, Bool, true, false, List, [], ℕ, ◌+◌, ◌*◌, ◌≤◌, ◌<◌, length}
use Rattle.block.specs.Block.{kind_of, data_length, copy_inside}
use Rattle.paint.specs.Value.{pixel_count}

-- the 8x8 at x, y stands in a picture w pixels wide that is this long
pub record Square (w x y long : ℕ) : Type 0 where
  pub width : w ≤ 640
  pub across : x + 8 ≤ w
  pub down : y + 8 ≤ 480
  pub room : (y + 8) * w ≤ long

-- the 8x8 at x, y stands in a picture w by h, and two pictures are this long
pub record Canvas (w h x y front back : ℕ) : Type 0 where
  pub width : w ≤ 640
  pub height : h ≤ 480
  pub across : x + 8 ≤ w
  pub down : y + 8 ≤ h
  pub front_room : h * w ≤ front
  pub back_room : h * w ≤ back

-- and three pictures are this long
pub record WordCanvas (w h x y last new oldest : ℕ) : Type 0 where
  pub width : w ≤ 640
  pub height : h ≤ 480
  pub across : x + 8 ≤ w
  pub down : y + 8 ≤ h
  pub last_room : h * w ≤ last
  pub new_room : h * w ≤ new
  pub oldest_room : h * w ≤ oldest

-- a block of this code that is accepted there, and no more pixels than it stores
pub record Drawable (deep : Bool) (code : ℕ) (s o : List ℕ) (w h x y n : ℕ) : Type 0 where
  pub known : code < 16
  pub taken : deep ≡ false → code ≢ 6
  pub there : data_length deep (kind_of deep code s o) ≤ length s
  pub inside : copy_inside (kind_of deep code s o) w h x y ≡ true
  pub count : n ≤ pixel_count (kind_of deep code s o)

-- of an 8-bit film
abbrev pub ByteDrawable : ℕ → List ℕ → ℕ → ℕ → ℕ → ℕ → ℕ → Type 0
ByteDrawable code s w h x y n = Drawable false code s [] w h x y n

-- of a film with true colour
abbrev pub WordDrawable : ℕ → List ℕ → List ℕ → ℕ → ℕ → ℕ → ℕ → ℕ → Type 0
WordDrawable code s o w h x y n = Drawable true code s o w h x y n
