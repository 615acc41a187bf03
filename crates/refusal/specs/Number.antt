-- Document 01, "Numbers of refusal", and document 02, W5 (17 to 19), W7 (20), W8 (21), W9 (22), W10 (23) and W12 (24 to 26): the number and the block that each refusal carries.
-- Assumes nothing.
use Rattle.std.specs.Prelude.{ℕ}
use Rattle.refusal.specs.declared.Refusal.{Refusal}
use Rattle.refusal.specs.declared.Refusal.TheVariants.{Header, FilmEnd, ChunkEnd, Opcode, BodyLength, Size, Palette, Buffer, NoMap, MapLength, Place, Code, DataShort, CopyOutside, LeftOver, State, SoundFormat, SoundLength, Room, Parts, NoSize, Position, PacketLength, FrameShort, SkipOutside, EndMark}

abbrev pub number : Refusal → ℕ
number Header = 1
number FilmEnd = 2
number ChunkEnd = 3
number Opcode = 4
number BodyLength = 5
number Size = 6
number Palette = 7
number Buffer = 8
number NoMap = 9
number MapLength = 10
number Place = 11
number (Code k) = 12
number (DataShort k) = 13
number (CopyOutside k) = 14
number LeftOver = 15
number State = 16
number SoundFormat = 17
number SoundLength = 18
number Room = 19
number Parts = 20
number NoSize = 21
number Position = 22
number PacketLength = 23
number FrameShort = 24
number SkipOutside = 25
number EndMark = 26

-- the block that is drawn, for 12 to 14; else 0
abbrev pub block : Refusal → ℕ
block Header = 0
block FilmEnd = 0
block ChunkEnd = 0
block Opcode = 0
block BodyLength = 0
block Size = 0
block Palette = 0
block Buffer = 0
block NoMap = 0
block MapLength = 0
block Place = 0
block (Code k) = k
block (DataShort k) = k
block (CopyOutside k) = k
block LeftOver = 0
block State = 0
block SoundFormat = 0
block SoundLength = 0
block Room = 0
block Parts = 0
block NoSize = 0
block Position = 0
block PacketLength = 0
block FrameShort = 0
block SkipOutside = 0
block EndMark = 0

-- what a call that only judges comes to: it accepts, or it refuses by a number and a block
pub data Verdict : Type 0 where
  accept : Verdict
  refuse : ℕ → ℕ → Verdict

abbrev pub refusal : Refusal → Verdict
refusal r = refuse (number r) (block r)
