-- Where a pixel comes from, as numbers, for hosts in other languages.
-- Assumes nothing.
use Rattle.std.specs.Prelude.{ℕ}
use Rattle.origin.specs.declared.Origin.{Origin}
use Rattle.origin.specs.declared.Origin.TheVariants.{Byte, InFront, InBack, InNew}
use Rattle.origin.specs.Trace.{Answer, found, refused}
use Rattle.mve_answers.specs.declared.MveOrigin.{MveOrigin}

abbrev pub origin : ℕ → ℕ → ℕ → ℕ → ℕ → ℕ → ℕ → ℕ → MveOrigin
origin kind number block code source byte x y =
    record { kind = kind; number = number; block = block; code = code; source = source; byte = byte; x = x; y = y }

-- sources: 0 a byte of the packet, 1 a pixel of front, 2 one of back as it was lent, 3 one of the new picture
unfoldable pub of_origin : ℕ → ℕ → Origin → MveOrigin
of_origin block code (Byte n) = origin 0 0 block code 0 n 0 0
of_origin block code (InFront x y) = origin 0 0 block code 1 0 x y
of_origin block code (InBack x y) = origin 0 0 block code 2 0 x y
of_origin block code (InNew x y) = origin 0 0 block code 3 0 x y

-- kinds: 0 found, 4 refused
unfoldable pub of_trace : Answer → MveOrigin
of_trace (found block code o) = of_origin block code o
of_trace (refused number block) = origin 4 number block 0 0 0 0 0
