-- What an encoding comes to, as numbers, for hosts in other languages.
-- Assumes nothing.
use Rattle.encode.specs.Encode.{Answer, made, refused}
use Rattle.mve_encodes.specs.declared.MveEncoded.{MveEncoded}

unfoldable pub of_answer : Answer → MveEncoded
of_answer (made m b) = record { number = 0; map_length = m; body_length = b }
of_answer (refused number block) = record { number = number; map_length = 0; body_length = 0 }
