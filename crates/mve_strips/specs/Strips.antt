-- What is left of a film, as numbers, for hosts in other languages.
-- Assumes nothing.
use Rattle.strip.specs.Strip.{StripAnswer, stripped, not_stripped}
use Rattle.mve_strips.specs.declared.MveStripped.{MveStripped}

unfoldable pub of_strip : StripAnswer → MveStripped
of_strip (stripped length) = record { number = 0; length = length }
of_strip (not_stripped number) = record { number = number; length = 0 }
