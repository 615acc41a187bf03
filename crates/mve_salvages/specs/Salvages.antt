-- What is left of a film, as numbers, for hosts in other languages.
-- Assumes nothing.
use Rattle.std.specs.Prelude.{ℕ}
use Rattle.salvage.specs.declared.Walked.{Walked}
use Rattle.salvage.specs.Salvage.{Stop, at_end, behind_00, by_2, SalvageAnswer, writes, not_salvaged, stop_as}
use Rattle.mve_salvages.specs.declared.MveSalvaged.{MveSalvaged}

unfoldable pub stop_number : Stop → ℕ
stop_number at_end = 0
stop_number behind_00 = 1
stop_number by_2 = 2

abbrev pub of_walked : ℕ → Walked → MveSalvaged
of_walked bytes w =
    record { number = 0; bytes = bytes; left_out = w.left_out; stop = stop_number (stop_as w.stop); header = 26; kept = w.kept; lost = w.lost; rest = w.rest }

-- the header's 26 bytes are counted where the film has them
unfoldable pub of_salvage : SalvageAnswer → MveSalvaged
of_salvage (writes t) =
    record { number = 0; bytes = t.bytes; left_out = t.left_out; stop = stop_number t.stop; header = 26; kept = t.kept; lost = t.lost; rest = t.rest }
of_salvage (not_salvaged number block) = record { number = number; bytes = 0; left_out = 0; stop = 0; header = 0; kept = 0; lost = 0; rest = 0 }
