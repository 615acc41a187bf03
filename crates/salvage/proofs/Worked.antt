-- Two scratched films, as the second program saves them: three chunks of six are left out and a piece of a seventh stays unwalked; a chunk whose 00 has a body is left out,
-- and the walk ends behind the next 00.
-- Assumes nothing.
use mathlib.Core.Path.{◌≡◌, refl}
use mathlib.Core.List.{List, [], ◌∷◌, ◌++◌}
use Prim.Native.Nat.{ℕ}
use Rattle.words.specs.Word.{word_at}
use Rattle.palette.specs.Mask.{bit, ones, group_end, group_at}
use Rattle.state.specs.Moves.{cursor_into, cursor_behind}
use Rattle.heads.specs.Heads.{chunk_of, chunk_at, opcode_of, opcode_at, exactly, by_version, at_least, passed_over, shape_verdict, is_sound, hears, sound_verdict, taken_verdict}
use Rattle.next.specs.Next.{on, chunk_standing, opcode_standing, end_of_chunk, standing_at}
use Rattle.opening.specs.Opening.{header}
use Rattle.chunks.specs.Chunks.{is_exact, measured_opcode, measured, behind_opcode, opcodes_from, following}
use Rattle.salvage.specs.Salvage.{behind_00, by_2, go_on, save_from, saved}

-- the opcodes of a size and one that is passed over; a type that is not taken; no opcode; 0C with a wrong length; 08 of version 1; 09; a chunk past the film's end
abbrev six : List ℕ
six = 13 ∷ 0 ∷ 0 ∷ 0 ∷ 4 ∷ 0 ∷ 5 ∷ 0 ∷ 1 ∷ 0 ∷ 1 ∷ 0 ∷ 1 ∷ 0 ∷ 2 ∷ 0 ∷ 9 ∷ 5 ∷ 0 ∷ 1 ∷ 0 ∷ 1 ∷ 0 ∷ 48 ∷ 0 ∷ 1 ∷ 0 ∷ 0 ∷ 7 ∷ 0 ∷ 10 ∷ 0 ∷ 2 ∷ 0 ∷ 6 ∷ 0 ∷ 12 ∷ 0 ∷ 1 ∷ 0 ∷ 1 ∷ 0 ∷ 1 ∷ 2 ∷ 10 ∷ 0 ∷ 1 ∷ 0 ∷ 6 ∷ 0 ∷ 8 ∷ 1 ∷ 0 ∷ 0 ∷ 0 ∷ 0 ∷ 0 ∷ 0 ∷ 10 ∷ 0 ∷ 3 ∷ 0 ∷ 6 ∷ 0 ∷ 9 ∷ 0 ∷ 0 ∷ 0 ∷ 0 ∷ 0 ∷ 0 ∷ 0 ∷ 9 ∷ 0 ∷ 1 ∷ 0 ∷ 5 ∷ []

abbrev two : List ℕ
two = 5 ∷ 0 ∷ 1 ∷ 0 ∷ 1 ∷ 0 ∷ 0 ∷ 0 ∷ 1 ∷ 40 ∷ 0 ∷ 1 ∷ 0 ∷ 32 ∷ 0 ∷ 13 ∷ 0 ∷ 0 ∷ 0 ∷ 0 ∷ 0 ∷ 0 ∷ 0 ∷ 0 ∷ 0 ∷ 0 ∷ 0 ∷ 0 ∷ 0 ∷ 0 ∷ 0 ∷ 0 ∷ 0 ∷ 0 ∷ 0 ∷ 0 ∷ 0 ∷ 0 ∷ 0 ∷ 0 ∷ 0 ∷ 0 ∷ 0 ∷ 0 ∷ 0 ∷ 0 ∷ 0 ∷ 0 ∷ 0 ∷ 0 ∷ 0 ∷ 0 ∷ 0 ∷ 7 ∷ 0 ∷ 6 ∷ 6 ∷ []

six_saved : saved (header ++ six) ≡ record { bytes = 13 ∷ 0 ∷ 0 ∷ 0 ∷ 4 ∷ 0 ∷ 5 ∷ 0 ∷ 1 ∷ 0 ∷ 1 ∷ 0 ∷ 1 ∷ 0 ∷ 2 ∷ 0 ∷ 9 ∷ 0 ∷ 0 ∷ 7 ∷ 0 ∷ 10 ∷ 0 ∷ 3 ∷ 0 ∷ 6 ∷ 0 ∷ 9 ∷ 0 ∷ 0 ∷ 0 ∷ 0 ∷ 0 ∷ 0 ∷ 0 ∷ []; losses = record { position = 43; long = 5; refusal = 4 } ∷ record { position = 56; long = 10; refusal = 5 } ∷ record { position = 70; long = 10; refusal = 4 } ∷ []; stop = by_2; kept = 35; lost = 37; rest = 5 }
unfolding word_at bit ones group_end group_at cursor_into cursor_behind chunk_of chunk_at opcode_of opcode_at exactly by_version at_least passed_over shape_verdict is_sound hears sound_verdict taken_verdict on chunk_standing opcode_standing end_of_chunk standing_at header is_exact measured_opcode measured behind_opcode opcodes_from following go_on save_from
six_saved = refl

two_saved : saved (header ++ two) ≡ record { bytes = 40 ∷ 0 ∷ 1 ∷ 0 ∷ 32 ∷ 0 ∷ 13 ∷ 0 ∷ 0 ∷ 0 ∷ 0 ∷ 0 ∷ 0 ∷ 0 ∷ 0 ∷ 0 ∷ 0 ∷ 0 ∷ 0 ∷ 0 ∷ 0 ∷ 0 ∷ 0 ∷ 0 ∷ 0 ∷ 0 ∷ 0 ∷ 0 ∷ 0 ∷ 0 ∷ 0 ∷ 0 ∷ 0 ∷ 0 ∷ 0 ∷ 0 ∷ 0 ∷ 0 ∷ 0 ∷ 0 ∷ 0 ∷ 0 ∷ 0 ∷ 0 ∷ []; losses = record { position = 26; long = 5; refusal = 5 } ∷ []; stop = behind_00; kept = 44; lost = 9; rest = 4 }
unfolding word_at bit ones group_end group_at cursor_into cursor_behind chunk_of chunk_at opcode_of opcode_at exactly by_version at_least passed_over shape_verdict is_sound hears sound_verdict taken_verdict on chunk_standing opcode_standing end_of_chunk standing_at header is_exact measured_opcode measured behind_opcode opcodes_from following go_on save_from
two_saved = refl
