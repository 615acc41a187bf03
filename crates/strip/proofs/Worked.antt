-- Films as they come out by document 02: for stream 0, and for none. Of five chunks three are left: one is empty, and of one nothing is acted on; what follows the chunk with 00 is dropped. Two films
-- that are refused.
-- Assumes nothing.
use mathlib.Core.Path.{◌≡◌, refl}
use mathlib.Core.List.{List, [], ◌∷◌, ◌++◌}
use Prim.Native.Nat.{ℕ}
use Rattle.words.specs.Word.{word_at}
use Rattle.palette.specs.Mask.{bit, ones, group_end, group_at}
use Rattle.sound.specs.Format.{is_set, masked}
use Rattle.state.specs.Moves.{cursor_into, cursor_behind}
use Rattle.heads.specs.Heads.{chunk_of, chunk_at, opcode_of, opcode_at, exactly, by_version, at_least, passed_over, shape_verdict, is_sound, hears, sound_verdict, taken_verdict}
use Rattle.next.specs.Next.{on, chunk_standing, opcode_standing, end_of_chunk, standing_at}
use Rattle.opening.specs.Opening.{header, begins, opening_of}
use Rattle.chunks.specs.Chunks.{is_exact, measured_opcode, measured, behind_opcode, opcodes_from, following}
use Rattle.strip.specs.Strip.{is_kept, opcode_left, kept_at, kept_from, chunk_left, remains, meets, before, go_on, left_from, behind_header, left_of}

-- 02, 03 and 01; 02, 04 and 13; 05, 08 for stream 1 and for stream 0, 09 for both, 0C; no opcode; 14 and 00; three bytes that are no chunk
abbrev chunks : List ℕ
chunks = 26 ∷ 0 ∷ 0 ∷ 0 ∷ 6 ∷ 0 ∷ 2 ∷ 0 ∷ 1 ∷ 2 ∷ 3 ∷ 4 ∷ 5 ∷ 6 ∷ 8 ∷ 0 ∷ 3 ∷ 0 ∷ 0 ∷ 0 ∷ 0 ∷ 0 ∷ 34 ∷ 86 ∷ 0 ∷ 0 ∷ 0 ∷ 0 ∷ 1 ∷ 0 ∷ 19 ∷ 0 ∷ 1 ∷ 0 ∷ 6 ∷ 0 ∷ 2 ∷ 0 ∷ 1 ∷ 2 ∷ 3 ∷ 4 ∷ 5 ∷ 6 ∷ 0 ∷ 0 ∷ 4 ∷ 1 ∷ 1 ∷ 0 ∷ 19 ∷ 9 ∷ 5 ∷ 53 ∷ 0 ∷ 2 ∷ 0 ∷ 4 ∷ 0 ∷ 5 ∷ 0 ∷ 1 ∷ 0 ∷ 1 ∷ 0 ∷ 8 ∷ 0 ∷ 8 ∷ 0 ∷ 7 ∷ 0 ∷ 2 ∷ 0 ∷ 2 ∷ 0 ∷ 128 ∷ 129 ∷ 8 ∷ 0 ∷ 8 ∷ 0 ∷ 7 ∷ 0 ∷ 1 ∷ 0 ∷ 2 ∷ 0 ∷ 128 ∷ 129 ∷ 6 ∷ 0 ∷ 9 ∷ 0 ∷ 7 ∷ 0 ∷ 3 ∷ 0 ∷ 2 ∷ 0 ∷ 7 ∷ 0 ∷ 12 ∷ 0 ∷ 0 ∷ 0 ∷ 1 ∷ 0 ∷ 1 ∷ 2 ∷ 3 ∷ 0 ∷ 0 ∷ 9 ∷ 0 ∷ 9 ∷ 0 ∷ 5 ∷ 1 ∷ 1 ∷ 0 ∷ 20 ∷ 0 ∷ 1 ∷ 0 ∷ 0 ∷ 0 ∷ 0 ∷ 255 ∷ 255 ∷ 3 ∷ []

for_stream_0 : left_of (header ++ chunks) 0 ≡ remains (header ++ (16 ∷ 0 ∷ 0 ∷ 0 ∷ 8 ∷ 0 ∷ 3 ∷ 0 ∷ 0 ∷ 0 ∷ 0 ∷ 0 ∷ 34 ∷ 86 ∷ 0 ∷ 0 ∷ 0 ∷ 0 ∷ 1 ∷ 0 ∷ 41 ∷ 0 ∷ 2 ∷ 0 ∷ 4 ∷ 0 ∷ 5 ∷ 0 ∷ 1 ∷ 0 ∷ 1 ∷ 0 ∷ 8 ∷ 0 ∷ 8 ∷ 0 ∷ 7 ∷ 0 ∷ 1 ∷ 0 ∷ 2 ∷ 0 ∷ 128 ∷ 129 ∷ 6 ∷ 0 ∷ 9 ∷ 0 ∷ 7 ∷ 0 ∷ 3 ∷ 0 ∷ 2 ∷ 0 ∷ 7 ∷ 0 ∷ 12 ∷ 0 ∷ 0 ∷ 0 ∷ 1 ∷ 0 ∷ 1 ∷ 2 ∷ 3 ∷ 4 ∷ 0 ∷ 5 ∷ 1 ∷ 0 ∷ 0 ∷ 0 ∷ 0 ∷ []))
unfolding word_at bit ones group_end group_at cursor_into cursor_behind chunk_of chunk_at opcode_of opcode_at exactly by_version at_least passed_over shape_verdict is_sound hears sound_verdict taken_verdict on chunk_standing opcode_standing end_of_chunk standing_at header begins opening_of is_exact measured_opcode measured behind_opcode opcodes_from following is_set masked is_kept opcode_left kept_at kept_from chunk_left before go_on left_from behind_header left_of
for_stream_0 = refl

for_no_stream : left_of (header ++ chunks) 16 ≡ remains (header ++ (4 ∷ 0 ∷ 0 ∷ 0 ∷ 0 ∷ 0 ∷ 1 ∷ 0 ∷ 19 ∷ 0 ∷ 2 ∷ 0 ∷ 4 ∷ 0 ∷ 5 ∷ 0 ∷ 1 ∷ 0 ∷ 1 ∷ 0 ∷ 7 ∷ 0 ∷ 12 ∷ 0 ∷ 0 ∷ 0 ∷ 1 ∷ 0 ∷ 1 ∷ 2 ∷ 3 ∷ 4 ∷ 0 ∷ 5 ∷ 1 ∷ 0 ∷ 0 ∷ 0 ∷ 0 ∷ []))
unfolding word_at bit ones group_end group_at cursor_into cursor_behind chunk_of chunk_at opcode_of opcode_at exactly by_version at_least passed_over shape_verdict is_sound hears sound_verdict taken_verdict on chunk_standing opcode_standing end_of_chunk standing_at header begins opening_of is_exact measured_opcode measured behind_opcode opcodes_from following is_set masked is_kept opcode_left kept_at kept_from chunk_left before go_on left_from behind_header left_of
for_no_stream = refl

-- 08 of version 1 is refused where no stream is chosen, too
by_version_lem : left_of (header ++ (10 ∷ 0 ∷ 0 ∷ 0 ∷ 6 ∷ 0 ∷ 2 ∷ 0 ∷ 1 ∷ 2 ∷ 3 ∷ 4 ∷ 5 ∷ 6 ∷ 10 ∷ 0 ∷ 1 ∷ 0 ∷ 6 ∷ 0 ∷ 8 ∷ 1 ∷ 0 ∷ 0 ∷ 0 ∷ 0 ∷ 0 ∷ 0 ∷ [])) 16 ≡ meets 4
unfolding word_at bit ones group_end group_at cursor_into cursor_behind chunk_of chunk_at opcode_of opcode_at exactly by_version at_least passed_over shape_verdict is_sound hears sound_verdict taken_verdict on chunk_standing opcode_standing end_of_chunk standing_at header begins opening_of is_exact measured_opcode measured behind_opcode opcodes_from following is_set masked is_kept opcode_left kept_at kept_from chunk_left before go_on left_from behind_header left_of
by_version_lem = refl

-- a chunk that passes the film's end
by_length : left_of (header ++ (12 ∷ 0 ∷ 0 ∷ 0 ∷ 8 ∷ 0 ∷ 3 ∷ 0 ∷ 0 ∷ 0 ∷ 0 ∷ 0 ∷ 34 ∷ 86 ∷ 0 ∷ 0 ∷ 9 ∷ 0 ∷ 1 ∷ 0 ∷ 5 ∷ [])) 0 ≡ meets 2
unfolding word_at bit ones group_end group_at cursor_into cursor_behind chunk_of chunk_at opcode_of opcode_at exactly by_version at_least passed_over shape_verdict is_sound hears sound_verdict taken_verdict on chunk_standing opcode_standing end_of_chunk standing_at header begins opening_of is_exact measured_opcode measured behind_opcode opcodes_from following is_set masked is_kept opcode_left kept_at kept_from chunk_left before go_on left_from behind_header left_of
by_length = refl
