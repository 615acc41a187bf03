-- Opcodes 03, 08 and 09 (document 02, W5), for the stream that opening was given: what each comes to, and the answer.
-- Assumes nothing.
use Rattle.std.specs.Prelude.{Bool, cond, Option, Some, None, Result, Ok, Err, List, [], ℕ, length, drop}
use Rattle.words.specs.Word.{word_at}
use Rattle.refusal.specs.Number.{number, block}
use Rattle.refusal.specs.declared.Refusal.{Refusal}
use Rattle.sound.specs.Format.{masked, format_of, possible_format, afresh}
use Rattle.sound.specs.Step.{Step, taken, refused, data_step, silence_step}
use Rattle.sound.specs.declared.Format.{Format}
use Rattle.sound.specs.declared.Sound.{Sound}
use Rattle.sound.specs.declared.Heard.{Heard}

-- ---- answers

-- heard: the sound then, and the length of what was written. refused: number and block
pub data Answer : Type 0 where
  heard : Sound → ℕ → Answer
  refusal : ℕ → ℕ → Answer

-- document 01's values of each answer
abbrev pub heard_as : Result Heard Refusal → Answer
heard_as (Ok h) = heard h.sound h.bytes
heard_as (Err r) = refusal (number r) (block r)

unfoldable pub answer : Step → Answer
answer (taken s bytes) = heard s (length bytes)
answer (refused n k) = refusal n k

-- ---- 03: words unknown, flags, and others that are not read

unfoldable pub initialize_audio : Sound → ℕ → List ℕ → Step
initialize_audio s version body =
    cond (possible_format (format_of version (word_at body 2))) (taken (afresh s (format_of version (word_at body 2))) []) (refused 17 0)

-- ---- 08 and 09: words index, mask and count, then data

-- 17 before a 03
unfoldable pub of_format : Option Format → (Bool → Bool → Bool → Step) → Step
of_format None step = refused 17 0
of_format (Some f) step = step f.stereo f.wide f.compressed

-- a packet whose mask lacks the bit of the chosen stream gets no further test
unfoldable pub of_mask : Sound → ℕ → (Bool → Bool → Bool → Step) → Step
of_mask s mask step = cond (masked s.stream mask) (of_format s.format step) (taken s [])

-- the room by its length
unfoldable pub audio_data : Sound → List ℕ → ℕ → Step
audio_data s body room =
    of_mask s (word_at body 2) (λ stereo wide compressed. data_step s stereo wide compressed (word_at body 4) (drop 6 body) room)

unfoldable pub audio_silence : Sound → List ℕ → ℕ → Step
audio_silence s body room =
    of_mask s (word_at body 2) (λ stereo wide compressed. silence_step s stereo wide compressed (word_at body 4) room)
