-- Where samples are dropped: two rooms that are always enough make no difference.
-- Assumes nothing.
use mathlib.Core.Path.{◌≡◌, sym, ◌∙◌}
use mathlib.Core.Bool.{Bool, true, false}
use mathlib.Core.List.{List}
use Prim.Native.Nat.{ℕ, ◌*◌, ◌≤◌, ◌<◌}
use native.Mathlib.Omega.{arith}
use native.Mathlib.Nat.{mul-le-mul_left}
use borrow.Author.Tests.{le-ltb}
use Rattle.words.specs.Word.{word_at}
use Rattle.sound.specs.Step.{Step, sample_bytes, enough, within, data_step, silence_step}
use Rattle.sound.specs.Sound.{audio_data, audio_silence}
use Rattle.sound.specs.declared.Sound.{Sound}

-- a word counts the samples
room_holds : (count each room : ℕ) → count < 65536 → each ≤ 2 → enough ≤ room → count * each ≤ room
room_holds count each room h l m = omega (arith, mul-le-mul_left count l)

each_most : (wide compressed : Bool) → sample_bytes wide compressed ≤ 2
unfolding sample_bytes
each_most true true = omega arith
each_most false true = omega arith
each_most true false = omega arith
each_most false false = omega arith

within_ample : (count : ℕ) (wide compressed : Bool) (room : ℕ) (step : Step) → count < 65536 → enough ≤ room → within (count * sample_bytes wide compressed) room step ≡ step
unfolding within
within_ample count wide compressed room step few big = rw (le-ltb _ _ (room_holds count (sample_bytes wide compressed) room few (each_most wide compressed) big))

module _ (s : Sound) (body : List ℕ) (few : word_at body 4 < 65536) (a b : ℕ) (big : enough ≤ a) (big' : enough ≤ b) where
  same_within : (wide compressed : Bool) (step : Step) → within (word_at body 4 * sample_bytes wide compressed) a step ≡ within (word_at body 4 * sample_bytes wide compressed) b step
  same_within wide compressed step = within_ample (word_at body 4) wide compressed a step few big ∙ sym (within_ample (word_at body 4) wide compressed b step few big')

  pub same_data : audio_data s body a ≡ audio_data s body b
  unfolding audio_data data_step
  same_data = simp same_within

  pub same_silence : audio_silence s body a ≡ audio_silence s body b
  unfolding audio_silence silence_step
  same_silence = simp same_within
