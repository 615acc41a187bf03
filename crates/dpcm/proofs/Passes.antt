-- The channels one after the other leave what the samples in turn leave.
-- Assumes nothing.
use Rattle.std.proofs.Common.{◌≡◌, ℕ, zero, suc, ◌+◌, ◌*◌, ◌/◌, ◌%◌, ◌<◌, ◌≤◌, Bool, true, false, List, length, take, ap, ◌∙◌, add-one, arith}
use Rattle.listed.specs.Store.{applied, each}
use Rattle.room.specs.Room.{written}
use Rattle.dpcm.specs.Samples.{last, turned, samples, last_of, bytes_of}
use Rattle.dpcm.specs.Packet.{channels}
use Rattle.dpcm.specs.Stride.{HoldsOrNone, bytes_in, last_behind, room_behind, channel_last, channel_room}
use Rattle.dpcm.specs.declared.Last.{Last}
use Rattle.dpcm.proofs.Stride.{last_step, room_step, room_past}
use Rattle.dpcm.proofs.Decoding.{Decoding, decoding_start, decoding_more, decoded}

module _ (first : Last) («data» room₀ : List ℕ) (fits : HoldsOrNone (2 * length «data») (length room₀)) where
  abbrev Decoded : Bool → Last → List ℕ → Type 0
  Decoded stereo r room = (r ≡ last_of stereo first «data») × (room ≡ written (take (length room₀) (bytes_of (samples stereo first «data»))) room₀)

  -- ---- mono

  one_pass : (k : ℕ) → k ≤ length «data»
      → Decoding false first «data» room₀ (room_behind first.next «data» 0 1 room₀ k) (last (last_behind first.next «data» 0 1 k) first.other) k
  unfolding last_behind each applied turned
  one_pass zero h = decoding_start false first «data» room₀
  one_pass (suc k) h =
      rw (add-one k) at (decoding_more _ _ _ _ _ _ _ (one_pass k (omega arith)) fits h _ _ (last_step first.next «data» 0 1 k k (omega arith)) (room_step first.next «data» 0 1 k k (omega arith) room₀))

  pub mono_decoded : (stereo : Bool) → stereo ≡ false → (only : ℕ) (room : List ℕ) → only ≡ channel_last first.next «data» 0 (channels stereo)
      → room ≡ channel_room first.next «data» 0 (channels stereo) room₀ → Decoded stereo (last only first.other) room
  mono_decoded stereo t only room el er =
      let n : bytes_in 0 1 (length «data») ≡ length «data» = omega arith in
      rw (t, rw t at el, rw t at er, n) (decoded _ _ _ _ _ _ _ (one_pass (length «data») (omega arith)) (omega arith))

  -- ---- stereo: the left channel's k samples, and then the right channel's j

  abbrev left : ℕ → ℕ
  left k = last_behind first.next «data» 0 2 k

  abbrev right : ℕ → ℕ
  right k = last_behind first.other «data» 1 2 k

  abbrev rooms : ℕ → ℕ → List ℕ
  rooms k j = room_behind first.other «data» 1 2 (room_behind first.next «data» 0 2 room₀ k) j

  -- one more of the left
  left_more : (k : ℕ) → 2 * k < length «data» → Decoding true first «data» room₀ (rooms k k) (last (left k) (right k)) (2 * k)
      → Decoding true first «data» room₀ (rooms (suc k) k) (last (right k) (left (suc k))) (2 * k + 1)
  unfolding turned
  left_more k h d =
      decoding_more _ _ _ _ _ _ _ d fits h _ _ (last_step first.next «data» 0 2 k (2 * k) (omega arith))
      (ap (λ (room : List ℕ). room_behind first.other «data» 1 2 room k) (room_step first.next «data» 0 2 k (2 * k) (omega arith) room₀)
      ∙ room_past first.other «data» 1 2 (2 * k) (left (suc k)) (λ j e. omega arith) _ k)

  two_passes : (k : ℕ) → 2 * k ≤ length «data» → Decoding true first «data» room₀ (rooms k k) (last (left k) (right k)) (2 * k)
  unfolding last_behind each applied turned
  two_passes zero h = decoding_start true first «data» room₀
  two_passes (suc k) h =
      let n : 2 * k + 1 + 1 ≡ 2 * suc k = omega arith in
      let odd = left_more k (omega arith) (two_passes k (omega arith)) in
      rw n at (decoding_more _ _ _ _ _ _ _ odd fits (omega arith) _ _ (last_step first.other «data» 1 2 k (2 * k + 1) (omega arith)) (room_step first.other «data» 1 2 k (2 * k + 1) (omega arith) _))

  module _ (stereo : Bool) (t : stereo ≡ true) (l r : ℕ) (room room' : List ℕ) (el : l ≡ channel_last first.next «data» 0 (channels stereo))
      (e : room ≡ channel_room first.next «data» 0 (channels stereo) room₀) (er : r ≡ channel_last first.other «data» 1 (channels stereo)) (e' : room' ≡ channel_room first.other «data» 1 (channels stereo) room) where
    pub even_decoded : length «data» % 2 ≡ 0 → Decoded stereo (last l r) room'
    even_decoded h =
        let k = length «data» / 2 in
        let a : bytes_in 0 2 (length «data») ≡ k = omega arith in
        let b : bytes_in 1 2 (length «data») ≡ k = omega arith in
        rw (t, rw t at el, rw t at er, rw t at e', rw t at e, a, b) (decoded _ _ _ _ _ _ _ (two_passes k (omega arith)) (omega arith))

    pub odd_decoded : (length «data» % 2 ≡ 0 → ⊥) → Decoded stereo (last r l) room'
    odd_decoded h =
        let k = length «data» / 2 in
        let o : length «data» ≡ 2 * k + 1 = omega arith in
        let a : bytes_in 0 2 (length «data») ≡ suc k = omega arith in
        let b : bytes_in 1 2 (length «data») ≡ k = omega arith in
        rw (t, rw t at el, rw t at er, rw t at e', rw t at e, a, b) (decoded _ _ _ _ _ _ _ (left_more k (omega arith) (two_passes k (omega arith))) (omega arith))
