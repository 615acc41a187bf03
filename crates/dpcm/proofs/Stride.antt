-- The loop over one channel: a law for the start, each turn and the end. And its stores may as well come before or behind another channel's.
-- Assumes nothing.
use Rattle.std.proofs.Common.{◌≡◌, ℕ, zero, suc, ◌+◌, ◌*◌, ◌/◌, ◌%◌, ◌<◌, ◌≤◌, Bool, true, false, ◌≢◌, List, [], length, get_or, set, sym, refl, ap, ◌∙◌, arith, length-append, eq-eqb, ne_eqb}
use native.Mathlib.Decide.{ℕ_discrete}
use lib.Seq.{set_comm}
use Rattle.dpcm.specs.Samples.{sample_after}
use Rattle.listed.specs.Store.{applied, one, each, Within}
use Rattle.listed.proofs.Lists.{applied_append, applied_length, within_append, within_each}
use Rattle.listed.proofs.Order.{due_first, due_all, due_second, due_behind, due_turn}
use Rattle.dpcm.specs.Packet.{channels}
use Rattle.dpcm.specs.Stride.{HoldsOrNone, NextHalf, NextSample, NextChannel, put_at, bytes_in, last_behind, turn_stores, room_behind, channel_first, channel_last, channel_stores, channel_room, data_stores, earlier}
use Rattle.dpcm.specs.declared.Last.{Last}

pub channels_most : (stereo : Bool) → channels stereo ≤ 2
channels_most true = omega arith
channels_most false = omega arith

pub channels_some : (stereo : Bool) → 0 < channels stereo
channels_some true = omega arith
channels_some false = omega arith

pub channels_two : (stereo : Bool) → stereo ≡ true → 1 < channels stereo
channels_two stereo t = let n : channels stereo ≡ 2 = rw t in omega arith

-- the channel has k bytes below n, if its byte number k is the first that does not lie below n
count_is : (n start stride k : ℕ) → start < stride → stride ≤ 2 → n ≤ start + k * stride → start + k * stride < n + stride → k ≡ bytes_in start stride n
count_is n start zero k s h behind until = omega arith
count_is n start (suc zero) k s h behind until = omega arith
count_is n start (suc (suc zero)) k s h behind until = omega arith
count_is n start (suc (suc (suc stride))) k s h behind until = omega arith

-- stores at different indexes, in either order: a byte and a sample, two samples
put_past : (q w at x : ℕ) (room : List ℕ) → at ≢ 2 * q → at ≢ 2 * q + 1 → put_at (2 * q) w (set room at x) ≡ set (put_at (2 * q) w room) at x
put_past q w at x room low high =
    rw (set_comm room at (2 * q) x (w % 256) low) (set_comm (set room (2 * q) (w % 256)) at (2 * q + 1) x (w / 256) high)

put_comm : (p q v w : ℕ) (room : List ℕ) → p ≢ q → put_at (2 * q) w (put_at (2 * p) v room) ≡ put_at (2 * p) v (put_at (2 * q) w room)
put_comm p q v w room ne =
    put_past q w (2 * p + 1) (v / 256) (set room (2 * p) (v % 256)) (λ e. ne (omega arith)) (λ e. ne (omega arith))
    ∙ ap (λ (l : List ℕ). set l (2 * p + 1) (v / 256)) (put_past q w (2 * p) (v % 256) room (λ e. ne (omega arith)) (λ e. ne (omega arith)))

module _ (first : ℕ) (bytes : List ℕ) (start stride : ℕ) where
  -- one byte more, at index i
  module _ (k i : ℕ) (e : start + k * stride ≡ i) where
    pub last_step : last_behind first bytes start stride (suc k) ≡ sample_after (last_behind first bytes start stride k) (get_or bytes i 0)
    unfolding last_behind
    last_step = rw e

    pub room_step : (room : List ℕ)
        → room_behind first bytes start stride room (suc k) ≡ put_at (2 * i) (last_behind first bytes start stride (suc k)) (room_behind first bytes start stride room k)
    unfolding each applied
    room_step room =
        applied_append (each (turn_stores first bytes start stride) k) (turn_stores first bytes start stride k) room
        ∙ ap (λ (j : ℕ). put_at (2 * j) (last_behind first bytes start stride (suc k)) (room_behind first bytes start stride room k)) e

  pub turns_length : (k : ℕ) → length (each (turn_stores first bytes start stride) k) ≡ 2 * k
  unfolding each
  turns_length zero = refl
  turns_length (suc k) =
      omega (arith, length-append (each (turn_stores first bytes start stride) k) (turn_stores first bytes start stride k), turns_length k)

  -- a sample that is put at none of the channel's indices may as well be put behind the channel's
  pub room_past : (p v : ℕ) → ((k : ℕ) → p ≢ start + k * stride) → (room : List ℕ) (k : ℕ)
      → room_behind first bytes start stride (put_at (2 * p) v room) k ≡ put_at (2 * p) v (room_behind first bytes start stride room k)
  unfolding each applied
  room_past p v off room zero = refl
  room_past p v off room (suc k) =
      room_step k (start + k * stride) refl (put_at (2 * p) v room)
      ∙ ap (put_at (2 * (start + k * stride)) (last_behind first bytes start stride (suc k))) (room_past p v off room k)
      ∙ put_comm p (start + k * stride) v (last_behind first bytes start stride (suc k)) (room_behind first bytes start stride room k) (off k)
      ∙ ap (put_at (2 * p) v) (sym (room_step k (start + k * stride) refl room))

  -- ---- the loop

  module _ (room₀ : List ℕ) where
    -- the channel's bytes below index i are decoded
    pub record Striding (room : List ℕ) (last i : ℕ) : Type 0 where
      pub count : ℕ
      pub here : i ≡ start + count * stride
      pub until : i < length bytes + stride
      pub now : last ≡ last_behind first bytes start stride count
      pub put : room ≡ room_behind first bytes start stride room₀ count

    pub striding_start : start < stride → Striding room₀ first start
    unfolding last_behind each applied
    striding_start h = record { count = 0; here = omega arith; until = omega arith; now = refl; put = refl }

    module _ (room : List ℕ) (last i : ℕ) (s : Striding room last i) where
      pub striding_length : length room ≡ length room₀
      striding_length = ap length s.put ∙ applied_length (each (turn_stores first bytes start stride) s.count) room₀

      pub striding_more : i < length bytes → (room' : List ℕ) (last' : ℕ) → last' ≡ sample_after last (get_or bytes i 0) → room' ≡ put_at (2 * i) last' room → Striding room' last' (i + stride)
      striding_more h room' last' el er =
          let l : last' ≡ last_behind first bytes start stride (suc s.count) = el ∙ rw s.now (sym (last_step s.count i (sym s.here))) in
          record {
            count = suc s.count;
            here = omega (arith, s.here);
            until = omega arith;
            now = l;
            put = er ∙ rw (l, s.put) (sym (room_step s.count i (sym s.here) room₀));
          }

      pub strode : start < stride → stride ≤ 2 → length bytes ≤ i
          → (last ≡ channel_last first bytes start stride) × (room ≡ channel_room first bytes start stride room₀)
      strode d h g =
          let n = count_is (length bytes) start stride s.count d h (omega (arith, s.here)) (omega (arith, s.here, s.until)) in
          (s.now ∙ ap (last_behind first bytes start stride) n, s.put ∙ ap (room_behind first bytes start stride room₀) n)

-- ---- the order of stores

-- a sample's two bytes
module _ (stereo : Bool) (l : Last) (bytes : List ℕ) (i sample : ℕ) (room : List ℕ) (d : NextSample stereo l bytes i sample room) (g : 0 < length room) where
  pub low_next : NextHalf stereo l bytes i 0 (sample % 256) room
  unfolding applied
  low_next =
      let z : 2 * i + 0 ≡ 2 * i = omega arith in
      rw z (due_behind _ _ _ _ (d g) [] (one (2 * i) (sample % 256)) (one (2 * i + 1) (sample / 256)) refl room refl)

  pub high_next : (room' : List ℕ) → room' ≡ set room (2 * i + 0) (sample % 256) → NextHalf stereo l bytes i 1 (sample / 256) room'
  unfolding applied
  high_next room' e =
      let z : 2 * i + 0 ≡ 2 * i = omega arith in
      due_behind _ _ _ _ (d g) (one (2 * i) (sample % 256)) (one (2 * i + 1) (sample / 256)) [] refl room' (rw z at e)

pub put_both : (i sample : ℕ) (room room' room'' : List ℕ) → room' ≡ set room (2 * i + 0) (sample % 256) → room'' ≡ set room' (2 * i + 1) (sample / 256)
    → room'' ≡ put_at (2 * i) sample room
put_both i sample room room' room'' e e' =
    let z : 2 * i + 0 ≡ 2 * i = omega arith in
    e' ∙ ap (λ (r : List ℕ). set r (2 * i + 1) (sample / 256)) (e ∙ ap (λ (k : ℕ). set room k (sample % 256)) z)

-- how many come before
even_earlier : (n i : ℕ) → i % 2 ≡ 0 → earlier true n i ≡ 2 * (i / 2)
unfolding earlier
even_earlier n i e = rw (eq-eqb _ _ e) (omega arith)

odd_earlier : (n i : ℕ) → i % 2 ≡ 1 → earlier true n i ≡ 2 * bytes_in 0 2 n + 2 * (i / 2)
unfolding earlier
odd_earlier n i e = rw (ne_eqb (i % 2) 0 (λ z. omega arith))

earlier_turn : (stereo : Bool) (n start k : ℕ) → start < channels stereo → earlier stereo n start + 2 * k ≡ earlier stereo n (start + k * channels stereo)
unfolding earlier
earlier_turn false n start k h = omega arith
earlier_turn true n start k h = by (ℕ_discrete start 0)
  where
    by : Dec (start ≡ 0) → earlier true n start + 2 * k ≡ earlier true n (start + k * 2)
    by (yes e) = omega (arith, even_earlier n start (omega arith), even_earlier n (start + k * 2) (omega arith))
    by (no e) = omega (arith, odd_earlier n start (omega arith), odd_earlier n (start + k * 2) (omega arith))

-- turn k is one of the channel's, if its byte is there
turn_there : (stereo : Bool) (n start k : ℕ) → start < channels stereo → start + k * channels stereo < n → k < bytes_in start (channels stereo) n
turn_there true n start k h l = omega arith
turn_there false n start k h l = omega arith

there_turn : (stereo : Bool) (n start k : ℕ) → start < channels stereo → k < bytes_in start (channels stereo) n → start + k * channels stereo < n
there_turn true n start k h l = omega arith
there_turn false n start k h l = omega arith

-- the sample that the loop has worked out is next
pub striding_next : (stereo : Bool) (l : Last) (bytes : List ℕ) (start : ℕ) (room₀ : List ℕ) → NextChannel stereo l bytes start room₀ → start < channels stereo
    → (first stride : ℕ) → first ≡ channel_first l start → stride ≡ channels stereo → (room : List ℕ) (last i : ℕ) → Striding first bytes start stride room₀ room last i
    → i < length bytes → (sample : ℕ) → sample ≡ sample_after last (get_or bytes i 0) → NextSample stereo l bytes i sample room
striding_next stereo l bytes start room₀ d h first stride ef es room last i m t sample e g =
    let f = channel_first l start in
    let s : Striding f bytes start (channels stereo) room₀ room last i = rw (ef, es) at m in
    let k = s.count in
    let n = length bytes in
    let room-there : 0 < length room₀ = omega (arith, striding_length f bytes start (channels stereo) room₀ room last i s) in
    let there : k < bytes_in start (channels stereo) n = turn_there stereo n start k h (omega (arith, s.here)) in
    let v : last_behind f bytes start (channels stereo) (suc k) ≡ sample =
    last_step f bytes start (channels stereo) k i (sym s.here) ∙ ap (λ (x : ℕ). sample_after x (get_or bytes i 0)) (sym s.now) ∙ sym e in
    let j : earlier stereo n start + length (each (turn_stores f bytes start (channels stereo)) k) ≡ earlier stereo n i =
    ap (λ (x : ℕ). earlier stereo n start + x) (turns_length f bytes start (channels stereo) k) ∙ earlier_turn stereo n start k h ∙ ap (earlier stereo n) (sym s.here) in
    rw (← v, ← j, s.here) (due_turn _ _ (turn_stores f bytes start (channels stereo)) _ room₀ (d room-there) k there room s.put)

-- the loop is over
pub channel_done : (stereo : Bool) (l : Last) (bytes : List ℕ) (start : ℕ) → start < channels stereo → (first stride : ℕ) → first ≡ channel_first l start → stride ≡ channels stereo
    → (room₀ room : List ℕ) (last i : ℕ) → Striding first bytes start stride room₀ room last i → length bytes ≤ i
    → (last ≡ channel_last (channel_first l start) bytes start (channels stereo)) × (room ≡ channel_room (channel_first l start) bytes start (channels stereo) room₀)
channel_done stereo l bytes start h first stride ef es room₀ room last i m g =
    strode (channel_first l start) bytes start (channels stereo) room₀ room last i (rw (ef, es) at m) h (channels_most stereo) g

pub stride_some : (stereo : Bool) (stride : ℕ) → stride ≡ channels stereo → 0 < stride
stride_some stereo stride e = omega (arith, channels_some stereo)

pub stride_most : (stereo : Bool) (stride : ℕ) → stride ≡ channels stereo → stride ≤ 2
stride_most stereo stride e = omega (arith, channels_most stereo)

-- all of a channel, in a room that holds the samples of all bytes
channel_within : (stereo : Bool) (first : ℕ) (bytes : List ℕ) (start : ℕ) (room : List ℕ) → start < channels stereo → 2 * length bytes ≤ length room
    → Within (length room) (channel_stores first bytes start (channels stereo))
unfolding Within
channel_within stereo first bytes start room h fits =
    within_each (length room) (turn_stores first bytes start (channels stereo)) _
    (λ k l. let t = there_turn stereo (length bytes) start k h l in (omega arith, (omega arith, tt)))

module _ (l : Last) (bytes room : List ℕ) (fits : HoldsOrNone (2 * length bytes) (length room)) where
  pub first_channel : (stereo : Bool) → NextChannel stereo l bytes 0 room
  unfolding data_stores earlier
  first_channel true g = due_first _ _ room (channel_within true l.next bytes 0 room (omega arith) (fits g))
  first_channel false g = due_all _ room (channel_within false l.next bytes 0 room (omega arith) (fits g))

  second_of_two : (room' : List ℕ) → room' ≡ channel_room l.next bytes 0 2 room → NextChannel true l bytes 1 room'
  unfolding data_stores
  second_of_two room' e g =
      let left = channel_stores l.next bytes 0 2 in
      let right = channel_stores l.other bytes 1 2 in
      let same : length room' ≡ length room = ap length e ∙ applied_length left room in
      let f : 2 * length bytes ≤ length room = fits (omega (arith, same)) in
      let w = within_append (length room) left right (channel_within true l.next bytes 0 room (omega arith) f) (channel_within true l.other bytes 1 room (omega arith) f) in
      let j : earlier true (length bytes) 1 ≡ length left =
      omega (arith, odd_earlier (length bytes) 1 (omega arith), turns_length l.next bytes 0 2 (bytes_in 0 2 (length bytes))) in
      rw j (due_second left right room room' w e)

  pub second_channel : (stereo : Bool) → stereo ≡ true → (room' : List ℕ) → room' ≡ channel_room l.next bytes 0 (channels stereo) room → NextChannel stereo l bytes 1 room'
  second_channel stereo t room' e = rw t (second_of_two room' (rw t at e))
