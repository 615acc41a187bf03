-- One channel of compressed sound by itself, as the loop over it goes: the data bytes from index start on, a stride apart. And the order of all stores.
-- Assumes nothing.
use Rattle.std.specs.Prelude.{ℕ, zero, suc, ◌+◌, ◌-◌, ◌*◌, ◌/◌, ◌%◌, ◌<◌, ◌≤◌, Bool, true, false, cond, List, ◌++◌, length, ◌==◌, slice_index, slice_set}
use Rattle.listed.specs.Store.{Store, applied, one, each}
use Rattle.listed.specs.Order.{Due}
use Rattle.dpcm.specs.Samples.{sample_after}
use Rattle.dpcm.specs.Packet.{channels}
use Rattle.dpcm.specs.declared.Last.{Last}

-- a sample's two bytes in a room, low first, from index at on
abbrev pub put_at : ℕ → ℕ → List ℕ → List ℕ
put_at at sample room = slice_set (slice_set room at (sample % 256)) (at + 1) (sample / 256)

-- and as a list of stores
abbrev pub sample_stores : ℕ → ℕ → List Store
sample_stores at sample = one at (sample % 256) ++ one (at + 1) (sample / 256)

-- what storing samples asks: the room holds so many bytes, or it is empty and they are dropped
abbrev pub HoldsOrNone : ℕ → ℕ → Type 0
HoldsOrNone bytes room = 0 < room → bytes ≤ room

-- how many of n bytes are the channel's
abbrev pub bytes_in : ℕ → ℕ → ℕ → ℕ
bytes_in start stride n = (n + stride - 1 - start) / stride

module _ (first : ℕ) (bytes : List ℕ) (start stride : ℕ) where
  -- the last sample behind k of them
  unfoldable pub last_behind : ℕ → ℕ
  last_behind zero = first
  last_behind (suc k) = sample_after (last_behind k) (slice_index bytes (start + k * stride))

  -- the stores of the next one: the sample of byte i goes to index 2 * i, between those of the other channel
  abbrev pub turn_stores : ℕ → List Store
  turn_stores k = sample_stores (2 * (start + k * stride)) (last_behind (suc k))

  -- the room behind k of them
  abbrev pub room_behind : List ℕ → ℕ → List ℕ
  room_behind room k = applied (each turn_stores k) room

  -- behind them all
  abbrev pub channel_last : ℕ
  channel_last = last_behind (bytes_in start stride (length bytes))

  abbrev pub channel_stores : List Store
  channel_stores = each turn_stores (bytes_in start stride (length bytes))

  abbrev pub channel_room : List ℕ → List ℕ
  channel_room room = room_behind room (bytes_in start stride (length bytes))

-- ---- the order of stores

-- the last sample that the channel of byte start goes on from: left is next
abbrev pub channel_first : Last → ℕ → ℕ
channel_first l start = cond (start == 0) l.next l.other

-- all stores of data bytes: in stereo those of the left channel, then those of the right one
unfoldable pub data_stores : Bool → Last → List ℕ → List Store
data_stores true l bytes = channel_stores l.next bytes 0 2 ++ channel_stores l.other bytes 1 2
data_stores false l bytes = channel_stores l.next bytes 0 1

-- how many of them come before those of byte i of n
unfoldable pub earlier : Bool → ℕ → ℕ → ℕ
earlier true n i = cond (i % 2 == 0) 0 (2 * bytes_in 0 2 n) + 2 * (i / 2)
earlier false n i = 2 * i

module _ (stereo : Bool) (l : Last) (bytes : List ℕ) where
  -- those before are made, and next is one half of the sample of byte i, the low byte (0) or the high byte (1)
  abbrev pub NextHalf : ℕ → ℕ → ℕ → List ℕ → Type 0
  NextHalf i half value room = Due (data_stores stereo l bytes) (earlier stereo (length bytes) i + half) (one (2 * i + half) value) room

  -- next is the sample of byte i; an empty room drops it
  abbrev pub NextSample : ℕ → ℕ → List ℕ → Type 0
  NextSample i sample room = 0 < length room → Due (data_stores stereo l bytes) (earlier stereo (length bytes) i) (sample_stores (2 * i) sample) room

  -- next is the channel of byte start
  abbrev pub NextChannel : ℕ → List ℕ → Type 0
  NextChannel start room =
      0 < length room → Due (data_stores stereo l bytes) (earlier stereo (length bytes) start) (channel_stores (channel_first l start) bytes start (channels stereo)) room
