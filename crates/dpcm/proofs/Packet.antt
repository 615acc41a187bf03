-- Packets: what the functions that decode one need, and a packet cut in two.
-- Assumes nothing.
use Rattle.std.proofs.Common.{◌≡◌, ℕ, ◌+◌, ◌-◌, ◌*◌, ◌/◌, ◌%◌, ◌<◌, ◌≤◌, Bool, true, false, cond, List, [], ◌++◌, length, get_or, take, drop, set, sym, refl, ap, ◌∙◌, append_assoc, arith, length-append, length-drop, length-take-le}
use lib.ListN.{get_or-append}
use lib.Seq.{drop-append-le}
use Rattle.words.specs.Word.{word_at}
use Rattle.listed.specs.Store.{byte, from}
use Rattle.listed.proofs.Making.{Making, making_start}
use Rattle.room.specs.Room.{written, NextByte}
use Rattle.room.proofs.Written.{written_none, written_behind, next_byte, byte_put, all_put}
use Rattle.dpcm.specs.Samples.{last, samples, last_of, bytes_of}
use Rattle.dpcm.specs.Packet.{channels, start_words, first_samples, start_length, packet_first, leading, packet_samples, packet_last, Fits}
use Rattle.dpcm.specs.Stride.{HoldsOrNone}
use Rattle.dpcm.specs.declared.Last.{Last}
use Rattle.dpcm.proofs.Samples.{bytes_length, samples_append, last_append, samples_length, bytes_append}
use Rattle.dpcm.proofs.Decoding.{held, none_left}

-- ---- start words

-- their bytes
pub start_bytes : (stereo : Bool) (l : Last) → length (bytes_of (first_samples stereo l)) ≡ 2 * channels stereo
unfolding first_samples bytes_of
start_bytes true l = refl
start_bytes false l = refl

-- each of them, as code works it out
next_low : (stereo : Bool) (l : Last) → l.next % 256 ≡ get_or (bytes_of (first_samples stereo l)) 0 0
unfolding first_samples bytes_of
next_low true l = refl
next_low false l = refl

next_high : (stereo : Bool) (l : Last) → l.next / 256 ≡ get_or (bytes_of (first_samples stereo l)) 1 0
unfolding first_samples bytes_of
next_high true l = refl
next_high false l = refl

other_low : (stereo : Bool) (l : Last) → stereo ≡ true → l.other % 256 ≡ get_or (bytes_of (first_samples stereo l)) 2 0
unfolding first_samples bytes_of
other_low stereo l t = rw t

other_high : (stereo : Bool) (l : Last) → stereo ≡ true → l.other / 256 ≡ get_or (bytes_of (first_samples stereo l)) 3 0
unfolding first_samples bytes_of
other_high stereo l t = rw t

two_or_four : (stereo : Bool) → 2 ≤ 2 * channels stereo
two_or_four true = omega arith
two_or_four false = omega arith

-- they are written one after the other: i of them are
module _ (stereo : Bool) (l : Last) (room₀ : List ℕ) (fits : 2 * channels stereo ≤ length room₀) where
  abbrev words : List ℕ
  words = bytes_of (first_samples stereo l)

  abbrev pub Starting : List ℕ → ℕ → Type 0
  Starting room i = Making (byte 0 (from words 0)) room₀ (length words) room i

  words_fit : length words ≤ length room₀
  words_fit = omega (arith, start_bytes stereo l)

  low_there : 1 < length words
  low_there = omega (arith, start_bytes stereo l, two_or_four stereo)

  pub start_next_low : NextByte words 0 (l.next % 256) room₀
  start_next_low = next_byte words room₀ words_fit (length words) refl room₀ 0 (making_start _ _ _) (omega (arith, low_there)) _ (next_low stereo l)

  module _ (room₁ : List ℕ) (e₁ : room₁ ≡ set room₀ 0 (l.next % 256)) where
    one_put : Starting room₁ 1
    one_put = byte_put words room₀ words_fit (length words) refl room₀ 0 (making_start _ _ _) (omega (arith, low_there)) room₁ _ (next_low stereo l) e₁

    pub start_next_high : NextByte words 1 (l.next / 256) room₁
    start_next_high = next_byte words room₀ words_fit (length words) refl room₁ 1 one_put low_there _ (next_high stereo l)

    module _ (room₂ : List ℕ) (e₂ : room₂ ≡ set room₁ 1 (l.next / 256)) where
      two_put : Starting room₂ 2
      two_put = byte_put words room₀ words_fit (length words) refl room₁ 1 one_put low_there room₂ _ (next_high stereo l) e₂

      pub start_written_mono : stereo ≡ false → room₂ ≡ written words room₀
      start_written_mono t =
          let n : 2 * channels stereo ≡ 2 = rw t in
          all_put words room₀ words_fit (length words) refl room₂ 2 two_put (omega (arith, n, start_bytes stereo l))

      module _ (t : stereo ≡ true) where
        four : length words ≡ 4
        four = let n : 2 * channels stereo ≡ 4 = rw t in omega (arith, n, start_bytes stereo l)

        pub start_other_low : NextByte words 2 (l.other % 256) room₂
        start_other_low = next_byte words room₀ words_fit (length words) refl room₂ 2 two_put (omega (arith, four)) _ (other_low stereo l t)

        module _ (room₃ : List ℕ) (e₃ : room₃ ≡ set room₂ 2 (l.other % 256)) where
          three_put : Starting room₃ 3
          three_put = byte_put words room₀ words_fit (length words) refl room₂ 2 two_put (omega (arith, four)) room₃ _ (other_low stereo l t) e₃

          pub start_other_high : NextByte words 3 (l.other / 256) room₃
          start_other_high = next_byte words room₀ words_fit (length words) refl room₃ 3 three_put (omega (arith, four)) _ (other_high stereo l t)

          pub start_written_stereo : (room₄ : List ℕ) → room₄ ≡ set room₃ 3 (l.other / 256) → room₄ ≡ written words room₀
          start_written_stereo room₄ e₄ =
              all_put words room₀ words_fit (length words) refl room₄ 4
              (byte_put words room₀ words_fit (length words) refl room₃ 3 three_put (omega (arith, four)) room₄ _ (other_high stereo l t) e₄) (omega (arith, four))

-- ---- a packet, first or not

leading_bytes : (stereo begun : Bool) (first : Last) → length (bytes_of (leading stereo begun first)) ≡ start_length stereo begun
unfolding leading bytes_of
leading_bytes stereo true first = refl
leading_bytes stereo false first = start_bytes stereo first

rest_room : (stereo begun : Bool) (bytes room : ℕ) → Fits stereo begun bytes room → 2 * (bytes - start_length stereo begun) ≤ room - start_length stereo begun
rest_room stereo true bytes room f = let g : 2 * (bytes - 0) ≤ room = f.samples in omega (arith, g)
rest_room stereo false bytes room f = omega (arith, f.start, f.samples)

module _ (stereo begun : Bool) (l : Last) (bytes : List ℕ) (first : Last) (ef : first ≡ packet_first stereo begun l bytes)
    (n : ℕ) (en : n ≡ start_length stereo begun) (rest : List ℕ) (er : rest ≡ drop n bytes) where
  -- the last samples, whether the others are written or dropped
  pub packet_passed : (r : Last) → r ≡ last_of stereo first rest → r ≡ packet_last stereo begun l bytes
  unfolding packet_last
  packet_passed r e = e ∙ rw (er, en, ef) refl

  module _ (room whole : List ℕ) (f : Fits stereo begun (length bytes) (length room)) (same : length whole ≡ length room) where
    rest_holds : 2 * length rest ≤ length (take (length whole - n) (drop n whole))
    rest_holds =
        let k = length-take-le (length whole - n) (drop n whole) (omega (arith, length-drop n whole)) in
        omega (arith, k, en, ap length er, length-drop n bytes, rest_room stereo begun _ _ f)

    pub packet_decoded : whole ≡ written (bytes_of (leading stereo begun first)) room → (r : Last) (part : List ℕ)
        → (r ≡ last_of stereo first rest) × (let behind = take (length whole - n) (drop n whole) in part ≡ written (take (length behind) (bytes_of (samples stereo first rest))) behind)
        → (r ≡ packet_last stereo begun l bytes) × (take n whole ++ (part ++ drop (length whole - n) (drop n whole)) ≡ written (bytes_of (packet_samples stereo begun l bytes)) room)
    unfolding packet_samples
    packet_decoded ew r part e =
        let m : n ≡ length (bytes_of (leading stereo begun first)) = en ∙ sym (leading_bytes stereo begun first) in
        let w = written_behind (bytes_of (leading stereo begun first)) (bytes_of (samples stereo first rest)) room whole part n ew m (held stereo first rest _ part rest_holds e.1) in
        (packet_passed r e.0, w ∙ ap (λ (x : List ℕ). written x room) (sym (bytes_append (leading stereo begun first) (samples stereo first rest)) ∙ rw (er, en, ef) refl))

-- ---- how many samples, and a packet cut in two: what is carried from one packet to the next is enough

first_count : (stereo : Bool) (l : Last) → length (first_samples stereo l) ≡ channels stereo
unfolding first_samples
first_count true l = refl
first_count false l = refl

word_kept : (a b : List ℕ) (i : ℕ) → i + 2 ≤ length a → word_at (a ++ b) i ≡ word_at a i
unfolding word_at
word_kept a b i h =
    let low : i < length a = omega arith in
    let high : i + 1 < length a = omega arith in
    rw (get_or-append a b 0 i low, get_or-append a b 0 (i + 1) high)

start_kept : (stereo : Bool) (l : Last) (a b : List ℕ) → 2 * channels stereo ≤ length a → start_words stereo l (a ++ b) ≡ start_words stereo l a
unfolding start_words
start_kept true l a b h = rw (word_kept a b 0 (omega arith), word_kept a b 2 (omega arith))
start_kept false l a b h = rw (word_kept a b 0 (omega arith))

module _ (stereo : Bool) where
  pub packet_count : (begun : Bool) (l : Last) (bytes : List ℕ) → start_length stereo begun ≤ length bytes
      → length (packet_samples stereo begun l bytes) ≡ length bytes - cond begun 0 (channels stereo)
  unfolding packet_samples leading packet_first
  packet_count true l bytes h = omega (arith, samples_length stereo l bytes)
  packet_count false l bytes h =
      let f = start_words stereo l bytes in
      omega (arith, length-append (first_samples stereo f) (samples stereo f (drop (2 * channels stereo) bytes)), first_count stereo f, samples_length stereo f (drop (2 * channels stereo) bytes), length-drop (2 * channels stereo) bytes)

  pub packet_samples_then : (begun : Bool) (l : Last) (a b : List ℕ) → start_length stereo begun ≤ length a
      → packet_samples stereo begun l (a ++ b) ≡ packet_samples stereo begun l a ++ packet_samples stereo true (packet_last stereo begun l a) b
  unfolding packet_samples packet_last leading packet_first
  packet_samples_then true l a b h = samples_append stereo l a b
  packet_samples_then false l a b h =
      let f = start_words stereo l a in
      rw (start_kept stereo l a b h, drop-append-le (2 * channels stereo) a b h, samples_append stereo f (drop (2 * channels stereo) a) b)
      (sym (append_assoc (first_samples stereo f) (samples stereo f (drop (2 * channels stereo) a)) (samples stereo (last_of stereo f (drop (2 * channels stereo) a)) b)))

  pub packet_last_then : (begun : Bool) (l : Last) (a b : List ℕ) → start_length stereo begun ≤ length a
      → packet_last stereo begun l (a ++ b) ≡ packet_last stereo true (packet_last stereo begun l a) b
  unfolding packet_last packet_first
  packet_last_then true l a b h = last_append stereo l a b
  packet_last_then false l a b h =
      rw (start_kept stereo l a b h, drop-append-le (2 * channels stereo) a b h) (last_append stereo (start_words stereo l a) (drop (2 * channels stereo) a) b)

-- a packet that fits an empty room has no samples
pub none_fits : (stereo begun : Bool) (l : Last) (bytes room room' : List ℕ) → length room ≡ 0 → length room' ≡ length room → Fits stereo begun (length bytes) (length room)
    → room' ≡ written (bytes_of (packet_samples stereo begun l bytes)) room
unfolding written
none_fits stereo begun l bytes room room' e e' f =
    let out = bytes_of (packet_samples stereo begun l bytes) in
    let z : length out ≤ 0 = omega (arith, bytes_length (packet_samples stereo begun l bytes), packet_count stereo begun l bytes f.start, f.samples) in
    let a : out ≡ [] = none_left out z in
    let b : room ≡ [] = none_left room (omega arith) in
    let c : room' ≡ [] = none_left room' (omega arith) in
    rw (a, b, c)
