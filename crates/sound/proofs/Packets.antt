-- Packets of a known format: what the tests of 18 and 19 give, how many bytes go out, and silence.
-- Assumes nothing.
use mathlib.Core.Path.{◌≡◌, refl, sym, ap, ◌∙◌}
use mathlib.Core.Bool.{Bool, true, false, cond}
use mathlib.Core.List.{List, ◌∷◌}
use Prim.Native.Nat.{ℕ, zero, suc, ◌+◌, ◌*◌, ◌-◌, ◌≤◌}
use native.Mathlib.Omega.{arith}
use borrow.Author.Tests.{leb-true, eqb-true}
use lib.Dec.{eqb}
use lib.ListN.{length, replicate, length-replicate}
use Rattle.words.proofs.Tests.{first}
use Rattle.dpcm.specs.Samples.{bytes_of}
use Rattle.dpcm.specs.Packet.{channels, packet_samples}
use Rattle.dpcm.proofs.Samples.{bytes_length}
use Rattle.dpcm.proofs.Packet.{packet_count}
use Rattle.sound.specs.Format.{carried}
use Rattle.sound.specs.Step.{sample_bytes, exact, output, silence, Writable}
use Rattle.sound.specs.declared.Sound.{Sound}

pub not_true : false ≡ true → ⊥
not_true e = let z : ◌≡◌ {A = ℕ} 0 1 = cc in omega arith

-- ---- the length of the data

-- data of the right length, by the kind of packet
pub data Exact (stereo wide : Bool) (count bytes : ℕ) : Bool → Bool → Type 0 where
  later : bytes ≡ count → Exact stereo wide count bytes true true
  start : channels stereo ≤ count → bytes ≡ 2 * channels stereo + (count - channels stereo) → Exact stereo wide count bytes true false
  plain : {begun : Bool} → bytes ≡ count * sample_bytes wide false → Exact stereo wide count bytes false begun

pub exact_data : (stereo wide compressed begun : Bool) (count bytes : ℕ) → exact stereo wide compressed begun count bytes ≡ true → Exact stereo wide count bytes compressed begun
unfolding exact
exact_data stereo wide true true count bytes e = later (eqb-true bytes count e)
exact_data stereo wide true false count bytes e =
    let q = first _ _ _ _ not_true e in
    start (leb-true (channels stereo) count q.0) (eqb-true bytes _ q.1)
exact_data stereo wide false begun count bytes e = plain (eqb-true bytes _ e)

-- such data can be written where the room holds its samples
pub writable : (stereo wide compressed begun : Bool) (count bytes room : ℕ) → Exact stereo wide count bytes compressed begun
    → count * sample_bytes wide compressed ≤ room → Writable stereo compressed begun bytes room
unfolding sample_bytes
writable stereo wide true true count bytes room (later e) h =
    record { packet = λ t. record { start = omega arith; samples = omega arith }; copied = λ t. absurd (not_true (sym t)) }
writable stereo wide true false count bytes room (start g e) h =
    record { packet = λ t. record { start = omega arith; samples = omega arith }; copied = λ t. absurd (not_true (sym t)) }
writable stereo wide false begun count bytes room (plain e) h =
    record { packet = λ t. absurd (not_true t); copied = λ t. omega arith }

-- the bytes written are count times the bytes of a sample
pub output_length : (s : Sound) (stereo wide compressed : Bool) (count : ℕ) (bytes : List ℕ) → Exact stereo wide count (length bytes) compressed s.begun
    → length (output s stereo compressed bytes) ≡ count * sample_bytes wide compressed
unfolding output sample_bytes
output_length s stereo wide compressed count bytes x = by compressed s.begun x
  where
    by : (c b : Bool) → Exact stereo wide count (length bytes) c b → length (cond c (bytes_of (packet_samples stereo b (carried s) bytes)) bytes) ≡ count * cond c 2 (cond wide 2 1)
    by true true (later e) = omega (arith, bytes_length (packet_samples stereo true (carried s) bytes), packet_count stereo true (carried s) bytes (omega arith))
    by true false (start g e) = omega (arith, bytes_length (packet_samples stereo false (carried s) bytes), packet_count stereo false (carried s) bytes (omega arith))
    by false b (plain e) = e

-- ---- silence

zeros : (n : ℕ) → bytes_of (replicate n 0) ≡ replicate (n * 2) 0
unfolding bytes_of
zeros zero = refl
zeros (suc n) = let e : suc n * 2 ≡ suc (suc (n * 2)) = omega arith in rw e (ap (λ (l : List ℕ). 0 ∷ 0 ∷ l) (zeros n))

pub silence_bytes : (wide compressed : Bool) (count each : ℕ) → each ≡ sample_bytes wide compressed → silence each count ≡ replicate (count * each) (cond (eqb each 2) 0 128)
unfolding sample_bytes silence
silence_bytes wide true count each e = rw e (zeros count)
silence_bytes true false count each e = rw e (zeros count)
silence_bytes false false count each e = let q : count * 1 ≡ count = omega arith in rw (e, q) refl

pub silence_length : (wide compressed : Bool) (count : ℕ) → length (silence (sample_bytes wide compressed) count) ≡ count * sample_bytes wide compressed
silence_length wide compressed count = ap length (silence_bytes wide compressed count (sample_bytes wide compressed) refl) ∙ length-replicate (count * sample_bytes wide compressed) _
