-- Rows of packets (document 02, W5): later packets go on from the last sample of each channel. The packets are those of 08 in one format, by their count
-- and data; what stands between them and leaves the sound as it was (09, packets for other streams) is left out.
-- Assumes nothing.
use Rattle.std.specs.Prelude.{◌≡◌, Bool, List, [], ◌∷◌, ◌++◌, ℕ, ◌+◌}
use Rattle.sound.specs.Step.{taken, data_step}
use Rattle.sound.specs.declared.Sound.{Sound}

-- a packet: its count of samples and its data
pub record Packet : Type 0 where
  pub count : ℕ
  pub bytes : List ℕ

-- packets that are taken one after the other, each in a room of its own: the sound at the end, and all that goes out
pub data Row (stereo wide compressed : Bool) : Sound → List Packet → Sound → List ℕ → Type 0 where
  none : {s : Sound} → Row stereo wide compressed s [] s []
  one : {s then t : Sound} {p : Packet} {more : List Packet} {out rest : List ℕ} (room : ℕ) → data_step s stereo wide compressed p.count p.bytes room ≡ taken then out
      → Row stereo wide compressed then more t rest → Row stereo wide compressed s (p ∷ more) t (out ++ rest)

-- one long packet: the counts added up, the data joined
unfoldable pub joined : Packet → List Packet → Packet
joined p [] = p
joined p (q ∷ more) = record { count = p.count + (joined q more).count; bytes = p.bytes ++ (joined q more).bytes }
