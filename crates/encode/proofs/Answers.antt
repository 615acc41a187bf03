-- The answers of the encoder, by its tests in order.
-- Assumes nothing.
use mathlib.Core.Path.{◌≡◌, refl, sym, ap, ◌∙◌}
use mathlib.Core.Bool.{true}
use mathlib.Core.List.{List, ◌++◌}
use Prim.Native.Nat.{ℕ, ◌+◌, ◌-◌, ◌*◌, ◌/◌, ◌≤◌}
use native.Mathlib.Omega.{arith}
use lib.ListN.{length, take, drop, replicate, length-append, length-drop}
use lib.Seq.{take_all}
use borrow.Author.Tests.{le-ltb}
use Rattle.packet.specs.Packet.{pixels}
use Rattle.packet.specs.Verdict.{legal_size}
use Rattle.packet.proofs.Sizes.{size_is, is_size}
use Rattle.room.specs.Room.{written}
use Rattle.room.proofs.Written.{written_behind, written_length}
use Rattle.std.proofs.Common.{Ok}
use Rattle.encode.specs.Encode.{Task, Lent, data_to, map_of, body_of, encode_verdict, outcome, left, encode_of}
use Rattle.encode.proofs.Blocks.{map_length}

pub body_length : (j : Task) (n : ℕ) → length (body_of j n) ≡ 14 + length (data_to j n)
unfolding body_of
body_length j n = length-append (replicate 14 0) (data_to j n)

-- 14 zeros are written, then the data in the part behind them
pub body_written : (j : Task) (n : ℕ) (room whole part : List ℕ) → whole ≡ written (replicate 14 0) room
    → part ≡ written (data_to j n) (take (length whole - 14) (drop 14 whole)) → take 14 whole ++ (part ++ drop (length whole - 14) (drop 14 whole)) ≡ written (body_of j n) room
unfolding body_of
body_written j n room whole part e p = written_behind (replicate 14 0) (data_to j n) room whole part 14 e refl p

pub zeros_length : (room whole : List ℕ) → whole ≡ written (replicate 14 0) room → 14 ≤ length room → length whole ≡ length room
zeros_length room whole e h = ap length e ∙ written_length (replicate 14 0) room h

pub part_room : (room whole : List ℕ) → whole ≡ written (replicate 14 0) room → (n m : ℕ) → m ≡ 14 + n → m ≤ length room → n ≤ length (take (length whole - 14) (drop 14 whole))
part_room room whole e n m q h =
    let l = zeros_length room whole e (omega arith) in
    rw (take_all (length whole - 14) (drop 14 whole) (omega (arith, length-drop 14 whole))) (omega (arith, length-drop 14 whole, l))

pub size_few : (columns rows : ℕ) → true ≡ legal_size columns rows → (columns ≤ 80) × (rows ≤ 60)
size_few columns rows e = let l = size_is columns rows (sym e) in (l.0.bound, l.1.bound)

module _ (j : Task) (rows : ℕ) where
  pub lent : true ≡ legal_size j.columns rows → pixels j.columns rows ≤ length j.wanted → pixels j.columns rows ≤ length j.front → pixels j.columns rows ≤ length j.back
      → Lent j rows
  lent e w f b = let l = size_is j.columns rows (sym e) in record { wide = l.0; high = l.1; wanted_long = w; front_long = f; back_long = b }

  pub makes : (map body : List ℕ) → Lent j rows → (m : ℕ) → m ≡ length (data_to j (j.columns * rows)) → 14 + m ≤ 65531 → (j.columns * rows + 1) / 2 ≤ length map → 14 + m ≤ length body
      → (map' body' : List ℕ) → map' ≡ written (map_of j (j.columns * rows)) map → body' ≡ written (body_of j (j.columns * rows)) body
      → left (Ok (record { map = (j.columns * rows + 1) / 2; body = 14 + m })) map' body' ≡ encode_of j rows map body
  unfolding encode_verdict outcome
  makes map body q m e s a o map' body' p r =
      let long : length (body_of j (j.columns * rows)) ≡ 14 + m = body_length j (j.columns * rows) ∙ ap (λ (x : ℕ). 14 + x) (sym e) in
      let short : length (body_of j (j.columns * rows)) ≤ 65531 = omega (arith, long) in
      let fits : length (map_of j (j.columns * rows)) ≤ length map = omega (arith, map_length j (j.columns * rows)) in
      let holds : length (body_of j (j.columns * rows)) ≤ length body = omega (arith, long) in
      rw (is_size j.columns rows q.wide q.high, le-ltb _ _ q.wanted_long, le-ltb _ _ q.front_long, le-ltb _ _ q.back_long, le-ltb _ _ short, le-ltb _ _ fits, le-ltb _ _ holds, p, r, long, map_length j (j.columns * rows))
