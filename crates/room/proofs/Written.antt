-- How a room is written byte by byte and part by part.
-- Assumes nothing.
use mathlib.Core.Path.{◌≡◌, refl, sym, ap, ◌∙◌}
use mathlib.Core.List.{List, [], ◌∷◌, ◌++◌, append_assoc, append-nil}
use Prim.Native.Nat.{ℕ, zero, suc, ◌+◌, ◌-◌, ◌≤◌, ◌<◌}
use native.Mathlib.Omega.{arith}
use native.Mathlib.Numerals.{add-one}
use lib.ListN.{length, take, drop, get_or, set, replicate, length-append, length-drop, length-replicate, get_or-replicate, drop_of_length-le}
use lib.Seq.{drop-cons, set_at, drop-drop, take-suc, length-take-le, take-length, take-append_seam, drop-append_seam, take_all}
use Rattle.listed.specs.Store.{applied, each, byte, bytes as bytesFrom, from, Within}
use Rattle.listed.proofs.Lists.{applied_append, applied_byte, within_bytes, from_is}
use Rattle.listed.proofs.Making.{Making, making_more, making_end}
use Rattle.listed.proofs.Order.{due_all, due_byte}
use Rattle.room.specs.Room.{written, writing, NextByte}

pub written_none : (room : List ℕ) → room ≡ written [] room
unfolding written
written_none room = refl

-- a write that fits keeps the room's length
pub written_length : (bytes room : List ℕ) → length bytes ≤ length room → length (written bytes room) ≡ length room
unfolding written
written_length bytes room h =
    length-append bytes (drop (length bytes) room) ∙ omega (arith, length-drop (length bytes) room)

-- the bytes stand at the front
pub written_front : (bytes room : List ℕ) → take (length bytes) (written bytes room) ≡ bytes
unfolding written
written_front bytes room = take-append_seam bytes (drop (length bytes) room)

-- the rest stays
pub written_rest : (bytes room : List ℕ) → drop (length bytes) (written bytes room) ≡ drop (length bytes) room
unfolding written
written_rest bytes room = drop-append_seam bytes (drop (length bytes) room)

-- one byte more
pub written_more : (bytes room : List ℕ) (v : ℕ) → length bytes < length room
    → set (written bytes room) (length bytes) v ≡ written (bytes ++ (v ∷ [])) room
unfolding written
written_more bytes room v h =
    let n : length (bytes ++ (v ∷ [])) ≡ suc (length bytes) = length-append bytes (v ∷ []) ∙ add-one (length bytes) in
    rw (drop-cons room (length bytes) 0, set_at bytes (get_or room (length bytes) 0) (drop (suc (length bytes)) room) v (length bytes) refl, n)
    (sym (append_assoc bytes (v ∷ []) (drop (suc (length bytes)) room)))

-- bytes written, and more bytes in the part behind them
pub written_then : (a b room : List ℕ) → take (length a) (written a room) ++ written b (drop (length a) (written a room)) ≡ written (a ++ b) room
unfolding written
written_then a b room =
    rw (take-append_seam a (drop (length a) room), drop-append_seam a (drop (length a) room), drop-drop (length b) (length a) room, length-append a b)
    (sym (append_assoc a b (drop (length a + length b) room)))

-- the same of a part that was lent from index n on, as it stands in the whole when it is back
pub written_behind : (a b room whole part : List ℕ) (n : ℕ) → whole ≡ written a room → n ≡ length a
    → part ≡ written b (take (length whole - n) (drop n whole)) → take n whole ++ (part ++ drop (length whole - n) (drop n whole)) ≡ written (a ++ b) room
written_behind a b room whole part n ew en ep =
    let long : length (drop n whole) ≤ length whole - n = omega (arith, length-drop n whole) in
    let p : part ≡ written b (drop n whole) = ep ∙ ap (written b) (take_all (length whole - n) (drop n whole) long) in
    rw (drop_of_length-le (drop n whole) long, append-nil part, p, ew, en) (written_then a b room)

-- ---- parts that follow each other

-- the bytes w are written, and the next byte goes to index at
pub record Writing (room₀ w : List ℕ) (at : ℕ) (room : List ℕ) : Type 0 where
  pub now : room ≡ written w room₀
  pub end : at ≡ length w
  pub fits : at ≤ length room₀

pub writing_start : (room : List ℕ) → Writing room [] 0 room
writing_start room = record { now = written_none room; end = refl; fits = omega arith }

pub writing_more : (room₀ w : List ℕ) (at : ℕ) (room : List ℕ) → Writing room₀ w at room → at < length room₀ → (w' room' : List ℕ) (v : ℕ) → w' ≡ w ++ (v ∷ []) → room' ≡ set room at v
    → Writing room₀ w' (at + 1) room'
writing_more room₀ w at room m h w' room' v ew e =
    record {
      now = rw (e, m.now, m.end, ew) (written_more w room₀ v (omega (arith, m.end)));
      end = omega (arith, ap length ew, length-append w (v ∷ []), m.end);
      fits = omega arith;
    }

-- ---- the stores of bytes, from the first on

pub take_more : (l : List ℕ) (i : ℕ) → i < length l → take (i + 1) l ≡ take i l ++ (get_or l i 0 ∷ [])
take_more l i h = rw (add-one i) (take-suc l i 0 h)

module _ (bytes room₀ : List ℕ) (fits : length bytes ≤ length room₀) where
  -- i of them
  leaves : (i : ℕ) → i ≤ length bytes → applied (bytesFrom 0 (from bytes 0) i) room₀ ≡ written (take i bytes) room₀
  unfolding each applied byte from
  leaves zero h = written_none room₀
  leaves (suc i) h =
      let l : i < length bytes = omega arith in
      let n : length (take i bytes) ≡ i = length-take-le i bytes (omega arith) in
      let z : 0 + i ≡ i = omega arith in
      let t : set (written (take i bytes) room₀) i (get_or bytes i 0) ≡ written (take (suc i) bytes) room₀ =
      ap (λ (k : ℕ). set (written (take i bytes) room₀) k (get_or bytes i 0)) (sym n)
      ∙ written_more (take i bytes) room₀ (get_or bytes i 0) (omega (arith, n))
      ∙ ap (λ (l : List ℕ). written l room₀) (sym (take-suc bytes i 0 l)) in
      applied_append (bytesFrom 0 (from bytes 0) i) (byte 0 (from bytes 0) i) room₀
      ∙ ap (λ (r : List ℕ). set r (0 + i) (get_or bytes (0 + i) 0)) (leaves i (omega arith))
      ∙ ap (λ (k : ℕ). set (written (take i bytes) room₀) k (get_or bytes k 0)) z ∙ t

  -- all of them
  pub writes_all : applied (writing bytes) room₀ ≡ written bytes room₀
  writes_all = leaves (length bytes) (omega arith) ∙ ap (λ (l : List ℕ). written l room₀) (take-length bytes)

  pub writing_within : Within (length room₀) (writing bytes)
  writing_within = within_bytes (length room₀) 0 (from bytes 0) (length bytes) (λ i h. omega arith)

  -- the loop that makes them, for bytes of this number and with these values
  module _ (n : ℕ) (e : n ≡ length bytes) (room : List ℕ) (i : ℕ) (m : Making (byte 0 (from bytes 0)) room₀ n room i) where
    pub next_byte : i < n → (v : ℕ) → v ≡ get_or bytes i 0 → NextByte bytes i v room
    next_byte h v ev =
        let z : 0 + i ≡ i = omega arith in
        let o : i ≡ 0 + i = omega arith in
        let x : v ≡ from bytes 0 i = ev ∙ ap (λ (k : ℕ). get_or bytes k 0) o ∙ from_is bytes 0 i in
        rw z at (due_byte (writing bytes) 0 0 (from bytes 0) (length bytes) room₀ (due_all (writing bytes) room₀ writing_within) room i (rw e at m) (rw e at h) i v o x)

    pub byte_put : i < n → (room' : List ℕ) (v : ℕ) → v ≡ get_or bytes i 0 → room' ≡ set room i v → Making (byte 0 (from bytes 0)) room₀ n room' (i + 1)
    byte_put h room' v ev er =
        let o : i ≡ 0 + i = omega arith in
        making_more _ _ _ _ _ m h room' (applied_byte 0 (from bytes 0) i room room' i v o (ev ∙ ap (λ (k : ℕ). get_or bytes k 0) o ∙ from_is bytes 0 i) er)

    pub all_put : n ≤ i → room ≡ written bytes room₀
    all_put h = making_end _ _ _ _ _ m h ∙ ap (λ (k : ℕ). applied (bytesFrom 0 (from bytes 0) k) room₀) e ∙ writes_all

-- equal bytes: how many, and each of them
pub same_count : (n v : ℕ) → n ≡ length (replicate n v)
same_count n v = sym (length-replicate n v)

pub same_value : (n v i : ℕ) → i < n → v ≡ get_or (replicate n v) i 0
same_value n v i h = sym (get_or-replicate n i v 0 h)
