-- Bytes written behind others in a room.
-- Assumes nothing.
use mathlib.Core.Path.{◌≡◌, refl, sym, ap, ◌∙◌}
use mathlib.Core.Bool.{Bool, true, false, cond}
use mathlib.Core.List.{List, [], ◌++◌, append-nil, append_assoc}
use Prim.Native.Nat.{ℕ, ◌+◌, ◌-◌, ◌≤◌}
use native.Mathlib.Omega.{arith}
use lib.ListN.{length, take, drop, length-append, length-drop, drop_of_length-le, take-append-drop}
use lib.Seq.{take_all, drop-drop, length-take-le}
use Rattle.room.specs.Room.{written}
use Rattle.room.proofs.Written.{written_then, written_length}
use Rattle.parts.specs.Parts.{laid}

-- a part that was lent from index n on, as it stands in the whole when it is back
pub laid_back : (b whole part : List ℕ) (n : ℕ) → part ≡ written b (take (length whole - n) (drop n whole)) → take n whole ++ (part ++ drop (length whole - n) (drop n whole)) ≡ laid n b whole
unfolding laid
laid_back b whole part n ep =
    let long : length (drop n whole) ≤ length whole - n = omega (arith, length-drop n whole) in
    let p : part ≡ written b (drop n whole) = ep ∙ ap (written b) (take_all (length whole - n) (drop n whole) long) in
    rw (drop_of_length-le (drop n whole) long, append-nil part, p)

-- behind the bytes that stand at the front
pub laid_behind : (a b room₀ room : List ℕ) (n : ℕ) → room ≡ written a room₀ → n ≡ length a → laid n b room ≡ written (a ++ b) room₀
unfolding laid
laid_behind a b room₀ room n e q = rw (e, q) (written_then a b room₀)

pub laid_none : (at : ℕ) (room : List ℕ) → room ≡ laid at [] room
unfolding laid written
laid_none at room = sym (take-append-drop at room)

-- what stands before them is written, too
pub laid_written : (at : ℕ) (b room : List ℕ) → at ≤ length room → laid at b room ≡ written (take at room ++ b) room
unfolding laid written
laid_written at b room h =
    let n : length (take at room ++ b) ≡ at + length b = length-append (take at room) b ∙ ap (λ (k : ℕ). k + length b) (length-take-le at room h) in
    rw (n, drop-drop (length b) at room) (sym (append_assoc (take at room) b (drop (at + length b) room)))

pub laid_length : (at : ℕ) (b room : List ℕ) → at + length b ≤ length room → length (laid at b room) ≡ length room
laid_length at b room h =
    ap length (laid_written at b room (omega arith))
    ∙ written_length (take at room ++ b) room (omega (arith, length-append (take at room) b, length-take-le at room (omega arith)))

pub laid_then : (at : ℕ) (a b room : List ℕ) → at ≤ length room → laid (at + length a) b (laid at a room) ≡ laid at (a ++ b) room
laid_then at a b room h =
    laid_behind (take at room ++ a) b room (laid at a room) (at + length a) (laid_written at a room h)
    (sym (length-append (take at room) a ∙ ap (λ (k : ℕ). k + length a) (length-take-le at room h)))
    ∙ ap (λ (l : List ℕ). written l room) (append_assoc (take at room) a b) ∙ sym (laid_written at (a ++ b) room h)

-- ---- what is stored, or not

pub stored : {A : Type 0} (b : Bool) (x y r : A) → b ≡ true → r ≡ x → r ≡ cond b x y
stored b x y r h e = rw h e

pub not_stored : {A : Type 0} (b : Bool) (x y : A) → b ≡ false → y ≡ cond b x y
not_stored b x y h = rw h

-- of a room in which some bytes stand from index at on, or not
pub stored_none : (b : Bool) (at : ℕ) (room : List ℕ) → room ≡ cond b (laid at [] room) room
stored_none true at room = laid_none at room
stored_none false at room = refl

pub stored_length : (b : Bool) (at : ℕ) (a room : List ℕ) → (b ≡ true → at + length a ≤ length room) → length (cond b (laid at a room) room) ≡ length room
stored_length true at a room h = laid_length at a room (h refl)
stored_length false at a room h = refl

pub stored_then : (b : Bool) (at : ℕ) (a c room : List ℕ) (n : ℕ) → n ≡ at + length a → (b ≡ true → at ≤ length room)
    → cond b (laid n c (cond b (laid at a room) room)) (cond b (laid at a room) room) ≡ cond b (laid at (a ++ c) room) room
stored_then true at a c room n e h = rw e (laid_then at a c room (h refl))
stored_then false at a c room n e h = refl
