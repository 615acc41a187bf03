-- The order of an opcode's stores, where so many are allowed: what comes next in the turns of the loops and behind them.
-- Assumes nothing.
use mathlib.Core.Path.{◌≡◌, refl, ap}
use mathlib.Core.List.{List, ◌++◌}
use Prim.Native.Nat.{ℕ, ◌+◌, ◌-◌, ◌<◌, min}
use native.Mathlib.Omega.{arith}
use lib.ListN.{length, take, length-append, length-take}
use Rattle.listed.specs.Store.{Store, applied, one, each, byte, bytes}
use Rattle.listed.specs.Order.{Due}
use Rattle.listed.proofs.Lists.{applied_length, each_length, each_next}
use Rattle.listed.proofs.Making.{Making}
use Rattle.listed.proofs.Order.{due_byte, due_inside}
use Rattle.palette.specs.Asked.{Ready, Next}
use Rattle.palette.proofs.Allowing.{take_bytes, due_loop, Allowing}

module _ (list : List Store) (allowed before : ℕ) where
  -- turn i of a loop, with the count that code keeps
  pub next_turn : (f : ℕ → List Store) (n : ℕ) (p₀ : List ℕ) → Next list allowed before (each f n) p₀ → (p : List ℕ) (i : ℕ) → Allowing f p₀ (allowed - before) n p i → i < n
      → (then : ℕ) → then ≡ before + length (each f i) → Next list allowed then (f i) p
  next_turn f n p₀ d p i m h then e =
      let k = allowed - before in
      let q = each_next f i n h in
      let x : min before allowed + length (take k (each f i)) ≡ min then allowed = omega (arith, length-take k (each f i)) in
      let y : k - length (each f i) ≡ allowed - then = omega arith in
      record {
        due = rw (← x, ← y) (due_loop _ _ k f n p₀ d.due i h p m.now);
        few = omega (arith, d.few, ap length q.1, length-append (each f i) (f i ++ q.0), length-append (f i) q.0);
      }

  -- byte i of some side by side, of which m are allowed
  module _ (first : ℕ) (value : ℕ → ℕ) (n : ℕ) (p₀ : List ℕ) (d : Next list allowed before (bytes first value n) p₀) (m : ℕ) (s : m ≡ min n (allowed - before)) where
    pub next_byte : (p : List ℕ) (i : ℕ) → Making (byte first value) p₀ m p i → i < m → (t v : ℕ) → t ≡ first + i → v ≡ value i → Ready list (one t v) p
    next_byte p i g h t v et ev =
        let z : min before allowed ≡ before = omega arith in
        let x : Due list (min before allowed) (bytes first value m) p₀ = rw (take_bytes first value (allowed - before) n m s) d.due in
        (before + i, rw z at (due_byte list (min before allowed) first value m p₀ x p i g h t v et ev))

    pub bytes_inside : (i : ℕ) → i < m → first + i < length p₀
    bytes_inside i h =
        let g : Making (byte first value) p₀ m (applied (bytes first value i) p₀) i = record { within = omega arith; now = refl } in
        omega (arith, due_inside _ _ _ _ _ (next_byte _ i g h _ _ refl refl).1, applied_length (bytes first value i) p₀)

-- the count before the first turn, and behind turn i
pub count_none : (f : ℕ → List Store) (before : ℕ) → before ≡ before + length (each f 0)
unfolding each
count_none f before = omega arith

pub count_more : (f : ℕ → List Store) (before i then more r : ℕ) → then ≡ before + length (each f i) → more ≡ length (f i) → r ≡ then + more → r ≡ before + length (each f (i + 1))
count_more f before i then more r e x y = omega (arith, each_length f i)
