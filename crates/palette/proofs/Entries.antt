-- Opcode 0C by its tests: a law for each way out, over the words that code has read.
-- Assumes nothing.
use mathlib.Core.Path.{◌≡◌, sym, ◌∙◌}
use mathlib.Core.Bool.{true, false}
use mathlib.Core.List.{List}
use Prim.Native.Nat.{ℕ, ◌+◌, ◌-◌, ◌*◌, ◌≤◌, ◌<◌, min}
use native.Mathlib.Omega.{arith}
use borrow.Author.Tests.{eq-eqb, ne_eqb, eqb-true, le-leb, lt-leb, leb-true}
use lib.ListN.{length, take}
use Rattle.refusal.specs.Number.{accept, refuse}
use Rattle.listed.specs.Store.{applied, bytes, from, Within}
use Rattle.palette.specs.Update.{legal, verdict, verdict_for}
use Rattle.listed.proofs.Lists.{bytes_length, within_bytes}
use Rattle.palette.proofs.Allowing.{due_list}
use Rattle.palette.proofs.Judging.{legal_bytes}
use Rattle.palette.proofs.Outcome.{refuses_5, refuses_range, refuses_component, accepts, accepted, taken_on}
use Rattle.palette.specs.Entries.{start, count, set_palette}
use Rattle.palette.specs.Asked.{Next}

module _ (body : List ℕ) (m : ℕ) (h : m ≡ 768) (s n : ℕ) (x : s ≡ start body) (y : n ≡ count body) where
  pub wrong_length : (length body ≡ 4 + 3 * n → ⊥) → refuse 5 0 ≡ verdict_for (set_palette body) m
  wrong_length f = refuses_5 (set_palette body) m h (rw (← y) (ne_eqb _ _ f))

  module _ (l : length body ≡ 4 + 3 * n) where
    right_length : (set_palette body).exact ≡ true
    right_length = rw (← y) (eq-eqb _ _ l)

    pub past_the_last : 256 < s + n → refuse 7 0 ≡ verdict_for (set_palette body) m
    past_the_last f = refuses_range (set_palette body) m h right_length (rw (← x, ← y) (lt-leb _ _ f))

    module _ (f : s + n ≤ 256) where
      in_range : (set_palette body).inside ≡ true
      in_range = rw (← x, ← y) (le-leb _ _ f)

      pub too_large : legal (bytes 0 (from body 4) (3 * n)) ≡ false → refuse 7 0 ≡ verdict_for (set_palette body) m
      too_large e = refuses_component (set_palette body) m h right_length in_range (rw (← y) (legal_bytes _ 0 (from body 4) (3 * n) ∙ e))

      pub takes_entries : legal (bytes 0 (from body 4) (3 * n)) ≡ true → accept ≡ verdict_for (set_palette body) m
      takes_entries e = accepts (set_palette body) m h right_length in_range (rw (← y) (legal_bytes _ 0 (from body 4) (3 * n) ∙ e))

-- what is known of a body that is taken, by the words that code has read
module _ (body : List ℕ) (m : ℕ) (v : accept ≡ verdict_for (set_palette body) m) (s n : ℕ) (x : s ≡ start body) (y : n ≡ count body) where
  pub entries_fit : (m ≡ 768) × (length body ≡ 4 + 3 * n) × (s + n ≤ 256)
  entries_fit =
      let a = taken_on (set_palette body) m v in
      (a.0, rw y (eqb-true _ _ a.1.exact), rw (x, y) (leb-true _ _ a.1.inside))

  pub entries_next : (allowed : ℕ) (p : List ℕ) → length p ≡ m → Next (set_palette body).stores allowed 0 (bytes (3 * s) (from body 4) (3 * n)) p
  entries_next allowed p l =
      let a = entries_fit in
      let w : Within (length p) (bytes (3 * s) (from body 4) (3 * n)) = within_bytes (length p) (3 * s) (from body 4) (3 * n) (λ i h. omega (arith, a.0, a.2)) in
      let z : min 0 allowed ≡ 0 = omega arith in
      record {
        due = rw (z, ← x, ← y) (due_list (allowed - 0) (bytes (3 * s) (from body 4) (3 * n)) p w);
        few = omega (arith, bytes_length (3 * s) (from body 4) (3 * n), a.2);
      }

  pub entries_stored : (allowed : ℕ) (p q : List ℕ) → q ≡ applied (take (allowed - 0) (bytes (3 * s) (from body 4) (3 * n))) p → q ≡ applied (take allowed (set_palette body).stores) p
  entries_stored allowed p q f = let z : allowed - 0 ≡ allowed = omega arith in rw (← x, ← y) (rw z at f)

  pub entries_count : (r : ℕ) → r ≡ 0 + 3 * n → r ≡ length (set_palette body).stores
  entries_count r f = rw (← x, ← y) (omega (arith, bytes_length (3 * s) (from body 4) (3 * n)))

pub entries_few : (body : List ℕ) (n : ℕ) → verdict_for (set_palette body) n ≡ accept → length (set_palette body).stores ≤ 1536
entries_few body n v =
    let a = taken_on (set_palette body) n (sym v) in
    omega (arith, bytes_length (3 * start body) (from body 4) (3 * count body), leb-true (start body + count body) 256 a.1.inside)

-- each index is one of the palette's
pub entries_within : (body : List ℕ) → verdict (set_palette body) ≡ accept → Within 768 (set_palette body).stores
entries_within body v =
    let f = leb-true (start body + count body) 256 (accepted (set_palette body) v).inside in
    within_bytes 768 (3 * start body) (from body 4) (3 * count body) (λ i l. omega (arith, f))
