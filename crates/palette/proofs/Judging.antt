-- The loops that test the components of a list, and the test of joined lists.
-- Assumes nothing.
use mathlib.Core.Path.{◌≡◌, refl, sym, ap, ◌∙◌}
use mathlib.Core.Bool.{Bool, true, false, cond, ◌&&◌}
use mathlib.Core.List.{List, [], ◌∷◌, ◌++◌}
use Prim.Native.Nat.{ℕ, zero, suc, ◌+◌, ◌-◌, ◌≤◌, ◌<◌, zero-le}
use native.Mathlib.Decide.{dec_lt}
use native.Mathlib.Omega.{arith}
use borrow.Author.Tests.{lt-ltb, le-ltb, lt-leb, le-leb}
use lib.Dec.{ltb, leb}
use lib.ListN.{length, get_or, take, drop, length-take, length-drop}
use lib.Seq.{get_or-take}
use Rattle.std.specs.List.{list_all}
use Rattle.std.proofs.lemmas.List.{get_or-drop}
use Rattle.listed.specs.Store.{Store, each, byte, bytes, from}
use Rattle.palette.specs.Update.{legal}
use Rattle.listed.proofs.Lists.{each_more, each_next, bytes_add, from_is}

-- ---- joined lists

both : (t a b : Bool) → cond t false (cond a b false) ≡ cond (cond t false a) b false
both true a b = refl
both false a b = refl

neither : (a : Bool) → cond a false false ≡ false
neither true = refl
neither false = refl

pub legal_append : (a b : List Store) → legal (a ++ b) ≡ cond (legal a) (legal b) false
unfolding legal
legal_append [] b = refl
legal_append (s ∷ a) b = ap (cond (ltb 63 s.value) false) (legal_append a b) ∙ both (ltb 63 s.value) (legal a) (legal b)

pub legal_both : (a b : List Store) → legal a ≡ true → legal b ≡ true → legal (a ++ b) ≡ true
legal_both a b x y = rw (legal_append a b, x) y

pub legal_each : (f : ℕ → List Store) (n : ℕ) → ((i : ℕ) → i < n → legal (f i) ≡ true) → legal (each f n) ≡ true
unfolding each legal
legal_each f zero h = refl
legal_each f (suc n) h = legal_both (each f n) (f n) (legal_each f n (λ i l. h i (omega arith))) (h n (omega arith))

-- wherever bytes are stored
pub legal_bytes : (a b : ℕ) (value : ℕ → ℕ) (n : ℕ) → legal (bytes a value n) ≡ legal (bytes b value n)
unfolding each legal byte
legal_bytes a b value zero = refl
legal_bytes a b value (suc n) =
    legal_append (bytes a value n) (byte a value n)
    ∙ ap (λ (x : Bool). cond x (cond (ltb 63 (value n)) false true) false) (legal_bytes a b value n)
    ∙ sym (legal_append (bytes b value n) (byte b value n))

-- one byte
pub byte_legal : (first : ℕ) (value : ℕ → ℕ) (i v : ℕ) → v ≡ value i → v ≤ 63 → legal (byte first value i) ≡ true
unfolding legal byte
byte_legal first value i v e h = rw (← e, le-ltb _ _ h)

-- ---- the bytes of a part, tested one by one

none_fine : (value : ℕ → ℕ) → true ≡ legal (bytes 0 value 0)
unfolding each legal
none_fine value = refl

one_legal : (value : ℕ → ℕ) → legal (bytes 0 value 1) ≡ cond (ltb 63 (value 0)) false true
unfolding each legal byte
one_legal value = refl

first_fine : (x v : ℕ) (t : Bool) → x ≡ v → (leb x 63 && t) ≡ cond (cond (ltb 63 v) false true) t false
first_fine x v t e = by (dec_lt 63 v)
  where
    by : Dec (63 < v) → (leb x 63 && t) ≡ cond (cond (ltb 63 v) false true) t false
    by (yes h) = rw (e, lt-ltb _ _ h, lt-leb _ _ h)
    by (no h) = let l : v ≤ 63 = omega arith in rw (e, le-ltb _ _ l, le-leb _ _ l)

all_fine : (s : List ℕ) (value : ℕ → ℕ) → ((i : ℕ) → i < length s → get_or s i 0 ≡ value i) → list_all (λ b. leb b 63) s ≡ legal (bytes 0 value (length s))
all_fine [] value h = none_fine value
all_fine (x ∷ s) value h =
    let more = λ (i : ℕ). value (suc i) in
    let e : suc (length s) ≡ 1 + length s = omega arith in
    let q : list_all (λ b. leb b 63) s ≡ legal (bytes 0 more (length s)) = all_fine s more (λ i l. h (suc i) (omega arith)) in
    let split : bytes 0 value (1 + length s) ≡ bytes 0 value 1 ++ bytes 1 more (length s) =
    bytes_add 0 value more 1 (length s) (λ i. ap value (let z : 1 + i ≡ suc i = omega arith in z)) in
    first_fine x (value 0) (list_all (λ b. leb b 63) s) (h 0 (omega arith))
    ∙ sym (ap (λ (n : ℕ). legal (bytes 0 value n)) e ∙ ap legal split ∙ legal_append (bytes 0 value 1) (bytes 1 more (length s)) ∙ rw (one_legal value, legal_bytes 1 0 more (length s), ← q) refl)

pub part_legal : (body : List ℕ) (at n : ℕ) → at + n ≤ length body → list_all (λ b. leb b 63) (take (at + n - at) (drop at body)) ≡ legal (bytes 0 (from body at) n)
part_legal body at n h =
    let s = take (at + n - at) (drop at body) in
    let l : length s ≡ n = omega (arith, length-take (at + n - at) (drop at body), length-drop at body) in
    all_fine s (from body at)
    (λ i k. get_or-take (at + n - at) (drop at body) i 0 (omega arith) ∙ get_or-drop at body i 0 ∙ from_is body at i)
    ∙ ap (λ (m : ℕ). legal (bytes 0 (from body at) m)) l

-- ---- a loop whose turn i tests the stores f i, for i below n

pub record Judging (f : ℕ → List Store) (n i : ℕ) : Type 0 where
  pub within : i ≤ n
  pub fine : legal (each f i) ≡ true

pub judging_start : (f : ℕ → List Store) (n : ℕ) → Judging f n 0
unfolding each legal
judging_start f n = record { within = zero-le; fine = refl }

module _ (f : ℕ → List Store) (n i : ℕ) (m : Judging f n i) where
  pub judging_more : i < n → legal (f i) ≡ true → Judging f n (i + 1)
  judging_more h e = record { within = omega arith; fine = rw (each_more f i) (legal_both (each f i) (f i) m.fine e) }

  pub judging_not : i < n → legal (f i) ≡ false → false ≡ legal (each f n)
  judging_not h e =
      let q = each_next f i n h in
      rw (q.1, legal_append (each f i) (f i ++ q.0), legal_append (f i) q.0, e, neither)

  pub judging_end : n ≤ i → true ≡ legal (each f n)
  judging_end h = let e : i ≡ n = omega (arith, m.within) in sym (rw e at m.fine)
