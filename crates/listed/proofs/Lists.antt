-- Lists of stores: what joined lists do, and how a list goes on from the stores for 0 to i - 1.
-- Assumes nothing.
use mathlib.Core.Path.{◌≡◌, refl, sym, ap, ◌∙◌}
use mathlib.Core.List.{List, [], ◌∷◌, ◌++◌, append_assoc, append-nil}
use Prim.Native.Nat.{ℕ, zero, suc, ◌+◌, ◌*◌, ◌-◌, ◌≤◌, ◌<◌, zero-le}
use native.Mathlib.Omega.{arith}
use native.Mathlib.Numerals.{add-one}
use native.Mathlib.Nat.{add-zero, add-suc}
use lib.ListN.{length, get_or, set, length-append, length-set}
use Rattle.listed.specs.Store.{Store, applied, each, byte, bytes, from, Within}

-- ---- what stores do

pub applied_append : (a b : List Store) (p : List ℕ) → applied (a ++ b) p ≡ applied b (applied a p)
unfolding applied
applied_append [] b p = refl
applied_append (s ∷ a) b p = applied_append a b (set p s.index s.value)

-- no store changes the length
pub applied_length : (l : List Store) (p : List ℕ) → length (applied l p) ≡ length p
unfolding applied
applied_length [] p = refl
applied_length (s ∷ l) p = applied_length l (set p s.index s.value) ∙ length-set p s.index s.value

-- one byte
pub applied_byte : (first : ℕ) (value : ℕ → ℕ) (i : ℕ) (p q : List ℕ) (t v : ℕ) → t ≡ first + i → v ≡ value i → q ≡ set p t v → q ≡ applied (byte first value i) p
unfolding applied byte
applied_byte first value i p q t v et ev e = rw (e, et, ev)

-- ---- lists

module _ (f : ℕ → List Store) where
  pub each_more : (i : ℕ) → each f (i + 1) ≡ each f i ++ f i
  unfolding each
  each_more i = rw (add-one i)

  each_add : (i d : ℕ) → (r : List Store) × (each f (i + d) ≡ each f i ++ r)
  unfolding each
  each_add i zero = ([], ap (each f) (add-zero i) ∙ sym (append-nil (each f i)))
  each_add i (suc d) =
      let q = each_add i d in
      (q.0 ++ f (i + d), ap (each f) (add-suc i d) ∙ ap (λ (l : List Store). l ++ f (i + d)) q.1 ∙ append_assoc (each f i) q.0 (f (i + d)))

  -- the list for n goes on behind the one for i, with what f gives for i
  each_on : (i n : ℕ) → i ≤ n → (r : List Store) × (each f n ≡ each f i ++ r)
  each_on i n h = let e : n ≡ i + (n - i) = omega arith in let q = each_add i (n - i) in (q.0, ap (each f) e ∙ q.1)

  pub each_next : (i n : ℕ) → i < n → (r : List Store) × (each f n ≡ each f i ++ (f i ++ r))
  each_next i n h =
      let q = each_on (i + 1) n (omega arith) in
      (q.0, q.1 ∙ ap (λ (l : List Store). l ++ q.0) (each_more i) ∙ append_assoc (each f i) (f i) q.0)

  pub each_length : (i : ℕ) → length (each f (i + 1)) ≡ length (each f i) + length (f i)
  each_length i = ap length (each_more i) ∙ length-append (each f i) (f i)

  -- at most m stores a turn
  pub each_few : (m n : ℕ) → ((i : ℕ) → length (f i) ≤ m) → length (each f n) ≤ n * m
  unfolding each
  each_few m zero h = zero-le
  each_few m (suc n) h = omega (arith, length-append (each f n) (f n), each_few m n h, h n)

-- n bytes and m bytes more
pub bytes_add : (first : ℕ) (value more : ℕ → ℕ) (n m : ℕ) → ((i : ℕ) → value (n + i) ≡ more i) → bytes first value (n + m) ≡ bytes first value n ++ bytes (first + n) more m
unfolding each byte
bytes_add first value more n zero e = ap (bytes first value) (add-zero n) ∙ sym (append-nil (bytes first value n))
bytes_add first value more n (suc m) e =
    let q : first + (n + m) ≡ first + n + m = omega arith in
    ap (bytes first value) (add-suc n m)
    ∙ rw (bytes_add first value more n m e, q, e m) (append_assoc (bytes first value n) (bytes (first + n) more m) (byte (first + n) more m))

-- store j of such a list is byte j
pub bytes_length : (first : ℕ) (value : ℕ → ℕ) (n : ℕ) → length (bytes first value n) ≡ n
unfolding each byte
bytes_length first value zero = refl
bytes_length first value (suc n) = length-append (bytes first value n) (byte first value n) ∙ omega (arith, bytes_length first value n)

-- ---- indices

pub within_left : (n : ℕ) (a b : List Store) → Within n (a ++ b) → Within n a
unfolding Within
within_left n [] b w = tt
within_left n (s ∷ a) b w = (w.0, within_left n a b w.1)

pub within_right : (n : ℕ) (a b : List Store) → Within n (a ++ b) → Within n b
unfolding Within
within_right n [] b w = w
within_right n (s ∷ a) b w = within_right n a b w.1

pub within_append : (n : ℕ) (a b : List Store) → Within n a → Within n b → Within n (a ++ b)
unfolding Within
within_append n [] b x y = y
within_append n (s ∷ a) b x y = (x.0, within_append n a b x.1 y)

pub within_each : (n : ℕ) (f : ℕ → List Store) (m : ℕ) → ((i : ℕ) → i < m → Within n (f i)) → Within n (each f m)
unfolding each Within
within_each n f zero h = tt
within_each n f (suc m) h = within_append n (each f m) (f m) (within_each n f m (λ i l. h i (omega arith))) (h m (omega arith))

pub within_bytes : (n first : ℕ) (value : ℕ → ℕ) (m : ℕ) → ((i : ℕ) → i < m → first + i < n) → Within n (bytes first value m)
unfolding Within byte
within_bytes n first value m h = within_each n (byte first value) m (λ i l. (h i l, tt))

-- ---- values

pub from_is : (body : List ℕ) (at i : ℕ) → get_or body (at + i) 0 ≡ from body at i
unfolding from
from_is body at i = refl

pub from_add : (body : List ℕ) (at n i : ℕ) → from body at (n + i) ≡ from body (at + n) i
unfolding from
from_add body at n i = let e : at + (n + i) ≡ at + n + i = omega arith in rw e
