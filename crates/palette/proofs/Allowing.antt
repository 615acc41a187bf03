-- Lists of which the first k stores are allowed: joined lists, what comes next in them, and the loops that make them.
-- Assumes nothing.
use mathlib.Core.Path.{◌≡◌, refl, sym, ap, ◌∙◌}
use mathlib.Core.List.{List, [], ◌∷◌, ◌++◌, append_assoc, append-nil}
use Prim.Native.Nat.{ℕ, zero, suc, ◌+◌, ◌-◌, ◌≤◌, ◌<◌, zero-le, min}
use native.Mathlib.Omega.{arith}
use native.Mathlib.Decide.{dec_lt}
use lib.ListN.{length, take, drop, take-append-drop}
use lib.Seq.{take_all, take-nil, take_at}
use Rattle.listed.specs.Store.{Store, applied, each, bytes, Within}
use Rattle.listed.specs.Order.{Due}
use Rattle.listed.proofs.Lists.{applied_append, applied_length, each_more, each_next, bytes_length, bytes_add, within_left}
use Rattle.listed.proofs.Order.{due_behind}

-- ---- lists

-- the first k of two lists
pub take_both : {A : Type 0} (k : ℕ) (a b : List A) → take k (a ++ b) ≡ take k a ++ take (k - length a) b
take_both {A} zero a b = let e : 0 - length a ≡ 0 = omega arith in rw e
take_both {A} (suc k) [] b = let e : suc k - 0 ≡ suc k = omega arith in ap (λ (n : ℕ). take n b) (sym e)
take_both {A} (suc k) (x ∷ a) b =
    let e : suc k - suc (length a) ≡ k - length a = omega arith in
    ap (λ (l : List A). x ∷ l) (take_both k a b ∙ ap (λ (n : ℕ). take k a ++ take n b) (sym e))

-- of n bytes side by side
pub take_bytes : (first : ℕ) (value : ℕ → ℕ) (k n m : ℕ) → m ≡ min n k → bytes first value m ≡ take k (bytes first value n)
take_bytes first value k n m e = by (dec_lt k n)
  where
    by : Dec (k < n) → bytes first value m ≡ take k (bytes first value n)
    by (yes h) =
        let q : m ≡ k = omega arith in
        let s : n ≡ k + (n - k) = omega arith in
        ap (bytes first value) q
        ∙ sym (ap (λ (x : ℕ). take k (bytes first value x)) s
        ∙ ap (take k) (bytes_add first value (λ i. value (k + i)) k (n - k) (λ i. refl))
        ∙ take_at (bytes first value k) _ k (bytes_length first value k))
    by (no h) = let q : m ≡ n = omega arith in ap (bytes first value) q ∙ sym (take_all k (bytes first value n) (omega (arith, bytes_length first value n)))

within_take : (n k : ℕ) (l : List Store) → Within n l → Within n (take k l)
within_take n k l w = within_left n (take k l) (drop k l) (rw (take-append-drop k l) w)

-- ---- what comes next

-- the first part of a list, on any bytes that have its indices
pub due_part : (k : ℕ) (a r : List Store) (b : List ℕ) → Within (length b) a → Due (a ++ r) 0 (take k a) b
unfolding applied
due_part k a r b w =
    record {
      begun = record { found = b; made = refl; count = zero-le };
      rest = drop k a ++ r;
      next = ap (λ (x : List Store). x ++ r) (sym (take-append-drop k a)) ∙ append_assoc (take k a) (drop k a) r;
      inside = within_take (length b) k a w;
    }

pub due_list : (k : ℕ) (l : List Store) (b : List ℕ) → Within (length b) l → Due l 0 (take k l) b
unfolding applied
due_list k l b w =
    record {
      begun = record { found = b; made = refl; count = zero-le };
      rest = drop k l;
      next = sym (take-append-drop k l);
      inside = within_take (length b) k l w;
    }

-- the second part, when the first is made
pub due_rest : (k : ℕ) (a q : List Store) (b₀ b : List ℕ) → Within (length b₀) (a ++ q) → b ≡ applied (take k a) b₀
    → Due (a ++ q) (0 + length (take k a)) (take (k - length a) q) b
due_rest k a q b₀ b w m =
    due_behind (a ++ q) 0 (take k (a ++ q)) b₀ (due_list k (a ++ q) b₀ w) (take k a) (take (k - length a) q) []
    (take_both k a q ∙ ap (λ (x : List Store). take k a ++ x) (sym (append-nil (take (k - length a) q)))) b m

-- turn i of a loop over a part
pub due_loop : (l : List Store) (j k : ℕ) (f : ℕ → List Store) (n : ℕ) (b₀ : List ℕ) → Due l j (take k (each f n)) b₀ → (i : ℕ) → i < n → (b : List ℕ) → b ≡ applied (take k (each f i)) b₀
    → Due l (j + length (take k (each f i))) (take (k - length (each f i)) (f i)) b
due_loop l j k f n b₀ d i h b m =
    let q = each_next f i n h in
    let left = k - length (each f i) in
    due_behind l j (take k (each f n)) b₀ d (take k (each f i)) (take left (f i)) (take (left - length (f i)) q.0)
    (ap (take k) q.1 ∙ take_both k (each f i) (f i ++ q.0) ∙ ap (λ (x : List Store). take k (each f i) ++ x) (take_both left (f i) q.0)) b m

-- ---- a loop whose turn i makes the stores f i, for i below n: of those of the turns below i the first k are made on b₀

pub record Allowing (f : ℕ → List Store) (b₀ : List ℕ) (k n : ℕ) (b : List ℕ) (i : ℕ) : Type 0 where
  pub within : i ≤ n
  pub now : b ≡ applied (take k (each f i)) b₀

pub allowing_start : (f : ℕ → List Store) (b : List ℕ) (k n : ℕ) → Allowing f b k n b 0
unfolding each applied
allowing_start f b k n = record { within = zero-le; now = ap (λ (l : List Store). applied l b) (sym (take-nil k)) }

module _ (f : ℕ → List Store) (b₀ : List ℕ) (k n : ℕ) (b : List ℕ) (i : ℕ) (m : Allowing f b₀ k n b i) where
  pub allowing_more : i < n → (b' : List ℕ) → b' ≡ applied (take (k - length (each f i)) (f i)) b → Allowing f b₀ k n b' (i + 1)
  allowing_more h b' e =
      let a = each f i in
      record {
        within = omega arith;
        now =
            e ∙ ap (applied (take (k - length a) (f i))) m.now
            ∙ sym (applied_append (take k a) (take (k - length a) (f i)) b₀)
            ∙ ap (λ (l : List Store). applied l b₀) (sym (take_both k a (f i)) ∙ ap (take k) (sym (each_more f i)));
      }

  pub allowing_end : n ≤ i → b ≡ applied (take k (each f n)) b₀
  allowing_end h = let e : i ≡ n = omega (arith, m.within) in m.now ∙ ap (λ (x : ℕ). applied (take k (each f x)) b₀) e

  pub allowing_length : length b ≡ length b₀
  allowing_length = ap length m.now ∙ applied_length (take k (each f i)) b₀
