-- What comes next in a list: at its start, behind a part of it, and in the turns of a loop.
-- Assumes nothing.
use mathlib.Core.Path.{◌≡◌, refl, sym, ap, ◌∙◌}
use mathlib.Core.List.{List, [], ◌++◌, append_assoc, append-nil}
use Prim.Native.Nat.{ℕ, ◌+◌, ◌<◌, zero-le}
use native.Mathlib.Omega.{arith}
use lib.ListN.{length, take, drop, length-append, length-drop}
use lib.Seq.{take-add, drop-drop, take-append_seam, drop-append_seam}
use Rattle.listed.specs.Store.{Store, applied, one, each, byte, bytes, Within}
use Rattle.listed.specs.Order.{Due}
use Rattle.listed.proofs.Lists.{applied_append, applied_length, each_next, bytes_length, within_left, within_right}
use Rattle.listed.proofs.Making.{Making}

-- the first part of a list, on any bytes that have its indices
pub due_first : (a r : List Store) (b : List ℕ) → Within (length b) a → Due (a ++ r) 0 a b
unfolding applied
due_first a r b w = record { begun = record { found = b; made = refl; count = zero-le }; rest = r; next = refl; inside = w }

pub due_all : (l : List Store) (b : List ℕ) → Within (length b) l → Due l 0 l b
unfolding applied
due_all l b w = record { begun = record { found = b; made = refl; count = zero-le }; rest = []; next = sym (append-nil l); inside = w }

module _ (l : List Store) (j : ℕ) (part : List Store) (b₀ : List ℕ) (d : Due l j part b₀) where
  -- a part in three: a is made, q is next
  pub due_behind : (a q r : List Store) → part ≡ a ++ (q ++ r) → (b : List ℕ) → b ≡ applied a b₀ → Due l (j + length a) q b
  due_behind a q r e b m =
      let x = (q ++ r) ++ d.rest in
      let s : drop j l ≡ a ++ x = d.next ∙ ap (λ (p : List Store). p ++ d.rest) e ∙ append_assoc a (q ++ r) d.rest in
      let t : take (j + length a) l ≡ take j l ++ a =
      take-add j (length a) l ∙ ap (λ (p : List Store). take j l ++ take (length a) p) s ∙ ap (λ (p : List Store). take j l ++ p) (take-append_seam a x) in
      let k : length b ≡ length b₀ = ap length m ∙ applied_length a b₀ in
      let w : Within (length b₀) (a ++ (q ++ r)) = rw e at d.inside in
      record {
        begun =
            record {
              found = d.begun.found;
              made =
                  m ∙ ap (applied a) d.begun.made ∙ sym (applied_append (take j l) a d.begun.found)
                  ∙ ap (λ (p : List Store). applied p d.begun.found) (sym t);
              count = omega (arith, length-drop j l, ap length s, length-append a x, d.begun.count);
            };
        rest = r ++ d.rest;
        next = sym (drop-drop (length a) j l) ∙ ap (drop (length a)) s ∙ drop-append_seam a x ∙ append_assoc q r d.rest;
        inside = rw k (within_left _ q r (within_right _ a (q ++ r) w));
      }

-- the second part of a list, when the first is made
pub due_second : (a q : List Store) (b₀ b : List ℕ) → Within (length b₀) (a ++ q) → b ≡ applied a b₀ → Due (a ++ q) (length a) q b
due_second a q b₀ b w m =
    let z : 0 + length a ≡ length a = omega arith in
    rw z at (due_behind (a ++ q) 0 (a ++ q) b₀ (due_all (a ++ q) b₀ w) a q [] (ap (λ (p : List Store). a ++ p) (sym (append-nil q))) b m)

-- turn i of a loop over a part
pub due_turn : (l : List Store) (j : ℕ) (f : ℕ → List Store) (n : ℕ) (b₀ : List ℕ) → Due l j (each f n) b₀ → (i : ℕ) → i < n → (b : List ℕ) → b ≡ applied (each f i) b₀
    → Due l (j + length (each f i)) (f i) b
due_turn l j f n b₀ d i h b m = let q = each_next f i n h in due_behind l j (each f n) b₀ d (each f i) (f i) q.0 q.1 b m

-- byte i of some side by side
pub due_byte : (l : List Store) (j first : ℕ) (value : ℕ → ℕ) (n : ℕ) (b₀ : List ℕ) → Due l j (bytes first value n) b₀ → (b : List ℕ) (i : ℕ)
    → Making (byte first value) b₀ n b i → i < n → (t v : ℕ) → t ≡ first + i → v ≡ value i → Due l (j + i) (one t v) b
unfolding byte
due_byte l j first value n b₀ d b i m h t v et ev =
    let k : j + length (bytes first value i) ≡ j + i = ap (λ (x : ℕ). j + x) (bytes_length first value i) in
    rw (et, ev) (rw k at (due_turn l j (byte first value) n b₀ d i h b m.now))

-- the index of a store that is due
pub due_inside : (l : List Store) (j t v : ℕ) (b : List ℕ) → Due l j (one t v) b → t < length b
unfolding Within
due_inside l j t v b d = d.inside.0
