-- Laws of `first_pixels`, the picture while the pixels of one block are stored: one pixel more, the same pixels by another plan, what they leave
-- alone, what they leave, and a block begun again.
use mathlib.Core.Path.{◌≡◌, refl, sym, ap, ◌∙◌}
use mathlib.Core.Logic.{◌≢◌, ⊎_elim}
use mathlib.Core.List.{List, [], ◌∷◌, ◌++◌}
use Prim.Native.Nat.{ℕ, zero, suc, ◌+◌, ◌≤◌, ◌<◌}
use native.Mathlib.Nat.{zero-add, add-zero, not-suc-le-zero, eq-or-lt_of_le, le_of_suc-le-suc}
use native.Mathlib.Decide.{ℕ_discrete}
use native.Mathlib.Numerals.{add-one}
use native.Mathlib.Omega.{arith}
use lib.ListN.{length, get_or, set}
use lib.Seq.{get_or-set_same, get_or-set_other, ext_get_or}
use Rattle.stores.specs.Stores.{Plan, Store, pixel, pixels, Memory, memory, apply, run, first_pixels, Off, Own, Lawful}
use Rattle.stores.proofs.Steps.{run_append, run_length, pixels_add}

-- ---- one pixel more

pub first_none : (d : Plan) (k : ℕ) (b : List ℕ) → first_pixels d k b 0 ≡ b
unfolding first_pixels pixels run
first_none d k b = refl

pub first_suc : (d : Plan) (k : ℕ) (b : List ℕ) (n : ℕ)
    → first_pixels d k b (suc n) ≡ set (first_pixels d k b n) (d.target k n) (d.value k n (first_pixels d k b n))
unfolding first_pixels pixels run apply
first_suc d k b n =
    let q : pixels k 0 (suc n) ≡ pixels k 0 n ++ (pixel k n ∷ []) =
    ap (pixels k 0) (sym (add-one n)) ∙ pixels_add k 0 n 1 ∙ ap (λ (x : ℕ). pixels k 0 n ++ (pixel k x ∷ [])) (zero-add n) in
    ap (λ (l : List Store). (run d (memory b k) l).picture) q
    ∙ ap (λ (m : Memory). m.picture) (run_append d (memory b k) (pixels k 0 n) (pixel k n ∷ []))

-- the picture keeps its length
pub first_long : (d : Plan) (k : ℕ) (b : List ℕ) (n : ℕ) → length (first_pixels d k b n) ≡ length b
unfolding first_pixels
first_long d k b n = run_length d (memory b k) (pixels k 0 n)

-- ---- the same pixels by another plan

-- n pixels of d' that are, on the pictures met, those of d from pixel i on
first_along : (d d' : Plan) (k k' : ℕ) (b : List ℕ) (i n : ℕ) → ((x : ℕ) → x < n → d'.target k' x ≡ d.target k (i + x))
    → ((x : ℕ) → x < n → d'.value k' x (first_pixels d k b (i + x)) ≡ d.value k (i + x) (first_pixels d k b (i + x)))
    → first_pixels d' k' (first_pixels d k b i) n ≡ first_pixels d k b (i + n)
first_along d d' k k' b i zero ts vs = first_none d' k' (first_pixels d k b i) ∙ ap (first_pixels d k b) (sym (add-zero i))
first_along d d' k k' b i (suc n) ts vs =
    let e = first_along d d' k k' b i n (λ x h. ts x (omega arith)) (λ x h. vs x (omega arith)) in
    let s : i + suc n ≡ suc (i + n) = omega arith in
    first_suc d' k' (first_pixels d k b i) n
    ∙ rw (e, ts n (omega arith), vs n (omega arith), s) (sym (first_suc d k b (i + n)))

-- two plans that agree on the first n pixels of a block, on the pictures met
pub first_met : (d d' : Plan) (k k' : ℕ) (b : List ℕ) (n : ℕ) → ((i : ℕ) → i < n → d.target k i ≡ d'.target k' i)
    → ((i : ℕ) → i < n → d.value k i (first_pixels d k b i) ≡ d'.value k' i (first_pixels d k b i))
    → first_pixels d k b n ≡ first_pixels d' k' b n
first_met d d' k k' b n ts vs =
    ap (first_pixels d k b) (sym (zero-add n))
    ∙ sym (first_along d d' k k' b 0 n (λ x h. rw (zero-add x) (sym (ts x h))) (λ x h. rw (zero-add x) (sym (vs x h))))
    ∙ ap (λ (c : List ℕ). first_pixels d' k' c n) (first_none d k b)

-- the same where they agree on every picture of that length
pub first_agree : (d d' : Plan) (k k' : ℕ) (b : List ℕ) (n : ℕ) → ((i : ℕ) → i < n → d.target k i ≡ d'.target k' i)
    → ((i : ℕ) → i < n → (a : List ℕ) → length a ≡ length b → d.value k i a ≡ d'.value k' i a)
    → first_pixels d k b n ≡ first_pixels d' k' b n
first_agree d d' k k' b n ts vs =
    first_met d d' k k' b n ts (λ i h. vs i h (first_pixels d k b i) (first_long d k b i))

-- ---- what the pixels of a block leave alone, and what they leave

-- elsewhere nothing changes
pub first_off : (d : Plan) (k : ℕ) (b : List ℕ) (n : ℕ) → n ≤ d.size k → (t : ℕ) → Off d k t → get_or (first_pixels d k b n) t 0 ≡ get_or b t 0
first_off d k b zero h t f = rw first_none
first_off d k b (suc n) h t f =
    let l = first_pixels d k b n in
    ap (λ (c : List ℕ). get_or c t 0) (first_suc d k b n)
    ∙ get_or-set_other l (d.target k n) t (d.value k n l) 0 (f n h)
    ∙ first_off d k b n (omega arith) t f

-- one store on two pictures
set_both : (x y : List ℕ) (s v t : ℕ) → length x ≡ length y → t < length x → (t ≢ s → get_or x t 0 ≡ get_or y t 0)
    → get_or (set x s v) t 0 ≡ get_or (set y s v) t 0
set_both x y s v t l h f = by (ℕ_discrete t s)
  where
    by : Dec (t ≡ s) → get_or (set x s v) t 0 ≡ get_or (set y s v) t 0
    by (yes e) = rw (← e) (get_or-set_same x t v 0 h ∙ sym (get_or-set_same y t v 0 (rw (← l) h)))
    by (no ne) = get_or-set_other x s t v 0 ne ∙ f ne ∙ sym (get_or-set_other y s t v 0 ne)

module _ (d : Plan) (n k : ℕ) (own : Own d n k) where
  -- a value may as well be worked out before the block is begun
  pub first_value : (b : List ℕ) → length b ≡ n → (i j : ℕ) → i < d.size k → j ≤ d.size k → d.value k i (first_pixels d k b j) ≡ d.value k i b
  first_value b l i j hi hj =
      own i hi (first_pixels d k b j) b (first_long d k b j ∙ l) l (first_off d k b j hj)

  -- a block drawn on two pictures that agree outside it
  module _ (a b : List ℕ) (la : length a ≡ n) (lb : length b ≡ n) (off : (t : ℕ) → Off d k t → get_or a t 0 ≡ get_or b t 0) where
    first_both : (i : ℕ) → i < d.size k → d.value k i (first_pixels d k a i) ≡ d.value k i (first_pixels d k b i)
    first_both i h = first_value a la i i h (omega arith) ∙ own i h a b la lb off ∙ sym (first_value b lb i i h (omega arith))

    -- after i pixels they agree outside the pixels that are left
    first_left : (i : ℕ) → i ≤ d.size k → (t : ℕ) → t < n → ((j : ℕ) → i ≤ j → j < d.size k → t ≢ d.target k j)
        → get_or (first_pixels d k a i) t 0 ≡ get_or (first_pixels d k b i) t 0
    first_left zero h t ht f = rw (first_none d k a, first_none d k b) (off t (λ j q. f j (omega arith) q))
    first_left (suc i) h t ht f =
        let x = first_pixels d k a i in
        let y = first_pixels d k b i in
        let lx : length x ≡ n = first_long d k a i ∙ la in
        let ly : length y ≡ n = first_long d k b i ∙ lb in
        rw (first_suc d k a i, first_suc d k b i, first_both i h)
        (set_both x y (d.target k i) (d.value k i y) t (lx ∙ sym ly) (rw lx ht)
        (λ ne.
        first_left i (omega arith) t ht
        (λ j l q e. ⊎_elim (λ z. ne (e ∙ ap (d.target k) (sym z))) (λ z. f j z q e) (eq-or-lt_of_le l))))

    pub first_same : first_pixels d k a (d.size k) ≡ first_pixels d k b (d.size k)
    first_same =
        let x = first_pixels d k a (d.size k) in
        let y = first_pixels d k b (d.size k) in
        let lx : length x ≡ n = first_long d k a (d.size k) ∙ la in
        let ly : length y ≡ n = first_long d k b (d.size k) ∙ lb in
        ext_get_or 0 x y (lx ∙ sym ly)
        (λ t ht. first_left (d.size k) (omega arith) t (rw lx at ht) (λ j l q. absurd (let z : ⊥ = omega arith in z)))

  -- a block begun again after j of its pixels
  pub first_again : (b : List ℕ) → length b ≡ n → (j : ℕ) → j ≤ d.size k
      → first_pixels d k (first_pixels d k b j) (d.size k) ≡ first_pixels d k b (d.size k)
  first_again b l j h =
      first_same (first_pixels d k b j) b (first_long d k b j ∙ l) l (first_off d k b j h)

-- where the plan is lawful, each of the first n pixels then stands with its value
pub first_own : (d : Plan) (b : List ℕ) → Lawful d (length b) → (k : ℕ) → k < d.blocks → (n : ℕ) → n ≤ d.size k → (i : ℕ) → i < n
    → get_or (first_pixels d k b n) (d.target k i) 0 ≡ d.value k i b
first_own d b laws k kb zero hn i h = absurd (not-suc-le-zero h)
first_own d b laws k kb (suc n) hn i h =
    let c = first_pixels d k b n in
    let v = d.value k n c in
    let l : d.target k n < length c = omega (arith, laws.inside k n kb hn, first_long d k b n) in
    rw (first_suc d k b n)
    (⊎_elim
    (λ e. rw e (get_or-set_same c (d.target k n) v 0 l ∙ first_value d (length b) k (laws.own k kb) b refl n n hn (omega arith)))
    (λ q.
    get_or-set_other c (d.target k n) (d.target k i) v 0
    (λ e. let z : i ≡ n = (laws.distinct k k i n kb kb (omega arith) hn e).1 in omega arith)
    ∙ first_own d b laws k kb n (omega arith) i q)
    (eq-or-lt_of_le (le_of_suc-le-suc h)))
