-- Two memories that agree up to an index n, within which every pixel is stored and every value is read: a call leaves two that agree there, and one
-- place (`after_within`). The two plans differ in their values alone, since each has the other pictures that it reads within it.
use mathlib.Core.Path.{◌≡◌, refl, sym, ap, ◌∙◌}
use mathlib.Core.List.{List}
use Prim.Native.Nat.{ℕ, zero, suc, ◌+◌, ◌-◌, ◌≤◌, ◌<◌, min}
use native.Mathlib.Decide.{ℕ_discrete, dec_lt}
use native.Mathlib.Omega.{arith}
use borrow.Author.Tests.{lt-ltb, le-ltb}
use lib.Dec.{ltb}
use lib.ListN.{length, get_or, set, take, drop, length-set, length-take, length-drop}
use lib.Seq.{get_or-set_same, get_or-set_other, get_or-take, get_or-drop, ext_get_or, take_all, take-take}
use Rattle.stores.specs.Stores.{Plan, due, Memory, memory, run, first_pixels, after}
use Rattle.stores.specs.Calls.{Call, allowed, leave_cut}
use Rattle.stores.proofs.Steps.{after_end, after_part, after_block, by_blocks}
use Rattle.stores.proofs.Pixels.{first_none, first_suc}

-- a and b are at least n long and agree below n
pub record AgreeTo (n : ℕ) (a b : List ℕ) : Type 0 where
  pub left_long : n ≤ length a
  pub right_long : n ≤ length b
  pub same : (t : ℕ) → t < n → get_or a t 0 ≡ get_or b t 0

-- they have one leading part
pub agree_take : (n : ℕ) (a b : List ℕ) → AgreeTo n a b → take n a ≡ take n b
agree_take n a b h =
    ext_get_or 0 (take n a) (take n b) (omega (arith, length-take n a, length-take n b, h.left_long, h.right_long))
    (λ t l.
    let z : t < n = omega (arith, length-take n a, l) in
    get_or-take n a t 0 z ∙ h.same t z ∙ sym (get_or-take n b t 0 z))

pub take_agree : (n : ℕ) (a b : List ℕ) → n ≤ length a → n ≤ length b → take n a ≡ take n b → AgreeTo n a b
take_agree n a b la lb e =
    record {
      left_long = la;
      right_long = lb;
      same = λ t h. sym (get_or-take n a t 0 h) ∙ ap (λ (l : List ℕ). get_or l t 0) e ∙ get_or-take n b t 0 h;
    }

-- whether a list is shorter than n shows in its leading part
pub take_short : (n : ℕ) (a b : List ℕ) → take n a ≡ take n b → ltb (length a) n ≡ ltb (length b) n
take_short n a b e = by (dec_lt (length a) n)
  where
    least : min n (length a) ≡ min n (length b)
    least = omega (arith, length-take n a, length-take n b, ap length e)

    by : Dec (length a < n) → ltb (length a) n ≡ ltb (length b) n
    by (yes h) = let z : length b < n = omega (arith, least) in lt-ltb (length a) n h ∙ sym (lt-ltb (length b) n z)
    by (no h) =
        let y : n ≤ length a = omega arith in
        let z : n ≤ length b = omega (arith, least) in
        le-ltb (length a) n y ∙ sym (le-ltb (length b) n z)

-- two lists of one length that agree from n on have one rest
pub drop_same : (n : ℕ) (a b : List ℕ) → length a ≡ length b → ((t : ℕ) → n ≤ t → get_or a t 0 ≡ get_or b t 0) → drop n a ≡ drop n b
drop_same n a b l f =
    ext_get_or 0 (drop n a) (drop n b) (length-drop n a ∙ ap (λ (x : ℕ). x - n) l ∙ sym (length-drop n b))
    (λ t h. get_or-drop n a t 0 ∙ f (n + t) (omega arith) ∙ sym (get_or-drop n b t 0))

-- one store on both
agree_set : (n : ℕ) (a b : List ℕ) (t v : ℕ) → AgreeTo n a b → AgreeTo n (set a t v) (set b t v)
agree_set n a b t v h =
    record {
      left_long = simp length-set h.left_long;
      right_long = simp length-set h.right_long;
      same = λ i q. by i q (ℕ_discrete i t);
    }
  where
    by : (i : ℕ) → i < n → Dec (i ≡ t) → get_or (set a t v) i 0 ≡ get_or (set b t v) i 0
    by i q (yes e) =
        rw (← e) (get_or-set_same a i v 0 (omega (arith, h.left_long)) ∙ sym (get_or-set_same b i v 0 (omega (arith, h.right_long))))
    by i q (no ne) = get_or-set_other a t i v 0 ne ∙ h.same i q ∙ sym (get_or-set_other b t i v 0 ne)

-- two memories with one place whose pictures agree below n
pub record Both (n : ℕ) (m m' : Memory) : Type 0 where
  pub pictures : AgreeTo n m.picture m'.picture
  pub place : m.place ≡ m'.place

-- the same stores with other values
abbrev pub valued : Plan → (ℕ → ℕ → List ℕ → ℕ) → Plan
valued d v = record { blocks = d.blocks; size = d.size; target = d.target; value = v }

module _ (d : Plan) (v : ℕ → ℕ → List ℕ → ℕ) (n : ℕ)
    (reads : (k i : ℕ) → k < d.blocks → i < d.size k → (a b : List ℕ) → AgreeTo n a b → d.value k i a ≡ v k i b) where
  first_within : (k : ℕ) → k < d.blocks → (a b : List ℕ) → AgreeTo n a b → (i : ℕ) → i ≤ d.size k
      → AgreeTo n (first_pixels d k a i) (first_pixels (valued d v) k b i)
  first_within k kb a b h zero q = rw (first_none d k a, first_none (valued d v) k b) h
  first_within k kb a b h (suc i) q =
      let x = first_within k kb a b h i (omega arith) in
      rw (first_suc d k a i, first_suc (valued d v) k b i, reads k i kb q (first_pixels d k a i) (first_pixels (valued d v) k b i) x)
      (agree_set n _ _ _ _ x)

  abbrev pub Holds : Memory → ℕ → Type 0
  Holds m c = (b : List ℕ) → AgreeTo n m.picture b → Both n (after d m c) (after (valued d v) (memory b m.place) c)

  pub after_within : (m : Memory) (c : ℕ) → m.place ≤ d.blocks → Holds m c
  after_within =
      by_blocks d Holds
      (λ m c e b h. rw (after_end d m c e, after_end (valued d v) (memory b m.place) c e) (record { pictures = h; place = refl }))
      (λ a k c kb l b h.
      rw (after_part d a k c kb l, after_part (valued d v) b k c kb l) (record { pictures = first_within k kb a b h c l; place = refl }))
      (λ a k c kb l ih b h.
      rw (after_block d a k c kb l, after_block (valued d v) b k c kb l)
      (ih (first_pixels (valued d v) k b (d.size k)) (first_within k kb a b h (d.size k) (omega arith))))

-- ---- a cut call

-- whatever the cut point, it leaves what a call leaves that is allowed the lesser of the two numbers
pub cut_least : {R : Type 0} (d : Plan) (m : Memory) (v : Call R) (n j : ℕ) → v ≡ allowed n → leave_cut d m v j ≡ after d m (min j n)
unfolding leave_cut after
cut_least d m v n j q =
    let l = due d m.place in
    rw q
    (ap (run d m)
    (elim (dec_lt n j) [
      | yes h ↦
          let e : min j n ≡ n = omega arith in
          take_all j (take n l) (omega (arith, length-take n l)) ∙ ap (λ (x : ℕ). take x l) (sym e)
      | no h ↦
          let e : min j n ≡ j = omega arith in
          take-take j n l (omega arith) ∙ ap (λ (x : ℕ). take x l) (sym e)
    ]))
