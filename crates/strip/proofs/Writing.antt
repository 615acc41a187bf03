-- The call: measured, refused 19, or written with its header.
-- Assumes nothing.
use Rattle.std.specs.Prelude.{Result, Ok, Err}
use mathlib.Core.Path.{◌≡◌, refl, sym, ap, ◌∙◌}
use mathlib.Core.Bool.{true, false}
use mathlib.Core.List.{List, [], ◌++◌}
use Prim.Native.Nat.{ℕ, ◌+◌, ◌-◌, ◌≤◌, ◌<◌}
use native.Mathlib.Omega.{arith}
use borrow.Author.Tests.{lt-ltb, le-ltb}
use lib.ListN.{length, take, length-append}
use lib.Seq.{length-take-le}
use Rattle.refusal.specs.declared.Refusal.{Refusal}
use Rattle.refusal.specs.declared.Refusal.TheVariants.{Room}
use Rattle.refusal.specs.Number.{number, block}
use Rattle.room.specs.Room.{written}
use Rattle.room.proofs.Written.{written_none}
use Rattle.parts.specs.Parts.{part, laid}
use Rattle.parts.proofs.Laying.{laid_behind, laid_length}
use Rattle.state.specs.declared.State.{State}
use Rattle.opening.specs.Opening as opening
use Rattle.opening.specs.Opening.{opened_as, opening_of}
use Rattle.opening.proofs.Opens.{opens_first}
use Rattle.strip.specs.Strip.{Left, remains, meets, before, left_of_chunks, behind_header, left_of, roomed, answer_by, written_of, strip_answer, strip_room, answer_as}
use Rattle.strip.specs.Asked.{Roomy, laid_by, Passed, Wrote}

-- ---- a film that has its header

pub measures : (film : List ℕ) (stream room : ℕ) → 26 ≤ length film → Roomy false film stream room
measures film stream room h = record { header = h; left = []; left_is = λ t. absurd (no t); room_for = λ t. absurd (no t) }
  where
    no : false ≡ true → ⊥
    no t = let z : ◌≡◌ {A = ℕ} 0 1 = cc in omega arith

-- what an answer of a measuring walk says of the chunks
data Found (y : Left) : Result ℕ Refusal → Type 0 where
  found_left : (a : List ℕ) (n : ℕ) → y ≡ remains a → n ≡ 26 + length a → Found y (Ok n)
  found_met : (r : Refusal) → y ≡ meets (number r) → Found y (Err r)

found : (film : List ℕ) → 26 ≤ length film → (y : Left) (r : Result ℕ Refusal) → answer_as r ≡ answer_by (before (take 26 film) y) → Found y r
unfolding before answer_by
found film h (remains a) (Ok n) e =
    let z : n ≡ length (take 26 film ++ a) = cc in
    found_left a n refl (omega (arith, length-append (take 26 film) a, length-take-le 26 film h))
found film h (remains a) (Err r) e = absurd (let z : ◌≡◌ {A = ℕ} 0 1 = cc in let y : ⊥ = omega arith in y)
found film h (meets n) (Ok m) e = absurd (let z : ◌≡◌ {A = ℕ} 0 1 = cc in let y : ⊥ = omega arith in y)
found film h (meets n) (Err r) e = let z : n ≡ number r = cc in found_met r (ap meets z)

module _ (film : List ℕ) (stream : ℕ) (room₀ : List ℕ) (h : 26 ≤ length film) (w : Result ℕ Refusal) (room₁ : List ℕ) (p : Passed false film stream room₀ w room₁) where
  as_it_was : room₁ ≡ room₀
  as_it_was = p.room_after

  pub wrote_refused : (r : Refusal) → w ≡ Err r → Wrote film stream room₀ (Err r) room₁
  unfolding before roomed answer_by written_of
  wrote_refused r e = by (Err r) (found film h (left_of_chunks film stream) (Err r) (sym (ap answer_as e) ∙ p.answer)) refl
    where
      by : (x : Result ℕ Refusal) → Found (left_of_chunks film stream) x → x ≡ Err r → Wrote film stream room₀ (Err r) room₁
      by x (found_left a n q z) g = absurd (let z : ◌≡◌ {A = ℕ} 0 1 = cc in let y : ⊥ = omega arith in y)
      by x (found_met s q) g = let z : s ≡ r = cc in record { answer = rw (q, z); room_after = rw q as_it_was }

  module _ (n : ℕ) (e : w ≡ Ok n) where
    record Leaves : Type 0 where
      bytes : List ℕ
      is : left_of_chunks film stream ≡ remains bytes
      long : n ≡ 26 + length bytes

    left : Leaves
    left = by (Ok n) (found film h (left_of_chunks film stream) (Ok n) (sym (ap answer_as e) ∙ p.answer)) refl
      where
        by : (x : Result ℕ Refusal) → Found (left_of_chunks film stream) x → x ≡ Ok n → Leaves
        by x (found_left a m q z) g = let k : m ≡ n = cc in record { bytes = a; is = q; long = sym k ∙ z }
        by x (found_met s q) g = absurd (let z : ◌≡◌ {A = ℕ} 0 1 = cc in let y : ⊥ = omega arith in y)

    new : List ℕ
    new = take 26 film ++ left.bytes

    new_long : length new ≡ n
    unfolding new
    new_long = omega (arith, length-append (take 26 film) left.bytes, length-take-le 26 film h, left.long)

    all : before (take 26 film) (left_of_chunks film stream) ≡ remains new
    unfolding before new
    all = ap (before (take 26 film)) left.is

    pub wrote_short : length room₁ < n → Wrote film stream room₀ (Err Room) room₁
    unfolding roomed answer_by written_of
    wrote_short l =
        let k : length room₀ < length new = omega (arith, ap length as_it_was, new_long) in
        record { answer = rw (all, lt-ltb _ _ k); room_after = rw (all, lt-ltb _ _ k) as_it_was }

    module _ (l : n ≤ length room₁) where
      pub header_asks : 0 + (26 - 0) ≤ length room₁
      header_asks = omega (arith, left.long)

      module _ (room₂ : List ℕ) (e₂ : room₂ ≡ laid 0 (part film 0 26) room₁) where
        header_room : room₂ ≡ written (take 26 film) room₀
        header_room = e₂ ∙ laid_behind [] (part film 0 26) room₀ room₁ 0 (as_it_was ∙ written_none room₀) refl

        pub room_is_long : length room₂ ≡ length room₁
        room_is_long = ap length e₂ ∙ laid_length 0 (part film 0 26) room₁ (omega (arith, length-take-le 26 film h, left.long))

        pub roomy : Roomy true film stream (length room₂)
        roomy = record { header = h; left = left.bytes; left_is = λ t. left.is; room_for = λ t. omega (arith, room_is_long, left.long) }

        pub wrote : (r : Result ℕ Refusal) (room₃ : List ℕ) → Passed true film stream room₂ r room₃ → Wrote film stream room₀ r room₃
        unfolding roomed written_of laid_by new
        wrote r room₃ t =
            let k : length new ≤ length room₀ = omega (arith, ap length as_it_was, new_long) in
            let z : room₃ ≡ written new room₀ =
            t.room_after ∙ ap (λ (y : Left). laid_by y room₂) left.is ∙ laid_behind (take 26 film) left.bytes room₀ room₂ 26 header_room (sym (length-take-le 26 film h)) in
            record { answer = t.answer ∙ rw (all, le-ltb _ _ k); room_after = rw (all, le-ltb _ _ k) z }

-- ---- any film

module _ (film : List ℕ) (stream : ℕ) (room₀ : List ℕ) (x : Result State Refusal) (e : opened_as x ≡ opening_of film stream) where
  opens_as : (st : State) → x ≡ Ok st → opening_of film stream ≡ opening.started st
  opens_as st q = sym e ∙ ap opened_as q

  pub header_there : (st : State) → x ≡ Ok st → 26 ≤ length film
  header_there st q = (opens_first film stream st (opens_as st q)).0

  pub refused_1 : (r : Refusal) → x ≡ Err r → (answer_as (Err r) ≡ strip_answer film stream (length room₀)) × (room₀ ≡ strip_room film stream room₀)
  unfolding left_of behind_header roomed answer_by written_of
  refused_1 r q =
      let o : opening_of film stream ≡ opening.refuses (number r) (block r) = sym e ∙ ap opened_as q in
      (rw o, rw o)

  pub all_told : (st : State) → x ≡ Ok st → (r : Result ℕ Refusal) (room : List ℕ) → Wrote film stream room₀ r room
      → (answer_as r ≡ strip_answer film stream (length room₀)) × (room ≡ strip_room film stream room₀)
  unfolding left_of behind_header
  all_told st q r room w = let o = opens_as st q in (rw o w.answer, rw o w.room_after)
