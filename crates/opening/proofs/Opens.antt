-- What is known of a film that opens, and that a film with its header opens alike.
-- Assumes nothing.
use mathlib.Core.Path.{◌≡◌, refl, ◌∙◌}
use mathlib.Core.List.{List, ◌++◌}
use Prim.Native.Nat.{ℕ, zero, suc, ◌≤◌, ◌<◌}
use native.Mathlib.Omega.{arith}
use borrow.Author.Tests.{le-ltb, ltb-false}
use lib.Dec.{ltb}
use lib.ListN.{length, take, get_or, length-append, get_or-append}
use lib.Seq.{length-take-le, get_or-take}
use Rattle.words.proofs.Tests.{first, not_first}
use Rattle.refusal.specs.Number.{accept}
use Rattle.sound.specs.Format.{possible_format}
use Rattle.state.specs.declared.State.{State}
use Rattle.state.specs.State.{most_front, possible_size, map_inside, possible, bounds_verdict, state_verdict}
use Rattle.opening.specs.Opening.{begins, first_state, started, refuses, opening_of}

unstarted : (st : State) → refuses 1 0 ≡ started st → ⊥
unstarted st q = let z : ◌≡◌ {A = ℕ} 0 1 = cc in omega arith

pub opens_first : (film : List ℕ) (stream : ℕ) (st : State) → opening_of film stream ≡ started st → (26 ≤ length film) × (first_state stream ≡ st)
unfolding opening_of
opens_first film stream st e =
    let a = not_first (ltb (length film) 26) _ _ _ (unstarted st) e in
    let b = first (begins film 26) _ _ _ (unstarted st) a.1 in
    let w = b.1 in
    (ltb-false _ _ a.0, cc)

-- 16 accepts it
pub first_possible : (film stream : ℕ) → 26 ≤ film → state_verdict (first_state stream) film ≡ accept
unfolding state_verdict bounds_verdict first_state map_inside most_front possible possible_size possible_format
first_possible film stream h = rw (le-ltb film 26 h)

begins_same : (film film' : List ℕ) (n : ℕ) → ((i : ℕ) → i < n → get_or film i 0 ≡ get_or film' i 0) → begins film n ≡ begins film' n
unfolding begins
begins_same film film' zero h = refl
begins_same film film' (suc n) h = rw (h n (omega arith), begins_same film film' n (λ i l. h i (omega arith)))

module _ (film rest : List ℕ) (h : 26 ≤ length film) where
  pub header_long : length (take 26 film) ≡ 26
  header_long = length-take-le 26 film h

  pub header_opens : (stream : ℕ) → opening_of (take 26 film ++ rest) stream ≡ opening_of film stream
  unfolding opening_of
  header_opens stream =
      let l : 26 ≤ length (take 26 film ++ rest) = omega (arith, length-append (take 26 film) rest, header_long) in
      let b : begins (take 26 film ++ rest) 26 ≡ begins film 26 =
      begins_same (take 26 film ++ rest) film 26 (λ i k. get_or-append (take 26 film) rest 0 i (omega (arith, header_long)) ∙ get_or-take 26 film i 0 k) in
      rw (le-ltb (length (take 26 film ++ rest)) 26 l, le-ltb (length film) 26 h, b)
