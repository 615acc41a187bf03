-- What opening comes to, by whether a film starts with the header's bytes.
-- Assumes nothing.
use mathlib.Core.Path.{◌≡◌, refl, sym, ap, ◌∙◌}
use mathlib.Core.Bool.{Bool, true, false}
use mathlib.Core.List.{List, ◌++◌}
use Prim.Native.Nat.{ℕ, zero, suc, ◌≤◌, ◌<◌}
use native.Mathlib.Decide.{dec_lt}
use native.Mathlib.Omega.{arith}
use borrow.Author.Tests.{lt-ltb, le-ltb, eq-eqb, eqb-true}
use lib.Dec.{eqb}
use lib.ListN.{length, take, drop, get_or, length-append, get_or-append, take-append-drop}
use lib.Seq.{length-take-le, get_or-take, ext_get_or}
use Rattle.std.specs.List.{starts_with}
use Rattle.std.proofs.lemmas.Bool.Decides.{Decides-eqb}
use Rattle.std.proofs.lemmas.Slice.Eq.{starts_is}
use Rattle.words.proofs.Tests.{first}
use Rattle.sound.specs.declared.Sound.{Sound}
use Rattle.sound.specs.Format.{first_sound}
use Rattle.std.specs.Prelude.{None}
use Rattle.opening.specs.Opening.{header, begins, first_state, started, refuses, opening_of}

header_length : length header ≡ 26
unfolding header
header_length = refl

-- the first n bytes are the header's, byte by byte
begins_all : (film : List ℕ) (n : ℕ) → ((i : ℕ) → i < n → get_or film i 0 ≡ get_or header i 0) → begins film n ≡ true
unfolding begins
begins_all film zero h = refl
begins_all film (suc n) h = rw (eq-eqb _ _ (h n (omega arith))) (begins_all film n (λ i l. h i (omega arith)))

no_byte : false ≡ true → ⊥
no_byte e = cc

begins_at : (film : List ℕ) (n : ℕ) → begins film n ≡ true → (i : ℕ) → i < n → get_or film i 0 ≡ get_or header i 0
unfolding begins
begins_at film zero e i h = absurd (let z : ⊥ = omega arith in z)
begins_at film (suc n) e i h =
    let q = first (eqb (get_or film n 0) (get_or header n 0)) _ _ _ no_byte e in
    by (begins_at film n q.1 i) (eqb-true _ _ q.0) (dec_lt i n)
  where
    by : (i < n → get_or film i 0 ≡ get_or header i 0) → get_or film n 0 ≡ get_or header n 0 → Dec (i < n) → get_or film i 0 ≡ get_or header i 0
    by below last (yes l) = below l
    by below last (no l) = let z : i ≡ n = omega arith in rw z last

-- ---- each way out

pub opens_short : (film : List ℕ) (stream : ℕ) → length film < 26 → refuses 1 0 ≡ opening_of film stream
unfolding opening_of
opens_short film stream h = rw (lt-ltb _ _ h)

pub opens : (film : List ℕ) (stream : ℕ) (sound : Sound) → 26 ≤ length film → begins film 26 ≡ true → sound ≡ first_sound stream
    → started (record { cursor = record { position = 26; chunk_end = 26 }; columns = 0; rows = 0; deep = false; front = 0; map = None; unsent = false; sound = sound })
    ≡ opening_of film stream
unfolding opening_of first_state
opens film stream sound h e q = rw (le-ltb _ _ h, e, q)

pub opens_not : (film : List ℕ) (stream : ℕ) → 26 ≤ length film → begins film 26 ≡ false → refuses 1 0 ≡ opening_of film stream
unfolding opening_of
opens_not film stream h e = rw (le-ltb _ _ h, e)

-- ---- by the header's bytes: the film starts with them or not

module _ (film : List ℕ) (stream : ℕ) (r : Bool) (v : r ≡ starts_with eqb film header) where
  starts : (r ≡ true → film ≡ header ++ drop (length header) film) × ((rest : List ℕ) → film ≡ header ++ rest → r ≡ true)
  starts = starts_is Decides-eqb film header r v

  long : r ≡ true → 26 ≤ length film
  long e = omega (arith, ap length (starts.0 e), length-append header (drop (length header) film), header_length)

  begun : r ≡ true → begins film 26 ≡ true
  begun e =
      begins_all film 26
      (λ i h. ap (λ (l : List ℕ). get_or l i 0) (starts.0 e) ∙ get_or-append header (drop (length header) film) 0 i (omega (arith, header_length)))

  same : 26 ≤ length film → begins film 26 ≡ true → r ≡ true
  same l e =
      starts.1 (drop 26 film)
      (sym (take-append-drop 26 film)
      ∙ ap (λ (x : List ℕ). x ++ drop 26 film)
      (ext_get_or 0 (take 26 film) header (length-take-le 26 film l ∙ sym header_length)
      (λ i h. let k : i < 26 = omega (arith, length-take-le 26 film l) in get_or-take 26 film i 0 k ∙ begins_at film 26 e i k)))

  decided : (b : Bool) → begins film 26 ≡ b → 26 ≤ length film → r ≡ false → b ≡ false
  decided true k l e = let z = sym e ∙ same l k in cc
  decided false k l e = refl

  pub header_is : 26 ≤ length film → r ≡ begins film 26
  header_is l = by r refl
    where
      by : (b : Bool) → r ≡ b → r ≡ begins film 26
      by true e = e ∙ sym (begun e)
      by false e = e ∙ sym (decided (begins film 26) refl l e)

  -- what opening comes to by that alone
  pub opens_with : (sound : Sound) → r ≡ true → sound ≡ first_sound stream
      → started (record { cursor = record { position = 26; chunk_end = 26 }; columns = 0; rows = 0; deep = false; front = 0; map = None; unsent = false; sound = sound })
      ≡ opening_of film stream
  opens_with sound e q = opens film stream sound (long e) (begun e) q

  pub opens_without : r ≡ false → refuses 1 0 ≡ opening_of film stream
  opens_without e = by (dec_lt (length film) 26)
    where
      by : Dec (length film < 26) → refuses 1 0 ≡ opening_of film stream
      by (yes h) = opens_short film stream h
      by (no h) = let l : 26 ≤ length film = omega arith in opens_not film stream l (sym (header_is l) ∙ e)
