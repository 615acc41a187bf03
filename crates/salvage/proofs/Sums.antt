-- `sums`: header, kept and left-out chunks with their heads, and what is not walked add up to the film's length.
-- Assumes nothing.
use mathlib.Core.Path.{◌≡◌, refl, subst}
use mathlib.Core.Bool.{Bool, true, false, cond}
use mathlib.Core.List.{List}
use Prim.Native.Nat.{ℕ, zero, suc, ◌+◌, ◌*◌, ◌≤◌}
use native.Mathlib.Omega.{arith}
use borrow.Author.Tests.{ltb-false}
use lib.Dec.{ltb}
use lib.ListN.{length}
use Rattle.refusal.specs.Number.{Verdict, accept, refuse}
use Rattle.opening.specs.Opening as opening
use Rattle.opening.specs.Opening.{Opening, opening_of}
use Rattle.chunks.specs.Chunks.{intact, scratched, Following, following_at}
use Rattle.chunks.proofs.Heads.{Ahead, at_film_end, is_past, is_chunk, ahead}
use Rattle.salvage.specs.Salvage.{Saved, go_on, save_from, saved, new_film, Tally, tally, headed, verdict_of, room_verdict, writes, answer_by, answer_of}

module _ (film : List ℕ) where
  abbrev Adds : ℕ → Saved → Type 0
  Adds e s = e + (s.kept + (s.lost + s.rest)) ≡ length film

  adds_on : (e : ℕ) (f : Following) (k : ℕ → Saved) → e ≤ length film → Ahead film e f → ((x : ℕ) → x ≤ length film → Adds x (k x)) → Adds e (go_on film e f k)
  unfolding go_on
  adds_on e f k h (at_film_end q) ih = omega arith
  adds_on e f k h (is_past q r) ih = omega arith
  adds_on e f k h (is_chunk x (intact true) t) ih = omega (arith, t.ends, t.inside)
  adds_on e f k h (is_chunk x (intact false) t) ih = omega (arith, t.ends, ih x t.inside)
  adds_on e f k h (is_chunk x (scratched n) t) ih = omega (arith, t.ends, ih x t.inside)

  adds : (n e : ℕ) → e ≤ length film → Adds e (save_from n film e)
  unfolding save_from
  adds zero e h = omega arith
  adds (suc n) e h = adds_on e (following_at film e) (λ x. save_from n film x) h (ahead film e h) (λ x l. adds n x l)

  -- a chunk that is left out has its head
  heads_on : (e : ℕ) (f : Following) (k : ℕ → Saved) → Ahead film e f → ((x : ℕ) → x ≤ length film → 4 * length (k x).losses ≤ (k x).lost)
      → 4 * length (go_on film e f k).losses ≤ (go_on film e f k).lost
  unfolding go_on
  heads_on e f k (at_film_end q) ih = omega arith
  heads_on e f k (is_past q r) ih = omega arith
  heads_on e f k (is_chunk x (intact true) t) ih = omega arith
  heads_on e f k (is_chunk x (intact false) t) ih = ih x t.inside
  heads_on e f k (is_chunk x (scratched n) t) ih = omega (arith, t.ends, ih x t.inside)

  heads : (n e : ℕ) → e ≤ length film → 4 * length (save_from n film e).losses ≤ (save_from n film e).lost
  unfolding save_from
  heads zero e h = omega arith
  heads (suc n) e h = heads_on e (following_at film e) (λ x. save_from n film x) (ahead film e h) (λ x l. heads n x l)

  pub few_losses : 26 ≤ length film → 4 * length (saved film).losses ≤ (saved film).lost
  few_losses h = heads (suc (length film)) 26 h

  pub sums : 26 ≤ length film → 26 + ((saved film).kept + ((saved film).lost + (saved film).rest)) ≡ length film
  sums h = adds (suc (length film)) 26 h

-- a film whose header is taken has it
pub has_header : (film : List ℕ) (v : Verdict) → headed (opening_of film 16) v ≡ accept → 26 ≤ length film
unfolding headed opening_of
has_header film v e = by (ltb (length film) 26) refl e
  where
    by : (t : Bool) → ltb (length film) 26 ≡ t
        → headed (cond t (opening.refuses 1 0) (cond (opening.begins film 26) (opening.started (opening.first_state 16)) (opening.refuses 1 0))) v ≡ accept → 26 ≤ length film
    by true q h = absurd (let z : ◌≡◌ {A = ℕ} 0 1 = cc in let y : ⊥ = omega arith in y)
    by false q h = ltb-false _ _ q

-- of the call's answer
pub sums_told : (film : List ℕ) (room list : ℕ) (t : Tally) → answer_of film room list ≡ writes t → 26 + (t.kept + (t.lost + t.rest)) ≡ length film
unfolding answer_by
sums_told film room list t q = by (verdict_of film room list) refl q
  where
    by : (v : Verdict) → verdict_of film room list ≡ v → answer_by v film ≡ writes t → 26 + (t.kept + (t.lost + t.rest)) ≡ length film
    by accept e h =
        let z : tally (length (new_film film)) (saved film) ≡ t = cc in
        subst (λ (x : Tally). 26 + (x.kept + (x.lost + x.rest)) ≡ length film) z (sums film (has_header film (room_verdict film room list) e))
    by (refuse n k) e h = absurd (let z : ◌≡◌ {A = ℕ} 0 1 = cc in let y : ⊥ = omega arith in y)
