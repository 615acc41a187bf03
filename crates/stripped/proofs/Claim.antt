-- `claim`: what is left of a film plays as the film does; stripped again it is itself; it is never longer. `claim_told`: of the call's answer.
-- Assumes nothing.
use mathlib.Core.Path.{◌≡◌, refl, sym, ap, ◌∙◌, subst}
use mathlib.Core.Bool.{Bool, true, false, cond}
use mathlib.Core.List.{List, [], ◌++◌}
use Prim.Native.Nat.{ℕ, suc, ◌+◌, ◌≤◌}
use native.Mathlib.Omega.{arith}
use borrow.Author.Tests.{le-ltb, ltb-false}
use lib.Dec.{ltb}
use lib.ListN.{length, take, length-append}
use lib.Seq.{take_at}
use Rattle.draw.specs.Call.{within}
use Rattle.state.specs.declared.State.{State}
use Rattle.opening.specs.Opening.{Opening, started, refuses, first_state, opening_of}
use Rattle.opening.proofs.Opens.{opens_first, first_possible, header_long, header_opens}
use Rattle.film.specs.Film.{Lent}
use Rattle.walk.specs.Play.{most}
use Rattle.walk.proofs.Play.{play_one, play_all}
use Rattle.content.specs.Content.{Alike, pending}
use Rattle.strip.specs.Strip.{Left, remains, meets, before, left_of_chunks, behind_header, left_of, roomed, stripped, answer_by, written_of, strip_answer}
use Rattle.stripped.specs.Leaves.{Rest}
use Rattle.stripped.specs.Leaves as known
use Rattle.stripped.specs.Claim.{SamePlay, SameFilm, Claim, Told}
use Rattle.stripped.proofs.Leaving.{left_rest, rest_left}
use Rattle.stripped.proofs.Twice.{rest_short, rest_twice}
use Rattle.stripped.proofs.Simulation.{Related, simulates}

-- ---- a film that opens, and what is left of its chunks

module _ (film : List ℕ) (stream : ℕ) (r : List ℕ) (h : 26 ≤ length film) (rest : Rest film stream 26 r) where
  abbrev new : List ℕ
  new = take 26 film ++ r

  new_long : length new ≡ 26 + length r
  new_long = length-append (take 26 film) r ∙ ap (λ (n : ℕ). n + length r) (header_long film r h)

  first_alike : Alike film (first_state stream) new (first_state stream)
  unfolding first_state pending
  first_alike = record { columns = refl; rows = refl; deep = refl; front = refl; map = refl; unsent = refl; sound = refl }

  first_related : (spare : ℕ) → Related film new stream (within most spare) (first_state stream) (first_state stream)
  unfolding first_state
  first_related spare =
      record {
        alike = first_alike;
        fine = first_possible (length film) stream h;
        fine' = first_possible (length new) stream (omega (arith, new_long));
        tuned = refl;
        pre = take 26 film;
        b = [];
        r = r;
        z = false;
        body = known.none;
        rest = λ _. rest;
        bytes = refl;
        place = sym (header_long film r h);
        to = omega (arith, header_long film r h);
      }

  pub same_play : (spare : ℕ) (l : Lent) → SamePlay film new spare (first_state stream) l
  same_play spare l =
      let u = play_all film (within most spare) (omega arith) (first_state stream) l in
      let v = simulates film new stream (within most spare) u.plays (first_state stream) (first_related spare) in
      record {
        events = u.events;
        end = u.end;
        played = u.plays;
        new_played = v;
        only = λ a e q. play_one film (within most spare) q u.plays;
        new_only = λ a e q. play_one new (within most spare) q v;
      }

  pub opens_same : opening_of new stream ≡ opening_of film stream
  opens_same = header_opens film r h stream

  pub left_again : (st : State) → opening_of film stream ≡ started st → left_of new stream ≡ remains new
  unfolding left_of behind_header before
  left_again st q =
      let again : Rest new stream 26 r = subst (λ (n : ℕ). Rest new stream n r) (header_long film r h) (rest_twice film stream new rest h (take 26 film) refl) in
      let left : left_of_chunks new stream ≡ remains r = rest_left new stream again (omega (arith, new_long)) (suc (length new)) (omega arith) in
      let header : take 26 new ≡ take 26 film = take_at (take 26 film) r 26 (header_long film r h) in
      rw (opens_same, q, left, header)

-- ---- any film

pub claim : Claim
unfolding left_of behind_header before
claim film stream new e = by (opening_of film stream) (left_of_chunks film stream) refl refl e
  where
    told : (st : State) (r : List ℕ) → opening_of film stream ≡ started st → left_of_chunks film stream ≡ remains r → SameFilm film stream (take 26 film ++ r)
    told st r q w =
        let o = opens_first film stream st q in
        let x : Rest film stream 26 r = left_rest film stream (suc (length film)) 26 o.0 (omega arith) r w in
        let q' : opening_of film stream ≡ started (first_state stream) = q ∙ ap started (sym o.1) in
        record {
          first = first_state stream;
          opens = q';
          new_opens = opens_same film stream r o.0 x ∙ q';
          same = same_play film stream r o.0 x;
          twice = left_again film stream r o.0 x st q;
          shorter = omega (arith, new_long film stream r o.0 x, rest_short film stream x o.0);
        }

    by : (o : Opening) (y : Left) → opening_of film stream ≡ o → left_of_chunks film stream ≡ y → behind_header o (take 26 film) y ≡ remains new → SameFilm film stream new
    by (started st) (remains r) q w g = let z : take 26 film ++ r ≡ new = cc in subst (SameFilm film stream) z (told st r q w)
    by (started st) (meets n) q w g = absurd (let z : ◌≡◌ {A = ℕ} 0 1 = cc in let y : ⊥ = omega arith in y)
    by (refuses n k) y q w g = absurd (let z : ◌≡◌ {A = ℕ} 0 1 = cc in let y : ⊥ = omega arith in y)

-- of the call's answer
pub claim_told : (film : List ℕ) (stream room n : ℕ) → strip_answer film stream room ≡ stripped n → Told film stream room n
unfolding roomed answer_by written_of
claim_told film stream room n e = by (left_of film stream) refl e
  where
    told : (new : List ℕ) → left_of film stream ≡ remains new → n ≡ length new → length new ≤ room → Told film stream room n
    told new q l h =
        let c = claim film stream new q in
        record {
          new = new;
          long = l;
          wrote = λ r w. let k : length new ≤ length r = omega arith in rw (q, le-ltb (length r) (length new) k);
          film_same = c;
          again = λ k m. let j : length new ≤ k = omega arith in rw (c.twice, le-ltb k (length new) j) (ap stripped (sym l));
        }

    by_room : (new : List ℕ) → left_of film stream ≡ remains new → (b : Bool) → ltb room (length new) ≡ b → answer_by (cond b (meets 19) (remains new)) ≡ stripped n → Told film stream room n
    by_room new q true f g = absurd (let z : ◌≡◌ {A = ℕ} 0 1 = cc in let y : ⊥ = omega arith in y)
    by_room new q false f g = told new q (cc) (ltb-false _ _ f)

    by : (y : Left) → left_of film stream ≡ y → answer_by (roomed room y) ≡ stripped n → Told film stream room n
    by (remains new) q g = by_room new q (ltb room (length new)) refl g
    by (meets m) q g = absurd (let z : ◌≡◌ {A = ℕ} 0 1 = cc in let y : ⊥ = omega arith in y)
