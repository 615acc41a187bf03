-- The walk over chunks: the loop that measures them, or stores what is left of them.
-- Assumes nothing.
use Rattle.std.specs.Prelude.{Result, Ok, Err}
use mathlib.Core.Path.{◌≡◌, refl, sym, ap, ◌∙◌}
use mathlib.Core.Bool.{Bool, true, false, cond}
use mathlib.Core.List.{List, [], ◌++◌, append_assoc, append-nil}
use Prim.Native.Nat.{ℕ, suc, ◌+◌, ◌-◌, ◌≤◌, ◌<◌}
use native.Mathlib.Omega.{arith}
use lib.ListN.{length, take, length-append}
use lib.Seq.{length-take-le}
use Rattle.words.specs.Word.{word_at}
use Rattle.refusal.specs.declared.Refusal.{Refusal}
use Rattle.refusal.specs.declared.Refusal.TheVariants as refusal
use Rattle.refusal.specs.Number.{number}
use Rattle.parts.specs.Parts.{laid}
use Rattle.parts.proofs.Laying.{stored_none, stored_length, stored_then}
use Rattle.chunks.specs.Chunks.{intact, Following, film_end, past_end, chunk_to, following_at, condition_as}
use Rattle.chunks.proofs.Heads.{There, there}
use Rattle.strip.specs.Strip.{left_of_chunk, Left, remains, meets, before, go_on, left_from, left_of_chunks, stripped, answer_by}
use Rattle.strip.specs.Asked.{Stored, Chunk, Roomy, laid_by, Passed}

-- ---- bytes before what is left

before_none : (y : Left) → before [] y ≡ y
unfolding before
before_none (remains r) = refl
before_none (meets n) = refl

before_more : (a b : List ℕ) (y : Left) → before a (before b y) ≡ before (a ++ b) y
unfolding before
before_more a b (remains r) = ap remains (sym (append_assoc a b r))
before_more a b (meets n) = refl

before_long : (a : List ℕ) (y : Left) (r : List ℕ) → before a y ≡ remains r → length a ≤ length r
unfolding before
before_long a (remains b) r q = let z : a ++ b ≡ r = cc in omega (arith, ap length z, length-append a b)
before_long a (meets n) r q = absurd (let z : ◌≡◌ {A = ℕ} 0 1 = cc in let y : ⊥ = omega arith in y)

-- ---- the loop

-- from the header to e; what is left is stored, or not
pub record Going (storing : Bool) (film : List ℕ) (stream : ℕ) (room₀ : List ℕ) (e to : ℕ) (room : List ℕ) : Type 0 where
  pub turns : ℕ
  pub bytes : List ℕ
  pub enough : length film - e < turns
  pub inside : e ≤ length film
  pub few : to ≤ e
  pub to_is : to ≡ 26 + length bytes
  pub room_is : room ≡ cond storing (laid 26 bytes room₀) room₀
  pub same : left_of_chunks film stream ≡ before bytes (left_from turns film stream e)

module _ (storing : Bool) (film : List ℕ) (stream : ℕ) (room₀ : List ℕ) (q : Roomy storing film stream (length room₀)) where
  pub going_start : Going storing film stream room₀ 26 26 room₀
  going_start =
      record {
        turns = suc (length film);
        bytes = [];
        enough = omega arith;
        inside = q.header;
        few = omega arith;
        to_is = refl;
        room_is = stored_none storing 26 room₀;
        same = sym (before_none (left_of_chunks film stream));
      }

  -- what comes before the rest of what is left has room
  fits : storing ≡ true → (a : List ℕ) (y : Left) → left_of_chunks film stream ≡ before a y → 26 + length a ≤ length room₀
  fits t a y e = omega (arith, q.room_for t, before_long a y q.left (sym e ∙ q.left_is t))

  -- the walk ends behind these bytes, or by a refusal
  passed_leaves : (a : List ℕ) (to : ℕ) (room : List ℕ) → left_of_chunks film stream ≡ remains a → to ≡ 26 + length a → room ≡ cond storing (laid 26 a room₀) room₀
      → Passed storing film stream room₀ (Ok to) room
  unfolding answer_by before laid_by
  passed_leaves a to room e k r =
      let n : to ≡ length (take 26 film ++ a) = omega (arith, length-append (take 26 film) a, length-take-le 26 film q.header) in
      record { answer = ap stripped n ∙ ap (λ (y : Left). answer_by (before (take 26 film) y)) (sym e); room_after = r ∙ ap (λ (y : Left). cond storing (laid_by y room₀) room₀) (sym e) }

  unmet : (n : ℕ) → left_of_chunks film stream ≡ meets n → storing ≡ true → ⊥
  unmet n e t = let g = q.left_is t in let z : ◌≡◌ {A = ℕ} 0 1 = cc in omega arith

  passed_meets : (r : Refusal) (a room : List ℕ) → left_of_chunks film stream ≡ meets (number r) → room ≡ cond storing (laid 26 a room₀) room₀ → Passed storing film stream room₀ (Err r) room
  unfolding answer_by before laid_by
  passed_meets r a room e k =
      record { answer = ap (λ (y : Left). answer_by (before (take 26 film) y)) (sym e); room_after = by storing (unmet (number r) e) k }
    where
      by : (b : Bool) → (b ≡ true → ⊥) → room ≡ cond b (laid 26 a room₀) room₀ → room ≡ cond b (laid_by (left_of_chunks film stream) room₀) room₀
      by true f g = absurd (f refl)
      by false f g = g

  module _ (e to : ℕ) (room : List ℕ) (s : Going storing film stream room₀ e to room) where
    pub walk_room : length room ≡ length room₀
    walk_room = ap length s.room_is ∙ stored_length storing 26 s.bytes room₀ (λ t. fits t s.bytes (left_from s.turns film stream e) s.same)

    by_found : (y : Following) → y ≡ following_at film e → left_of_chunks film stream ≡ before s.bytes (go_on film stream e y (λ x. left_from (s.turns - 1) film stream x))
    unfolding left_from
    by_found y h =
        let z : s.turns ≡ suc (s.turns - 1) = omega (arith, s.enough) in
        s.same ∙ ap (λ (n : ℕ). before s.bytes (left_from n film stream e)) z
        ∙ ap (λ (y : Following). before s.bytes (go_on film stream e y (λ x. left_from (s.turns - 1) film stream x))) (sym h)

    pub pass_end : film_end ≡ following_at film e → Passed storing film stream room₀ (Ok to) room
    unfolding go_on before
    pass_end h = passed_leaves s.bytes to room (by_found film_end h ∙ ap remains (append-nil s.bytes)) s.to_is s.room_is

    pub pass_past : past_end ≡ following_at film e → Passed storing film stream room₀ (Err refusal.FilmEnd) room
    unfolding go_on before
    pass_past h = passed_meets refusal.FilmEnd s.bytes room (by_found past_end h) s.room_is

    module _ (x : ℕ) (t : Result Bool Refusal) (g : chunk_to x (condition_as t) ≡ following_at film e) where
      by_chunk : (u : Result Bool Refusal) → t ≡ u → left_of_chunks film stream ≡ before s.bytes (go_on film stream e (chunk_to x (condition_as u)) (λ y. left_from (s.turns - 1) film stream y))
      by_chunk u h = by_found (chunk_to x (condition_as u)) (ap (λ (v : Result Bool Refusal). chunk_to x (condition_as v)) (sym h) ∙ g)

      pub pass_scratched : (r : Refusal) → t ≡ Err r → Passed storing film stream room₀ (Err r) room
      unfolding go_on before
      pass_scratched r h = passed_meets r s.bytes room (by_chunk (Err r) h) s.room_is

      here : There film e x (condition_as t)
      here = there film e x (condition_as t) s.inside (sym g)

      pub chunk_ends : (x ≡ e + 4 + word_at film e) × (x ≤ length film)
      chunk_ends = (here.ends, here.inside)

      module _ (z : Bool) (h : t ≡ Ok z) where
        left : List ℕ
        left = left_of_chunk film stream e (e + 4 + word_at film e)

        rest : Bool → Left
        rest true = remains []
        rest false = left_from (s.turns - 1) film stream x

        chunk_same : left_of_chunks film stream ≡ before (s.bytes ++ left) (rest z)
        unfolding left go_on before rest
        chunk_same =
            by_chunk (Ok z) h ∙ ap (before s.bytes) (by z)
            ∙ ap (λ (y : ℕ). before s.bytes (before (left_of_chunk film stream e y) (rest z))) here.ends ∙ before_more s.bytes left (rest z)
          where
            by : (b : Bool) → go_on film stream e (chunk_to x (intact b)) (λ y. left_from (s.turns - 1) film stream y) ≡ before (left_of_chunk film stream e x) (rest b)
            by true = ap remains (sym (append-nil (left_of_chunk film stream e x)))
            by false = refl

        pub chunk_asks : Chunk storing film stream e to (length room)
        unfolding left
        chunk_asks =
            record {
              inside = omega (arith, chunk_ends);
              behind = s.few;
              room_for = λ u. omega (arith, walk_room, s.to_is, fits u (s.bytes ++ left) (rest z) chunk_same, length-append s.bytes left);
            }

        module _ (n : ℕ) (room' : List ℕ) (w : Stored storing (left_of_chunk film stream e (e + 4 + word_at film e)) to room n room') where
          to_more : to + n ≡ 26 + length (s.bytes ++ left)
          unfolding left
          to_more = omega (arith, s.to_is, w.length_is, length-append s.bytes left)

          room_more : room' ≡ cond storing (laid 26 (s.bytes ++ left) room₀) room₀
          unfolding left
          room_more =
              w.room_after ∙ ap (λ (y : List ℕ). cond storing (laid to left y) y) s.room_is
              ∙ stored_then storing 26 s.bytes left room₀ to s.to_is (λ u. omega (arith, fits u s.bytes (left_from s.turns film stream e) s.same))

          pub pass_closed : z ≡ true → Passed storing film stream room₀ (Ok (to + n)) room'
          unfolding before rest
          pass_closed u =
              passed_leaves (s.bytes ++ left) (to + n) room'
              (chunk_same ∙ ap (λ (b : Bool). before (s.bytes ++ left) (rest b)) u ∙ ap remains (append-nil (s.bytes ++ left))) to_more room_more

          pub going_on : n ≤ 4 + word_at film e → z ≡ false → Going storing film stream room₀ x (to + n) room'
          unfolding rest
          going_on m u =
              record {
                turns = s.turns - 1;
                bytes = s.bytes ++ left;
                enough = omega (arith, chunk_ends, s.enough);
                inside = chunk_ends.1;
                few = omega (arith, chunk_ends, s.few);
                to_is = to_more;
                room_is = room_more;
                same = chunk_same ∙ ap (λ (b : Bool). before (s.bytes ++ left) (rest b)) u;
              }
