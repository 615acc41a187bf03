-- The tests of a drawing call: the verdict by each of them, and what an accepted call has.
-- Assumes nothing.
use mathlib.Core.Path.{◌≡◌, refl, sym}
use mathlib.Core.Bool.{Bool, true, false, cond}
use mathlib.Core.List.{List}
use Prim.Native.Nat.{ℕ, ◌+◌, ◌/◌, ◌≤◌, ◌<◌}
use native.Mathlib.Omega.{arith}
use borrow.Author.Tests.{lt-ltb, le-ltb, eq-eqb, ne_eqb, ltb-false, eqb-true}
use lib.Dec.{ltb}
use lib.ListN.{length}
use Rattle.words.proofs.Tests.{not_first, first}
use Rattle.std.specs.Prelude.{Result, Ok, Option}
use Rattle.refusal.specs.declared.Refusal.{Refusal}
use Rattle.refusal.specs.Number.{Verdict, accept, refuse}
use Rattle.packet.specs.declared.Rows.{Rows}
use Rattle.packet.specs.Rows.{finding, found}
use Rattle.packet.proofs.Strip.{found_accepted}
use Rattle.packet.specs.Packet.{Packet, packet_in, blocks, pixels}
use Rattle.packet.specs.Verdict.{legal_size, map_fits, parts_verdict}
use Rattle.packet.proofs.Sizes.{size_is, is_size, is_sized}
use Rattle.packet.proofs.Exactly.{whole_is, parts_are}
use Rattle.draw.specs.Call.{is_oldest_short, call_verdict_in, call_verdict}
use Rattle.draw.specs.Asked.{Accepted}
use Rattle.draw.specs.Taken.{OldestLong, DrawAcceptsIn}

module _ (deep : Bool) (spare columns rows : ℕ) (map bytes : List ℕ) (front oldest back place : ℕ) where
  pub judged_6 : legal_size columns rows ≡ false → refuse 6 0 ≡ call_verdict_in deep spare columns rows map bytes front oldest back place
  unfolding call_verdict_in
  judged_6 e = rw e

  module _ (e : legal_size columns rows ≡ true) where
    pub judged_8 : front < pixels columns rows → refuse 8 0 ≡ call_verdict_in deep spare columns rows map bytes front oldest back place
    unfolding call_verdict_in
    judged_8 l = rw (e, lt-ltb _ _ l)

    module _ (f : pixels columns rows ≤ front) where
      pub judged_8_oldest : is_oldest_short deep oldest (pixels columns rows) ≡ true → refuse 8 0 ≡ call_verdict_in deep spare columns rows map bytes front oldest back place
      unfolding call_verdict_in
      judged_8_oldest o = rw (e, le-ltb _ _ f, o)

      module _ (o : is_oldest_short deep oldest (pixels columns rows) ≡ false) where
        pub judged_8_back : back < pixels columns rows → refuse 8 0 ≡ call_verdict_in deep spare columns rows map bytes front oldest back place
        unfolding call_verdict_in
        judged_8_back l = rw (e, le-ltb _ _ f, o, lt-ltb _ _ l)

        module _ (b : pixels columns rows ≤ back) where
          pub judged_10 : (length map ≡ (blocks (packet_in deep columns rows map bytes) + 1) / 2 → ⊥) → refuse 10 0 ≡ call_verdict_in deep spare columns rows map bytes front oldest back place
          unfolding call_verdict_in map_fits
          judged_10 n = rw (e, le-ltb _ _ f, o, le-ltb _ _ b, ne_eqb _ _ n)

          module _ (m : length map ≡ (blocks (packet_in deep columns rows map bytes) + 1) / 2) where
            pub judged_11 : blocks (packet_in deep columns rows map bytes) < place → refuse 11 0 ≡ call_verdict_in deep spare columns rows map bytes front oldest back place
            unfolding call_verdict_in map_fits
            judged_11 l = rw (e, le-ltb _ _ f, o, le-ltb _ _ b, eq-eqb _ _ m, lt-ltb _ _ l)

            pub judged_parts : place ≤ blocks (packet_in deep columns rows map bytes) → (v : Verdict) → v ≡ parts_verdict deep spare columns rows map bytes
                → v ≡ call_verdict_in deep spare columns rows map bytes front oldest back place
            unfolding call_verdict_in map_fits
            judged_parts l v q = rw (e, le-ltb _ _ f, o, le-ltb _ _ b, eq-eqb _ _ m, le-ltb _ _ l) q

refuses : (n k : ℕ) → refuse n k ≡ accept → ⊥
refuses n k e = let z : ◌≡◌ {A = ℕ} 0 1 = cc in omega arith

-- the oldest picture
long_is : (deep : Bool) (oldest long : ℕ) → is_oldest_short deep oldest long ≡ false → OldestLong deep oldest long
long_is false oldest long e = tt
long_is true oldest long e = ltb-false _ _ e

pub is_long : (deep : Bool) (oldest long : ℕ) → OldestLong deep oldest long → is_oldest_short deep oldest long ≡ false
is_long false oldest long e = refl
is_long true oldest long e = le-ltb _ _ e

-- what an accepted call has
module _ (deep : Bool) (spare columns rows : ℕ) (map bytes : List ℕ) (front oldest back place : ℕ) where
  accepted_tests : call_verdict_in deep spare columns rows map bytes front oldest back place ≡ accept → DrawAcceptsIn deep spare columns rows map bytes front oldest back place
  unfolding call_verdict_in map_fits
  accepted_tests v =
      let a = first _ _ _ _ (refuses 6 0) v in
      let b = not_first _ _ _ _ (refuses 8 0) a.1 in
      let c = not_first _ _ _ _ (refuses 8 0) b.1 in
      let d = not_first _ _ _ _ (refuses 8 0) c.1 in
      let e = first _ _ _ _ (refuses 10 0) d.1 in
      let f = not_first _ _ _ _ (refuses 11 0) e.1 in
      let g = first _ _ _ _ (refuses 20 0) f.1 in
      let l = size_is columns rows a.0 in
      let w = whole_is spare (packet_in deep columns rows map bytes) g.1 in
      record {
        accepted = record { wide = l.0; high = l.1; mapped = eqb-true _ _ e.0; parts = parts_are deep bytes g.0; drawn = w.0; used = w.1 };
        front_long = ltb-false _ _ b.0;
        oldest_long = long_is deep oldest (pixels columns rows) c.0;
        back_long = ltb-false _ _ d.0;
        within = ltb-false _ _ f.0;
      }

  pub accepted_size : DrawAcceptsIn deep spare columns rows map bytes front oldest back place → legal_size columns rows ≡ true
  accepted_size t = is_size columns rows t.accepted.wide t.accepted.high

  pub accepted_as : DrawAcceptsIn deep spare columns rows map bytes front oldest back place → Accepted (packet_in deep columns rows map bytes) front back place
  accepted_as t =
      record {
        sized = is_sized (packet_in deep columns rows map bytes) (accepted_size t) t.accepted.mapped;
        taken = t.accepted.drawn;
        front_room = t.front_long;
        back_room = t.back_long;
        at = t.within;
      }

  pub accepted_call : call_verdict_in deep spare columns rows map bytes front oldest back place ≡ accept
      → (legal_size columns rows ≡ true) × Accepted (packet_in deep columns rows map bytes) front back place × DrawAcceptsIn deep spare columns rows map bytes front oldest back place
  accepted_call v = let t = accepted_tests v in (accepted_size t, accepted_as t, t)

  -- what a call has that was judged and accepted, by what the judge answers
  pub judged_call : (t : Option Rows) (i : Result (Option Rows) Refusal) → found i ≡ finding (call_verdict_in deep spare columns rows map bytes front oldest back place) t → (u : Option Rows) → i ≡ Ok u
      → (legal_size columns rows ≡ true) × Accepted (packet_in deep columns rows map bytes) front back place × DrawAcceptsIn deep spare columns rows map bytes front oldest back place
  judged_call t i e u q = accepted_call (sym (found_accepted i _ t e u q).0)

-- ---- whichever picture of an 8-bit film is shown

-- both are tested alike
pub either_verdict : (spare columns rows : ℕ) (map bytes : List ℕ) (front back place : ℕ)
    → call_verdict spare columns rows map bytes front back place ≡ call_verdict spare columns rows map bytes back front place
unfolding call_verdict_in
either_verdict spare columns rows map bytes front back place = by (ltb front (pixels columns rows)) (ltb back (pixels columns rows)) _
  where
    by : (f b : Bool) (v : Verdict)
        → cond (legal_size columns rows) (cond f (refuse 8 0) (cond b (refuse 8 0) v)) (refuse 6 0)
        ≡ cond (legal_size columns rows) (cond b (refuse 8 0) (cond f (refuse 8 0) v)) (refuse 6 0)
    by true true v = refl
    by true false v = refl
    by false true v = refl
    by false false v = refl

pub either_accepted : (p : Packet) (front back place : ℕ) → Accepted p front back place → Accepted p back front place
either_accepted p front back place a = record { sized = a.sized; taken = a.taken; front_room = a.back_room; back_room = a.front_room; at = a.at }
