-- The walk over chunks: the loop that keeps chunks or leaves them out.
-- Assumes nothing.
use Rattle.std.specs.Prelude.{Result, Ok, Err}
use mathlib.Core.Path.{◌≡◌, refl, sym, ap, ◌∙◌}
use mathlib.Core.Bool.{Bool, true, false, cond}
use mathlib.Core.List.{List, [], ◌∷◌, ◌++◌, append_assoc, append-nil}
use Prim.Native.Nat.{ℕ, suc, ◌+◌, ◌-◌, ◌*◌, ◌≤◌, ◌<◌}
use native.Mathlib.Omega.{arith}
use lib.ListN.{length, set, length-append}
use Rattle.refusal.specs.declared.Refusal.{Refusal}
use Rattle.refusal.specs.Number.{number}
use Rattle.room.specs.Room.{written}
use Rattle.room.proofs.Written.{written_none, written_length, written_more}
use Rattle.parts.specs.Parts.{part, laid}
use Rattle.parts.proofs.Laying.{stored_none, stored_length, stored_then}
use Rattle.parts.proofs.Parts.{part_length}
use Rattle.chunks.specs.Chunks.{intact, Following, film_end, past_end, chunk_to, following_at, condition_as}
use Rattle.chunks.proofs.Heads.{there}
use Rattle.salvage.specs.declared.Stopped.{Stopped}
use Rattle.salvage.specs.declared.Stopped.TheVariants.{AtEnd, Behind00, By2}
use Rattle.salvage.specs.Salvage.{Stop, behind_00, Loss, loss, Saved, no_more, keeping, losing, go_on, save_from, saved, numbers_of, stop_as}
use Rattle.salvage.specs.Asked.{Roomy, Passed}

-- ---- three numbers

three_written : (w room : List ℕ) (k x y z : ℕ) → k ≡ length w → k + 3 ≤ length room
    → set (set (set (written w room) k x) (k + 1) y) (k + 2) z ≡ written (w ++ (x ∷ y ∷ z ∷ [])) room
three_written w room k x y z e h =
    let l₁ : length w < length room = omega arith in
    let a = written_more w room x l₁ in
    let n₁ : length (w ++ (x ∷ [])) ≡ k + 1 = length-append w (x ∷ []) ∙ omega arith in
    let l₂ : length (w ++ (x ∷ [])) < length room = omega arith in
    let b = written_more (w ++ (x ∷ [])) room y l₂ in
    let n₂ : length ((w ++ (x ∷ [])) ++ (y ∷ [])) ≡ k + 2 = length-append (w ++ (x ∷ [])) (y ∷ []) ∙ omega arith in
    let l₃ : length ((w ++ (x ∷ [])) ++ (y ∷ [])) < length room = omega arith in
    let c = written_more ((w ++ (x ∷ [])) ++ (y ∷ [])) room z l₃ in
    let s₁ : set (written w room) k x ≡ written (w ++ (x ∷ [])) room = rw e a in
    let s₂ : set (written (w ++ (x ∷ [])) room) (k + 1) y ≡ written ((w ++ (x ∷ [])) ++ (y ∷ [])) room = rw (← n₁) b in
    let s₃ : set (written ((w ++ (x ∷ [])) ++ (y ∷ [])) room) (k + 2) z ≡ written (((w ++ (x ∷ [])) ++ (y ∷ [])) ++ (z ∷ [])) room = rw (← n₂) c in
    let q : ((w ++ (x ∷ [])) ++ (y ∷ [])) ++ (z ∷ []) ≡ w ++ (x ∷ y ∷ z ∷ []) = simp append_assoc in
    ap (λ (l : List ℕ). set (set l (k + 1) y) (k + 2) z) s₁ ∙ ap (λ (l : List ℕ). set l (k + 2) z) s₂ ∙ s₃ ∙ ap (λ (l : List ℕ). written l room) q

pub numbers_length : (l : List Loss) → length (numbers_of l) ≡ 3 * length l
unfolding numbers_of
numbers_length [] = refl
numbers_length (x ∷ l) = omega (arith, numbers_length l)

numbers_more : (l : List Loss) (x : Loss) → numbers_of (l ++ (x ∷ [])) ≡ numbers_of l ++ (x.position ∷ x.long ∷ x.refusal ∷ [])
unfolding numbers_of
numbers_more [] x = refl
numbers_more (y ∷ l) x = ap (λ (r : List ℕ). y.position ∷ y.long ∷ y.refusal ∷ r) (numbers_more l x)

-- ---- the rest of the walk, behind what is kept and left out so far

abbrev mk : List ℕ → List Loss → Stop → ℕ → ℕ → ℕ → Saved
mk b l s k m r = record { bytes = b; losses = l; stop = s; kept = k; lost = m; rest = r }

unfoldable pub joined : List ℕ → List Loss → ℕ → ℕ → Saved → Saved
joined w l k m s = mk (w ++ s.bytes) (l ++ s.losses) s.stop (k + s.kept) (m + s.lost) s.rest

mk_same : (b b' : List ℕ) (l l' : List Loss) (s : Stop) (k k' m m' r : ℕ) → b ≡ b' → l ≡ l' → k ≡ k' → m ≡ m' → mk b l s k m r ≡ mk b' l' s k' m' r
mk_same b b' l l' s k k' m m' r eb el ek em = rw (eb, el, ek, em)

joined_keeps : (film w : List ℕ) (l : List Loss) (k m e x : ℕ) (s : Saved) → joined w l k m (keeping film e x s) ≡ joined (w ++ part film e x) l (k + (x - e)) m s
unfolding joined
joined_keeps film w l k m e x s =
    mk_same (w ++ (part film e x ++ s.bytes)) ((w ++ part film e x) ++ s.bytes) (l ++ s.losses) (l ++ s.losses) s.stop (k + ((x - e) + s.kept)) (k + (x - e) + s.kept)
    (m + s.lost) (m + s.lost) s.rest (sym (append_assoc w (part film e x) s.bytes)) refl (omega arith) refl

joined_loses : (w : List ℕ) (l : List Loss) (k m e x n : ℕ) (s : Saved) → joined w l k m (losing e x n s) ≡ joined w (l ++ (loss e x n ∷ [])) k (m + (x - e)) s
unfolding joined
joined_loses w l k m e x n s =
    mk_same (w ++ s.bytes) (w ++ s.bytes) (l ++ (loss e x n ∷ s.losses)) ((l ++ (loss e x n ∷ [])) ++ s.losses) s.stop (k + s.kept) (k + s.kept)
    (m + ((x - e) + s.lost)) (m + (x - e) + s.lost) s.rest refl (sym (append_assoc l (loss e x n ∷ []) s.losses)) refl (omega arith)

joined_none : (s : Saved) → joined [] [] 0 0 s ≡ s
unfolding joined
joined_none s = mk_same s.bytes s.bytes s.losses s.losses s.stop (0 + s.kept) s.kept (0 + s.lost) s.lost s.rest refl refl (omega arith) (omega arith)

-- ---- the loop

pub record Saving (storing : Bool) (film room₀ list₀ : List ℕ) (e kept lost left : ℕ) (room list : List ℕ) : Type 0 where
  pub turns : ℕ
  pub bytes : List ℕ
  pub losses : List Loss
  pub enough : length film - e < turns
  pub within : e ≤ length film
  pub kept_is : kept ≡ length bytes
  pub left_is : left ≡ length losses
  pub room_is : room ≡ cond storing (laid 26 bytes room₀) room₀
  pub list_is : list ≡ cond storing (written (numbers_of losses) list₀) list₀
  -- every byte passed is of the header, kept or left out; a chunk left out has its head
  pub count : 26 + kept + lost ≡ e
  pub few : 4 * left ≤ e
  pub same : saved film ≡ joined bytes losses kept lost (save_from turns film e)

pub saving_start : (storing : Bool) (film room₀ list₀ : List ℕ) → Roomy storing film (length room₀) (length list₀) → Saving storing film room₀ list₀ 26 0 0 0 room₀ list₀
unfolding numbers_of
saving_start storing film room₀ list₀ q =
    record {
      turns = suc (length film);
      bytes = [];
      losses = [];
      enough = omega arith;
      within = q.header;
      kept_is = refl;
      left_is = refl;
      room_is = stored_none storing 26 room₀;
      list_is = none storing (written_none list₀);
      count = refl;
      few = omega arith;
      same = sym (joined_none (saved film));
    }
  where
    none : (b : Bool) {x y : List ℕ} → y ≡ x → y ≡ cond b x y
    none true h = h
    none false h = refl

module _ (storing : Bool) (film room₀ list₀ : List ℕ) (q : Roomy storing film (length room₀) (length list₀)) where
  -- the walk stops behind w and l
  passed_by : (st : Stopped) (w : List ℕ) (l : List Loss) (kept lost left rest : ℕ) (room list : List ℕ)
      → saved film ≡ joined w l kept lost (no_more (stop_as st) rest) → kept ≡ length w → left ≡ length l
      → room ≡ cond storing (laid 26 w room₀) room₀ → list ≡ cond storing (written (numbers_of l) list₀) list₀
      → Passed storing film room₀ list₀ (record { stop = st; kept = kept; lost = lost; left_out = left; rest = rest }) room list
  unfolding joined
  passed_by st w l kept lost left rest room list e ek el er en =
      let b : (saved film).bytes ≡ w = ap (λ (s : Saved). s.bytes) e ∙ append-nil w in
      let n : (saved film).losses ≡ l = ap (λ (s : Saved). s.losses) e ∙ append-nil l in
      record {
        stop = sym (ap (λ (s : Saved). s.stop) e);
        kept = omega (arith, ap (λ (s : Saved). s.kept) e);
        bytes = ek ∙ ap length (sym b);
        lost = omega (arith, ap (λ (s : Saved). s.lost) e);
        left_out_count = el ∙ ap length (sym n);
        rest = sym (ap (λ (s : Saved). s.rest) e);
        room_after = er ∙ ap (λ (x : List ℕ). cond storing (laid 26 x room₀) room₀) (sym b);
        list_after = en ∙ ap (λ (x : List Loss). cond storing (written (numbers_of x) list₀) list₀) (sym n);
      }

  long_list : (b : Bool) (l : List Loss) → (b ≡ true → 3 * length l ≤ length list₀) → length (cond b (written (numbers_of l) list₀) list₀) ≡ length list₀
  long_list true l h = written_length (numbers_of l) list₀ (omega (arith, numbers_length l, h refl))
  long_list false l h = refl

  lay_three : (b : Bool) (l : List Loss) (x : Loss) (k : ℕ) → k ≡ 3 * length l → (b ≡ true → k + 3 ≤ length list₀)
      → cond b (set (set (set (cond b (written (numbers_of l) list₀) list₀) k x.position) (k + 1) x.long) (k + 2) x.refusal) (cond b (written (numbers_of l) list₀) list₀)
      ≡ cond b (written (numbers_of (l ++ (x ∷ []))) list₀) list₀
  lay_three true l x k e h =
      three_written (numbers_of l) list₀ k x.position x.long x.refusal (e ∙ sym (numbers_length l)) (h refl)
      ∙ ap (λ (r : List ℕ). written r list₀) (sym (numbers_more l x))
  lay_three false l x k e h = refl

  module _ (e kept lost left : ℕ) (room list : List ℕ) (s : Saving storing film room₀ list₀ e kept lost left room list) where
    pub room_long : length room ≡ length room₀
    unfolding joined
    room_long =
        ap length s.room_is
        ∙ stored_length storing 26 s.bytes room₀ (λ t. omega (arith, q.film_room t, ap (λ (y : Saved). length y.bytes) s.same, length-append s.bytes (save_from s.turns film e).bytes))

    pub list_long : length list ≡ length list₀
    unfolding joined
    list_long =
        ap length s.list_is
        ∙ long_list storing s.losses (λ t. omega (arith, q.list_room t, ap (λ (y : Saved). length y.losses) s.same, length-append s.losses (save_from s.turns film e).losses))

    by_found : (y : Following) → y ≡ following_at film e → saved film ≡ joined s.bytes s.losses kept lost (go_on film e y (λ x. save_from (s.turns - 1) film x))
    unfolding save_from
    by_found y h =
        let z : s.turns ≡ suc (s.turns - 1) = omega (arith, s.enough) in
        s.same ∙ ap (λ (n : ℕ). joined s.bytes s.losses kept lost (save_from n film e)) z
        ∙ ap (λ (y : Following). joined s.bytes s.losses kept lost (go_on film e y (λ x. save_from (s.turns - 1) film x))) (sym h)

    pub pass_end : film_end ≡ following_at film e → Passed storing film room₀ list₀ (record { stop = AtEnd; kept = kept; lost = lost; left_out = left; rest = length film - e }) room list
    unfolding go_on
    pass_end g = passed_by AtEnd s.bytes s.losses kept lost left (length film - e) room list (by_found film_end g) s.kept_is s.left_is s.room_is s.list_is

    pub pass_past : past_end ≡ following_at film e → Passed storing film room₀ list₀ (record { stop = By2; kept = kept; lost = lost; left_out = left; rest = length film - e }) room list
    unfolding go_on
    pass_past g = passed_by By2 s.bytes s.losses kept lost left (length film - e) room list (by_found past_end g) s.kept_is s.left_is s.room_is s.list_is

    module _ (x : ℕ) (t : Result Bool Refusal) (g : chunk_to x (condition_as t) ≡ following_at film e) where
      pub chunk_ends : (e + 4 ≤ x) × (x ≤ length film)
      chunk_ends = let k = there film e x (condition_as t) s.within (sym g) in (omega (arith, k.ends), k.inside)

      by_chunk : (u : Result Bool Refusal) → t ≡ u → saved film ≡ joined s.bytes s.losses kept lost (go_on film e (chunk_to x (condition_as u)) (λ x. save_from (s.turns - 1) film x))
      by_chunk u h = by_found (chunk_to x (condition_as u)) (ap (λ (v : Result Bool Refusal). chunk_to x (condition_as v)) (sym h) ∙ g)

      module _ (r : Refusal) (h : t ≡ Err r) (n : ℕ) (en : n ≡ number r) where
        lost_same : saved film ≡ joined s.bytes (s.losses ++ (loss e x n ∷ [])) kept (lost + (x - e)) (save_from (s.turns - 1) film x)
        unfolding go_on
        lost_same =
            by_chunk (Err r) h
            ∙ ap (λ (i : ℕ). joined s.bytes s.losses kept lost (losing e x i (save_from (s.turns - 1) film x))) (sym en)
            ∙ joined_loses s.bytes s.losses kept lost e x n (save_from (s.turns - 1) film x)

        lost_fits : storing ≡ true → 3 * left + 3 ≤ length list₀
        unfolding joined
        lost_fits u =
            omega (arith, q.list_room u, ap (λ (y : Saved). length y.losses) lost_same, length-append (s.losses ++ (loss e x n ∷ [])) (save_from (s.turns - 1) film x).losses, length-append s.losses (loss e x n ∷ []), s.left_is)

        pub lost_room : storing ≡ true → 3 * left + 3 ≤ length list
        lost_room u = omega (arith, lost_fits u, list_long)

        pub saving_lost : (list' : List ℕ) → list' ≡ cond storing (set (set (set list (3 * left) e) (3 * left + 1) (x - (e + 4))) (3 * left + 2) n) list
            → Saving storing film room₀ list₀ x kept (lost + (x - e)) (left + 1) room list'
        saving_lost list' el =
            record {
              turns = s.turns - 1;
              bytes = s.bytes;
              losses = s.losses ++ (loss e x n ∷ []);
              enough = omega (arith, chunk_ends, s.enough);
              within = chunk_ends.1;
              kept_is = s.kept_is;
              left_is = omega (arith, length-append s.losses (loss e x n ∷ []), s.left_is);
              room_is = s.room_is;
              list_is =
                  el ∙ ap (λ (l : List ℕ). cond storing (set (set (set l (3 * left) e) (3 * left + 1) (x - (e + 4))) (3 * left + 2) n) l) s.list_is
                  ∙ lay_three storing s.losses (loss e x n) (3 * left) (ap (λ (i : ℕ). 3 * i) s.left_is) lost_fits;
              count = omega (arith, chunk_ends, s.count);
              few = omega (arith, chunk_ends, s.few);
              same = lost_same;
            }

      module _ (c : Bool) (h : t ≡ Ok c) where
        part_long : length (part film e x) ≡ x - e
        part_long = part_length film e x chunk_ends.1

        -- what comes behind it
        behind : Bool → Saved
        behind true = no_more behind_00 (length film - x)
        behind false = save_from (s.turns - 1) film x

        by_kept : (b : Bool) → go_on film e (chunk_to x (intact b)) (λ x. save_from (s.turns - 1) film x) ≡ keeping film e x (behind b)
        unfolding go_on behind
        by_kept true = refl
        by_kept false = refl

        kept_same : saved film ≡ joined (s.bytes ++ part film e x) s.losses (kept + (x - e)) lost (behind c)
        kept_same =
            by_chunk (Ok c) h
            ∙ ap (joined s.bytes s.losses kept lost) (by_kept c)
            ∙ joined_keeps film s.bytes s.losses kept lost e x (behind c)

        kept_long : kept + (x - e) ≡ length (s.bytes ++ part film e x)
        kept_long = omega (arith, s.kept_is, length-append s.bytes (part film e x), part_long)

        kept_fits : storing ≡ true → 26 + (kept + (x - e)) ≤ length room₀
        unfolding joined
        kept_fits u = omega (arith, q.film_room u, ap (λ (y : Saved). length y.bytes) kept_same, length-append (s.bytes ++ part film e x) (behind c).bytes, kept_long)

        pub kept_room : storing ≡ true → 26 + kept + (x - e) ≤ length room
        kept_room u = omega (arith, kept_fits u, room_long)

        kept_laid : (room' : List ℕ) → room' ≡ cond storing (laid (26 + kept) (part film e x) room) room → room' ≡ cond storing (laid 26 (s.bytes ++ part film e x) room₀) room₀
        kept_laid room' er =
            er ∙ ap (λ (r : List ℕ). cond storing (laid (26 + kept) (part film e x) r) r) s.room_is
            ∙ stored_then storing 26 s.bytes (part film e x) room₀ (26 + kept) (ap (λ (i : ℕ). 26 + i) s.kept_is) (λ u. omega (arith, kept_fits u))

        pub pass_closed : c ≡ true → (room' : List ℕ) → room' ≡ cond storing (laid (26 + kept) (part film e x) room) room
            → Passed storing film room₀ list₀ (record { stop = Behind00; kept = kept + (x - e); lost = lost; left_out = left; rest = length film - x }) room' list
        unfolding behind
        pass_closed u room' er =
            passed_by Behind00 (s.bytes ++ part film e x) s.losses (kept + (x - e)) lost left (length film - x) room' list
            (kept_same ∙ ap (λ (b : Bool). joined (s.bytes ++ part film e x) s.losses (kept + (x - e)) lost (behind b)) u) kept_long s.left_is (kept_laid room' er) s.list_is

        pub saving_kept : c ≡ false → (room' : List ℕ) → room' ≡ cond storing (laid (26 + kept) (part film e x) room) room → Saving storing film room₀ list₀ x (kept + (x - e)) lost left room' list
        unfolding behind
        saving_kept u room' er =
            record {
              turns = s.turns - 1;
              bytes = s.bytes ++ part film e x;
              losses = s.losses;
              enough = omega (arith, chunk_ends, s.enough);
              within = chunk_ends.1;
              kept_is = kept_long;
              left_is = s.left_is;
              room_is = kept_laid room' er;
              list_is = s.list_is;
              count = omega (arith, chunk_ends, s.count);
              few = omega (arith, chunk_ends, s.few);
              same = kept_same ∙ ap (λ (b : Bool). joined (s.bytes ++ part film e x) s.losses (kept + (x - e)) lost (behind b)) u;
            }
