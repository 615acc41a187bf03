-- The call: measured, refused 19, or written with its header and its end chunk.
-- Assumes nothing.
use Rattle.std.specs.Prelude.{Result, Ok, Err}
use mathlib.Core.Path.{◌≡◌, refl, sym, ap, ◌∙◌}
use mathlib.Core.Bool.{true, false}
use mathlib.Core.List.{List, [], ◌∷◌, ◌++◌, append_assoc}
use Prim.Native.Nat.{ℕ, ◌+◌, ◌*◌, ◌≤◌, ◌<◌}
use native.Mathlib.Omega.{arith}
use borrow.Author.Tests.{lt-ltb, le-ltb}
use lib.ListN.{length, take, replicate, length-append}
use lib.Seq.{length-take-le}
use Rattle.refusal.specs.declared.Refusal.{Refusal}
use Rattle.refusal.specs.declared.Refusal.TheVariants.{Room}
use Rattle.refusal.specs.Number.{accept, number, block}
use Rattle.room.specs.Room.{written}
use Rattle.room.proofs.Written.{written_none}
use Rattle.parts.specs.Parts.{part, laid}
use Rattle.parts.proofs.Laying.{laid_behind, laid_none, laid_length, laid_then}
use Rattle.state.specs.declared.State.{State}
use Rattle.opening.specs.Opening as opening
use Rattle.opening.specs.Opening.{Opening, opened_as, opening_of}
use Rattle.salvage.specs.declared.Walked.{Walked}
use Rattle.salvage.specs.declared.Salvaged.{Salvaged}
use Rattle.salvage.specs.Salvage.{Stop, at_end, behind_00, by_2, saved, closing, new_film, numbers_of, headed, room_verdict, answer_by, written_by, answer_of, bytes_after, numbers_after, stop_as, answer_as}
use Rattle.salvage.specs.Asked.{Roomy, Passed, Wrote}
use Rattle.salvage.proofs.Sums.{sums, few_losses, has_header}
use Rattle.salvage.proofs.Passing.{numbers_length}

-- ---- the end chunk

abbrev pub end : List ℕ
end = 4 ∷ 0 ∷ 5 ∷ 0 ∷ 0 ∷ 0 ∷ 0 ∷ 0 ∷ []

closed : (st : Stop) → length (closing st) ≡ 8 → closing st ≡ end
unfolding closing
closed at_end e = refl
closed by_2 e = refl
closed behind_00 e = let y : ⊥ = omega arith in absurd y

unclosed : (st : Stop) → (length (closing st) ≡ 8 → ⊥) → closing st ≡ []
unfolding closing
unclosed at_end e = absurd (e refl)
unclosed by_2 e = absurd (e refl)
unclosed behind_00 e = refl

few : (st : Stop) → length (closing st) ≤ 8
unfolding closing
few at_end = omega arith
few by_2 = omega arith
few behind_00 = omega arith

pub puts_end : (st : Stop) (n at : ℕ) (r₀ r₁ r₂ r₃ r₄ : List ℕ) → n ≡ length (closing st) → n ≡ 8 → at ≤ length r₀ → r₁ ≡ laid at (replicate 1 4) r₀ → r₂ ≡ laid (at + 1) (replicate 1 0) r₁
    → r₃ ≡ laid (at + 2) (replicate 1 5) r₂ → r₄ ≡ laid (at + 3) (replicate 5 0) r₃ → r₄ ≡ laid at (closing st) r₀
puts_end st n at r₀ r₁ r₂ r₃ r₄ e h l e₁ e₂ e₃ e₄ =
    let b : r₂ ≡ laid at (4 ∷ 0 ∷ []) r₀ = e₂ ∙ ap (laid (at + 1) (0 ∷ [])) e₁ ∙ laid_then at (4 ∷ []) (0 ∷ []) r₀ l in
    let c : r₃ ≡ laid at (4 ∷ 0 ∷ 5 ∷ []) r₀ = e₃ ∙ ap (laid (at + 2) (5 ∷ [])) b ∙ laid_then at (4 ∷ 0 ∷ []) (5 ∷ []) r₀ l in
    e₄ ∙ ap (laid (at + 3) (replicate 5 0)) c ∙ laid_then at (4 ∷ 0 ∷ 5 ∷ []) (replicate 5 0) r₀ l
    ∙ ap (λ (x : List ℕ). laid at x r₀) (sym (closed st (sym e ∙ h)))

pub puts_none : (st : Stop) (n at : ℕ) (room : List ℕ) → n ≡ length (closing st) → (n ≡ 8 → ⊥) → room ≡ laid at (closing st) room
puts_none st n at room e h = laid_none at room ∙ ap (λ (l : List ℕ). laid at l room) (sym (unclosed st (λ z. h (e ∙ z))))

-- ---- a film that has its header

pub measures : (film : List ℕ) (room list : ℕ) → 26 ≤ length film → Roomy false film room list
measures film room list h = record { header = h; film_room = λ t. absurd (no t); list_room = λ t. absurd (no t) }
  where
    no : false ≡ true → ⊥
    no t = let z : ◌≡◌ {A = ℕ} 0 1 = cc in omega arith

module _ (film room₀ list₀ : List ℕ) (h : 26 ≤ length film) (w : Walked) (room₁ list₁ : List ℕ) (p : Passed false film room₀ list₀ w room₁ list₁) where
  -- the counts are no larger than the film, so that nothing wraps
  pub kept_fits : 26 + w.kept ≤ length film
  kept_fits = omega (arith, p.kept, sums film h)

  pub losses_fit : 4 * w.left_out ≤ length film
  losses_fit = omega (arith, p.left_out_count, few_losses film h, sums film h)

  pub sum_fits : (cl : ℕ) → cl ≡ length (closing (stop_as w.stop)) → 26 + w.kept + cl ≤ length film + 8
  sum_fits cl ec = omega (arith, kept_fits, ec, few (stop_as w.stop))

module _ (film room₀ list₀ : List ℕ) (h : 26 ≤ length film) (w : Walked) (room₁ list₁ : List ℕ) (p : Passed false film room₀ list₀ w room₁ list₁) (cl : ℕ)
    (ec : cl ≡ length (closing (stop_as w.stop))) where
  same_closing : closing (stop_as w.stop) ≡ closing (saved film).stop
  same_closing = ap closing p.stop

  head_long : length (take 26 film) ≡ 26
  head_long = length-take-le 26 film h

  need : 26 + w.kept + cl ≡ length (new_film film)
  need =
      omega (arith, p.bytes, ec, ap length same_closing, head_long, length-append (take 26 film) ((saved film).bytes ++ closing (saved film).stop), length-append (saved film).bytes (closing (saved film).stop))

  numbers : 3 * w.left_out ≡ length (numbers_of (saved film).losses)
  numbers = ap (λ (n : ℕ). 3 * n) p.left_out_count ∙ sym (numbers_length (saved film).losses)

  pub wrote_short : length room₁ < 26 + w.kept + cl → Wrote film room₀ list₀ (Err Room) room₁ list₁
  unfolding room_verdict answer_by written_by
  wrote_short l =
      let q : length room₀ < length (new_film film) = omega (arith, ap length p.room_after, need) in
      record { answer = rw (lt-ltb _ _ q); room_after = rw (lt-ltb _ _ q) p.room_after; list_after = rw (lt-ltb _ _ q) p.list_after }

  module _ (l : 26 + w.kept + cl ≤ length room₁) where
    enough : length (new_film film) ≤ length room₀
    enough = omega (arith, ap length p.room_after, need)

    pub wrote_unlisted : length list₁ < 3 * w.left_out → Wrote film room₀ list₀ (Err Room) room₁ list₁
    unfolding room_verdict answer_by written_by
    wrote_unlisted k =
        let q : length list₀ < length (numbers_of (saved film).losses) = omega (arith, ap length p.list_after, numbers) in
        record { answer = rw (le-ltb _ _ enough, lt-ltb _ _ q); room_after = rw (le-ltb _ _ enough, lt-ltb _ _ q) p.room_after; list_after = rw (le-ltb _ _ enough, lt-ltb _ _ q) p.list_after }

    module _ (k : 3 * w.left_out ≤ length list₁) (room₂ : List ℕ) (e₂ : room₂ ≡ laid 0 (part film 0 26) room₁) where
      headed_room : room₂ ≡ written (take 26 film) room₀
      headed_room = e₂ ∙ laid_behind [] (part film 0 26) room₀ room₁ 0 (p.room_after ∙ written_none room₀) refl

      pub room_is_long : length room₂ ≡ length room₁
      room_is_long = ap length e₂ ∙ laid_length 0 (part film 0 26) room₁ (omega (arith, head_long))

      pub roomy : Roomy true film (length room₂) (length list₁)
      roomy = record { header = h; film_room = λ t. omega (arith, room_is_long, p.bytes); list_room = λ t. omega (arith, numbers_length (saved film).losses, numbers) }

      module _ (r : Walked) (room₃ list₂ : List ℕ) (t : Passed true film room₂ list₁ r room₃ list₂) where
        chunks : room₃ ≡ written (take 26 film ++ (saved film).bytes) room₀
        chunks = t.room_after ∙ laid_behind (take 26 film) (saved film).bytes room₀ room₂ 26 headed_room (sym head_long)

        pub wrote : (room₄ : List ℕ) → room₄ ≡ laid (26 + w.kept) (closing (stop_as w.stop)) room₃ → Wrote film room₀ list₀ (Ok (record { bytes = 26 + w.kept + cl; walked = w })) room₄ list₂
        unfolding room_verdict answer_by written_by
        wrote room₄ e₄ =
            let q : length (numbers_of (saved film).losses) ≤ length list₀ = omega (arith, ap length p.list_after, numbers) in
            let n : 26 + w.kept ≡ length (take 26 film ++ (saved film).bytes) = omega (arith, p.bytes, length-append (take 26 film) (saved film).bytes, head_long) in
            let z : room₄ ≡ written (new_film film) room₀ =
            e₄ ∙ laid_behind (take 26 film ++ (saved film).bytes) (closing (stop_as w.stop)) room₀ room₃ (26 + w.kept) chunks n
            ∙ rw (same_closing, append_assoc (take 26 film) (saved film).bytes (closing (saved film).stop)) in
            record {
              answer = rw (le-ltb _ _ enough, le-ltb _ _ q) (rw (need, p.stop, p.kept, p.lost, p.left_out_count, p.rest));
              room_after = rw (le-ltb _ _ enough, le-ltb _ _ q) z;
              list_after = rw (le-ltb _ _ enough, le-ltb _ _ q) (t.list_after ∙ ap (written (numbers_of (saved film).losses)) p.list_after);
            }

-- ---- any film

opens_as : (film : List ℕ) (x : Result State Refusal) → opened_as x ≡ opening_of film 16 → (st : State) → x ≡ Ok st → opening_of film 16 ≡ opening.started st
opens_as film x e st q = sym e ∙ ap opened_as q

pub header_there : (film : List ℕ) (x : Result State Refusal) → opened_as x ≡ opening_of film 16 → (st : State) → x ≡ Ok st → 26 ≤ length film
unfolding headed
header_there film x e st q = has_header film accept (rw (opens_as film x e st q))

module _ (film room₀ list₀ : List ℕ) (x : Result State Refusal) (e : opened_as x ≡ opening_of film 16) where
  pub refused_1 : (r : Refusal) → x ≡ Err r
      → (answer_as (Err r) ≡ answer_of film (length room₀) (length list₀)) × (room₀ ≡ bytes_after film room₀ (length list₀)) × (list₀ ≡ numbers_after film (length room₀) list₀)
  unfolding headed answer_by written_by
  refused_1 r q =
      let o : opening_of film 16 ≡ opening.refuses (number r) (block r) = sym e ∙ ap opened_as q in
      (rw o, rw o, rw o)

  pub all_told : (st : State) → x ≡ Ok st → (r : Result Salvaged Refusal) (room list : List ℕ) → Wrote film room₀ list₀ r room list
      → (answer_as r ≡ answer_of film (length room₀) (length list₀)) × (room ≡ bytes_after film room₀ (length list₀)) × (list ≡ numbers_after film (length room₀) list₀)
  unfolding headed
  all_told st q r room list w = let o = opens_as film x e st q in (rw o w.answer, rw o w.room_after, rw o w.list_after)
