-- The choice for one 8x8 gives it, and no other choice is cheaper: `best`.
-- Assumes nothing.
use mathlib.Core.Path.{◌≡◌, refl, sym, ap}
use mathlib.Core.Bool.{Bool, true, false, cond}
use mathlib.Core.List.{List}
use Prim.Native.Nat.{ℕ, ◌+◌, ◌*◌, ◌≤◌, ◌<◌}
use native.Mathlib.Omega.{arith}
use lib.ListN.{length}
use Rattle.pattern.specs.Form.{falling, form7}
use Rattle.pattern.specs.Pattern.{colours, cells, part_length, pattern_length}
use Rattle.block.specs.Block.{kinds, kind_of, byte_kind, data_length, source, fetched}
use Rattle.paint.specs.Value.{pixel_value, byte_value}
use Rattle.choice.specs.declared.Way.{Way}
use Rattle.choice.specs.declared.Way.TheVariants.{Same, Kept, One, Dither, Coarse, Four, Fine, Two, Raw}
use Rattle.choice.specs.Choice.{Chosen, code_0, code_1, code_7, code_B, code_C, code_D, code_E, code_F, pixel_at, Reproduces, Best, same_all, celled_by, dithered_by, two_colours, by_cells, code_of, data_by, length_by, drawn_by, choice}
use Rattle.choice.proofs.First.{by_bool, same_at, same_is, celled_1, celled_2, celled_4, celled_8, cells_alike, cells_give, cells_long, dither_alike, dither_gives}
use Rattle.choice.proofs.Colours.{fine_form, coarse_form, fine_gives, coarse_gives, fine_long, coarse_long, fine_says, coarse_says}

-- ---- the order of the ways: fewer bytes first, then the lower code. One number says both, since no code is above 15

weight : Way → ℕ
weight t = 16 * length_by t + code_of t

-- one of two ways, both of at most this weight
either : (b : Bool) (t u : Way) (n : ℕ) → weight t ≤ n → weight u ≤ n → weight (cond b t u) ≤ n
either true t u n h g = h
either false t u n h g = g

both : (a b : Bool) → a ≡ true → b ≡ true → cond a b false ≡ true
both a b p q = rw (p, q)

first_of : (a b : Bool) → cond a b false ≡ true → (a ≡ true) × (b ≡ true)
first_of true b e = (refl, e)
first_of false b e = absurd (let z : ◌≡◌ {A = ℕ} 0 1 = cc in let y : ⊥ = omega arith in y)

pub code_few : (t : Way) → code_of t < 16
code_few Same = omega arith
code_few Kept = omega arith
code_few One = omega arith
code_few Dither = omega arith
code_few Coarse = omega arith
code_few Four = omega arith
code_few Fine = omega arith
code_few Two = omega arith
code_few Raw = omega arith

pub chosen_few : {c : ℕ} → Chosen c → c < 16
chosen_few code_0 = omega arith
chosen_few code_1 = omega arith
chosen_few code_7 = omega arith
chosen_few code_B = omega arith
chosen_few code_C = omega arith
chosen_few code_D = omega arith
chosen_few code_E = omega arith
chosen_few code_F = omega arith

module _ (f g h : ℕ → ℕ) where
  abbrev W : ℕ
  W = weight (choice f g h)

  least_0 : same_all f g ≡ true → W ≤ 0
  unfolding choice drawn_by weight
  least_0 e = rw e (omega arith)

  least_1 : same_all f h ≡ true → W ≤ 1
  unfolding choice drawn_by weight
  least_1 e = rw e (either (same_all f g) _ _ _ (omega arith) (omega arith))

  least_E : celled_by 8 f ≡ true → W ≤ 30
  unfolding choice drawn_by weight
  least_E e = rw e (either (same_all f g) _ _ _ (omega arith) (either (same_all f h) _ _ _ (omega arith) (omega arith)))

  least_F : dithered_by f ≡ true → W ≤ 47
  unfolding choice drawn_by weight
  least_F e = rw e (either (same_all f g) _ _ _ (omega arith) (either (same_all f h) _ _ _ (omega arith) (either (celled_by 8 f) _ _ _ (omega arith) (omega arith))))

  least_coarse : (celled_by 2 f ≡ true) × (two_colours f ≡ true) → W ≤ 71
  unfolding choice drawn_by weight
  least_coarse e =
      rw (both (celled_by 2 f) (two_colours f) e.0 e.1)
      (either (same_all f g) _ _ _ (omega arith) (either (same_all f h) _ _ _ (omega arith) (either (celled_by 8 f) _ _ _ (omega arith)
      (either (dithered_by f) _ _ _ (omega arith) (omega arith)))))

  least_D : celled_by 4 f ≡ true → W ≤ 77
  unfolding choice drawn_by weight
  least_D e =
      rw e
      (either (same_all f g) _ _ _ (omega arith) (either (same_all f h) _ _ _ (omega arith) (either (celled_by 8 f) _ _ _ (omega arith)
      (either (dithered_by f) _ _ _ (omega arith) (either (cond (celled_by 2 f) (two_colours f) false) _ _ _ (omega arith) (omega arith))))))

  least_fine : two_colours f ≡ true → W ≤ 167
  unfolding choice drawn_by weight
  least_fine e =
      rw e
      (either (same_all f g) _ _ _ (omega arith) (either (same_all f h) _ _ _ (omega arith) (either (celled_by 8 f) _ _ _ (omega arith)
      (either (dithered_by f) _ _ _ (omega arith) (either (cond (celled_by 2 f) true false) _ _ _ (omega arith)
      (either (celled_by 4 f) _ _ _ (omega arith) (omega arith)))))))

  least_C : celled_by 2 f ≡ true → W ≤ 268
  unfolding choice drawn_by weight
  least_C e =
      rw e
      (either (same_all f g) _ _ _ (omega arith) (either (same_all f h) _ _ _ (omega arith) (either (celled_by 8 f) _ _ _ (omega arith)
      (either (dithered_by f) _ _ _ (omega arith) (either (two_colours f) _ _ _ (omega arith)
      (either (celled_by 4 f) _ _ _ (omega arith) (either (two_colours f) _ _ _ (omega arith) (omega arith))))))))

  least_B : W ≤ 1035
  unfolding choice drawn_by weight
  least_B =
      either (same_all f g) _ _ _ (omega arith) (either (same_all f h) _ _ _ (omega arith) (either (celled_by 8 f) _ _ _ (omega arith)
      (either (dithered_by f) _ _ _ (omega arith) (either (cond (celled_by 2 f) (two_colours f) false) _ _ _ (omega arith)
      (either (celled_by 4 f) _ _ _ (omega arith) (either (two_colours f) _ _ _ (omega arith) (either (celled_by 2 f) _ _ _ (omega arith) (omega arith))))))))

-- ---- every choice that gives the 8x8 weighs as much or more

module _ (wanted front back : List ℕ) (w x y : ℕ) where
  abbrev f : ℕ → ℕ
  f = pixel_at wanted w x y

  abbrev g : ℕ → ℕ
  g = pixel_at front w x y

  abbrev h : ℕ → ℕ
  h = pixel_at back w x y

  -- code 7, by its form
  seven : (s : List ℕ) (t : Bool) → falling false s 0 ≡ t → length s ≡ data_length false (byte_kind 7 s)
      → ((i : ℕ) → i < 64 → byte_value 7 s w x y front i back ≡ f i) → W f g h ≤ 16 * length s + 7
  unfolding kind_of kinds data_length pixel_value source fetched form7 pattern_length part_length cells colours
  seven s true e l v =
      let n : length s ≡ 4 = rw e at l in
      omega (arith, least_coarse f g h (coarse_says f s (rw e at v)))
  seven s false e l v =
      let n : length s ≡ 10 = rw e at l in
      omega (arith, least_fine f g h (fine_says f s (rw e at v)))

  least : {c : ℕ} → Chosen c → (s : List ℕ) → length s ≡ data_length false (byte_kind c s)
      → ((i : ℕ) → i < 64 → byte_value c s w x y front i back ≡ f i) → W f g h ≤ 16 * length s + c
  unfolding kind_of kinds data_length pixel_value source fetched
  least code_0 s l v = omega (arith, least_0 f g h (same_is f g (λ i q. sym (v i q))))
  least code_1 s l v = omega (arith, least_1 f g h (same_is f h (λ i q. sym (v i q))))
  least code_7 s l v = by_bool (λ t. falling false s 0 ≡ t → W f g h ≤ 16 * length s + 7) (falling false s 0) (λ _ e. seven s true e l v) (λ _ e. seven s false e l v) refl
  least code_B s l v = omega (arith, least_B f g h)
  least code_C s l v = omega (arith, least_C f g h (cells_alike 2 celled_2 f s v))
  least code_D s l v = omega (arith, least_D f g h (cells_alike 4 celled_4 f s v))
  least code_E s l v = omega (arith, least_E f g h (cells_alike 8 celled_8 f s v))
  least code_F s l v = omega (arith, least_F f g h (dither_alike f s v))

  -- ---- each way gives the 8x8 where its test holds

  abbrev Gives : Way → Type 0
  Gives t = Reproduces wanted front back w x y (code_of t) (data_by t f)

  gives_same : same_all f g ≡ true → Gives Same
  unfolding data_by kind_of kinds data_length pixel_value source fetched
  gives_same e = record { chosen = code_0; long = refl; same = λ i q. sym (same_at f g e i q) }

  gives_kept : same_all f h ≡ true → Gives Kept
  unfolding data_by kind_of kinds data_length pixel_value source fetched
  gives_kept e = record { chosen = code_1; long = refl; same = λ i q. sym (same_at f h e i q) }

  gives_one : celled_by 8 f ≡ true → Gives One
  unfolding data_by kind_of kinds data_length pixel_value source fetched
  gives_one e = record { chosen = code_E; long = cells_long 8 celled_8 f; same = cells_give 8 celled_8 f e }

  gives_dither : dithered_by f ≡ true → Gives Dither
  unfolding data_by kind_of kinds data_length pixel_value source fetched
  gives_dither e = record { chosen = code_F; long = refl; same = dither_gives f e }

  gives_four : celled_by 4 f ≡ true → Gives Four
  unfolding data_by kind_of kinds data_length pixel_value source fetched
  gives_four e = record { chosen = code_D; long = cells_long 4 celled_4 f; same = cells_give 4 celled_4 f e }

  gives_two : celled_by 2 f ≡ true → Gives Two
  unfolding data_by kind_of kinds data_length pixel_value source fetched
  gives_two e = record { chosen = code_C; long = cells_long 2 celled_2 f; same = cells_give 2 celled_2 f e }

  gives_raw : Gives Raw
  unfolding data_by kind_of kinds data_length pixel_value source fetched celled_by by_cells
  gives_raw =
      record {
        chosen = code_B;
        long = cells_long 1 (λ i q. (celled_1 i q).0) f;
        same = cells_give 1 (λ i q. (celled_1 i q).0) f (same_is f _ (λ i q. ap f (sym (celled_1 i q).1)));
      }

  gives_coarse : celled_by 8 f ≡ false → (celled_by 2 f ≡ true) × (two_colours f ≡ true) → Gives Coarse
  unfolding data_by kind_of kinds data_length pixel_value source fetched pattern_length part_length cells colours
  gives_coarse n e =
      record {
        chosen = code_7;
        long = rw (coarse_form f n e.1) (coarse_long f);
        same = λ i q. rw (coarse_form f n e.1) (coarse_gives f n e.1 e.0 i q);
      }

  gives_fine : celled_by 8 f ≡ false → two_colours f ≡ true → Gives Fine
  unfolding data_by kind_of kinds data_length pixel_value source fetched pattern_length part_length cells colours
  gives_fine n e =
      record {
        chosen = code_7;
        long = rw (fine_form f n e) (fine_long f);
        same = λ i q. rw (fine_form f n e) (fine_gives f n e i q);
      }

  -- the first test that holds
  gives : Gives (choice f g h)
  unfolding choice drawn_by
  gives =
      at (same_all f g) _ _ gives_same
      (λ _. at (same_all f h) _ _ gives_kept
      (λ _. at (celled_by 8 f) _ _ gives_one
      (λ n. at (dithered_by f) _ _ gives_dither
      (λ _. at (cond (celled_by 2 f) (two_colours f) false) _ _ (λ e. gives_coarse n (first_of _ _ e))
      (λ _. at (celled_by 4 f) _ _ gives_four
      (λ _. at (two_colours f) _ _ (gives_fine n)
      (λ _. at (celled_by 2 f) _ _ gives_two (λ _. gives_raw))))))))
    where
      at : (b : Bool) (t u : Way) → (b ≡ true → Gives t) → (b ≡ false → Gives u) → Gives (cond b t u)
      at true t u p q = p refl
      at false t u p q = q refl

  pub length_by_lem : (t : Way) → length (data_by t f) ≡ length_by t
  unfolding data_by
  length_by_lem Same = refl
  length_by_lem Kept = refl
  length_by_lem One = cells_long 8 celled_8 f
  length_by_lem Dither = refl
  length_by_lem Coarse = coarse_long f
  length_by_lem Four = cells_long 4 celled_4 f
  length_by_lem Fine = fine_long f
  length_by_lem Two = cells_long 2 celled_2 f
  length_by_lem Raw = cells_long 1 (λ i q. (celled_1 i q).0) f

  -- THE THEOREM of one block
  pub best : Best wanted front back w x y (code_of (choice f g h)) (data_by (choice f g h) f)
  unfolding weight
  best =
      let t = choice f g h in
      record {
        gives = gives;
        fewest = λ c s r. omega (arith, least r.chosen s r.long r.same, length_by_lem t, chosen_few r.chosen);
        lowest = λ c s r e. omega (arith, least r.chosen s r.long r.same, length_by_lem t);
      }
