-- The samples in turn, which the passes over the channels are compared with: after i of them the room has their bytes at its front, or is empty.
-- Assumes nothing.
use Rattle.std.proofs.Common.{◌≡◌, ℕ, ◌+◌, ◌*◌, ◌/◌, ◌%◌, ◌<◌, ◌≤◌, Bool, List, [], ◌∷◌, ◌++◌, length, get_or, take, set, sym, refl, ap, ◌∙◌, subst, append_assoc, not-suc-le-zero, arith, length-set, take_all}
use Rattle.room.specs.Room.{written}
use Rattle.room.proofs.Written.{Writing, writing_start, writing_more}
use Rattle.dpcm.specs.Samples.{sample_after, turned, samples, last_of, bytes_of}
use Rattle.dpcm.specs.Stride.{HoldsOrNone, put_at}
use Rattle.dpcm.specs.declared.Last.{Last}
use Rattle.dpcm.proofs.Samples.{samples_more, samples_length, last_more, bytes_append, bytes_length}

-- a sample's two bytes
pub writing_sample : (room₀ w : List ℕ) (at : ℕ) (room : List ℕ) → Writing room₀ w at room → at + 2 ≤ length room₀ → (sample : ℕ) (room' : List ℕ)
    → room' ≡ set (set room at (sample % 256)) (at + 1) (sample / 256) → Writing room₀ (w ++ bytes_of (sample ∷ [])) (at + 2) room'
unfolding bytes_of
writing_sample room₀ w at room m fits sample room' e =
    let low = writing_more _ _ _ _ m (omega arith) (w ++ (sample % 256 ∷ [])) _ (sample % 256) refl refl in
    let n : at + 1 + 1 ≡ at + 2 = omega arith in
    subst (λ (k : ℕ). Writing room₀ (w ++ bytes_of (sample ∷ [])) k room') n
    (writing_more _ _ _ _ low (omega arith) _ room' (sample / 256) (sym (append_assoc w (sample % 256 ∷ []) (sample / 256 ∷ []))) e)

-- ---- the last samples

module _ (stereo : Bool) (first : Last) («data» : List ℕ) where
  -- behind i samples
  pub record Passing (last : Last) (i : ℕ) : Type 0 where
    pub within : i ≤ length «data»
    pub now : last ≡ last_of stereo first (take i «data»)

  pub passing_start : Passing first 0
  unfolding last_of
  passing_start = record { within = omega arith; now = refl }

  module _ (last : Last) (i : ℕ) (p : Passing last i) where
    -- the next sample by the last one of its channel
    pub next_sample : (sample : ℕ) → sample ≡ sample_after last.next (get_or «data» i 0) → sample_after (last_of stereo first (take i «data»)).next (get_or «data» i 0) ≡ sample
    next_sample sample e = sym (e ∙ ap (λ (l : Last). sample_after l.next (get_or «data» i 0)) p.now)

    pub passing_more : i < length «data» → (sample : ℕ) → sample ≡ sample_after last.next (get_or «data» i 0) → Passing (turned stereo last sample) (i + 1)
    passing_more h sample es =
        record {
          within = omega arith;
          now =
              ap (λ (l : Last). turned stereo l sample) p.now
              ∙ ap (turned stereo (last_of stereo first (take i «data»))) (sym (next_sample sample es))
              ∙ sym (last_more stereo first «data» i h);
        }

    pub passed : length «data» ≤ i → last ≡ last_of stereo first «data»
    passed h = p.now ∙ ap (last_of stereo first) (take_all i «data» h)

-- ---- and the samples, written where there is a room

pub none_left : (room : List ℕ) → length room ≤ 0 → room ≡ []
none_left [] h = refl
none_left (x ∷ xs) h = absurd (not-suc-le-zero h)

pub none_put : (room : List ℕ) (i j v w : ℕ) → length room ≤ 0 → room ≡ set (set room i v) j w
none_put [] i j v w h = refl
none_put (x ∷ xs) i j v w h = absurd (not-suc-le-zero h)

-- an empty room stays; a room that holds the bytes has them
ends : (room₀ w room : List ℕ) → length room ≡ length room₀ → (0 < length room₀ → (room ≡ written w room₀) × (length w ≤ length room₀))
    → room ≡ written (take (length room₀) w) room₀
unfolding written
ends [] w room same e = none_left room (omega (arith, same))
ends (x ∷ xs) w room same e = let q = e (omega arith) in rw (take_all (length (x ∷ xs)) w q.1) q.0

-- where it holds them the samples are written whole
pub held : (stereo : Bool) (first : Last) («data» room room' : List ℕ) → 2 * length «data» ≤ length room
    → room' ≡ written (take (length room) (bytes_of (samples stereo first «data»))) room → room' ≡ written (bytes_of (samples stereo first «data»)) room
held stereo first «data» room room' h e =
    let l = samples stereo first «data» in
    e ∙ ap (λ (w : List ℕ). written w room) (take_all (length room) (bytes_of l) (omega (arith, bytes_length l, samples_length stereo first «data»)))

written_fits : (room₀ w : List ℕ) (at : ℕ) (room : List ℕ) → Writing room₀ w at room → length w ≤ length room₀
written_fits room₀ w at room m = omega (arith, m.end, m.fits)

module _ (stereo : Bool) (first : Last) («data» room₀ : List ℕ) where
  -- i samples are decoded
  pub record Decoding (room : List ℕ) (last : Last) (i : ℕ) : Type 0 where
    pub passing : Passing stereo first «data» last i
    pub same : length room ≡ length room₀
    pub writing : 0 < length room₀ → Writing room₀ (bytes_of (samples stereo first (take i «data»))) (2 * i) room

  pub decoding_start : Decoding room₀ first 0
  unfolding samples bytes_of
  decoding_start = record { passing = passing_start stereo first «data»; same = refl; writing = λ h. writing_start room₀ }

  module _ (room : List ℕ) (last : Last) (i : ℕ) (d : Decoding room last i) where
    more_bytes : i < length «data» → (sample : ℕ) → sample ≡ sample_after last.next (get_or «data» i 0)
        → bytes_of (samples stereo first (take (i + 1) «data»)) ≡ bytes_of (samples stereo first (take i «data»)) ++ bytes_of (sample ∷ [])
    more_bytes h sample es =
        ap bytes_of (samples_more stereo first «data» i h) ∙ bytes_append (samples stereo first (take i «data»)) _
        ∙ ap (λ (v : ℕ). bytes_of (samples stereo first (take i «data»)) ++ bytes_of (v ∷ [])) (next_sample stereo first «data» last i d.passing sample es)

    pub decoding_more : HoldsOrNone (2 * length «data») (length room₀) → i < length «data» → (sample : ℕ) (room' : List ℕ)
        → sample ≡ sample_after last.next (get_or «data» i 0) → room' ≡ put_at (2 * i) sample room → Decoding room' (turned stereo last sample) (i + 1)
    decoding_more fits h sample room' es er =
        let n : 2 * i + 2 ≡ 2 * (i + 1) = omega arith in
        record {
          passing = passing_more stereo first «data» last i d.passing h sample es;
          same = ap length er ∙ simp length-set d.same;
          writing = λ k. rw (more_bytes h sample es, ← n) (writing_sample _ _ _ _ (d.writing k) (omega (arith, fits k)) sample room' er);
        }

    pub decoded : length «data» ≤ i → (last ≡ last_of stereo first «data») × (room ≡ written (take (length room₀) (bytes_of (samples stereo first «data»))) room₀)
    decoded h =
        let e = take_all i «data» h in (
          passed stereo first «data» last i d.passing h,
          ends room₀ _ room d.same (λ g. ((d.writing g).now ∙ ap (λ (l : List ℕ). written (bytes_of (samples stereo first l)) room₀) e, rw e at (written_fits _ _ _ _ (d.writing g)))),
        )
