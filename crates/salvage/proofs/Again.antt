-- `opens_told`: the new film opens. `saved_again`, `again_told`: saved again it is kept whole, with nothing left out.
-- Assumes nothing.
use mathlib.Core.Path.{◌≡◌, refl, sym, ap, ap₂, ◌∙◌}
use mathlib.Core.Bool.{Bool, true, false, cond}
use mathlib.Core.List.{List, [], ◌++◌, append_assoc, append-nil}
use Prim.Native.Nat.{ℕ, zero, suc, ◌+◌, ◌-◌, ◌≤◌, ◌<◌}
use native.Mathlib.Omega.{arith}
use borrow.Author.Tests.{le-ltb}
use lib.Dec.{ltb}
use lib.ListN.{length, take, length-append}
use lib.Seq.{take_at}
use Rattle.words.specs.Word.{word_at}
use Rattle.refusal.specs.Number.{Verdict, accept, refuse}
use Rattle.parts.specs.Parts.{part}
use Rattle.parts.proofs.Parts.{part_length, part_behind, same_behind}
use Rattle.state.specs.Moves.{cursor_into, cursor_behind}
use Rattle.heads.specs.Heads as heads
use Rattle.heads.specs.Heads.{chunk_of, chunk_at, opcode_of, opcode_at, shape_verdict, is_sound, hears, taken_verdict}
use Rattle.next.specs.Next.{on, chunk_standing, opcode_standing, end_of_chunk, standing_at}
use Rattle.opening.specs.Opening.{Opening, started, refuses, first_state, begins, opening_of}
use Rattle.opening.proofs.Opens.{header_long, header_opens}
use Rattle.chunks.specs.Chunks.{is_exact, measured_opcode, measured, behind_opcode, opcodes_from, intact, scratched, Following, chunk_to, following, following_at}
use Rattle.chunks.proofs.Heads.{Ahead, at_film_end, is_past, is_chunk, ahead, There, there}
use Rattle.chunks.proofs.Moved.{moved_chunk}
use Rattle.salvage.specs.Salvage.{behind_00, Saved, no_more, keeping, go_on, save_from, saved, closing, new_film, numbers_of, Tally, tally, headed, room_verdict, verdict_of, writes, answer_by, answer_of}
use Rattle.salvage.proofs.Sums.{has_header}
use Rattle.salvage.proofs.Writing.{end}

-- ---- it opens

pub opens : (film : List ℕ) (stream : ℕ) → 26 ≤ length film → opening_of (new_film film) stream ≡ opening_of film stream
opens film stream h = header_opens film ((saved film).bytes ++ closing (saved film).stop) h stream

-- where the call writes, 1 is not met in the new film, whatever the stream
opened : (film : List ℕ) (v : Verdict) → headed (opening_of film 16) v ≡ accept → (stream : ℕ) → opening_of film stream ≡ started (first_state stream)
unfolding headed opening_of
opened film v e stream = by (ltb (length film) 26) (begins film 26) e
  where
    by : (t u : Bool) → headed (cond t (refuses 1 0) (cond u (started (first_state 16)) (refuses 1 0))) v ≡ accept
        → cond t (refuses 1 0) (cond u (started (first_state stream)) (refuses 1 0)) ≡ started (first_state stream)
    by true u h = absurd (let z : ◌≡◌ {A = ℕ} 0 1 = cc in let y : ⊥ = omega arith in y)
    by false true h = refl
    by false false h = absurd (let z : ◌≡◌ {A = ℕ} 0 1 = cc in let y : ⊥ = omega arith in y)

pub opens_told : (film : List ℕ) (room list : ℕ) (t : Tally) → answer_of film room list ≡ writes t → (stream : ℕ) → opening_of (new_film film) stream ≡ started (first_state stream)
unfolding answer_by
opens_told film room list t q stream = by (verdict_of film room list) refl q
  where
    by : (v : Verdict) → verdict_of film room list ≡ v → answer_by v film ≡ writes t → opening_of (new_film film) stream ≡ started (first_state stream)
    by accept e g = opens film stream (has_header film (room_verdict film room list) e) ∙ opened film (room_verdict film room list) e stream
    by (refuse n k) e g = absurd (let z : ◌≡◌ {A = ℕ} 0 1 = cc in let y : ⊥ = omega arith in y)

-- ---- it is kept whole

-- bytes that are kept, all of them, with 00 in the last chunk
abbrev pub whole : List ℕ → Saved
whole b = record { bytes = b; losses = []; stop = behind_00; kept = length b; lost = 0; rest = 0 }

whole_by : (b b' : List ℕ) (k r : ℕ) → b ≡ b' → k ≡ length b' → r ≡ 0 → record { bytes = b; losses = []; stop = behind_00; kept = k; lost = 0; rest = r } ≡ whole b'
whole_by b b' k r eb ek er = rw (eb, ek, er)

module _ (out : List ℕ) where
  -- one chunk with 00 is left
  last_chunk : (m e : ℕ) (b : List ℕ) → following_at out e ≡ chunk_to (e + length b) (intact true) → part out e (e + length b) ≡ b → e + length b ≡ length out → save_from (suc m) out e ≡ whole b
  unfolding save_from go_on
  last_chunk m e b q p l = rw q (whole_by (part out e (e + length b) ++ []) b ((e + length b - e) + 0) (length out - (e + length b)) (append-nil _ ∙ p) (omega arith) (omega arith))

  -- one more, before what is kept whole
  more_chunk : (m e : ℕ) (b c : List ℕ) → following_at out e ≡ chunk_to (e + length b) (intact false) → part out e (e + length b) ≡ b → save_from m out (e + length b) ≡ whole c → save_from (suc m) out e ≡ whole (b ++ c)
  unfolding save_from go_on
  more_chunk m e b c q p h =
      rw (q, h) (whole_by (part out e (e + length b) ++ c) (b ++ c) ((e + length b - e) + length c) 0 (ap (λ (x : List ℕ). x ++ c) p) (omega (arith, length-append b c)) refl)

  -- a kept chunk of a film, behind pre
  module _ (film pre rest : List ℕ) (e x : ℕ) (k : Bool) (h : e ≤ length film) (q : following_at film e ≡ chunk_to x (intact k)) (eo : out ≡ pre ++ (part film e x ++ rest)) where
    is_there : There film e x (intact k)
    is_there = there film e x (intact k) h q

    long : length (part film e x) ≡ x - e
    long = part_length film e x is_there.inside

    chunk_again : following_at out (length pre) ≡ chunk_to (length pre + length (part film e x)) (intact k)
    chunk_again =
        moved_chunk film e x k out (length pre) h q (same_behind film out pre rest e x (omega (arith, is_there.ends)) is_there.inside eo)
        ∙ ap (λ (n : ℕ). chunk_to (length pre + n) (intact k)) (sym long)

    part_again : part out (length pre) (length pre + length (part film e x)) ≡ part film e x
    part_again = part_behind out pre (part film e x) rest (length pre) eo refl

  -- the end chunk, behind pre
  end_follows : following_at end 0 ≡ chunk_to 8 (intact true)
  unfolding following standing_at end_of_chunk chunk_standing chunk_at chunk_of cursor_into cursor_behind opcodes_from behind_opcode measured measured_opcode opcode_standing opcode_at opcode_of on taken_verdict hears is_sound shape_verdict heads.exactly is_exact word_at
  end_follows = refl

  end_again : (m : ℕ) (pre : List ℕ) → out ≡ pre ++ end → save_from (suc m) out (length pre) ≡ whole end
  end_again m pre eo =
      let eo' : out ≡ pre ++ (part end 0 8 ++ []) = eo in
      last_chunk m (length pre) end (chunk_again end pre [] 0 8 true (omega arith) end_follows eo') (part_again end pre [] 0 8 true (omega arith) end_follows eo')
      (sym (ap length eo ∙ length-append pre end))

-- what a walk leaves of a film
abbrev left : Saved → List ℕ
left s = s.bytes ++ closing s.stop

module _ (film out : List ℕ) where
  abbrev Again : List ℕ → Saved → Type 0
  Again pre s = out ≡ pre ++ left s → (m : ℕ) → length out - length pre < m → save_from m out (length pre) ≡ whole (left s)

  ends_again : (pre : List ℕ) → out ≡ pre ++ end → (m : ℕ) → length out - length pre < m → save_from m out (length pre) ≡ whole end
  ends_again pre q zero l = absurd (let z : ⊥ = omega arith in z)
  ends_again pre q (suc m) l = end_again out m pre q

  closes_again : (pre : List ℕ) (e x r : ℕ) → e ≤ length film → following_at film e ≡ chunk_to x (intact true) → Again pre (keeping film e x (no_more behind_00 r))
  unfolding closing
  closes_again pre e x r h f q zero l = absurd (let z : ⊥ = omega arith in z)
  closes_again pre e x r h f q (suc m) l =
      let b = part film e x in
      let n : (b ++ []) ++ [] ≡ b = append-nil (b ++ []) ∙ append-nil b in
      let eo : out ≡ pre ++ (b ++ []) = q ∙ ap (λ (y : List ℕ). pre ++ y) (append-nil (b ++ [])) in
      last_chunk out m (length pre) b (chunk_again out film pre [] e x true h f eo) (part_again out film pre [] e x true h f eo)
      (sym (ap length eo ∙ length-append pre (b ++ []) ∙ ap (λ (y : List ℕ). length pre + length y) (append-nil b)))
      ∙ ap whole (sym n)

  keeps_again : (pre : List ℕ) (e x : ℕ) (s : Saved) → e ≤ length film → following_at film e ≡ chunk_to x (intact false) → ((p : List ℕ) → Again p s) → Again pre (keeping film e x s)
  keeps_again pre e x s h f ih q zero l = absurd (let z : ⊥ = omega arith in z)
  keeps_again pre e x s h f ih q (suc m) l =
      let b = part film e x in
      let n : (b ++ s.bytes) ++ closing s.stop ≡ b ++ left s = append_assoc b s.bytes (closing s.stop) in
      let eo : out ≡ pre ++ (b ++ left s) = q ∙ ap (λ (y : List ℕ). pre ++ y) n in
      let q' : out ≡ (pre ++ b) ++ left s = eo ∙ sym (append_assoc pre b (left s)) in
      let lb : length (pre ++ b) ≡ length pre + length b = length-append pre b in
      let few : 4 ≤ length b = omega (arith, long out film pre (left s) e x false h f eo, (is_there out film pre (left s) e x false h f eo).ends) in
      let lo : length out ≡ length pre + (length b + length (left s)) = ap length eo ∙ length-append pre (b ++ left s) ∙ ap (λ (y : ℕ). length pre + y) (length-append b (left s)) in
      let r : save_from m out (length pre + length b) ≡ whole (left s) = ap (save_from m out) (sym lb) ∙ ih (pre ++ b) q' m (omega arith) in
      more_chunk out m (length pre) b (left s) (chunk_again out film pre (left s) e x false h f eo) (part_again out film pre (left s) e x false h f eo) r
      ∙ ap whole (sym n)

  goes_again : (n e : ℕ) (f : Following) (pre : List ℕ) → e ≤ length film → Ahead film e f → following_at film e ≡ f
      → ((x : ℕ) → x ≤ length film → (p : List ℕ) → Again p (save_from n film x)) → Again pre (go_on film e f (λ x. save_from n film x))
  unfolding go_on closing
  goes_again n e f pre h (at_film_end z) g ih = ends_again pre
  goes_again n e f pre h (is_past z w) g ih = ends_again pre
  goes_again n e f pre h (is_chunk x (intact true) t) g ih = closes_again pre e x (length film - x) h g
  goes_again n e f pre h (is_chunk x (intact false) t) g ih = keeps_again pre e x (save_from n film x) h g (ih x t.inside)
  goes_again n e f pre h (is_chunk x (scratched j) t) g ih = ih x t.inside pre

  again : (n e : ℕ) → e ≤ length film → (pre : List ℕ) → Again pre (save_from n film e)
  unfolding save_from closing
  again zero e h pre = ends_again pre
  again (suc n) e h pre = goes_again n e (following_at film e) pre h (ahead film e h) refl (λ x l p. again n x l p)

-- the new film's chunks are all kept, with nothing left out and nothing not walked
module _ (film : List ℕ) (h : 26 ≤ length film) where
  pub saved_again : saved (new_film film) ≡ whole ((saved film).bytes ++ closing (saved film).stop)
  saved_again =
      let l = header_long film [] h in
      ap (save_from (suc (length (new_film film))) (new_film film)) (sym l)
      ∙ again film (new_film film) (suc (length film)) 26 h (take 26 film) refl (suc (length (new_film film))) (omega arith)

  pub same_film : new_film (new_film film) ≡ new_film film
  unfolding closing
  same_film =
      let b = (saved film).bytes ++ closing (saved film).stop in
      let t : take 26 (new_film film) ≡ take 26 film = take_at (take 26 film) b 26 (header_long film [] h) in
      rw (saved_again, t, append-nil b)

-- of the call's answers: what it writes it writes again, whatever the list's length, where there is room
abbrev pub all_kept : ℕ → Tally
all_kept bytes = record { bytes = bytes; stop = behind_00; kept = bytes - 26; lost = 0; left_out = 0; rest = 0 }

headed_on : (o : Opening) (v v' : Verdict) → headed o v ≡ accept → headed o v' ≡ v'
unfolding headed
headed_on (started st) v v' e = refl
headed_on (refuses n k) v v' e = absurd (let z : ◌≡◌ {A = ℕ} 0 1 = cc in let y : ⊥ = omega arith in y)

module _ (film : List ℕ) (v : Verdict) (e : headed (opening_of film 16) v ≡ accept) (room list : ℕ) (enough : length (new_film film) ≤ room) where
  has : 26 ≤ length film
  has = has_header film v e

  roomy : room_verdict (new_film film) room list ≡ accept
  unfolding room_verdict numbers_of
  roomy =
      let l : length (new_film (new_film film)) ≤ room = rw (same_film film has) enough in
      let n : length (numbers_of (saved (new_film film)).losses) ≡ 0 = ap (λ (s : Saved). length (numbers_of s.losses)) (saved_again film has) in
      let k : length (numbers_of (saved (new_film film)).losses) ≤ list = omega arith in
      rw (le-ltb room (length (new_film (new_film film))) l, le-ltb list (length (numbers_of (saved (new_film film)).losses)) k)

  accepted : verdict_of (new_film film) room list ≡ accept
  accepted =
      ap (λ (o : Opening). headed o (room_verdict (new_film film) room list)) (opens film 16 has)
      ∙ headed_on (opening_of film 16) v (room_verdict (new_film film) room list) e ∙ roomy

  pub again_answer : answer_of (new_film film) room list ≡ writes (all_kept (length (new_film film)))
  unfolding answer_by
  again_answer =
      let b = (saved film).bytes ++ closing (saved film).stop in
      let n : length b ≡ length (new_film film) - 26 = omega (arith, length-append (take 26 film) b, header_long film [] has) in
      ap (λ (w : Verdict). answer_by w (new_film film)) accepted
      ∙ ap writes (ap₂ tally (ap length (same_film film has)) (saved_again film has))
      ∙ ap (λ (k : ℕ). writes (record { bytes = length (new_film film); stop = behind_00; kept = k; lost = 0; left_out = 0; rest = 0 })) n

pub again_told : (film : List ℕ) (room list : ℕ) (t : Tally) → answer_of film room list ≡ writes t
    → (room' list' : ℕ) → t.bytes ≤ room' → answer_of (new_film film) room' list' ≡ writes (all_kept t.bytes)
unfolding answer_by
again_told film room list t q room' list' h = by (verdict_of film room list) refl q
  where
    by : (v : Verdict) → verdict_of film room list ≡ v → answer_by v film ≡ writes t → answer_of (new_film film) room' list' ≡ writes (all_kept t.bytes)
    by accept e g =
        let z : tally (length (new_film film)) (saved film) ≡ t = cc in
        let n : length (new_film film) ≡ t.bytes = ap (λ (x : Tally). x.bytes) z in
        again_answer film (room_verdict film room list) e room' list' (omega arith) ∙ ap (λ (k : ℕ). writes (all_kept k)) n
    by (refuse m k) e g = absurd (let z : ◌≡◌ {A = ℕ} 0 1 = cc in let y : ⊥ = omega arith in y)
