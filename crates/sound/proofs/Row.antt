-- A row of packets is one long packet: what is carried from one to the next is enough.
-- Assumes nothing.
use mathlib.Core.Path.{◌≡◌, refl, sym, ap, subst, ◌∙◌}
use mathlib.Core.Bool.{Bool, true, false, cond}
use mathlib.Core.List.{List, [], ◌∷◌, ◌++◌, append-nil}
use Prim.Native.Nat.{ℕ, ◌+◌, ◌*◌, ◌%◌, ◌≤◌}
use native.Mathlib.Omega.{arith}
use borrow.Author.Tests.{le-ltb, le-leb, eq-eqb, eqb-true, ltb-false}
use lib.ListN.{length, length-append}
use Rattle.words.proofs.Tests.{first, not_first}
use Rattle.dpcm.specs.Samples.{bytes_of}
use Rattle.dpcm.specs.Packet.{channels, packet_samples}
use Rattle.dpcm.proofs.Samples.{bytes_append}
use Rattle.dpcm.proofs.Packet.{packet_samples_then, packet_last_then}
use Rattle.sound.specs.Format.{carried, going_on}
use Rattle.sound.specs.Step.{taken, refused, even, sample_bytes, exact, output, sound_after, within, data_step}
use Rattle.sound.specs.Row.{Packet, Row, none, one, joined}
use Rattle.sound.specs.declared.Sound.{Sound}
use Rattle.sound.proofs.Packets.{Exact, later, start, plain, exact_data, output_length}

-- ---- a packet is taken, both ways

pub refused_taken : (n k : ℕ) (s : Sound) (bytes : List ℕ) → refused n k ≡ taken s bytes → ⊥
refused_taken n k s bytes e = let z : ◌≡◌ {A = ℕ} 0 1 = cc in omega arith

taken_is : (s t : Sound) (a b : List ℕ) → s ≡ t → a ≡ b → taken s a ≡ taken t b
taken_is s t a b e f = rw (e, f)

pub same_taken : (s t : Sound) (a b : List ℕ) → taken s a ≡ taken t b → (s ≡ t) × (a ≡ b)
same_taken s t a b e = (cc, cc)

pub record Took (s : Sound) (stereo wide compressed : Bool) (count : ℕ) (bytes : List ℕ) (room : ℕ) (then : Sound) (out : List ℕ) : Type 0 where
  pub whole : even stereo count ≡ true
  pub right : Exact stereo wide count (length bytes) compressed s.begun
  pub sound : sound_after s stereo compressed bytes ≡ then
  pub written : output s stereo compressed bytes ≡ out
  pub fits : count * sample_bytes wide compressed ≤ room

pub took : (s : Sound) (stereo wide compressed : Bool) (count : ℕ) (bytes : List ℕ) (room : ℕ) (then : Sound) (out : List ℕ)
    → data_step s stereo wide compressed count bytes room ≡ taken then out → Took s stereo wide compressed count bytes room then out
unfolding data_step within
took s stereo wide compressed count bytes room then out e =
    let a = first (even stereo count) (refused 18 0) _ _ (refused_taken 18 0 then out) e in
    let b = first (exact stereo wide compressed s.begun count (length bytes)) (refused 18 0) _ _ (refused_taken 18 0 then out) a.1 in
    let c = not_first _ _ _ _ (refused_taken 19 0 then out) b.1 in
    let d = same_taken (sound_after s stereo compressed bytes) then (output s stereo compressed bytes) out c.1 in
    record {
      whole = a.0;
      right = exact_data stereo wide compressed s.begun count (length bytes) b.0;
      sound = d.0;
      written = d.1;
      fits = ltb-false room _ c.0;
    }

exact_is : (stereo wide compressed begun : Bool) (count bytes : ℕ) → Exact stereo wide count bytes compressed begun → exact stereo wide compressed begun count bytes ≡ true
unfolding exact
exact_is stereo wide true true count bytes (later e) = eq-eqb bytes count e
exact_is stereo wide true false count bytes (start g e) = rw (le-leb (channels stereo) count g) (eq-eqb bytes _ e)
exact_is stereo wide false begun count bytes (plain e) = eq-eqb bytes _ e

pub takes : (s : Sound) (stereo wide compressed : Bool) (count : ℕ) (bytes : List ℕ) (room : ℕ) → even stereo count ≡ true → Exact stereo wide count (length bytes) compressed s.begun
    → count * sample_bytes wide compressed ≤ room
    → data_step s stereo wide compressed count bytes room ≡ taken (sound_after s stereo compressed bytes) (output s stereo compressed bytes)
unfolding data_step within
takes s stereo wide compressed count bytes room e x h =
    rw (e, exact_is stereo wide compressed s.begun count (length bytes) x, le-ltb room (count * sample_bytes wide compressed) h)

-- ---- two packets

even_add : (stereo : Bool) (m n : ℕ) → even stereo m ≡ true → even stereo n ≡ true → even stereo (m + n) ≡ true
unfolding even
even_add true m n a b = let p = eqb-true (m % 2) 0 a in let q = eqb-true (n % 2) 0 b in eq-eqb ((m + n) % 2) 0 (omega (arith, p, q))
even_add false m n a b = refl

exact_add : (stereo wide compressed begun : Bool) (m n a b : ℕ) → Exact stereo wide m a compressed begun → Exact stereo wide n b compressed (cond compressed true begun)
    → Exact stereo wide (m + n) (a + b) compressed begun
exact_add stereo wide true true m n a b (later e) (later f) = later (omega arith)
exact_add stereo wide true false m n a b (start g e) (later f) = start (omega arith) (omega arith)
exact_add stereo wide false begun m n a b (plain e) (plain f) = plain (omega arith)

start_there : (stereo wide begun : Bool) (count bytes : ℕ) → Exact stereo wide count bytes true begun → cond begun 0 (2 * channels stereo) ≤ bytes
start_there stereo wide true count bytes (later e) = omega arith
start_there stereo wide false count bytes (start g e) = omega arith

module _ (s : Sound) (stereo wide : Bool) (count : ℕ) (a b : List ℕ) where
  pub sound_then : (compressed : Bool) → Exact stereo wide count (length a) compressed s.begun
      → sound_after s stereo compressed (a ++ b) ≡ sound_after (sound_after s stereo compressed a) stereo compressed b
  unfolding sound_after going_on
  sound_then true x = rw (packet_last_then stereo s.begun (carried s) a b (start_there stereo wide s.begun count (length a) x)) refl
  sound_then false x = refl

  pub output_then : (compressed : Bool) → Exact stereo wide count (length a) compressed s.begun
      → output s stereo compressed (a ++ b) ≡ output s stereo compressed a ++ output (sound_after s stereo compressed a) stereo compressed b
  unfolding output sound_after going_on
  output_then true x =
      ap bytes_of (packet_samples_then stereo s.begun (carried s) a b (start_there stereo wide s.begun count (length a) x))
      ∙ bytes_append (packet_samples stereo s.begun (carried s) a) _
  output_then false x = refl

begun_then : (s : Sound) (stereo compressed : Bool) (bytes : List ℕ) → (sound_after s stereo compressed bytes).begun ≡ cond compressed true s.begun
unfolding sound_after going_on
begun_then s stereo true bytes = refl
begun_then s stereo false bytes = refl

module _ (stereo wide compressed : Bool) where
  two_as_one : (s : Sound) (p q : Packet) (room room' : ℕ) (then t : Sound) (out rest : List ℕ)
      → data_step s stereo wide compressed p.count p.bytes room ≡ taken then out → data_step then stereo wide compressed q.count q.bytes room' ≡ taken t rest
      → (n : ℕ) → length (out ++ rest) ≤ n → data_step s stereo wide compressed (p.count + q.count) (p.bytes ++ q.bytes) n ≡ taken t (out ++ rest)
  two_as_one s p q room room' then t out rest e f n h =
      let a = took _ _ _ _ _ _ _ _ _ e in
      let b = took _ _ _ _ _ _ _ _ _ f in
      let k : then.begun ≡ cond compressed true s.begun = ap (λ (x : Sound). x.begun) (sym a.sound) ∙ begun_then s stereo compressed p.bytes in
      let y : Exact stereo wide q.count (length q.bytes) compressed (cond compressed true s.begun) = subst (λ (x : Bool). Exact stereo wide q.count (length q.bytes) compressed x) k b.right in
      let x : Exact stereo wide (p.count + q.count) (length (p.bytes ++ q.bytes)) compressed s.begun =
      rw (length-append p.bytes q.bytes) (exact_add stereo wide compressed s.begun _ _ _ _ a.right y) in
      let so : sound_after s stereo compressed (p.bytes ++ q.bytes) ≡ t =
      sound_then s stereo wide p.count p.bytes q.bytes compressed a.right ∙ ap (λ (z : Sound). sound_after z stereo compressed q.bytes) a.sound ∙ b.sound in
      let ou : output s stereo compressed (p.bytes ++ q.bytes) ≡ out ++ rest =
      output_then s stereo wide p.count p.bytes q.bytes compressed a.right
      ∙ ap (λ (z : Sound). output s stereo compressed p.bytes ++ output z stereo compressed q.bytes) a.sound
      ∙ ap (λ (l : List ℕ). l ++ output then stereo compressed q.bytes) a.written ∙ ap (λ (l : List ℕ). out ++ l) b.written in
      let fits : (p.count + q.count) * sample_bytes wide compressed ≤ n =
      omega (arith, h, ap length ou, output_length s stereo wide compressed (p.count + q.count) (p.bytes ++ q.bytes) x) in
      takes s stereo wide compressed (p.count + q.count) (p.bytes ++ q.bytes) n (even_add stereo _ _ a.whole b.whole) x fits ∙ taken_is _ _ _ _ so ou

  -- the same bytes go out, and the same sound is left
  pub row_as_one : (p : Packet) (more : List Packet) (s t : Sound) (out : List ℕ) → Row stereo wide compressed s (p ∷ more) t out → (room : ℕ) → length out ≤ room
      → data_step s stereo wide compressed (joined p more).count (joined p more).bytes room ≡ taken t out
  unfolding joined
  row_as_one p [] s t out (one {out = o} r e none) room h =
      let a = took _ _ _ _ _ _ _ _ _ e in
      let n : length o ≤ room = rw (append-nil o) at h in
      let fits : p.count * sample_bytes wide compressed ≤ room = omega (arith, n, ap length a.written, output_length s stereo wide compressed p.count p.bytes a.right) in
      takes s stereo wide compressed p.count p.bytes room a.whole a.right fits ∙ taken_is _ _ _ _ a.sound (a.written ∙ sym (append-nil o))
  row_as_one p (q ∷ more) s t out (one {then = u} {out = o} {rest = l} r e row) room h =
      two_as_one s p (joined q more) r (length l) u t o l e (row_as_one q more u t l row (length l) (omega arith)) room h
