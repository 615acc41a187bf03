-- What is known of a state and an opcode that are taken.
-- Assumes nothing.
use mathlib.Core.Path.{◌≡◌, refl, subst}
use mathlib.Core.Bool.{Bool, true, false, cond}
use mathlib.Core.List.{List}
use Prim.Native.Nat.{ℕ, ◌+◌, ◌≤◌}
use native.Mathlib.Omega.{arith}
use borrow.Author.Tests.{ltb-false, eqb-true}
use lib.Dec.{eqb, ltb}
use lib.ListN.{length, get_or}
use Rattle.words.specs.Word.{word_at}
use Rattle.words.proofs.Tests.{not_first, first}
use Rattle.refusal.specs.Number.{Verdict, accept, refuse}
use Rattle.sound.specs.Format.{chosen}
use Rattle.state.specs.declared.Cursor.{Cursor}
use Rattle.state.specs.declared.State.{State}
use Rattle.state.specs.Moves.{cursor_into}
use Rattle.state.specs.State.{state_verdict, bounds_verdict}
use Rattle.heads.specs.declared.Opcode.{Opcode}
use Rattle.heads.specs.Heads.{Head, opcode as head, chunk_of, chunk_at, opcode_of, opcode_at, at_least, shape_verdict, is_sound, hears as heard, taken_verdict}
use Rattle.heads.specs.Heads as heads
use Rattle.next.specs.Next.{Standing, refused, ended, chunk, opcode, on, chunk_standing, opcode_standing, end_of_chunk, standing_at, next_of, Possible, Ready}

refuses : (n k : ℕ) → refuse n k ≡ accept → ⊥
refuses n k e = let z : ◌≡◌ {A = ℕ} 0 1 = cc in omega arith

pub possible : (st : State) (film : ℕ) → state_verdict st film ≡ accept → Possible st film
unfolding state_verdict bounds_verdict
possible st film v =
    let a = not_first _ _ _ _ (refuses 16 0) v in
    let b = not_first _ _ _ _ (refuses 16 0) a.1 in
    let c = first _ _ _ _ (refuses 16 0) b.1 in
    record { ordered = ltb-false _ _ a.0; inside = ltb-false _ _ b.0; mapped = c.0 }

-- an answer that reads an opcode was not refused on the way
refused_opcode : (n k : ℕ) (o : Opcode) → refused n k ≡ opcode o → ⊥
refused_opcode n k o e = let z : ◌≡◌ {A = ℕ} 0 1 = cc in omega arith

on_opcode : (v : Verdict) (s : Standing) (o : Opcode) → on v s ≡ opcode o → (v ≡ accept) × (s ≡ opcode o)
unfolding on
on_opcode accept s o e = (refl, e)
on_opcode (refuse n k) s o e = absurd (refused_opcode n k o e)

no_head : {A : Type 0} (n k : ℕ) (x : A) → heads.refused n k ≡ heads.gives x → ⊥
no_head n k x e = let z : ◌≡◌ {A = ℕ} 0 1 = cc in omega arith

-- an opcode's head lies in its chunk
head_inside : (p e long k v : ℕ) (o : Opcode) → opcode_of p e long k v ≡ heads.gives o → (o.start ≡ p + 4) × (o.start + o.long ≤ e)
unfolding opcode_of
head_inside p e long k v o h =
    let a = not_first (ltb e (p + 4)) _ _ _ (no_head 3 0 o) h in
    let b = not_first (ltb e (p + 4 + long)) _ _ _ (no_head 3 0 o) a.1 in
    let l : p + 4 + long ≤ e = ltb-false _ _ b.0 in
    by (ltb 1 k) (eqb (p + 4 + long) e) l b.1
  where
    same : p + 4 + long ≤ e → head k v (p + 4) long ≡ o → (o.start ≡ p + 4) × (o.start + o.long ≤ e)
    same l z = subst (λ (x : Opcode). (x.start ≡ p + 4) × (x.start + x.long ≤ e)) z (refl, l)

    by : (t u : Bool) → p + 4 + long ≤ e
        → cond t (heads.gives (head k v (p + 4) long)) (cond u (heads.gives (head k v (p + 4) long)) (heads.refused 3 0)) ≡ heads.gives o
        → (o.start ≡ p + 4) × (o.start + o.long ≤ e)
    by true u l q = same l (cc)
    by false true l q = same l (cc)
    by false false l q = absurd (no_head 3 0 o q)

-- 11 is no sound
pub not_17 : (hears : Bool) → heard hears 17 ≡ false
unfolding heard is_sound
not_17 true = refl
not_17 false = refl

-- 11 has at least its 14 bytes
packet_long : (hears : Bool) (k v n : ℕ) → taken_verdict hears k v n ≡ accept → k ≡ 17 → 14 ≤ n
unfolding taken_verdict heard is_sound shape_verdict at_least
packet_long hears k v n h q =
    let g : at_least 14 v n ≡ accept = rw (not_17 hears) at (rw q at h) in
    let a = not_first (ltb 0 v) (refuse 4 0) (cond (ltb n 14) (refuse 5 0) accept) accept (refuses 4 0) g in
    let b = not_first (ltb n 14) (refuse 5 0) accept accept (refuses 5 0) a.1 in
    ltb-false _ _ b.0

opcode_ready : (hears : Bool) (film : List ℕ) (c : Cursor) (h : Head Opcode) (o : Opcode) → c.chunk_end ≤ length film → opcode_at film c ≡ h → opcode_standing hears h ≡ opcode o
    → Ready (length film) c o
unfolding opcode_standing opcode_at
opcode_ready hears film c (heads.refused n k) o l q h = absurd (refused_opcode n k o h)
opcode_ready hears film c (heads.gives x) o l q h =
    let s = on_opcode _ _ o h in
    let z : x ≡ o = let w = s.1 in cc in
    let i = head_inside c.position c.chunk_end (word_at film c.position) (get_or film (c.position + 2) 0) (get_or film (c.position + 3) 0) x q in
    subst (Ready (length film) c) z
    (record {
      behind = omega (arith, i.0);
      within = i.1;
      inside = omega (arith, i.1);
      packet = packet_long hears x.kind x.version x.long s.0;
    })

pub standing_ready : (hears : Bool) (film : List ℕ) (c : Cursor) (o : Opcode) → c.chunk_end ≤ length film → standing_at hears film c ≡ opcode o → Ready (length film) c o
unfolding standing_at end_of_chunk chunk_standing
standing_ready hears film c o l h = by (eqb c.position c.chunk_end) (eqb c.chunk_end (length film)) (chunk_at film c) h
  where
    none : (x : Head Cursor) → chunk_standing x ≡ opcode o → ⊥
    none (heads.gives d) q = let z : ◌≡◌ {A = ℕ} 0 1 = cc in omega arith
    none (heads.refused n k) q = refused_opcode n k o q

    by : (t u : Bool) (x : Head Cursor) → cond t (cond u ended (chunk_standing x)) (opcode_standing hears (opcode_at film c)) ≡ opcode o → Ready (length film) c o
    by true true x q = absurd (let z : ◌≡◌ {A = ℕ} 0 1 = cc in let y : ⊥ = omega arith in y)
    by true false x q = absurd (none x q)
    by false u x q = opcode_ready hears film c (opcode_at film c) o l refl q

pub found_ready : (film : List ℕ) (st : State) (palette shortest : ℕ) (o : Opcode) → next_of film st palette shortest ≡ opcode o → Possible st (length film) × Ready (length film) st.cursor o
unfolding next_of
found_ready film st palette shortest o h =
    let s = on_opcode _ _ o h in
    let t = on_opcode _ _ o s.1 in
    let p = possible st (length film) s.0 in
    (p, standing_ready (chosen st.sound.stream) film st.cursor o p.inside t.1)

-- a chunk's head lies in the film: the cursor in the chunk whose head stands at e
pub record Opens (film e : ℕ) (c : Cursor) : Type 0 where
  pub behind : c.position ≡ e + 4
  pub ordered : c.position ≤ c.chunk_end
  pub inside : c.chunk_end ≤ film

chunk_opens : (film : ℕ) (c : Cursor) (long : ℕ) (x : Cursor) → chunk_of film c long ≡ heads.gives x → Opens film c.chunk_end x
unfolding chunk_of cursor_into
chunk_opens film c long x h =
    let a = not_first (ltb film (c.chunk_end + 4)) _ _ _ (no_head 2 0 x) h in
    let b = not_first (ltb film (c.chunk_end + 4 + long)) _ _ _ (no_head 2 0 x) a.1 in
    let l : c.chunk_end + 4 + long ≤ film = ltb-false _ _ b.0 in
    let w = b.1 in
    let z : cursor_into c long ≡ x = cc in
    subst (Opens film c.chunk_end) z (record { behind = refl; ordered = omega arith; inside = l })

on_chunk : (v : Verdict) (s : Standing) (c : Cursor) → on v s ≡ chunk c → (v ≡ accept) × (s ≡ chunk c)
unfolding on
on_chunk accept s c e = (refl, e)
on_chunk (refuse n k) s c e = absurd (let z : ◌≡◌ {A = ℕ} 0 1 = cc in let y : ⊥ = omega arith in y)

pub standing_opens : (hears : Bool) (film : List ℕ) (c x : Cursor) → standing_at hears film c ≡ chunk x → (c.position ≡ c.chunk_end) × Opens (length film) c.chunk_end x
unfolding standing_at end_of_chunk chunk_standing opcode_standing chunk_at on
standing_opens hears film c x h = by (eqb c.position c.chunk_end) (eqb c.chunk_end (length film)) (chunk_at film c) (opcode_at film c) refl refl h
  where
    no : (n k : ℕ) → refused n k ≡ chunk x → ⊥
    no n k q = let z : ◌≡◌ {A = ℕ} 0 1 = cc in omega arith

    none : (o : Head Opcode) → opcode_standing hears o ≡ chunk x → ⊥
    none (heads.gives o) q = shaped (taken_verdict hears o.kind o.version o.long) q
      where
        shaped : (v : Verdict) → on v (opcode o) ≡ chunk x → ⊥
        shaped accept r = let z : ◌≡◌ {A = ℕ} 0 1 = cc in omega arith
        shaped (refuse n k) r = no n k r
    none (heads.refused n k) q = no n k q

    opens : (h : Head Cursor) → chunk_at film c ≡ h → chunk_standing h ≡ chunk x → Opens (length film) c.chunk_end x
    opens (heads.gives y) q r =
        let z : y ≡ x = cc in subst (Opens (length film) c.chunk_end) z (chunk_opens (length film) c (word_at film c.chunk_end) y q)
    opens (heads.refused n k) q r = absurd (no n k r)

    by : (t u : Bool) (h : Head Cursor) (o : Head Opcode) → eqb c.position c.chunk_end ≡ t → chunk_at film c ≡ h
        → cond t (cond u ended (chunk_standing h)) (opcode_standing hears o) ≡ chunk x → (c.position ≡ c.chunk_end) × Opens (length film) c.chunk_end x
    by true true h o t q r = absurd (let z : ◌≡◌ {A = ℕ} 0 1 = cc in let y : ⊥ = omega arith in y)
    by true false h o t q r = (eqb-true _ _ t, opens h q r)
    by false u h o t q r = absurd (none o r)

pub found_chunk : (film : List ℕ) (st : State) (palette shortest : ℕ) (c : Cursor) → next_of film st palette shortest ≡ chunk c
    → Possible st (length film) × (st.cursor.position ≡ st.cursor.chunk_end) × Opens (length film) st.cursor.chunk_end c
unfolding next_of
found_chunk film st palette shortest c h =
    let s = on_chunk _ _ c h in
    let t = on_chunk _ _ c s.1 in
    let o = standing_opens (chosen st.sound.stream) film st.cursor c t.1 in
    (possible st (length film) s.0, o.0, o.1)
