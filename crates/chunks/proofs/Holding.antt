-- `condition_holds`: what the condition of a chunk says of each of its opcodes. `passes_told`: a chunk whose opcodes all stand is intact.
-- Assumes nothing.
use mathlib.Core.Path.{◌≡◌, refl, sym, ap, ◌∙◌, subst}
use mathlib.Core.Bool.{Bool, true, false, cond}
use mathlib.Core.List.{List}
use Prim.Native.Nat.{ℕ, zero, suc, ◌+◌, ◌-◌, ◌*◌, ◌≤◌, ◌<◌}
use native.Mathlib.Omega.{arith}
use borrow.Author.Tests.{eq-eqb, ne_eqb, eqb-true, eqb-false}
use lib.Dec.{eqb, ltb}
use lib.ListN.{length, get_or}
use Rattle.words.specs.Word.{word_at}
use Rattle.refusal.specs.Number.{Verdict, accept, refuse}
use Rattle.parts.specs.Parts.{part}
use Rattle.state.specs.declared.Cursor.{Cursor}
use Rattle.state.specs.Moves.{cursor, cursor_behind}
use Rattle.heads.specs.declared.Opcode.{Opcode}
use Rattle.heads.specs.Heads as heads
use Rattle.heads.specs.Heads.{Head, opcode_at, taken_verdict}
use Rattle.next.specs.Next.{Standing, refused, opcode, on, standing_at, opcode_standing}
use Rattle.chunks.specs.Chunks.{end_of, is_exact, measured_opcode, measured, test_at, Condition, intact, scratched, behind_opcode, opcodes_from, condition_of}
use Rattle.chunks.specs.Holds.{Stands, Meets, at_head, at_shape, at_body, Passes, chunk_over, last_is_00, passes_on, Fails, fails_here, fails_later, Holds}
use Rattle.chunks.proofs.Heads.{head_ends}

-- ---- one opcode

-- what the tests find inside a chunk
data Seen (film : List ℕ) (c : Cursor) : Standing → Type 0 where
  stands : (o : Opcode) → Stands film c o → Seen film c (opcode o)
  meets : (n k : ℕ) → Meets film c n → Seen film c (refused n k)

module _ (film : List ℕ) (p e : ℕ) (n : p ≡ e → ⊥) where
  inside : test_at film (cursor p e) ≡ measured film (opcode_standing true (opcode_at film (cursor p e)))
  unfolding standing_at
  inside = ap (measured film) (rw (ne_eqb p e n))

  seen : Seen film (cursor p e) (test_at film (cursor p e))
  unfolding on measured measured_opcode opcode_standing
  seen = subst (Seen film (cursor p e)) (sym inside) (by (opcode_at film (cursor p e)) refl)
    where
      by_exact : (o : Opcode) → opcode_at film (cursor p e) ≡ heads.gives o → taken_verdict true o.kind o.version o.long ≡ accept
          → (b : Bool) → is_exact o.kind (part film o.start (end_of o)) ≡ b → Seen film (cursor p e) (cond b (opcode o) (refused 5 0))
      by_exact o h v true x = stands o (record { head = h; shape = v; exact = x })
      by_exact o h v false x = meets 5 0 (at_body o h v x)

      by_shape : (o : Opcode) → opcode_at film (cursor p e) ≡ heads.gives o → (v : Verdict) → taken_verdict true o.kind o.version o.long ≡ v → Seen film (cursor p e) (measured film (on v (opcode o)))
      by_shape o h accept v = by_exact o h v (is_exact o.kind (part film o.start (end_of o))) refl
      by_shape o h (refuse m k) v = meets m k (at_shape o h v)

      by : (h : Head Opcode) → opcode_at film (cursor p e) ≡ h → Seen film (cursor p e) (measured film (opcode_standing true h))
      by (heads.gives o) q = by_shape o q (taken_verdict true o.kind o.version o.long) refl
      by (heads.refused m k) q = meets m k (at_head q)

module _ (film : List ℕ) (p e : ℕ) (o : Opcode) (s : Stands film (cursor p e) o) where
  pub stands_ends : (p + 4 ≤ end_of o) × (end_of o ≤ e)
  stands_ends = head_ends film (cursor p e) o s.head

  pub stands_told : test_at film (cursor p e) ≡ opcode o
  unfolding opcode_standing on measured measured_opcode
  stands_told = let n : p ≡ e → ⊥ = λ z. omega (arith, stands_ends) in inside film p e n ∙ rw (s.head, s.shape, s.exact)

-- ---- the opcodes of a chunk

module _ (film : List ℕ) (e : ℕ) where
  -- what holds from the end of an opcode that stands holds from its head
  one_more : (p : ℕ) (o : Opcode) → Stands film (cursor p e) o → (o.kind ≡ 0 → ⊥) → (k : Condition) → Holds film (end_of o) e k → Holds film p e k
  unfolding Holds
  one_more p o s z (intact b) x = passes_on o s z x
  one_more p o s z (scratched m) x = fails_later o s z x

  module _ (n p : ℕ) (l : e - p < suc n) (ih : (x : ℕ) → x ≤ e → e - x < n → Holds film x e (opcodes_from n film (cursor x e))) where
    by_kind : (o : Opcode) → Stands film (cursor p e) o → (b : Bool) → eqb o.kind 0 ≡ b → Holds film p e (cond b (intact true) (opcodes_from n film (cursor (end_of o) e)))
    unfolding Holds
    by_kind o s true q = last_is_00 o s (eqb-true _ _ q)
    by_kind o s false q =
        let ends = stands_ends film p e o s in
        one_more p o s (eqb-false _ _ q) (opcodes_from n film (cursor (end_of o) e)) (ih (end_of o) ends.1 (omega arith))

    by_seen : (s : Standing) → (p ≡ e → ⊥) → Seen film (cursor p e) s → Holds film p e (behind_opcode s (λ o. opcodes_from n film (cursor (end_of o) e)))
    unfolding behind_opcode Holds
    by_seen s z (stands o x) = by_kind o x (eqb o.kind 0) refl
    by_seen s z (meets m k x) = fails_here z x

    by_test : (b : Bool) → eqb p e ≡ b → Holds film p e (cond b (intact false) (behind_opcode (test_at film (cursor p e)) (λ o. opcodes_from n film (cursor (end_of o) e))))
    unfolding Holds
    by_test true q = subst (λ (x : ℕ). Passes film p x false) (eqb-true _ _ q) chunk_over
    by_test false q = by_seen (test_at film (cursor p e)) (eqb-false _ _ q) (seen film p e (eqb-false _ _ q))

  holds : (n p : ℕ) → p ≤ e → e - p < n → Holds film p e (opcodes_from n film (cursor p e))
  unfolding opcodes_from cursor_behind
  holds zero p h l = absurd (let z : ⊥ = omega arith in z)
  holds (suc n) p h l = by_test n p l (λ x a b. holds n x a b) (eqb p e) refl

  pub condition_holds : (p : ℕ) → p ≤ e → e ≤ length film → Holds film p e (condition_of film (cursor p e))
  condition_holds p h l = holds (suc (length film)) p h (omega arith)

pub passes_told : {film : List ℕ} {p e : ℕ} {b : Bool} → Passes film p e b → (n : ℕ) → e - p < n → opcodes_from n film (cursor p e) ≡ intact b
unfolding opcodes_from cursor_behind behind_opcode
passes_told (chunk_over {e = e}) zero h = absurd (let z : ⊥ = omega arith in z)
passes_told (chunk_over {e = e}) (suc n) h = rw (eq-eqb e e refl)
passes_told (last_is_00 o s k) zero h = absurd (let z : ⊥ = omega arith in z)
passes_told {film} {p} {e} (last_is_00 o s k) (suc n) h =
    let z : p ≡ e → ⊥ = λ y. omega (arith, stands_ends film p e o s) in
    rw (ne_eqb p e z, stands_told film p e o s, eq-eqb o.kind 0 k)
passes_told (passes_on o s k r) zero h = absurd (let z : ⊥ = omega arith in z)
passes_told {film} {p} {e} (passes_on o s k r) (suc n) h =
    let z : p ≡ e → ⊥ = λ y. omega (arith, stands_ends film p e o s) in
    let ends = stands_ends film p e o s in
    rw (ne_eqb p e z, stands_told film p e o s, ne_eqb o.kind 0 k) (passes_told r n (omega arith))

-- ---- the refusal of a chunk is 3, 4 or 5

data Low : Verdict → Type 0 where
  accepts : Low accept
  refuses : {n k : ℕ} → 3 ≤ n → n ≤ 5 → Low (refuse n k)

low_by : (b : Bool) {x y : Verdict} → Low x → Low y → Low (cond b x y)
low_by true u v = u
low_by false u v = v

by_4 : Low (refuse 4 0)
by_4 = refuses {n = 4} {k = 0} (omega arith) (omega arith)

by_5 : Low (refuse 5 0)
by_5 = refuses {n = 5} {k = 0} (omega arith) (omega arith)

exactly_low : (most long version n : ℕ) → Low (heads.exactly most long version n)
unfolding heads.exactly
exactly_low most long version n = low_by (ltb most version) by_4 (low_by (eqb n long) accepts by_5)

version_low : (most long version n : ℕ) → Low (heads.by_version most long version n)
unfolding heads.by_version
version_low most long version n = low_by (ltb most version) by_4 (low_by (eqb n (long + 2 * version)) accepts by_5)

least_low : (long version n : ℕ) → Low (heads.at_least long version n)
unfolding heads.at_least
least_low long version n = low_by (ltb 0 version) by_4 (low_by (ltb n long) by_5 accepts)

taken_low : (kind version n : ℕ) → Low (taken_verdict true kind version n)
unfolding taken_verdict heads.sound_verdict heads.shape_verdict
taken_low kind version n =
    low_by (heads.hears true kind)
    (low_by (eqb kind 3) (version_low 1 8 version n) (low_by (eqb kind 8) (least_low 6 version n) (exactly_low 0 6 version n)))
    (low_by (ltb kind 2) (exactly_low 0 0 version n)
    (low_by (eqb kind 5) (version_low 2 4 version n)
    (low_by (eqb kind 7) (version_low 1 4 version n)
    (low_by (eqb kind 11) (exactly_low 0 6 version n)
    (low_by (eqb kind 12) (least_low 0 version n)
    (low_by (eqb kind 13) (least_low 0 version n)
    (low_by (eqb kind 15) (least_low 0 version n)
    (low_by (eqb kind 17) (least_low 14 version n) (low_by (heads.passed_over kind) accepts by_4)))))))))

data LowHead : Head Opcode → Type 0 where
  is_opcode : (o : Opcode) → LowHead (heads.gives o)
  is_3 : LowHead (heads.refused 3 0)

head_by : (b : Bool) {x y : Head Opcode} → LowHead x → LowHead y → LowHead (cond b x y)
head_by true u v = u
head_by false u v = v

head_low : (p e long kind version : ℕ) → LowHead (heads.opcode_of p e long kind version)
unfolding heads.opcode_of
head_low p e long kind version =
    let o = is_opcode (heads.opcode kind version (p + 4) long) in
    head_by (ltb e (p + 4)) is_3 (head_by (ltb e (p + 4 + long)) is_3 (head_by (ltb 1 kind) o (head_by (eqb (p + 4 + long) e) o is_3)))

head_at_low : (film : List ℕ) (c : Cursor) → LowHead (opcode_at film c)
unfolding opcode_at
head_at_low film c = head_low c.position c.chunk_end (word_at film c.position) (get_or film (c.position + 2) 0) (get_or film (c.position + 3) 0)

meets_number : (film : List ℕ) (c : Cursor) (n : ℕ) → Meets film c n → (3 ≤ n) × (n ≤ 5)
meets_number film c n (at_head {k = k} q) = by (opcode_at film c) (head_at_low film c) q
  where
    by : (h : Head Opcode) → LowHead h → h ≡ heads.refused n k → (3 ≤ n) × (n ≤ 5)
    by h (is_opcode o) r = absurd (let z : ◌≡◌ {A = ℕ} 0 1 = cc in let y : ⊥ = omega arith in y)
    by h is_3 r = let z : 3 ≡ n = cc in (omega arith, omega arith)
meets_number film c n (at_shape {k = k} o h q) = by (taken_verdict true o.kind o.version o.long) (taken_low o.kind o.version o.long) q
  where
    by : (v : Verdict) → Low v → v ≡ refuse n k → (3 ≤ n) × (n ≤ 5)
    by v accepts r = absurd (let z : ◌≡◌ {A = ℕ} 0 1 = cc in let y : ⊥ = omega arith in y)
    by v (refuses {n = m} a b) r = let z : m ≡ n = cc in (omega arith, omega arith)
meets_number film c n (at_body o h v q) = (omega arith, omega arith)

pub fails_number : {film : List ℕ} {p e n : ℕ} → Fails film p e n → (3 ≤ n) × (n ≤ 5)
fails_number {film} {p} {e} {n} (fails_here z m) = meets_number film (cursor p e) n m
fails_number (fails_later o s z r) = fails_number r
