-- Opcodes and chunks tested: what each answer says of the definitions, and the loop over the opcodes of a chunk.
-- Assumes nothing.
use mathlib.Core.Path.{◌≡◌, refl, sym, ap, ◌∙◌}
use mathlib.Core.Bool.{Bool, true, false, cond}
use mathlib.Core.List.{List}
use Prim.Native.Nat.{ℕ, suc, ◌+◌, ◌-◌, ◌≤◌, ◌<◌}
use native.Mathlib.Omega.{arith}
use borrow.Author.Tests.{eq-eqb, ne_eqb}
use lib.ListN.{length}
use Rattle.refusal.specs.Number.{accept, refuse}
use Rattle.parts.specs.Parts.{part}
use Rattle.palette.specs.Update.{Update, legal, verdict, verdict_for}
use Rattle.state.specs.declared.Cursor.{Cursor}
use Rattle.state.specs.Moves.{cursor, cursor_behind}
use Rattle.heads.specs.declared.Opcode.{Opcode}
use Rattle.next.specs.Next.{Standing, refused, ended, chunk, opcode, standing_at}
use Rattle.next.proofs.Standing.{standing_ready, standing_opens}
use Rattle.chunks.specs.Chunks.{end_of, is_exact, says_exact, measured_opcode, measured, test_at, intact, behind_opcode, opcodes_from, condition_of}

-- ---- 5 of 0C and 0D

by_tests : (e i l : Bool) → says_exact (cond e (cond i (cond l accept (refuse 7 0)) (refuse 7 0)) (refuse 5 0)) ≡ e
unfolding says_exact
by_tests true true true = refl
by_tests true true false = refl
by_tests true false l = refl
by_tests false i l = refl

pub exact_of : (u : Update) → says_exact (verdict_for u 768) ≡ u.exact
unfolding verdict_for verdict
exact_of u = by_tests u.exact u.inside (legal u.stores)

-- ---- one opcode

pub opcode_inside : (film : List ℕ) (c : Cursor) (o : Opcode) → opcode o ≡ standing_at true film c → c.chunk_end ≤ length film → end_of o ≤ length film
opcode_inside film c o e l = (standing_ready true film c o l (sym e)).inside

-- what passes the tests is the opcode that stands there
measured_opcode_lem : (film : List ℕ) (s : Standing) (o : Opcode) → measured film s ≡ opcode o → s ≡ opcode o
unfolding measured measured_opcode
measured_opcode_lem film (refused n k) o e = absurd (let z : ◌≡◌ {A = ℕ} 0 1 = cc in let y : ⊥ = omega arith in y)
measured_opcode_lem film ended o e = absurd (let z : ◌≡◌ {A = ℕ} 0 1 = cc in let y : ⊥ = omega arith in y)
measured_opcode_lem film (chunk c) o e = absurd (let z : ◌≡◌ {A = ℕ} 0 1 = cc in let y : ⊥ = omega arith in y)
measured_opcode_lem film (opcode x) o e = by (is_exact x.kind (part film x.start (end_of x))) e
  where
    by : (b : Bool) → cond b (opcode x) (refused 5 0) ≡ opcode o → opcode x ≡ opcode o
    by true h = h
    by false h = absurd (let z : ◌≡◌ {A = ℕ} 0 1 = cc in let y : ⊥ = omega arith in y)

pub tested_ends : (film : List ℕ) (c : Cursor) (o : Opcode) → c.chunk_end ≤ length film → test_at film c ≡ opcode o → (c.position + 4 ≤ end_of o) × (end_of o ≤ c.chunk_end)
tested_ends film c o l e =
    let r = standing_ready true film c o l (measured_opcode_lem film (standing_at true film c) o e) in
    (omega (arith, r.behind), r.within)

-- ---- the opcodes of a chunk

-- the opcodes from p to at pass, and none is 00
pub record Testing (film : List ℕ) (p e at : ℕ) : Type 0 where
  pub turns : ℕ
  pub enough : e - at < turns
  pub within : at ≤ e
  pub inside : e ≤ length film
  pub same : opcodes_from turns film (cursor at e) ≡ condition_of film (cursor p e)

pub testing_start : (film : List ℕ) (p e : ℕ) → p ≤ e → e ≤ length film → Testing film p e p
testing_start film p e l m = record { turns = suc (length film); enough = omega arith; within = l; inside = m; same = refl }

module _ (film : List ℕ) (p e at : ℕ) (t : Testing film p e at) where
  first : condition_of film (cursor p e) ≡ opcodes_from (suc (t.turns - 1)) film (cursor at e)
  first = let q : t.turns ≡ suc (t.turns - 1) = omega (arith, t.enough) in sym t.same ∙ ap (λ (n : ℕ). opcodes_from n film (cursor at e)) q

  pub testing_end : e ≤ at → intact false ≡ condition_of film (cursor p e)
  unfolding opcodes_from
  testing_end h = let q : at ≡ e = omega (arith, t.within) in sym (first ∙ rw (eq-eqb at e q))

  module _ (h : at < e) where
    pub testing_next : (y : Standing) → y ≡ test_at film (cursor at e) → condition_of film (cursor p e) ≡ behind_opcode y (λ o. opcodes_from (t.turns - 1) film (cursor (end_of o) e))
    unfolding opcodes_from cursor_behind
    testing_next y es =
        let q : at ≡ e → ⊥ = λ z. omega arith in
        first ∙ rw (ne_eqb at e q) (ap (λ (x : Standing). behind_opcode x (λ o. opcodes_from (t.turns - 1) film (cursor (end_of o) e))) (sym es))

    module _ (o : Opcode) (q : opcode o ≡ test_at film (cursor at e)) where
      pub testing_ends : (at + 4 ≤ end_of o) × (end_of o ≤ e)
      testing_ends = tested_ends film (cursor at e) o t.inside (sym q)

      pub testing_on : (o.kind ≡ 0 → ⊥) → Testing film p e (end_of o)
      unfolding behind_opcode
      testing_on k =
          record {
            turns = t.turns - 1;
            enough = omega (arith, testing_ends, t.enough);
            within = testing_ends.1;
            inside = t.inside;
            same = rw (testing_next (opcode o) q, ne_eqb _ _ k);
          }

-- ---- what stands at a chunk's end

pub ahead_asks : (film : List ℕ) (e : ℕ) (c : Cursor) → chunk c ≡ standing_at true film (cursor e e) → (c.position ≤ c.chunk_end) × (c.chunk_end ≤ length film)
ahead_asks film e c q = let o = (standing_opens true film (cursor e e) c (sym q)).1 in (o.ordered, o.inside)
