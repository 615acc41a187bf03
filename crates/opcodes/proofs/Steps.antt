-- The step of each opcode by what code found.
-- Assumes nothing.
use mathlib.Core.Path.{◌≡◌, ap}
use mathlib.Core.Bool.{false}
use mathlib.Core.List.{List}
use Prim.Native.Nat.{ℕ}
use borrow.Author.Tests.{eq-eqb, ne_eqb}
use Rattle.words.specs.Word.{word_at}
use Rattle.std.specs.Prelude.{Result, Ok, Err, Option}
use Rattle.refusal.specs.declared.Refusal.{Refusal}
use Rattle.refusal.specs.Number.{number, block}
use Rattle.packet.specs.declared.Rows.{Rows}
use Rattle.packet.specs.Verdict.{legal_size}
use Rattle.draw.specs.declared.Drawn.{Drawn}
use Rattle.draw.specs.declared.Drawn.TheVariants.{Whole}
use Rattle.draw.specs.Call.{said}
use Rattle.state.specs.declared.State.{State}
use Rattle.state.specs.Moves.{behind, at_end, sent, finished}
use Rattle.opcodes.specs.Opcodes.{Step, taken, whole, refused, drew, quiet, size_answer, colour_of, quiet_answer, drawn_as, drawn_step}

-- ---- 05

module _ (st : State) (p columns rows colour : ℕ) where
  pub second_size : (st.columns ≡ 0 → ⊥) → quiet (refused 6 0) ≡ quiet (size_answer st p columns rows colour)
  unfolding size_answer
  second_size n = rw (ne_eqb _ _ n)

  pub bad_size : st.columns ≡ 0 → legal_size columns rows ≡ false → quiet (refused 6 0) ≡ quiet (size_answer st p columns rows colour)
  unfolding size_answer
  bad_size e q = rw (eq-eqb _ _ e, q)

pub no_colour : (body : List ℕ) (version : ℕ) → (version ≡ 2 → ⊥) → 0 ≡ colour_of body version
unfolding colour_of
no_colour body version n = rw (ne_eqb _ _ n)

-- ---- 11

module _ (st : State) (p : ℕ) (d : Result Drawn Refusal) where
  pub step_whole : (n : ℕ) (t : Option Rows) (x : State) → d ≡ Ok (Whole n t) → x ≡ finished st p → drew (whole x) n t ≡ drawn_step st p (said d)
  unfolding drawn_as
  step_whole n t x e f = rw (e, f)

  pub step_refused : (r : Refusal) → d ≡ Err r → quiet (refused (number r) (block r)) ≡ drawn_step st p (said d)
  unfolding drawn_as
  step_refused r e = rw e

-- ---- the opcodes that change nothing lent

module _ (film : ℕ) (st : State) (kind version : ℕ) (body : List ℕ) (p : ℕ) where
  pub ends_film : (x : State) → kind ≡ 0 → x ≡ at_end st film → quiet (taken x) ≡ quiet (quiet_answer film st kind version body p)
  unfolding quiet_answer
  ends_film x e f = rw e (ap (λ (s : State). quiet (taken s)) f)

  pub gives_size : (columns rows c : ℕ) (r : Step) → kind ≡ 5 → columns ≡ word_at body 0 → rows ≡ word_at body 2 → c ≡ colour_of body version → r ≡ quiet (size_answer st p columns rows c)
      → r ≡ quiet (quiet_answer film st kind version body p)
  unfolding quiet_answer
  gives_size columns rows c r e a b d f = rw (e, ← a, ← b, ← d) f

  pub sends : (x : State) → kind ≡ 7 → x ≡ sent st p → quiet (taken x) ≡ quiet (quiet_answer film st kind version body p)
  unfolding quiet_answer
  sends x e f = rw e (ap (λ (s : State). quiet (taken s)) f)

  pub passes : (x : State) → (kind ≡ 0 → ⊥) → (kind ≡ 5 → ⊥) → (kind ≡ 7 → ⊥) → x ≡ behind st p → quiet (taken x) ≡ quiet (quiet_answer film st kind version body p)
  unfolding quiet_answer
  passes x a b c f = rw (ne_eqb _ _ a, ne_eqb _ _ b, ne_eqb _ _ c) (ap (λ (s : State). quiet (taken s)) f)
