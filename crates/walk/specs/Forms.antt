-- The two forms of the film step (document 02, W6): they differ only where opcode 11 stands there, all tests but 15 pass and the packet leaves exactly
-- one byte over, at the end of its last part. The default step then draws, the strict one is refused by 15 and changes nothing (`proofs/Forms`).
-- Assumes nothing.
use Rattle.std.specs.Prelude.{◌≡◌, List, ℕ, ◌+◌}
use Rattle.packet.specs.Packet.{packet_in}
use Rattle.packet.specs.Verdict.{default, strict}
use Rattle.packet.specs.Forms.{NothingOver, OneOver}
use Rattle.draw.specs.Call.{within}
use Rattle.state.specs.declared.State.{State}
use Rattle.state.specs.State.{some_part}
use Rattle.heads.specs.declared.Opcode.{Opcode}
use Rattle.next.specs.Next.{opcode}
use Rattle.opcodes.specs.Opcodes.{refused, quiet}
use Rattle.film.specs.Film.{Lent, stands_at, after, part, step_of}
use Rattle.walk.specs.Draws.{packet_of, Draws, Drew}

-- the packet that stands where the state is, with the pending map, leaves nothing over
abbrev pub NothingLeft : List ℕ → State → Lent → Type 0
NothingLeft film st l =
    (o : Opcode) (start long : ℕ) → stands_at film st l ≡ opcode o → o.kind ≡ 17
    → st.map ≡ some_part start long → NothingOver (packet_in st.deep st.columns st.rows (part film start (start + long)) (packet_of film o))

pub record Odd (film : List ℕ) (st : State) (l : Lent) : Type 0 where
  pub draws : Draws default film st l
  pub over : OneOver (packet_in st.deep st.columns st.rows (part film draws.start (draws.start + draws.long)) (packet_of film draws.found))

pub record Forms (film : List ℕ) (st : State) (stores : ℕ) (l : Lent) : Type 0 where
  pub same : (Odd film st l → ⊥) → step_of film st (within stores default) l ≡ step_of film st (within stores strict) l
  -- so the two agree on every packet with nothing left over, whatever number of stores is allowed: in the answer, in the state and in all that is lent
  pub nothing_over : NothingLeft film st l → step_of film st (within stores default) l ≡ step_of film st (within stores strict) l
  pub odd : Odd film st l → Drew (step_of film st (within stores default) l).step.answer × (step_of film st (within stores strict) l ≡ after (quiet (refused 15 0)) l)
  pub strict_draws : Drew (step_of film st (within stores strict) l).step.answer → step_of film st (within stores default) l ≡ step_of film st (within stores strict) l
