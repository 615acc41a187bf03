-- Demand 3 holds of a list of calls that is written out: `applied`. Everything is computed but `demand` and `book_says`, which follow.
-- Assumes nothing.
use mathlib.Core.Path.{◌≡◌, refl, sym, ◌∙◌}
use mathlib.Core.List.{[], ◌∷◌}
use Prim.Native.Nat.{ℕ}
use native.Mathlib.Omega.{arith}
use Rattle.refusal.specs.Number.{accept, refuse}
use Rattle.motion.specs.Motion.{ahead_vector, points_inside, raster_index, copied_index}
use Rattle.block.specs.Block.{code_at, kinds, kind_of, data_length, offset_length, is_refused, copy_inside, cell_source, source, fetched}
use Rattle.packet.specs.Packet.{advanced, start_of}
use Rattle.packet.specs.Rows.{first_from, past_touched, rows_from, touched}
use Rattle.packet.specs.Verdict.{and_then, block_verdict, end_verdict, verdict_from, blocks_verdict, map_fits, legal, legal_size}
use Rattle.stores.specs.Stores.{Memory, memory, pixels, stores, following, apply, run, first_pixels, after, count, stage, final}
use Rattle.stores.specs.Calls.{answered, leave, outcome, leave_cut, returns, cut, call_of, reply, happens, says, CutWithin, finally, outcomes, Each}
use Rattle.paint.specs.Value.{pixel_count, pixel_value}
use Rattle.draw.specs.Drawing.{size_at, target_at, value_at}
use Rattle.draw.specs.Call.{call_plan, call_verdict_in, draw_verdict, comes, calling}
use Rattle.book.specs.Demand.{Same, OnlyRefusedDiffer, CutsWithin, Given}
use Rattle.book.proofs.Demand.{demand_3}
use Rattle.book.proofs.Picture.{demand_2}
use Rattle.worked.specs.Cases.{example, two_halves}
use Rattle.worked.specs.Demand.{fives, found, all, stray, calls, answers, row_of, after_ten, after_thirty, Applied}

-- ---- computed

-- the memory that the stray call finds, and that which the cut call finds
abbrev second : Memory
second = happens calling found (returns (example 75))

abbrev third : Memory
third = happens calling second (returns stray)

record Computed : Type 0 where
  accepted : draw_verdict (example all) found ≡ accept
  refused : draw_verdict stray second ≡ refuse 12 1
  would_make : (reply calling third (example all)).count ≡ 65
  picture : final (call_plan (example all)) fives ≡ two_halves 8
  says : outcomes calling found calls ≡ answers
  stopped : finally calling found (returns (example 75) ∷ []) ≡ memory after_ten 1
  cut_off : finally calling found (returns (example 75) ∷ returns stray ∷ cut (example all) 30 ∷ []) ≡ memory after_thirty 1
  leaves : finally calling found calls ≡ memory (two_halves 8) 2

computed : Computed
unfolding ahead_vector points_inside raster_index copied_index code_at kinds kind_of data_length offset_length is_refused copy_inside cell_source source fetched advanced start_of first_from past_touched rows_from touched and_then block_verdict end_verdict verdict_from blocks_verdict map_fits legal legal_size pixels stores following apply run first_pixels after count stage answered leave outcome leave_cut happens says finally outcomes pixel_count pixel_value size_at target_at value_at call_verdict_in comes example two_halves fives stray calls answers row_of after_ten after_thirty
computed =
    record {
      accepted = refl;
      refused = refl;
      would_make = refl;
      picture = refl;
      says = refl;
      stopped = refl;
      cut_off = refl;
      leaves = refl;
    }

-- ---- the hypotheses

same : (n : ℕ) → Same (example n) (example all)
unfolding example
same n = record { deep = refl; columns = refl; rows = refl; map = refl; bytes = refl; front = refl; oldest = refl }

never : draw_verdict stray second ≡ accept → Same stray (example all)
never e = let q = sym computed.refused ∙ e in let z : ◌≡◌ {A = ℕ} 0 1 = cc in absurd (let y : ⊥ = omega arith in y)

only_refused : OnlyRefusedDiffer (example all) found calls
unfolding OnlyRefusedDiffer Each call_of calls
only_refused = (λ e. same 75, (never, (λ e. same all, (λ e. same all, tt))))

cuts : CutsWithin found calls
unfolding Each CutWithin calls
cuts = (tt, (tt, (omega (arith, computed.would_make), (tt, tt))))

given : Given (example all) fives
given = (demand_2 (example all) fives).taken.0 computed.accepted

-- ---- the theorem

pub applied : Applied
applied =
    let d = demand_3 (example all) fives given calls only_refused cuts in
    record {
      given = given;
      only_refused = only_refused;
      cuts = cuts;
      demand = d;
      picture = computed.picture;
      says = computed.says;
      book_says = sym d.booked.answers ∙ computed.says;
      stopped = computed.stopped;
      cut_off = computed.cut_off;
      leaves = computed.leaves;
    }
