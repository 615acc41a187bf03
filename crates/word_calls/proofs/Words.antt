-- Every block of a packet with true colour is stored and touched, and every word that is stored has its high bit cleared: `every_block`.
-- Assumes nothing.
use mathlib.Core.Path.{◌≡◌, sym, ap}
use mathlib.Core.Bool.{true}
use mathlib.Core.List.{List}
use Prim.Native.Nat.{ℕ, zero, suc, ◌+◌, ◌-◌, ◌*◌, ◌≤◌, ◌<◌}
use native.Mathlib.Nat.{suc-mul}
use native.Mathlib.Omega.{arith}
use lib.ListN.{length}
use Rattle.block.specs.declared.Source.{Source}
use Rattle.block.specs.declared.Source.TheVariants.{Data, Copied}
use Rattle.block.specs.Block.{fetched}
use Rattle.paint.specs.Value.{pixel_value}
use Rattle.packet.specs.Packet.{first_part, second_part, packet_in, code, data_of, offsets_of}
use Rattle.packet.proofs.Walk.{code_below}
use Rattle.stores.specs.Stores.{Plan, due}
use Rattle.stores.proofs.Steps.{due_end, due_length}
use Rattle.draw.specs.declared.Allowed.{Allowed}
use Rattle.draw.specs.Drawing.{size_at, value_at}
use Rattle.draw.specs.Call.{word_request, call_plan}
use Rattle.paint.proofs.Counts.{count_deep}
use Rattle.word_packet.proofs.Walk.{touched_all}
use Rattle.word_calls.specs.Words.{EveryBlock}

-- ---- stores

-- of n blocks that store p pixels each
due_exact : (d : Plan) (p : ℕ) → ((k : ℕ) → k < d.blocks → d.size k ≡ p) → (n k : ℕ) → k + n ≡ d.blocks → length (due d k) ≡ n * (p + 1)
due_exact d p z zero k e = omega (arith, ap length (due_end d k (omega arith)))
due_exact d p z (suc n) k e =
    let h : k < d.blocks = omega arith in
    omega (arith, due_length d k h, due_exact d p z n (suc k) (omega arith), z k h, suc-mul n (p + 1))

-- the word of any source
low_word : (u : Source) (s last new oldest : List ℕ) → fetched true u s last new oldest < 32768
unfolding fetched
low_word (Data j) s last new oldest = omega arith
low_word (Copied p j) s last new oldest = omega arith

module _ (columns rows : ℕ) (map bytes last oldest : List ℕ) (n : Allowed) where
  size_64 : (k : ℕ) → size_at (packet_in true columns rows map bytes) k ≡ 64
  unfolding size_at
  size_64 k = let p = packet_in true columns rows map bytes in sym (count_deep (data_of p k) (offsets_of p k) (code p k) (code_below map k))

  stored_low : (k i : ℕ) (new : List ℕ) → (call_plan (word_request columns rows map bytes last oldest n)).value k i new < 32768
  unfolding value_at pixel_value
  stored_low k i new = low_word _ _ _ _ _

  pub every_block : 1 ≤ columns → 1 ≤ rows → EveryBlock (word_request columns rows map bytes last oldest n)
  every_block h l =
      record {
        stores = λ k q. due_exact (call_plan (word_request columns rows map bytes last oldest n)) 64 (λ j _. size_64 j) (columns * rows - k) k (omega arith);
        rows = sym (touched_all columns rows map (first_part bytes) (second_part bytes) h l);
        low = stored_low;
      }
