-- Demands 2 and 3 of calls in one form: `demand_2_default`, `demand_3_default`, and the same of the strict form.
-- Assumes nothing.
use Prim.Native.Nat.{ℕ}
use native.Mathlib.Omega.{arith}
use Rattle.packet.specs.Verdict.{default, strict}
use Rattle.stores.specs.Stores.{memory}
use Rattle.draw.specs.Forms.{in_form}
use Rattle.book.specs.Forms.{Demand2In, Demand3In}
use Rattle.book.proofs.Demand.{each_as, demand_3}
use Rattle.book.proofs.Picture.{demand_2}

two_in : (spare : ℕ) → Demand2In spare
two_in spare c first = demand_2 (in_form spare c) first

three_in : (spare : ℕ) → Demand3In spare
three_in spare c first g es all o w =
    let d = demand_3 (in_form spare c) first g es o w in
    record {
      demand = d;
      accepts = each_as _ _ _ (λ m e a q s. a s (omega (arith, q))) (memory first 0) es d.accepts all;
    }

pub demand_2_default : Demand2In default
demand_2_default = two_in default

pub demand_3_default : Demand3In default
demand_3_default = three_in default

pub demand_2_strict : Demand2In strict
demand_2_strict = two_in strict

pub demand_3_strict : Demand3In strict
demand_3_strict = three_in strict
