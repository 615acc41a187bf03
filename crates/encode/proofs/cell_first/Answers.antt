use native.Mathlib.Omega.{arith}
use Rattle.encode.proofs.Parts.{first_1, first_2, first_4, first_8}
use Rattle.encode.proofs.cell_first.Goals as goal

pub returns-in-0 : goal.returns-in-0
returns-in-0 c = first_1 _ _ _ c.requires.0 c.requires.1 c.in-0.is

pub returns-in-1 : goal.returns-in-1
returns-in-1 c = first_2 _ _ _ c.requires.0 c.requires.1 c.in-1.is

pub returns-in-2 : goal.returns-in-2
returns-in-2 c = first_4 _ _ _ c.requires.0 c.requires.1 c.in-2.is

pub returns-in_default : goal.returns-in_default
returns-in_default c = first_8 _ _ _ c.requires.0 c.requires.1 (omega arith)
