use Rattle.strip.proofs.Keeping.{keep_fits, keeps_one, keeps_none}
use Rattle.strip.proofs.keep_opcode.Goals as goal

pub keep_part-requires : goal.keep_part-requires
keep_part-requires c = (c.requires.0, c.requires.1, keep_fits _ _ _ _ _ c.is_kept.ensures c.if-is_kept.true c.requires.1 _ _ _ c.requires.2)

pub returns-then-is_kept : goal.returns-then-is_kept
returns-then-is_kept c = keeps_one _ _ _ _ _ c.is_kept.ensures c.if-is_kept.true c.requires.1 _ _ _ _ c.keep_part.ensures

pub returns-else-is_kept : goal.returns-else-is_kept
returns-else-is_kept c = keeps_none _ _ _ _ _ c.is_kept.ensures c.if-is_kept.false _ _ _
