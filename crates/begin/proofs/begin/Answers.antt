use Rattle.begin.proofs.Until.{begin_early, begins, begins_not, is_nowhere}
use Rattle.begin.proofs.begin.Goals as goal

pub begin_from-requires : goal.begin_from-requires
begin_from-requires c = begin_early _ _ _ _ c.«open».ensures c.in-Ok.is

pub returns-in-Ok : goal.returns-in-Ok
returns-in-Ok c = begins _ _ _ _ _ c.«open».ensures _ c.in-Ok.is _ c.begin_from.ensures

pub returns-in-Err : goal.returns-in-Err
returns-in-Err c = begins_not _ _ _ _ _ c.«open».ensures _ c.in-Err.is _ (is_nowhere _ c.new.ensures)
