use mathlib.Core.Path.{ap}
use Rattle.begin.specs.Begin.{turn_as}
use Rattle.begin.proofs.Until.{short_stops, passes_kept, passes_start, passes_early, passes_judged, passes_stored, passes_again, passes_stops, passes_sized, turn_less, again_less}
use Rattle.begin.proofs.begin_from.Goals as goal

pub returns-then-palette-ne768 : goal.returns-then-palette-ne768
returns-then-palette-ne768 c = short_stops _ _ _ _ c.requires c.if-palette-ne768.true

pub loop-st-init : goal.loop-st-init
loop-st-init c = passes_start _ _ _ _ c.if-palette-ne768.false c.requires

pub foresee-requires : goal.foresee-requires
foresee-requires c = passes_early _ _ _ _ _ _ _ _ c.loop-st.invariant c.if-st-eq0.true

pub store-requires : goal.store-requires
store-requires c = (passes_early _ _ _ _ _ _ _ _ c.loop-st.invariant c.if-st-eq0.true, (passes_kept _ _ _ _ _ _ _ _ _ c.foresee.ensures.palette_unchanged c.loop-st.invariant).long)

pub loop-st-smaller-then-storing : goal.loop-st-smaller-then-storing
loop-st-smaller-then-storing c = turn_less _ _ _ _ _ _ _ _ c.loop-st.invariant c.if-st-eq0.true c.foresee.result c.foresee.ensures.result_value _ (ap turn_as c.in-Ok.is) _

pub loop-st-preserved-then-storing : goal.loop-st-preserved-then-storing
loop-st-preserved-then-storing c = passes_stored _ _ _ _ _ _ _ _ (passes_kept _ _ _ _ _ _ _ _ _ c.foresee.ensures.palette_unchanged c.loop-st.invariant) c.if-st-eq0.true c.foresee.result c.foresee.ensures.result_value _ (ap turn_as c.in-Ok.is) c.if-storing.true _ _ c.store.ensures.by_index c.store.ensures.by_index_2 c.store.auto.palette

pub loop-st-smaller-else-storing : goal.loop-st-smaller-else-storing
loop-st-smaller-else-storing c = turn_less _ _ _ _ _ _ _ _ c.loop-st.invariant c.if-st-eq0.true c.foresee.result c.foresee.ensures.result_value _ (ap turn_as c.in-Ok.is) _

pub loop-st-preserved-else-storing : goal.loop-st-preserved-else-storing
loop-st-preserved-else-storing c = passes_judged _ _ _ _ _ _ _ _ (passes_kept _ _ _ _ _ _ _ _ _ c.foresee.ensures.palette_unchanged c.loop-st.invariant) c.if-st-eq0.true c.foresee.result c.foresee.ensures.result_value _ (ap turn_as c.in-Ok.is) c.if-storing.false

pub returns-in-Err : goal.returns-in-Err
returns-in-Err c = passes_stops _ _ _ _ _ _ _ _ (passes_kept _ _ _ _ _ _ _ _ _ c.foresee.ensures.palette_unchanged c.loop-st.invariant) c.if-st-eq0.true c.foresee.result c.foresee.ensures.result_value _ _ (ap turn_as c.in-Err.is)

pub shape_of-palette-then-storing-2 : goal.shape_of-palette-then-storing-2
shape_of-palette-then-storing-2 c = c.loop-st.invariant.same

pub returns-then-storing-2 : goal.returns-then-storing-2
returns-then-storing-2 c = passes_sized _ _ _ _ _ _ _ _ c.loop-st.invariant c.if-st-eq0.false c.if-storing-2.true

pub loop-st-smaller : goal.loop-st-smaller
loop-st-smaller c = again_less _ _ _ _ c.if-storing-2.false

pub loop-st-preserved : goal.loop-st-preserved
loop-st-preserved c = passes_again _ _ _ _ _ _ _ _ c.loop-st.invariant c.if-st-eq0.false c.if-storing-2.false
