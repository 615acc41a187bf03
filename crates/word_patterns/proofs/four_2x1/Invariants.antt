use Rattle.pattern.specs.declared.Form.TheVariants.{Four2x1}
use Rattle.word_fields.specs.Layout.{layout}
use Rattle.word_patterns.proofs.Bands.{Banding}
use Rattle.motion.specs.Motion.{raster_index}
use Prim.Native.Nat.{◌*◌}
use Rattle.word_patterns.proofs.four_2x1.Given as goal

abbrev pub invariant-loop-r : goal.invariant-loop-r
invariant-loop-r g l = Banding g.P.Drawing.plan l.w 0 (layout Four2x1) l.initial.new l.new (raster_index l.w l.x l.y 0) l.at (8 * l.r) (8 * l.r)
