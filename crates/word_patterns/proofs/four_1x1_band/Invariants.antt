use Rattle.pattern.specs.declared.Form.TheVariants.{Four1x1}
use Rattle.word_fields.specs.Layout.{layout}
use Rattle.word_patterns.proofs.Bands.{Banding}
use Prim.Native.Nat.{◌+◌, ◌*◌}
use Rattle.word_patterns.proofs.four_1x1_band.Given as goal

abbrev pub invariant-loop-r : goal.invariant-loop-r
invariant-loop-r g l = Banding g.P.Drawing.plan l.w l.p (layout Four1x1) l.initial.new l.new l.to l.at (16 * l.r) (l.p + 8 * l.r)
