use mathlib.Core.Path.{◌∙◌}
use native.Mathlib.Nat.{zero-mod}
use native.Mathlib.Omega.{arith}
use Rattle.rows.proofs.Rows.{rows_start, rows_begun, rows_by, rows_end, rows_length, rows_below, rows_low, square_kept}
use Rattle.rows.proofs.Colours.{band_of, band_room}
use Rattle.rows.proofs.whole_cells.Goals as goal

pub loop-p-init : goal.loop-p-init
loop-p-init g c = (zero-mod _, c.raster_index-to.ensures, rows_start _ _)

pub cells_band-requires : goal.cells_band-requires
cells_band-requires g c = (c.requires.there, record { x = c.args.x; y = c.args.y; block = c.requires.block; band = band_of c.requires.sided c.requires.wide c.loop-p.invariant.0 c.loop-p-test.true; room = square_kept c.requires.room (rows_length c.loop-p.invariant.2 ∙ g.met.T.Pixel.laws.long _); begun = rows_begun c.loop-p.invariant.2; place = c.loop-p.invariant.1 })

pub overflow_add-to : goal.overflow_add-to
overflow_add-to g c = let z = band_room (band_of c.requires.sided c.requires.wide c.loop-p.invariant.0 c.loop-p-test.true) in omega (arith, rows_low _ _ _ _ _ c.loop-p.invariant.1 c.args.side c.requires.room c.loop-p-test.true (omega (arith, z.room)))

pub loop-p-preserved : goal.loop-p-preserved
loop-p-preserved g c = let z = band_room (band_of c.requires.sided c.requires.wide c.loop-p.invariant.0 c.loop-p-test.true) in (z.next, rows_below _ _ _ _ _ c.loop-p.invariant.1 _, rows_by c.loop-p.invariant.2 _ (omega arith) z.room c.cells_band.ensures)

pub returns : goal.returns
returns g c = rows_end c.loop-p.invariant.2 c.loop-p-test.false
