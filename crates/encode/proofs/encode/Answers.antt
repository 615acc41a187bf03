use mathlib.Core.Path.{ap, sym}
use Prim.Native.Nat.{ℕ, ◌+◌, ◌*◌}
use native.Mathlib.Omega.{arith}
use Rattle.packet.proofs.Sizes.{pixels_few}
use Rattle.encode.specs.Encode.{task, encode_verdict, outcome}
use Rattle.encode.proofs.Answers.{body_length, size_few, lent, part_room, body_written, makes}
use Rattle.encode.proofs.Blocks.{map_length}
use Rattle.std.proofs.lemmas.Grind.{common_steps}
use Rattle.encode.proofs.encode.Goals as goal
use Rattle.encode.proofs.encode.Goals.{then-map-half-via-then-map-half, then-map-half-via-else-map-half+then-body-long}

pub overflow_mul-pixels : goal.overflow_mul-pixels
overflow_mul-pixels c = omega (arith, size_few _ _ c.if-not-is_legal_size.ensures)

pub overflow_mul-pixels-2 : goal.overflow_mul-pixels-2
overflow_mul-pixels-2 c = omega (arith, size_few _ _ c.if-not-is_legal_size.ensures)

pub overflow_mul-pixels-3 : goal.overflow_mul-pixels-3
overflow_mul-pixels-3 c = omega (arith, pixels_few _ _ (sym c.if-not-is_legal_size.ensures))

pub measure-long-requires : goal.measure-long-requires
measure-long-requires c = (lent (task c.args.columns c.args.wanted.now c.args.front.now c.args.back.now) c.args.rows c.if-not-is_legal_size.ensures c.if-wanted-pixels.false c.if-front-pixels.false c.if-back-pixels.false)

pub put_frame-requires : goal.put_frame-requires
put_frame-requires c = ((lent (task c.args.columns c.args.wanted.now c.args.front.now c.args.back.now) c.args.rows c.if-not-is_legal_size.ensures c.if-wanted-pixels.false c.if-front-pixels.false c.if-back-pixels.false), c.if-map-half.false, part_room c.args.body.now _ c.put_same.ensures _ _ (ap (λ (x : ℕ). 14 + x) c.measure-long.ensures.0) c.if-body-long.false)

pub returns : goal.returns
returns c = makes (task c.args.columns c.args.wanted.now c.args.front.now c.args.back.now) c.args.rows c.args.map.now c.args.body.now (lent (task c.args.columns c.args.wanted.now c.args.front.now c.args.back.now) c.args.rows c.if-not-is_legal_size.ensures c.if-wanted-pixels.false c.if-front-pixels.false c.if-back-pixels.false) _ c.measure-long.ensures.0 c.if-long-gt65531.false c.if-map-half.false c.if-body-long.false _ _ c.put_frame.ensures.0 (body_written (task c.args.columns c.args.wanted.now c.args.front.now c.args.back.now) (c.args.columns * c.args.rows) c.args.body.now _ _ c.put_same.ensures c.put_frame.ensures.1)

pub returns-then-map-half : goal.returns-then-map-half
unfolding encode_verdict outcome
returns-then-map-half c =
    elim c.then-map-half.branch [
      | then-map-half-via-then-map-half w ↦ grind (arith, common_steps, body_length, map_length)
      | then-map-half-via-else-map-half+then-body-long w ↦ grind (arith, common_steps, body_length, map_length)
    ]
