use native.Mathlib.Omega.{arith}
use Rattle.salvage.proofs.Writing.{kept_fits, losses_fit, sum_fits, wrote_short, wrote_unlisted, wrote}
use Rattle.salvage.proofs.save.Goals as goal
use Rattle.salvage.proofs.save.Goals.{then-room-bytes-via-then-room-bytes, then-room-bytes-via-else-room-bytes+then-list-walked}

pub overflow_add-at : goal.overflow_add-at
overflow_add-at c = omega (arith, kept_fits _ _ _ c.requires _ _ _ c.walk-walked.ensures)

pub overflow_add-bytes : goal.overflow_add-bytes
overflow_add-bytes c = omega (arith, sum_fits _ _ _ c.requires _ _ _ c.walk-walked.ensures _ c.closing.ensures)

pub overflow_mul-walked : goal.overflow_mul-walked
overflow_mul-walked c = omega (arith, losses_fit _ _ _ c.requires _ _ _ c.walk-walked.ensures)

pub returns-then-room-bytes : goal.returns-then-room-bytes
returns-then-room-bytes c =
    elim c.then-room-bytes.branch [
      | then-room-bytes-via-then-room-bytes w ↦ wrote_short _ _ _ c.requires _ _ _ c.walk-walked.ensures _ c.closing.ensures w.if-room-bytes.true
      | then-room-bytes-via-else-room-bytes+then-list-walked w ↦
          wrote_unlisted _ _ _ c.requires _ _ _ c.walk-walked.ensures _ c.closing.ensures w.if-room-bytes.false w.if-list-walked.true
    ]

pub returns : goal.returns
returns c = wrote _ _ _ c.requires _ _ _ c.walk-walked.ensures _ c.closing.ensures c.if-room-bytes.false c.if-list-walked.false _ c.copy_part.ensures _ _ _ c.walk.ensures _ c.put_closing.ensures
