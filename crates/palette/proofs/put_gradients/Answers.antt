-- What is taken fits, so each gradient's stores come next in the list.
use Rattle.palette.proofs.Gradients.{both_fit, both_stored, both_count, red_blue_next, red_green_next}
use Rattle.palette.proofs.put_gradients.Goals as goal

pub put_gradient-first-requires-clause-next : goal.put_gradient-first-requires-clause-next
put_gradient-first-requires-clause-next g c =
    let q = both_fit _ _ c.requires.taken in
    rw (c.requires.listed, c.at-red_blue.ensures.value) (red_blue_next c.args.body.now c.args.palette.now q.0 q.1 q.2 _)

pub put_gradient-requires-clause-next : goal.put_gradient-requires-clause-next
put_gradient-requires-clause-next g c =
    let q = both_fit _ _ c.requires.taken in
    let r = c.at-red_blue.ensures.value in
    rw (c.requires.listed, c.at-red_green.ensures.value)
    (red_green_next c.args.body.now c.args.palette.now q.0 q.1 q.2 _ _ (rw r at c.put_gradient-first.ensures.palette_after) _ (rw r at c.put_gradient-first.ensures.value))

pub returns : goal.returns
returns g c =
    let first = c.put_gradient-first.ensures in
    let second = c.put_gradient.ensures in
    let r = c.at-red_blue.ensures.value in
    let s = c.at-red_green.ensures.value in
    let n = rw r at first.value in
    record {
      value = both_count c.args.body.now c.args.allowed _ n _ (rw s at second.value);
      palette_after = both_stored c.args.body.now c.args.allowed _ n _ _ _ (rw r at first.palette_after) (rw s at second.palette_after);
    }
