use Rattle.std.proofs.Common.{rules, tests, ◌+◌, ◌-◌, leb, take, drop, ◌∙◌}
use Rattle.std.proofs.lemmas.Iterator.{YieldsList-from_slice}
use Rattle.std.proofs.lemmas.Iterator.Search.{all_from_yields_List}
use Rattle.palette.proofs.Judging.{part_legal}
use Rattle.palette.proofs.are_components.Goals as goal

pub returns : goal.returns
returns c =
    let at = c.args.at in
    let part = take (at + c.args.n - at) (drop at c.args.body.now) in
    all_from_yields_List (λ b. leb b 63) _ _ _ c.all.ensures.ran (YieldsList-from_slice part c.iter.ensures.rest) (λ x b q k. search (rules, tests))
    ∙ part_legal c.args.body.now at c.args.n c.requires
