use Rattle.std.proofs.Common.{◌≡◌, ℕ, length, take, drop, replicate, ap, ◌∙◌, arith, length-take, length-drop}
use Rattle.mve_states.specs.State.{no_state}
use Rattle.mve_states.proofs.States.{over, zeros_count}
use Rattle.mve_states.proofs.put_no_state.Goals as goal

pub returns : goal.returns
returns c =
    let part = take 18 (drop 8 c.args.out.now) in
    let n : length part ≡ 18 = omega (arith, length-take 18 (drop 8 c.args.out.now), length-drop 8 c.args.out.now) in
    over 8 18 c.args.out.now _ no_state c.requires (c.fill.ensures.after (λ y e. e) ∙ ap (λ (m : ℕ). replicate m 0) n) zeros_count
