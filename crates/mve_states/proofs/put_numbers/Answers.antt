use Rattle.std.proofs.Common.{◌≡◌, ℕ, refl, sym, ap, ◌∙◌, arith}
use Rattle.std.proofs.lemmas.List.Edits.{paste_more}
use Rattle.std.proofs.lemmas.Slice.{put_mid-paste}
use lib.Seq.{paste}
use Rattle.mve_states.proofs.States.{over}
use Rattle.mve_states.proofs.put_numbers.Goals as goal

pub loop-i-preserved : goal.loop-i-preserved
loop-i-preserved c = rw c.loop-i.invariant (paste_more c.args.out.now 8 c.args.from.now c.loop-i.i 0 (omega arith) (omega arith))

pub returns : goal.returns
returns c =
    let o = c.args.out.now in
    let s = c.args.from.now in
    let e : c.loop-i.i ≡ 18 = omega arith in
    c.loop-i.invariant ∙ ap (λ (n : ℕ). paste o 8 s n) e ∙ sym (put_mid-paste 8 18 o s s 18 refl refl (sym c.requires.from_len))
    ∙ over 8 18 o s s c.requires.in_bounds refl c.requires.from_len
