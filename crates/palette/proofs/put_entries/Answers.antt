-- What is taken fits, so its entries' stores are the list.
use mathlib.Core.Path.{refl}
use native.Mathlib.Omega.{arith}
use Rattle.palette.proofs.Entries.{entries_fit, entries_next, entries_stored, entries_count}
use Rattle.palette.proofs.put_entries.Goals as goal

pub put_bytes-requires : goal.put_bytes-requires
put_bytes-requires g c =
    let v = c.requires.taken in
    let q = entries_fit _ _ v _ _ c.word_at-start.ensures.0 c.word_at-count.ensures.0 in
    record { next = rw c.requires.listed (entries_next _ _ v _ _ c.word_at-start.ensures.0 c.word_at-count.ensures.0 _ _ refl); n_in_bounds = omega (arith, q.1) }

pub returns : goal.returns
returns g c =
    let v = c.requires.taken in
    record {
      value = entries_count _ _ v _ _ c.word_at-start.ensures.0 c.word_at-count.ensures.0 _ c.put_bytes.ensures.value;
      palette_after = entries_stored _ _ v _ _ c.word_at-start.ensures.0 c.word_at-count.ensures.0 c.args.allowed c.args.palette.now _ c.put_bytes.ensures.palette_after;
    }
