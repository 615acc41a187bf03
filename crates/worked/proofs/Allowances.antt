-- Every case of an allowance holds.
-- Assumes nothing.
use mathlib.Core.Path.{◌≡◌, refl}
use mathlib.Core.List.{map}
use Rattle.words.specs.Word.{word_at}
use Rattle.listed.specs.Store.{applied, each, byte, from}
use Rattle.palette.specs.Update.{legal, verdict, verdict_for, change_of, change_by, on_accept, palette_after}
use Rattle.palette.specs.Gradient.{fits, level, component}
use Rattle.palette.specs.Mask.{bit, ones, group_end, group_at, group_stores}
use Rattle.worked.specs.Cases.{Case}
use Rattle.worked.specs.Allowances.{changed, nines, tried, gradients, entries, no_entries, masks, allowances}

pub allowed : map (λ (c : Case). c.given) allowances ≡ map (λ (c : Case). c.said) allowances
unfolding word_at applied each byte from legal verdict verdict_for change_of change_by on_accept palette_after fits level component bit ones group_end group_at group_stores changed nines tried gradients entries no_entries masks allowances
allowed = refl
