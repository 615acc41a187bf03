-- What the body of an opcode comes to: the verdict, in document 01's order 8, 5, 7, the stores that are made where so many are allowed (document 02, W11), and
-- the palette that is left. All tests come before all stores.
-- The palette is 768 bytes, 3 an entry: red, green and blue of entry e stand at 3·e, 3·e + 1 and 3·e + 2, so bytes side by side go entry by entry,
-- red, green, blue.
-- Assumes nothing.
use Rattle.std.specs.Prelude.{Bool, true, false, cond, List, [], ◌∷◌, ℕ, eqb, ltb, length, take, Result, Ok, Err}
use Rattle.refusal.specs.declared.Refusal.{Refusal}
use Rattle.refusal.specs.Number.{Verdict, accept, refuse, refusal, number, block}
use Rattle.listed.specs.Store.{Store, applied}
use Rattle.palette.specs.declared.Changed.{Changed}
use Rattle.palette.specs.declared.Changed.TheVariants.{Whole, Unfinished}

-- what a body asks for. exact: its length is right. inside: the entries that it names are among the 256. stores: the bytes that it sets, in order
pub record Update : Type 0 where
  pub exact : Bool
  pub inside : Bool
  pub stores : List Store

-- every component is 0 to 63, as a gradient's always are. (Bytes that stand in the palette already are not tested.)
unfoldable pub legal : List Store → Bool
legal [] = true
legal (s ∷ l) = cond (ltb 63 s.value) false (legal l)

-- 5, then 7
unfoldable pub verdict : Update → Verdict
verdict u = cond u.exact (cond u.inside (cond (legal u.stores) accept (refuse 7 0)) (refuse 7 0)) (refuse 5 0)

-- on a lent palette this long: 8 comes first, and no byte of the palette is read
unfoldable pub verdict_for : Update → ℕ → Verdict
verdict_for u n = cond (eqb n 768) (verdict u) (refuse 8 0)

abbrev pub verdict_on : Update → List ℕ → Verdict
verdict_on u palette = verdict_for u (length palette)

-- document 01's number and block of each verdict
abbrev pub told : Result Unit Refusal → Verdict
told (Ok u) = accept
told (Err r) = refusal r

-- ---- stores

-- whole: all are made, so many. unfinished: so many are made. refused: number and block
pub data Change : Type 0 where
  whole unfinished : ℕ → Change
  refused : ℕ → ℕ → Change

-- where so many are allowed and so many are due
unfoldable pub change_of : ℕ → ℕ → Change
change_of allowed due = cond (ltb allowed due) (unfinished allowed) (whole due)

unfoldable pub change_by : Verdict → List Store → ℕ → Change
change_by accept stores allowed = change_of allowed (length stores)
change_by (refuse n k) stores allowed = refused n k

abbrev pub change_on : Update → ℕ → List ℕ → Change
change_on u allowed palette = change_by (verdict_on u palette) u.stores allowed

-- the palette that is left: a refusal changes nothing
unfoldable pub on_accept : Verdict → List ℕ → List ℕ → List ℕ
on_accept accept changed palette = changed
on_accept (refuse number block) changed palette = palette

-- and as many of the stores as are allowed are made, the first of the list
unfoldable pub palette_after : Update → ℕ → List ℕ → List ℕ
palette_after u allowed palette = on_accept (verdict_on u palette) (applied (take allowed u.stores) palette) palette

-- document 01's values of each answer
abbrev pub changed_as : Result Changed Refusal → Change
changed_as (Ok (Whole n)) = whole n
changed_as (Ok (Unfinished n)) = unfinished n
changed_as (Err r) = refused (number r) (block r)
