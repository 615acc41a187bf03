use mathlib.Core.Path.{sym, ◌∙◌}
use Rattle.opening.proofs.Header.{opens_short, opens, opens_not}
use Rattle.opening.proofs.open.Goals.{then-film-lt26-via-then-film-lt26, then-film-lt26-via-else-film-lt26+then-not-has_header}
use Rattle.opening.proofs.open.Goals as goal

pub returns-then-film-lt26 : goal.returns-then-film-lt26
returns-then-film-lt26 c = elim c.then-film-lt26.branch [
  | then-film-lt26-via-then-film-lt26 w ↦ opens_short c.args.film.now _ w.if-film-lt26.true
  | then-film-lt26-via-else-film-lt26+then-not-has_header w ↦ opens_not c.args.film.now _ w.if-film-lt26.false (sym w.has_header.ensures ∙ w.if-not-has_header.true)
]

pub returns : goal.returns
returns c = opens c.args.film.now _ _ c.if-film-lt26.false (sym c.has_header.ensures ∙ c.if-not-has_header.false) c.new.ensures
