use Rattle.opening.specs.Opening.{header}
use Rattle.opening.proofs.Header.{header_is}
use Rattle.opening.proofs.has_header.Goals as goal

pub returns : goal.returns
unfolding header
returns c = header_is c.args.film.now 0 _ c.starts_with.ensures.value c.requires
