use Rattle.film.proofs.Steps.{step_ready}
use Rattle.film.proofs.step.Goals as goal

pub take_on-requires : goal.take_on-requires
take_on-requires c = let q = step_ready c.args.film.now c.args.st _ _ c.find.result c.in-Opcode.o c.find.ensures (cc) in record { ready = q.1; film_value = q.0.mapped }
