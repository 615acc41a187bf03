use Rattle.palette.specs.Gradient.{create_gradient}
use Rattle.palette.proofs.create_gradient.Given as goal

abbrev pub ghosts-put_gradients : goal.ghosts-put_gradients
ghosts-put_gradients a = record { list = (create_gradient a.body.now).stores }
