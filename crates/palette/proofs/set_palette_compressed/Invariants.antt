use Rattle.palette.specs.Mask.{set_palette_compressed}
use Rattle.palette.proofs.set_palette_compressed.Given as goal

abbrev pub ghosts-put_groups : goal.ghosts-put_groups
ghosts-put_groups a = record { list = (set_palette_compressed a.body.now).stores }
