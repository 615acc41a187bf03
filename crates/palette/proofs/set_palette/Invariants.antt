use Rattle.palette.specs.Entries.{set_palette}
use Rattle.palette.proofs.set_palette.Given as goal

abbrev pub ghosts-put_entries : goal.ghosts-put_entries
ghosts-put_entries a = record { list = (set_palette a.body.now).stores }
