use Rattle.std.proofs.Common.{Some}
use Rattle.sc_plant.proofs.running.run_watched.Given as goal

abbrev pub ghosts-run_open : goal.ghosts-run_open
ghosts-run_open g a = record { image = Some a.program.now.image }
