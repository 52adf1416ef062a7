use Rattle.sc_world.proofs.KeptWorlds.{runs_stay_of}
use Rattle.sc_world.proofs.laws.runs_stay_of_their_program.Goals as goal

pub returns : goal.returns
returns c = runs_stay_of c.settlements_stay_counted.ensures c.settlements_stay_few.ensures
