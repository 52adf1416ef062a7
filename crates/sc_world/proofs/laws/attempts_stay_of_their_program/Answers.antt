use Rattle.sc_world.proofs.KeptWorlds.{attempts_stay_of}
use Rattle.sc_world.proofs.laws.attempts_stay_of_their_program.Goals as goal

pub returns : goal.returns
returns c =
    attempts_stay_of c.picks_stay_counted.ensures c.put_backs_stay_counted.ensures c.settlements_stay_counted.ensures
    c.settlements_stay_few.ensures
