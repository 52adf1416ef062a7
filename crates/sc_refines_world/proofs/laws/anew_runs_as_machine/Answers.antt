use Rattle.sc_refines_world.proofs.PlayedAnew.{anew_runs_as_machine}
use Rattle.sc_refines_world.proofs.laws.anew_runs_as_machine.Goals as goal

pub returns : goal.returns
returns c =
    anew_runs_as_machine
    c.world_runs_as_machine.ensures
    c.kept_alike_turn_alike.ensures
    c.openings_are_of_their_program.ensures
    c.runs_stay_of_their_program.ensures
