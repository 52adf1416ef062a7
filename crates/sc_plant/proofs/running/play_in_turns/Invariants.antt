use Rattle.sc_plant.specs.Sharing.{IsOnWayIn}
use Rattle.sc_plant.proofs.running.play_in_turns.Given as goal

abbrev pub invariant-loop : goal.invariant-loop
invariant-loop g l = IsOnWayIn g.P.OfProgram.image l.left
