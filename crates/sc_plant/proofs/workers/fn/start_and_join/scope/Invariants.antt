use Rattle.sc_plant.proofs.workers.fn.start_and_join.scope.Given as goal

abbrev pub invariant-loop : goal.invariant-loop
invariant-loop g l = Unit {0}
