use Rattle.sc_chance.specs.Found.{IsReported}
use Rattle.sc_chance.specs.Outcomes.{AreOfRuns, reports_of}
use Rattle.sc_chance.specs.Stages.{IsStage}
use Rattle.sc_chance.proofs.running.play_until.Given as goal

-- so many runs were played so far, and their reports are known
abbrev pub invariant-loop-number : goal.invariant-loop-number
invariant-loop-number l = record {
  stage : IsStage l.program.image l.stage;
  played : AreOfRuns (IsReported l.program.image l.limit) l.number (reports_of l.outcomes);
}
