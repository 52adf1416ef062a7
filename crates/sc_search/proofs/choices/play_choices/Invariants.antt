use Rattle.sc_search.specs.Stops.{HasReached}
use Rattle.sc_search.proofs.choices.play_choices.Given as goal

-- orders led to the states so far
abbrev pub invariant-loop-number : goal.invariant-loop-number
invariant-loop-number g l = HasReached l.subject.program.now.image l.subject.version l.subject.aim l.progress
