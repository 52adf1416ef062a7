use Rattle.sc_plant.proofs.running.rounds.Goals as goal

pub returns-then-has_ended-clause-over : goal.returns-then-has_ended-clause-over
returns-then-has_ended-clause-over g c = λ none. c.has_ended.ensures.over c.if-has_ended.true none

pub returns-then-has_ended-clause-home : goal.returns-then-has_ended-clause-home
returns-then-has_ended-clause-home g c = c.has_ended.ensures.home c.if-has_ended.true
