use Rattle.std.proofs.Common.{refl, true}
use Rattle.sc_search.specs.Views.{states_of}
use Rattle.sc_search.proofs.KeptStates.{at_none}
use Rattle.sc_search.proofs.Verdicts.{closed_shown, found_stays, stays}
use Rattle.sc_search.proofs.searching.closed_verdict.Goals as goal

pub returns-in-None-clause-whole : goal.returns-in-None-clause-whole
returns-in-None-clause-whole c =
    closed_shown c.args.subject.program.now.image c.args.subject.version c.args.subject.aim (states_of c.args.progress) true c.verdict_of.result
    c.requires.closed (at_none c.in_ok-number.field-0 c.in-None.is c.in_ok-number.ensures.none) c.verdict_of.ensures.whole c.verdict_of.ensures.states
    0 (c.verdict_of.ensures.long refl 0 c.requires.explored c.requires.reached)

pub returns-in-None-clause-memory : goal.returns-in-None-clause-memory
returns-in-None-clause-memory c = λ limits few. stays c.verdict_of.result c.args.progress limits few c.verdict_of.ensures.states c.verdict_of.ensures.bytes

pub returns-in-Some-clause-memory : goal.returns-in-Some-clause-memory
returns-in-Some-clause-memory c = λ limits few. found_stays c.stuck_verdict.result limits c.stuck_verdict.ensures.whole
