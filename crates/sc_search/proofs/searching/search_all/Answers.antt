use Rattle.std.proofs.Common.{refl, true, Some, None}
use Rattle.sc_search.specs.Stops.{StopsFor}
use Rattle.sc_search.specs.Views.{states_of}
use Rattle.sc_search.proofs.KeptStates.{at_none}
use Rattle.sc_search.proofs.Reasons.{whole_verdict}
use Rattle.sc_search.proofs.Verdicts.{at_some, closed_shown, never_none, stays, stopped_stays}
use Rattle.sc_search.proofs.searching.search_all.Goals as goal

pub all_may_move-requires-clause-explored : goal.all_may_move-requires-clause-explored
all_may_move-requires-clause-explored g c = (1000, at_none c.in_ok-stop.field-0 c.in_default.is c.in_ok-stop.ensures.explored)

pub returns-in-Some-clause-why : goal.returns-in-Some-clause-why
returns-in-Some-clause-why g c =
    whole_verdict c.args.subject.program.now.image c.args.subject.version c.args.subject.aim c.verdict_of.result (Some c.in-Some.stop) c.args.limits
    (at_some (StopsFor c.args.subject.program.now.image c.args.subject.version c.args.subject.aim c.args.limits) c.in_ok-stop.field-0 c.in-Some.stop c.in-Some.is c.in_ok-stop.ensures.stops) (λ e. never_none c.in-Some.stop e) c.verdict_of.ensures.why

pub returns-then-branch-clause-whole : goal.returns-then-branch-clause-whole
returns-then-branch-clause-whole g c =
    closed_shown c.args.subject.program.now.image c.args.subject.version c.args.subject.aim (states_of c.play_all-played.new.progress) true
    c.verdict_of-then-branch.result (at_none c.in_ok-stop.field-0 c.in_default.is c.in_ok-stop.ensures.closed) (c.in_ok-all_may_move.ensures c.if-branch.true)
    c.verdict_of-then-branch.ensures.whole c.verdict_of-then-branch.ensures.states
    1000 (c.verdict_of-then-branch.ensures.long refl 1000 (at_none c.in_ok-stop.field-0 c.in_default.is c.in_ok-stop.ensures.explored)
    (at_none c.in_ok-stop.field-0 c.in_default.is c.in_ok-stop.ensures.reached))

pub returns-then-branch-clause-why : goal.returns-then-branch-clause-why
returns-then-branch-clause-why g c =
    whole_verdict c.args.subject.program.now.image c.args.subject.version c.args.subject.aim c.verdict_of-then-branch.result None c.args.limits tt c.verdict_of-then-branch.ensures.done
    c.verdict_of-then-branch.ensures.why

pub returns-in-Some-clause-memory : goal.returns-in-Some-clause-memory
returns-in-Some-clause-memory g c = stopped_stays c.verdict_of.result true c.in-Some.stop c.args.limits c.verdict_of.ensures.whole

pub returns-then-branch-clause-memory : goal.returns-then-branch-clause-memory
returns-then-branch-clause-memory g c =
    stays c.verdict_of-then-branch.result c.play_all-played.new.progress c.args.limits
    (at_none c.in_ok-stop.field-0 c.in_default.is c.in_ok-stop.ensures.within) c.verdict_of-then-branch.ensures.states c.verdict_of-then-branch.ensures.bytes
