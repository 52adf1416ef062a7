use Rattle.std.proofs.Common.{◌≡◌, ◌∙◌, refl, true, false, Some, None, sym}
use Rattle.sc_search.specs.Limits.{SaysWhyFor}
use Rattle.sc_search.specs.Stops.{StopsFor}
use Rattle.sc_search.specs.Views.{states_of}
use Rattle.sc_search.proofs.KeptStates.{at_none}
use Rattle.sc_search.proofs.Reasons.{whole_verdict}
use Rattle.sc_search.proofs.Verdicts.{at_some, never_none, of_limit, other_shown, stays, stopped_stays}
use Rattle.sc_search.proofs.searching.search_singly.Goals as goal

pub returns-clause-whole : goal.returns-clause-whole
returns-clause-whole g c =
    other_shown c.args.subject.program.now.image c.args.subject.version c.args.subject.aim (states_of c.play_all-played.new.progress) true
    c.verdict_of-2.result None (at_none c.in_ok-stop.field-0 c.in_default.is c.in_ok-stop.ensures.closed)
    (λ e seeks. let no : false ≡ true = sym c.if-seeks_stuck.false ∙ c.seeks_stuck.ensures ∙ seeks in cc)
    c.verdict_of-2.ensures.whole c.verdict_of-2.ensures.states
    0 (c.verdict_of-2.ensures.long refl 0 (at_none c.in_ok-stop.field-0 c.in_default.is c.in_ok-stop.ensures.explored)
    (at_none c.in_ok-stop.field-0 c.in_default.is c.in_ok-stop.ensures.reached))

pub returns-clause-why : goal.returns-clause-why
returns-clause-why g c =
    whole_verdict c.args.subject.program.now.image c.args.subject.version c.args.subject.aim c.verdict_of-2.result None c.args.limits tt c.verdict_of-2.ensures.done
    c.verdict_of-2.ensures.why

pub returns-in-Some-clause-why : goal.returns-in-Some-clause-why
returns-in-Some-clause-why g c =
    whole_verdict c.args.subject.program.now.image c.args.subject.version c.args.subject.aim c.verdict_of.result (Some c.in-Some.stop) c.args.limits
    (at_some (StopsFor c.args.subject.program.now.image c.args.subject.version c.args.subject.aim c.args.limits) c.in_ok-stop.field-0 c.in-Some.stop c.in-Some.is c.in_ok-stop.ensures.stops) (λ e. never_none c.in-Some.stop e) c.verdict_of.ensures.why

pub returns-then-seeks_stuck-clause-why : goal.returns-then-seeks_stuck-clause-why
returns-then-seeks_stuck-clause-why g c =
    of_limit (λ d limits. SaysWhyFor c.args.subject limits d.is_whole d.finding d.why) c.closed_verdict.result c.args.limits c.closed_verdict.ensures.why

pub returns-clause-memory : goal.returns-clause-memory
returns-clause-memory g c =
    stays c.verdict_of-2.result c.play_all-played.new.progress c.args.limits
    (at_none c.in_ok-stop.field-0 c.in_default.is c.in_ok-stop.ensures.within) c.verdict_of-2.ensures.states c.verdict_of-2.ensures.bytes

pub returns-in-Some-clause-memory : goal.returns-in-Some-clause-memory
returns-in-Some-clause-memory g c = stopped_stays c.verdict_of.result true c.in-Some.stop c.args.limits c.verdict_of.ensures.whole

pub returns-then-seeks_stuck-clause-memory : goal.returns-then-seeks_stuck-clause-memory
returns-then-seeks_stuck-clause-memory g c =
    c.closed_verdict.ensures.memory c.args.limits (at_none c.in_ok-stop.field-0 c.in_default.is c.in_ok-stop.ensures.within)
