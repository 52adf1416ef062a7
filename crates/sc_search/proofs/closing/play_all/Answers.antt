use Rattle.std.proofs.Common.{◌<◌, ◌≤◌, length, arith}
use Rattle.sc_search.specs.Views.{met_of, states_of}
use Rattle.sc_search.proofs.KeptStates.{at_none}
use Rattle.sc_search.proofs.Reasons.{still_there}
use Rattle.sc_search.proofs.TriedTurns.{closes, closes_first, closes_next, explores}
use Rattle.sc_search.proofs.closing.play_all.Goals as goal

pub loop-init : goal.loop-init
loop-init g c =
    let opens = at_none c.in_ok-stop.field-0 c.in_default.is c.in_ok-stop.ensures.opens in
    record {
      count = omega arith;
      there = omega arith;
      closes = closes_first c.args.subject.program.now.image c.args.subject.version c.args.subject.aim c.args.joined (met_of c.keep_opening.new.progress) opens;
      reached = at_none c.in_ok-stop.field-0 c.in_default.is c.in_ok-stop.ensures.reached;
      within = at_none c.stop_past.result c.in_default-stop_past.is c.stop_past.ensures.within;
    }

pub loop-preserved : goal.loop-preserved
loop-preserved g c =
    let tries = at_none c.in_ok-stop-2.field-0 c.in_default-2.is c.in_ok-stop-2.ensures.tries in
    let there : c.loop.number < length (states_of c.loop.progress) = omega (arith, c.if-number-len.false, c.len.ensures) in
    let still = still_there (states_of c.loop.progress) (states_of c.try_all.new.progress) c.loop.number tries.extends.stay there in
    record {
      count = omega (arith, c.loop.invariant.count);
      there = omega (arith, still);
      closes = closes_next c.args.subject.program.now.image c.args.subject.version c.args.subject.aim c.args.joined (met_of c.loop.progress) (met_of c.try_all.new.progress)
          c.loop.number c.loop.invariant.closes tries there;
      reached = at_none c.in_ok-stop-2.field-0 c.in_default-2.is c.in_ok-stop-2.ensures.reached;
      within = at_none c.stop_past-in-loop.result c.in_default-stop_past-2.is c.stop_past-in-loop.ensures.within;
    }

pub returns-clause-closed : goal.returns-clause-closed
returns-clause-closed g c =
    let fits : c.loop.number < 4294967296 = omega (arith, c.loop.auto.number-fits) in
    let all : length (states_of c.loop.progress) ≤ c.loop.number = omega (arith, c.if-number-len-2.false, c.len-2.ensures, c.if-number.false) in
    closes c.args.subject.program.now.image c.args.subject.version c.args.subject.aim c.args.joined (met_of c.loop.progress) c.loop.number c.loop.invariant.closes all

pub returns-clause-explored : goal.returns-clause-explored
returns-clause-explored g c =
    let fits : c.loop.number < 4294967296 = omega (arith, c.loop.auto.number-fits) in
    let all : length (states_of c.loop.progress) ≤ c.loop.number = omega (arith, c.if-number-len-2.false, c.len-2.ensures, c.if-number.false) in
    explores c.args.subject.program.now.image c.args.subject.version c.args.subject.aim c.args.joined (met_of c.loop.progress) c.loop.number c.loop.invariant.closes all fits
