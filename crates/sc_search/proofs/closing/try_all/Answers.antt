use Rattle.std.proofs.Common.{arith}
use Rattle.sc_search.specs.Views.{met_of, orders_of, states_of, statuses_of}
use Rattle.sc_search.proofs.IdleHandlers.{tries_rest}
use Rattle.sc_search.proofs.KeptStates.{at_none}
use Rattle.sc_search.proofs.LoadedStates.{row_few}
use Rattle.sc_search.proofs.Reasons.{still_there}
use Rattle.sc_search.proofs.TriedTurns.{tries_first, tries_next}
use Rattle.sc_search.proofs.closing.try_all.Goals as goal

pub loop-handler-init : goal.loop-handler-init
loop-handler-init c = record {
  tries = tries_first c.args.subject.program.now.image c.args.subject.version c.args.subject.aim c.args.joined (met_of c.args.progress.now) c.args.number;
  reached = c.requires.reached;
}

pub loop-handler-preserved : goal.loop-handler-preserved
loop-handler-preserved c =
    let tries = at_none c.in_ok-stop.field-0 c.in_default.is c.in_ok-stop.ensures.tries in
    record {
      tries = tries_next c.args.subject.program.now.image c.args.subject.version c.args.subject.aim c.args.joined (met_of c.args.progress.now) (met_of c.loop-handler.progress)
          (met_of c.try_turn.new.progress) c.args.number c.loop-handler.handler c.loop-handler.invariant.tries tries;
      reached = at_none c.in_ok-stop.field-0 c.in_default.is c.in_ok-stop.ensures.reached;
    }

pub returns-clause-tries : goal.returns-clause-tries
returns-clause-tries c =
    let x = c.args.progress.now in
    tries_rest c.args.subject.program.now.image c.args.subject.version c.args.subject.aim c.args.joined (met_of x) (orders_of x) (statuses_of x) x.turns c.args.number
    c.statuses-handler-end.result.now c.requires.reached.reached c.requires.there c.statuses-handler-end.ensures (met_of c.loop-handler.progress) c.loop-handler.handler
    c.loop-handler.invariant.tries (omega (arith, c.loop-handler-test.false))

pub overflow_cast-handler : goal.overflow_cast-handler
overflow_cast-handler c =
    let x = c.args.progress.now in
    let few =
    row_few c.args.subject.program.now.image c.args.subject.version c.args.subject.aim x.store x.turns c.args.number c.statuses-handler-end.result.now
    c.requires.reached.stored c.requires.reached.reached c.requires.there c.statuses-handler-end.ensures in
    omega (arith, few, c.loop-handler-test.true)

pub try_turn-requires-clause-there : goal.try_turn-requires-clause-there
try_turn-requires-clause-there c =
    still_there (states_of c.args.progress.now) (states_of c.loop-handler.progress) c.args.number c.loop-handler.invariant.tries.extends.stay c.requires.there
