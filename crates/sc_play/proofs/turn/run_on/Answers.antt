use Rattle.std.proofs.Common.{ap, ◌∙◌}
use Rattle.sc_acts.specs.declared.act.Act.TheVariants as act
use Rattle.sc_acts.specs.Turning.{unless_failed}
use Rattle.sc_play.proofs.FurtherTurns.{goes_at_once, goes_on, stops_leads}
use Rattle.sc_play.proofs.turn.run_on.Goals as goal

pub returns-in-End-clause-ok : goal.returns-in-End-clause-ok
returns-in-End-clause-ok c =
    goes_at_once c.args.handler act.Exit c.args.store.now c.exit.new.store c.exit.new.asked c.in-End.ensures c.exit.ensures.store c.exit.ensures.want

pub returns-in-Request-clause-ok : goal.returns-in-Request-clause-ok
returns-in-Request-clause-ok c =
    goes_at_once c.args.handler (act.Request c.in-Request.call) c.args.store.now c.request.new.store c.unless_failed.new.asked c.in-Request.ensures c.request.ensures.store
    (c.unless_failed.ensures ∙ ap (unless_failed c.request.new.store.failure) c.request.ensures.want)

pub returns-in_ok-operation-in-Other-clause-ok : goal.returns-in_ok-operation-in-Other-clause-ok
returns-in_ok-operation-in-Other-clause-ok c =
    goes_on c.args.handler c.do_operation.result c.in_ok-operation-in-Other.operation c.args.store.now c.moves.new.store c.do_operation.new.store c.do_operation.new.asked
    c.in_ok-operation-in-Other.ensures.comes c.in_ok-operation-in-Other.ensures.remains c.in_ok-operation-in-Other.ensures.told c.do_operation.ensures.ok c.do_operation.ensures.want

pub returns-in_ok-operation-in-Other-clause-leads : goal.returns-in_ok-operation-in-Other-clause-leads
returns-in_ok-operation-in-Other-clause-leads c =
    stops_leads c.do_operation.result c.in_ok-operation-in-Other.operation c.args.store.now c.moves.new.store c.do_operation.new.store c.in_ok-operation-in-Other.ensures.leads
    c.do_operation.ensures.comes c.do_operation.ensures.err
