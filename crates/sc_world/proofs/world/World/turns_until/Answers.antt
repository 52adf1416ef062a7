use Rattle.std.proofs.Common.{sym, ◌∙◌, arith}
use Rattle.sc_world.proofs.Runs.{err-holds, ok-holds, runs-all, runs-next, stops-behind}
use Rattle.sc_world.proofs.world.World.turns_until.Goals as goal

pub returns-then-is_err-clause-err : goal.returns-then-is_err-clause-err
returns-then-is_err-clause-err c =
    stops-behind c.args.handlers.now c.loop-count.count 0 _ _ _ c.loop-count-test.true c.loop-count.invariant
    (err-holds c.turn.result _ (sym c.is_err.ensures.value ∙ c.if-is_err.true) c.turn.ensures.err)

pub loop-count-preserved : goal.loop-count-preserved
loop-count-preserved c =
    runs-next c.args.handlers.now c.loop-count.count 0 _ _ _ c.loop-count-test.true c.loop-count.invariant
    (ok-holds c.turn.result _ (sym c.is_err.ensures.value ∙ c.if-is_err.false) c.turn.ensures.ok)

pub returns-clause-ok : goal.returns-clause-ok
returns-clause-ok c = runs-all c.args.handlers.now c.loop-count.count _ _ (omega arith) c.loop-count.invariant
