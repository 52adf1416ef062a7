use Rattle.std.proofs.Common.{◌≡◌, IfOk, OnErr, subst}
use Rattle.sc_region.specs.Stores.{PlainStore}
use Rattle.sc_play.specs.Turns.{Begins, TurnUnder}
use Rattle.sc_play.proofs.turn.first_turn.Goals as goal

pub returns-clause-ok : goal.returns-clause-ok
returns-clause-ok c =
    subst
    (λ (s : PlainStore). IfOk c.turn_under.result
    (λ made. Begins made c.args.handler (λ z v. TurnUnder c.args.handler c.args.job.now s z v) s c.turn_under.new.store c.turn_under.new.asked))
    c.begin.ensures c.turn_under.ensures.ok

pub returns-clause-err : goal.returns-clause-err
returns-clause-err c = subst (λ (s : PlainStore). OnErr c.turn_under.result (c.turn_under.new.store ≡ s)) c.begin.ensures c.turn_under.ensures.err
