use Rattle.std.proofs.Common.{sym, subst}
use Rattle.sc_region.specs.declared.job.Job.{Job}
use Rattle.sc_play.specs.Turns.{Begins, TurnUnder}
use Rattle.sc_play.proofs.turn.turn_under.Goals as goal

pub returns-in-Made-clause-ok : goal.returns-in-Made-clause-ok
returns-in-Made-clause-ok c =
    subst
    (λ (j : Job). Begins c.turn_made.result c.args.handler (λ z v. TurnUnder c.args.handler j c.args.store.now z v) c.args.store.now c.turn_made.new.store c.turn_made.new.asked)
    (sym c.in-Made.is) (c.turn_made.ensures c.args.handler)
