use Rattle.sc_request.specs.Cores.{center_of}
use Rattle.sc_search.proofs.Joins.{wants_so}
use Rattle.sc_search.proofs.joining.wants_to_follow.Goals as goal

pub returns : goal.returns
returns c = λ e.
    wants_so c.args.handler c.args.job.now (center_of c.args.core.now).state c.args.region.now c.in_ok-copy.copy c.play.new.self c.in_ok-outcome.outcome
    c.in_ok-copy.ensures c.in_ok-outcome.ensures.ok (c.may_follow.ensures e)
