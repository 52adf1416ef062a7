use Rattle.sc_check.proofs.purity.CallerLemmas.{callers_more}
use Rattle.sc_check.proofs.purity.search.Callers.new.Goals as goal

pub loop-number-preserved : goal.loop-number-preserved
loop-number-preserved c =
    callers_more c.loop-number.lists.items c.push.new.self.items c.new.result c.loop-number._number c.in_ok-push.ensures.items c.new.ensures.items c.loop-number.invariant
