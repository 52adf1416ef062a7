use Rattle.std.proofs.Common.{List, subst}
use Rattle.sc_handler.specs.declared.settlement.Settlement.{Settlement}
use Rattle.sc_plant.specs.Sharing.{AreLogs}
use Rattle.sc_plant.proofs.Locks.{are_fit}
use Rattle.sc_plant.proofs.sharing.share.Goals as goal

pub slots_of-requires-clause-fit : goal.slots_of-requires-clause-fit
slots_of-requires-clause-fit g c =
    are_fit g.P.OfProgram.image c.args.left c.in-Ok-logs_of.logs.items c.requires
    (subst (λ (es : List Settlement). AreLogs c.in-Ok-logs_of.logs.items es) c.log.ensures c.in-Ok-logs_of.ensures.logs)
