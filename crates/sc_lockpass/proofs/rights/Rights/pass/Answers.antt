use Rattle.std.proofs.Common.{refl}
use Rattle.sc_lockpass.proofs.Listings.{passed_of-held}
use Rattle.sc_lockpass.proofs.rights.Rights.pass.Goals as goal

pub returns-clause-passed : goal.returns-clause-passed
returns-clause-passed c =
    rw (← c.self.view_is) (passed_of-held _ _ c.held_by-queues.ensures c.held_by-tops.ensures refl)
