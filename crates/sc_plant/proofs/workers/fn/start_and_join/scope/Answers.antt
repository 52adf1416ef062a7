use denote.Param.Send.{IsSync, sendable}
use Rattle.std.proofs.Common.{rules}
use Rattle.std.proofs.Crossing.{crosses}
use Rattle.std.proofs.sync.Condvar.TheSendSync as condvar
use Rattle.sc_plant.proofs.scheduler.Scheduler.TheSendSync as scheduler
use Rattle.sc_plant.proofs.Crossings.{slot_send}
use Rattle.sc_plant.proofs.workers.fn.start_and_join.scope.Goals as goal

pub spawn-requires-send-F : goal.spawn-requires-send-F
spawn-requires-send-F g c κs within =
    let runtime : IsSync g.row.R = search (rules, c.requires) parts 8 in
    let gate : IsSync g.row.G = search (rules, c.requires) parts 8 in
    search (scheduler.the_send, condvar.the_sync, slot_send, crosses, sendable) depth 30
