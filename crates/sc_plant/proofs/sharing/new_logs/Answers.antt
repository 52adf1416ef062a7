use Rattle.std.proofs.Common.{arith}
use Rattle.sc_plant.proofs.Locks.{more_logs, none_logs}
use Rattle.sc_plant.proofs.sharing.new_logs.Goals as goal

pub loop-init : goal.loop-init
loop-init c = record {
  len = omega (arith, c.in_ok-logs.ensures.len);
  room = omega (arith, c.in_ok-logs.ensures.capacity);
  logs = none_logs c.in_ok-logs.logs.items c.in_ok-logs.ensures.items;
}

pub loop-preserved : goal.loop-preserved
loop-preserved c = record {
  len = omega (arith, c.push_reserved.ensures.len, c.loop.invariant.len);
  room = omega (arith, c.push_reserved.ensures.capacity, c.loop.invariant.room);
  logs = more_logs c.loop.logs.items _ c.new.result c.loop.invariant.logs c.new.ensures.settlements c.push_reserved.ensures.items;
}
