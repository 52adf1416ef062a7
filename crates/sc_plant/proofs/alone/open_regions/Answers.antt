use Rattle.std.proofs.Common.{arith}
use Rattle.sc_plant.proofs.OnWay.{more_new, none_new}
use Rattle.sc_plant.proofs.alone.open_regions.Goals as goal

pub loop-handler-init : goal.loop-handler-init
loop-handler-init c = record {
  len = omega (arith, c.in_ok-regions.ensures.len);
  room = omega (arith, c.in_ok-regions.ensures.capacity);
  new = none_new c.args.program.now.image c.in_ok-regions.regions.items c.in_ok-regions.ensures.items;
}

pub loop-handler-preserved : goal.loop-handler-preserved
loop-handler-preserved c = record {
  len = omega (arith, c.push_reserved.ensures.len, c.loop-handler.invariant.len);
  room = omega (arith, c.push_reserved.ensures.capacity, c.loop-handler.invariant.room);
  new = more_new c.args.program.now.image c.loop-handler.handler c.loop-handler.regions.items _ c.new.result c.loop-handler.invariant.new
      (omega (arith, c.loop-handler.regions.ok.0, c.loop-handler.invariant.len)) c.new.ensures c.push_reserved.ensures.items;
}
