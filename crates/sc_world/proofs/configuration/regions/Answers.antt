use Rattle.std.proofs.Common.{sym, ◌∙◌, arith}
use Rattle.sc_world.proofs.Opening.{regions-more, regions-none}
use Rattle.sc_world.proofs.configuration.regions.Goals as goal

pub loop-handler-init : goal.loop-handler-init
loop-handler-init c = record {
  regions = c.in_ok-regions.ensures.items ∙ sym (regions-none c.args.program.now.image 0);
  count = omega (arith, c.in_ok-regions.ensures.len, c.in_ok-regions.regions.ok.0);
  room = omega (arith, c.in_ok-regions.ensures.capacity);
}

pub loop-handler-preserved : goal.loop-handler-preserved
loop-handler-preserved c = record {
  regions = regions-more c.args.program.now.image c.loop-handler.handler c.loop-handler.regions.items _ c.new.result c.loop-handler.invariant.regions c.new.ensures
      c.push_reserved.ensures.items;
  count = omega (arith, c.push_reserved.ensures.len, c.push_reserved.new.self.ok.0, c.loop-handler.regions.ok.0, c.loop-handler.invariant.count);
  room = omega (arith, c.push_reserved.ensures.capacity, c.loop-handler.invariant.room);
}
