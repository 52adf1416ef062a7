use Rattle.std.proofs.Common.{◌-◌, arith}
use Rattle.sc_plant.proofs.Locks.{last_fits, rest_fit}
use Rattle.sc_plant.proofs.sharing.slots_of.Goals as goal

pub new-requires : goal.new-requires
new-requires g c =
    last_fits g.P.OfProgram.image c.pop.new.self.items c.loop-region.regions.items c.in-Some.region c.pop-in-Some.new.self.items c.loop-region.logs.items
    c.in-Some-pop.log c.in-Some.ensures.items c.in-Some-pop.ensures.items c.loop-region.invariant.fit (c.loop-region.handler - 1)
    (omega (arith, c.in-Some.ensures.len, c.pop.new.self.ok.0, c.loop-region.invariant.regions))
    (omega (arith, c.in-Some-pop.ensures.len, c.pop-in-Some.new.self.ok.0, c.loop-region.invariant.logs))

pub loop-region-preserved : goal.loop-region-preserved
loop-region-preserved g c = record {
  regions = omega (arith, c.in-Some.ensures.len, c.loop-region.invariant.regions);
  logs = omega (arith, c.in-Some-pop.ensures.len, c.loop-region.invariant.logs);
  slots = omega (arith, c.push_reserved.ensures.len, c.in-Some.ensures.len, c.loop-region.invariant.regions, c.loop-region.invariant.slots);
  room = omega (arith, c.push_reserved.ensures.capacity, c.loop-region.invariant.room);
  fit = rest_fit g.P.OfProgram.image c.pop.new.self.items c.loop-region.regions.items c.in-Some.region c.pop-in-Some.new.self.items c.loop-region.logs.items
      c.in-Some-pop.log c.in-Some.ensures.items c.in-Some-pop.ensures.items c.loop-region.invariant.fit;
}
