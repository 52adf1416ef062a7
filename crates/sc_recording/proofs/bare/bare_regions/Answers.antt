use Rattle.std.proofs.Common.{arith}
use Rattle.sc_recording.proofs.Bared.{bare_more}
use Rattle.sc_recording.proofs.bare.bare_regions.Goals as goal

pub loop-region-preserved : goal.loop-region-preserved
loop-region-preserved c = record {
  room = omega (arith, c.push_reserved.ensures.len, c.push_reserved.ensures.capacity, c.in-Some.ensures.len, c.loop-region.invariant.room);
  bared = bare_more c.args.logged.items _ c.loop-region.logged.items c.in-Some.region c.loop-region.regions.items _ c.into_region.result c.loop-region.invariant.bared
      c.in-Some.ensures.items c.into_region.ensures c.push_reserved.ensures.items;
}
