use Rattle.std.proofs.Common.{◌≡◌, ◌++◌, ◌-◌, drop}
use Rattle.std.specs.Vec.Iter.{into_iter_items}
use Rattle.sc_world.specs.Reports.{handlers_report, some_is_busy}
use Rattle.sc_plant.specs.Left.{world_of}
use Rattle.sc_plant.proofs.left.Left.into_report.Given as goal

-- those before are told, whether one of them is busy, and the regions of the others are left
abbrev pub invariant-loop-handler : goal.invariant-loop-handler
invariant-loop-handler l = record {
  told : l.report.items ++ handlers_report ((world_of l.fn.self).center.state.count - l.handler) (world_of l.fn.self)
      ≡ handlers_report (world_of l.fn.self).center.state.count (world_of l.fn.self);
  busy : l.ends_busy ≡ some_is_busy l.handler (world_of l.fn.self);
  rest : into_iter_items l.regions ≡ drop l.handler l.fn.self.regions.items;
}
