use Rattle.std.proofs.Common.{◌≡◌, ◌++◌, ◌-◌}
use Rattle.sc_world.specs.Reports.{handlers_report, some_is_busy}
use Rattle.sc_world.specs.Views.{world_in}
use Rattle.sc_world.proofs.configuration.Configuration.report.Given as goal

-- those before are told, and whether one of them is busy
abbrev pub invariant-loop-handler : goal.invariant-loop-handler
invariant-loop-handler l = record {
  told : l.report.items ++ handlers_report ((world_in l.self).center.state.count - l.handler) (world_in l.self)
      ≡ handlers_report (world_in l.self).center.state.count (world_in l.self);
  busy : l.is_busy ≡ some_is_busy l.handler (world_in l.self);
}
