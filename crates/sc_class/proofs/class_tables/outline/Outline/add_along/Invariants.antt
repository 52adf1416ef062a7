use Rattle.std.proofs.Common.{◌≡◌, ◌++◌, drop, map}
use Rattle.sc_tree.specs.View.{system_of}
use Rattle.sc_class.specs.View.{entry_of}
use Rattle.sc_class.specs.Tables.Features.{features_along, not_redefined}
use Rattle.sc_class.proofs.class_tables.outline.Outline.add_along.Given as goal

abbrev pub invariant-loop-class : goal.invariant-loop-class
invariant-loop-class l =
    map entry_of l.features.items ++ not_redefined l.redefined (features_along (system_of l.self.hierarchy.system.now) (drop l.class-index l.ancestors))
    ≡ map entry_of l.initial.features.items ++ not_redefined l.initial.redefined (features_along (system_of l.self.hierarchy.system.now) l.ancestors)
