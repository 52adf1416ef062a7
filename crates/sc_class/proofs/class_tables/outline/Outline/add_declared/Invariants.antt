use Rattle.std.proofs.Common.{◌≡◌, ◌++◌, drop, map}
use Rattle.sc_tree.specs.View.{feature_of}
use Rattle.sc_class.specs.View.{entry_of}
use Rattle.sc_class.specs.Tables.Features.{declared_in, not_redefined}
use Rattle.sc_class.proofs.class_tables.outline.Outline.add_declared.Given as goal

abbrev pub invariant-loop-feature : goal.invariant-loop-feature
invariant-loop-feature l =
    map entry_of l.features.items ++ not_redefined l.redefined (map (declared_in l.class) (map feature_of (drop l.feature-index l.feature-items)))
    ≡ map entry_of l.initial.features.items ++ not_redefined l.redefined (map (declared_in l.class) (map feature_of l.feature-items))
