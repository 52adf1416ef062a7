use Rattle.std.proofs.Common.{◌≡◌, map, drop, ◌++◌}
use Rattle.sc_class.specs.View.{entry_of}
use Rattle.sc_class.specs.Tables.Features.{declared_in}
use Rattle.sc_tree.specs.View.{feature_of}
use Rattle.sc_lower.proofs.program.routines.add_features.Given as goal

-- the features so far, and those that are left, are all of them
abbrev pub invariant-loop-feature : goal.invariant-loop-feature
invariant-loop-feature l =
    map entry_of l.features.items ++ map (declared_in l.class) (map feature_of (drop l.feature-index l.declared)) ≡ map entry_of l.initial.features.items ++ map (declared_in l.class) (map feature_of l.declared)
