use Rattle.std.proofs.Common.{◌≡◌, map, drop, ◌++◌}
use Rattle.sc_tree.specs.View.{class_of}
use Rattle.sc_class.specs.SystemIn.{system_in}
use Rattle.sc_class.specs.View.{entry_of}
use Rattle.sc_typing.specs.FeatureNumbers.{all_features, features_from}
use Rattle.sc_lower.proofs.program.routines.features_in_order.Given as goal

-- the features of the classes so far, and of those that are left, are all of them
abbrev pub invariant-loop-class : goal.invariant-loop-class
invariant-loop-class l = map entry_of l.features.items ++ features_from l.class (map class_of (drop l.class l.classes)) ≡ all_features (system_in l.tables)
