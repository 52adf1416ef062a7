use Rattle.std.proofs.Common.{◌≡◌, ◌++◌, take, map}
use Rattle.sc_tree.specs.View.{feature_of}
use Rattle.sc_class.proofs.class_tables.declared_names.add_features.Given as goal

abbrev pub invariant-loop-feature : goal.invariant-loop-feature
invariant-loop-feature l = l.names ≡ l.initial.names ++ map (λ f. f.name) (map feature_of (take l.feature-index l.features))
