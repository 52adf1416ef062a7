use Rattle.std.proofs.Common.{◌≡◌, ◌++◌, take, map}
use Rattle.sc_tree.specs.View.{feature_of}
use Rattle.sc_class.specs.Internal.Lines.{changes_of, known_by, said_of}
use Rattle.sc_class.proofs.class_tables.line.Line.add_features.Given as goal

abbrev pub invariant-loop-feature : goal.invariant-loop-feature
invariant-loop-feature l =
    changes_of l.changes.items ≡ changes_of l.initial.changes.items ++ said_of (λ x. known_by x l.self.known) (map (λ f. f.name) (map feature_of (take l.feature-index l.features)))
