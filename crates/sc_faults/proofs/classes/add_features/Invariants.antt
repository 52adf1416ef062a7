use Rattle.std.proofs.Common.{◌≡◌, ◌++◌, drop, map}
use Rattle.sc_tree.specs.View.{feature_of}
use Rattle.sc_class.specs.SystemIn.{system_in}
use Rattle.sc_typing.specs.Marks.{is_marked}
use Rattle.sc_faults.specs.Internal.Listing.{faults_of_features}
use Rattle.sc_faults.proofs.classes.add_features.Given as goal

abbrev pub invariant-loop-feature : goal.invariant-loop-feature
invariant-loop-feature l =
    l.fn.faults.items ++ faults_of_features (system_in l.class.tables.now) (is_marked l.class.purity.now) l.class.class (map feature_of l.features)
    ≡ l.faults.items
    ++ faults_of_features (system_in l.class.tables.now) (is_marked l.class.purity.now) l.class.class
    (map feature_of (drop l.feature-index l.features))
