use Rattle.std.proofs.Common.{◌≡◌, ◌++◌, map, take}
use Rattle.std.specs.List.{flat_map}
use Rattle.sc_tree.specs.View.{class_of}
use Rattle.sc_warnings.specs.Warnings.{warnings_of_class}
use Rattle.sc_warnings.specs.Views.{site_of}
use Rattle.sc_warnings.proofs.listing.add_classes.Given as goal

abbrev pub invariant-loop-class : goal.invariant-loop-class
invariant-loop-class l =
    l.warnings.items ≡ l.initial.warnings.items ++ flat_map (λ x. warnings_of_class (map site_of l.calls) (class_of x)) (take l.class-index l.classes)
