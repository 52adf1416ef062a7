use Rattle.std.proofs.Common.{◌≡◌, map, take}
use Rattle.std.specs.List.{flat_map}
use Rattle.sc_tree.specs.View.{class_of}
use Rattle.sc_warnings.specs.Warnings.{sites_of_class}
use Rattle.sc_warnings.specs.Views.{site_of}
use Rattle.sc_warnings.proofs.routines.sites_of_system.Given as goal

abbrev pub invariant-loop-class : goal.invariant-loop-class
invariant-loop-class l = map site_of l.sites.items ≡ flat_map (λ x. sites_of_class (class_of x)) (take l.class-index l.system.classes.items)
