use Rattle.std.proofs.Common.{◌≡◌, ◌++◌, map, take}
use Rattle.std.specs.List.{flat_map}
use Rattle.sc_tree.specs.View.{kind_of}
use Rattle.sc_warnings.specs.Warnings.{sites_of_kind}
use Rattle.sc_warnings.specs.Views.{site_of}
use Rattle.sc_warnings.proofs.routines.add_class.Given as goal

abbrev pub invariant-loop-feature : goal.invariant-loop-feature
invariant-loop-feature l = map site_of l.sites.items ≡ map site_of l.initial.sites.items ++ flat_map (λ x. sites_of_kind (kind_of x.kind)) (take l.feature-index l.class.features.items)
