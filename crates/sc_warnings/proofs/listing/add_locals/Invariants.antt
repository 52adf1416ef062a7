use Rattle.std.proofs.Common.{◌≡◌, ◌++◌, map, take}
use Rattle.std.specs.List.{flat_map}
use Rattle.sc_tree.specs.View.{declaration_of}
use Rattle.sc_warnings.specs.Warnings.{warnings_of_local}
use Rattle.sc_warnings.specs.Views.{site_of}
use Rattle.sc_warnings.proofs.listing.add_locals.Given as goal

abbrev pub invariant-loop-local : goal.invariant-loop-local
invariant-loop-local l =
    l.warnings.items ≡ l.initial.warnings.items ++ flat_map (λ x. warnings_of_local (map site_of l.body) (declaration_of x)) (take l.local-index l.locals)
