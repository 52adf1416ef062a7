use Rattle.std.proofs.Common.{◌≡◌, ◌++◌, take}
use Rattle.std.specs.List.{flat_map}
use Rattle.sc_warnings.specs.Views.{site_of}
use Rattle.sc_warnings.specs.Warnings.{warnings_at}
use Rattle.sc_warnings.proofs.conditions.add_conditions.Given as goal

abbrev pub invariant-loop-site : goal.invariant-loop-site
invariant-loop-site l =
    l.warnings.items ≡ l.initial.warnings.items ++ flat_map (λ x. warnings_at (site_of x)) (take l.site-index l.sites)
