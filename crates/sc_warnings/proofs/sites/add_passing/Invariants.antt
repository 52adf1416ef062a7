use Rattle.std.proofs.Common.{◌≡◌, ◌++◌, drop, map}
use Rattle.sc_tree.specs.View.{exprs_of}
use Rattle.sc_warnings.specs.Sites.{sites_of_passing}
use Rattle.sc_warnings.specs.Views.{site_of}
use Rattle.sc_warnings.proofs.sites.add_passing.Given as goal

-- what is added, and the actuals that are left
abbrev pub invariant-loop-index : goal.invariant-loop-index
invariant-loop-index l =
    map site_of l.fn.sites.items ++ sites_of_passing (map (λ name. name.now) l.names) l.feature 0 (exprs_of l.actuals)
    ≡ map site_of l.sites.items ++ sites_of_passing (map (λ name. name.now) l.names) l.feature l.index (exprs_of (drop l.index l.actuals))
