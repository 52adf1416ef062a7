use Rattle.std.proofs.Common.{◌≡◌, ◌++◌, map, take}
use Rattle.std.specs.List.{flat_map}
use Rattle.sc_tree.specs.View.{expr_of}
use Rattle.sc_warnings.specs.Sites.{sites_of}
use Rattle.sc_warnings.specs.Views.{site_of}
use Rattle.sc_warnings.proofs.sites.+expressions.Given as goal

abbrev pub invariant-add_each-loop-actual : goal.invariant-add_each-loop-actual
invariant-add_each-loop-actual l =
    map site_of l.sites.items
    ≡ map site_of l.fn.sites.items ++ flat_map (λ e. sites_of (map (λ name. name.now) l.names) (expr_of e)) (take l.actual-index l.actuals)
