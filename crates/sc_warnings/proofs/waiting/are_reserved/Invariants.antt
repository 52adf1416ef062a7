use Rattle.std.proofs.Common.{◌≡◌, drop, map}
use Rattle.sc_tree.specs.View.{declaration_of}
use Rattle.sc_warnings.specs.Views.{site_of}
use Rattle.sc_warnings.specs.Warnings.{are_reserved}
use Rattle.sc_warnings.proofs.waiting.are_reserved.Given as goal

abbrev pub invariant-loop-index : goal.invariant-loop-index
invariant-loop-index l =
    are_reserved (map site_of l.calls) l.feature l.index (map declaration_of (drop l.index l.formals)) (map site_of l.clause)
    ≡ are_reserved (map site_of l.calls) l.feature 0 (map declaration_of l.formals) (map site_of l.clause)
