use Rattle.std.proofs.Common.{◌≡◌, drop, map}
use Rattle.std.specs.List.{list_any}
use Rattle.sc_tree.specs.View.{declaration_of}
use Rattle.sc_warnings.specs.Views.{site_of}
use Rattle.sc_warnings.specs.Warnings.{is_asked}
use Rattle.sc_warnings.proofs.waiting.asks_some.Given as goal

abbrev pub invariant-loop-formal : goal.invariant-loop-formal
invariant-loop-formal l =
    list_any (is_asked (map site_of l.clause)) (map declaration_of (drop l.formal-index l.formals)) ≡ list_any (is_asked (map site_of l.clause)) (map declaration_of l.formals)
