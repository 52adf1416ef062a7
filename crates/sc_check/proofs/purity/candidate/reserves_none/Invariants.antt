use Rattle.std.proofs.Common.{◌≡◌, map, drop}
use Rattle.std.specs.Prelude.{not}
use Rattle.std.specs.List.{list_all}
use Rattle.sc_tree.specs.View.{declaration_of}
use Rattle.sc_rules.specs.Purity.{reserves}
use Rattle.sc_check.proofs.purity.candidate.reserves_none.Given as goal

abbrev pub invariant-loop-formal : goal.invariant-loop-formal
invariant-loop-formal l =
    list_all (λ d. not (reserves d)) (map declaration_of (drop l.formal-index l.formals)) ≡ list_all (λ d. not (reserves d)) (map declaration_of l.formals)
