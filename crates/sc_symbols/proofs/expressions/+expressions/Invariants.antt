use Rattle.std.proofs.Common.{◌≡◌, ◌++◌, take}
use Rattle.std.specs.List.{flat_map}
use Rattle.sc_tree.specs.View.{expr_of}
use Rattle.sc_typing.specs.Views.{routine_in}
use Rattle.sc_symbols.specs.Internal.{judged, scope_of}
use Rattle.sc_symbols.specs.Mentions.{mentions_in}
use Rattle.sc_symbols.proofs.expressions.+expressions.Given as goal

abbrev pub invariant-add_actuals-loop-actual : goal.invariant-add_actuals-loop-actual
invariant-add_actuals-loop-actual l =
    l.mentions.items
    ≡ l.fn.mentions.items ++ flat_map (λ e. mentions_in judged (routine_in l.routine) l.context (scope_of l.scope) (expr_of e)) (take l.actual-index l.actuals)
