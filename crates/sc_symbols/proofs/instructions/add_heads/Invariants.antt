use Rattle.std.proofs.Common.{◌≡◌, ◌++◌, drop, map}
use Rattle.sc_tree.specs.View.{head_of}
use Rattle.sc_typing.specs.Views.{routine_in}
use Rattle.sc_symbols.specs.Internal.{judged, scope_of}
use Rattle.sc_symbols.specs.Mentions.{mentions_in_heads}
use Rattle.sc_symbols.specs.Scopes.{scope_reserved}
use Rattle.sc_symbols.proofs.instructions.add_heads.Given as goal

-- what is added and known, and the heads that are left
abbrev pub invariant-loop-head : goal.invariant-loop-head
invariant-loop-head l =
    (l.fn.mentions.items ++ mentions_in_heads judged (routine_in l.routine) (scope_of l.scope) (scope_of l.fn.known) (map head_of l.heads)
    ≡ l.mentions.items ++ mentions_in_heads judged (routine_in l.routine) (scope_of l.scope) (scope_of l.known) (map head_of (drop l.head-index l.heads)))
    × (scope_reserved judged (routine_in l.routine) (scope_of l.scope) (scope_of l.fn.known) (map head_of l.heads)
    ≡ scope_reserved judged (routine_in l.routine) (scope_of l.scope) (scope_of l.known) (map head_of (drop l.head-index l.heads)))
