use Rattle.std.proofs.Common.{◌≡◌, ◌++◌, map, take}
use Rattle.std.specs.List.{flat_map}
use Rattle.sc_tree.specs.View.{parent_of}
use Rattle.sc_class.specs.SystemIn.{system_in}
use Rattle.sc_symbols.specs.Mentions.{mentions_in_parent}
use Rattle.sc_symbols.proofs.classes.add_parents.Given as goal

abbrev pub invariant-loop-parent : goal.invariant-loop-parent
invariant-loop-parent l =
    l.mentions.items ≡ l.initial.mentions.items ++ flat_map (λ x. mentions_in_parent (system_in l.tables) (parent_of x)) (take l.parent-index l.parents)
