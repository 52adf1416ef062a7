use Rattle.std.proofs.Common.{◌≡◌, ◌++◌, drop, map}
use Rattle.sc_tree.specs.View.{class_of}
use Rattle.sc_class.specs.SystemIn.{system_in}
use Rattle.sc_symbols.specs.Internal.{judged}
use Rattle.sc_symbols.specs.Mentions.{mentions_in_classes, mentions_in_system}
use Rattle.sc_symbols.proofs.classes.add_classes.Given as goal

abbrev pub invariant-loop-number : goal.invariant-loop-number
invariant-loop-number l =
    l.fn.mentions.items ++ mentions_in_system judged (system_in l.tables)
    ≡ l.mentions.items ++ mentions_in_classes judged (system_in l.tables) l.number (map class_of (drop l.number l.classes))
