use Rattle.std.proofs.Common.{◌≡◌, ◌++◌, take, map}
use Rattle.sc_tree.specs.View.{name_of}
use Rattle.sc_class.proofs.class_tables.outline.Outline.add_redefined.Given as goal

abbrev pub invariant-loop-name : goal.invariant-loop-name
invariant-loop-name l = l.redefined ≡ l.initial.redefined ++ map name_of (take l.name-index l.names)
