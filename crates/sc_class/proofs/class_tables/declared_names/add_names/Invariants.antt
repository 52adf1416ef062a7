use Rattle.std.proofs.Common.{◌≡◌, ◌++◌, take, map}
use Rattle.sc_tree.specs.View.{name_of}
use Rattle.sc_class.proofs.class_tables.declared_names.add_names.Given as goal

abbrev pub invariant-loop-name : goal.invariant-loop-name
invariant-loop-name l = l.index ≡ l.initial.index ++ map name_of (take l.name-index l.names)
