use Rattle.std.proofs.Common.{◌≡◌, ◌++◌, take, map}
use Rattle.sc_tree.specs.View.{name_of}
use Rattle.sc_class.specs.Internal.Lines.{changes_of, known_by, said_of}
use Rattle.sc_class.proofs.class_tables.line.Line.add_names.Given as goal

abbrev pub invariant-loop-name : goal.invariant-loop-name
invariant-loop-name l =
    changes_of l.changes.items ≡ changes_of l.initial.changes.items ++ said_of (λ x. known_by x l.self.known) (map name_of (take l.name-index l.names))
