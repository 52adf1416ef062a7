use Rattle.sc_tree.specs.View.{system_of}
use Rattle.sc_class.specs.Internal.Lines.{Stands}
use Rattle.sc_class.proofs.class_tables.line.Line.return_to.Given as goal

abbrev pub invariant-loop-level : goal.invariant-loop-level
invariant-loop-level l = Stands (system_of l.hierarchy.system.now) l.self
