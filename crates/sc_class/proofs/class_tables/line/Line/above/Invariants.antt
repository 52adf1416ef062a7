use Rattle.std.proofs.Common.{◌+◌, ◌-◌, drop}
use Rattle.sc_tree.specs.View.{system_of}
use Rattle.sc_class.specs.Internal.Lines.{KnowsAlong}
use Rattle.sc_class.proofs.class_tables.line.Line.above.Given as goal

abbrev pub invariant-loop-done : goal.invariant-loop-done
invariant-loop-done l = KnowsAlong (system_of l.outline.hierarchy.system.now) (drop (l.last - l.done + 1) l.ancestors.items) l.line
