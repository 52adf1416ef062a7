use Rattle.std.proofs.Common.{◌≡◌, take, map}
use Rattle.sc_tree.specs.View.{system_of}
use Rattle.sc_class.specs.Internal.Lines.{changes_of, said_below}
use Rattle.sc_class.proofs.class_tables.line.changes_in.Given as goal

abbrev pub invariant-loop-change : goal.invariant-loop-change
invariant-loop-change l = changes_of l.changes.items ≡ map (said_below (system_of l.outline.hierarchy.system.now) l.class) (changes_of (take l.change-index l.above))
