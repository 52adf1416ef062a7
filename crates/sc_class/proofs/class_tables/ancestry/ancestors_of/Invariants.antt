use Rattle.std.proofs.Common.{◌≡◌, ◌++◌, ◌-◌}
use Rattle.sc_tree.specs.View.{system_of}
use Rattle.sc_class.specs.Tables.Ancestors.{ancestors_within, ancestors_from}
use Rattle.sc_class.proofs.class_tables.ancestry.ancestors_of.Given as goal

abbrev pub invariant-loop-done : goal.invariant-loop-done
invariant-loop-done l = l.ancestors.items ++ ancestors_from (l.count - l._done) (system_of l.hierarchy.system.now) l.next ≡ ancestors_within l.count (system_of l.hierarchy.system.now) l.number
