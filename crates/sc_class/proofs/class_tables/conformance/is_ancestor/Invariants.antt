use Rattle.std.proofs.Common.{◌≡◌, ◌-◌, ◌==◌}
use Rattle.std.specs.List.{list_any}
use Rattle.sc_tree.specs.View.{system_of}
use Rattle.sc_class.specs.Tables.Conformance.{is_ancestor}
use Rattle.sc_class.specs.Tables.Ancestors.{ancestors_from}
use Rattle.sc_class.proofs.class_tables.conformance.is_ancestor.Given as goal

abbrev pub invariant-loop-done : goal.invariant-loop-done
invariant-loop-done l = list_any (λ i. i == l.ancestor) (ancestors_from (l.count - l._done) (system_of l.hierarchy.system.now) l.next) ≡ is_ancestor (system_of l.hierarchy.system.now) l.class l.ancestor
