use Rattle.std.proofs.Common.{◌≡◌, ◌-◌, drop, map}
use Rattle.sc_tree.specs.View.{clause_of, system_of}
use Rattle.sc_class.specs.Tables.Features.{invariant_along}
use Rattle.sc_class.proofs.class_tables.Tables.invariant_of.Given as goal

abbrev pub invariant-loop-done : goal.invariant-loop-done
invariant-loop-done l = map (λ c. clause_of c.now) l.clauses.items ≡ invariant_along (system_of l.self.outline.hierarchy.system.now) (drop (l.count - l.done) l.ancestors)
