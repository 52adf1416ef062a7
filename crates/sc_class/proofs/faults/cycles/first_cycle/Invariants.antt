use Rattle.std.proofs.Common.{◌<◌, ℕ}
use Rattle.sc_tree.specs.View.{system_of}
use Rattle.sc_class.specs.Tables.Ancestors.{IsCyclic}
use Rattle.sc_class.proofs.faults.cycles.first_cycle.Given as goal

abbrev pub invariant-loop-number : goal.invariant-loop-number
invariant-loop-number l = (k : ℕ) → k < l.number → IsCyclic (system_of l.hierarchy.system.now) k → ⊥
