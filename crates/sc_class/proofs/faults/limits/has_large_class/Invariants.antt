use Rattle.std.proofs.Common.{◌≡◌, ◌<◌, ℕ, false}
use Rattle.sc_tree.specs.View.{system_of}
use Rattle.sc_class.specs.Faults.Limits.{has_many_features}
use Rattle.sc_class.proofs.faults.limits.has_large_class.Given as goal

abbrev pub invariant-loop-number : goal.invariant-loop-number
invariant-loop-number l = (k : ℕ) → k < l.number → has_many_features (system_of l.outline.hierarchy.system.now) k ≡ false
