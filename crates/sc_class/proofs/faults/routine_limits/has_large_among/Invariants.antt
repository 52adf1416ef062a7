use Rattle.std.proofs.Common.{◌≡◌, true}
use Rattle.sc_tree.specs.Plain.{Feature}
use Rattle.sc_tree.specs.View.{feature_of}
use Rattle.sc_class.specs.Faults.Limits.{is_large}
use Rattle.sc_class.proofs.LimitLemmas.{AnyBelow}
use Rattle.sc_class.proofs.faults.routine_limits.has_large_among.Given as goal

abbrev pub invariant-loop-feature : goal.invariant-loop-feature
invariant-loop-feature l = AnyBelow (λ (f : Feature). is_large f.kind ≡ true) feature_of l.features l.feature-index → ⊥
