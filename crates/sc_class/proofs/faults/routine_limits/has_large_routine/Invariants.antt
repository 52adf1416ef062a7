use Rattle.std.proofs.Common.{◌≡◌, true}
use Rattle.std.specs.Prelude.{Any}
use Rattle.sc_tree.specs.Plain.{Class}
use Rattle.sc_tree.specs.View.{class_of}
use Rattle.sc_class.specs.Faults.Limits.{is_large}
use Rattle.sc_class.proofs.LimitLemmas.{AnyBelow}
use Rattle.sc_class.proofs.faults.routine_limits.has_large_routine.Given as goal

abbrev pub invariant-loop-class : goal.invariant-loop-class
invariant-loop-class l = AnyBelow (λ (c : Class). Any (λ f. is_large f.kind ≡ true) c.features) class_of l.classes l.class-index → ⊥
