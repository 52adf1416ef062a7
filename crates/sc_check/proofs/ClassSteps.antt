-- What follows of judging the classes of a system from what is ensured of each.
use Rattle.std.proofs.Common.{◌≡◌, ℕ, ◌+◌, ◌<◌, ◌≤◌, Bool, List, length, drop, get_or, map, Ok, ap, ◌∙◌}
use Rattle.sc_tree.specs.declared.system.Class as tree
use Rattle.sc_tree.specs.Plain.{System}
use Rattle.sc_tree.specs.View.{class_of}
use Rattle.sc_class.proofs.Anys.{at, drop_end}
use Rattle.sc_rules.specs.Names.{RoutineName}
use Rattle.sc_rules.specs.Judging.{Judged, ◌>>=◌}
use Rattle.sc_rules.specs.JudgingSystem.{judge_class, judge_classes}
use Rattle.sc_typing.specs.declared.fault.CheckFault.{CheckFault}
use Rattle.sc_typing.specs.Judges.{Faults}
use Rattle.sc_typing.proofs.Steps.{faults_along, faults_first}

module _ (s : System) (pure : RoutineName → Bool) (cs : List tree.Class) (k : ℕ) (c : tree.Class) (total : Judged (Unit {0}))
    (l : k < length cs) (g : c ≡ get_or cs k c) (inv : total ≡ judge_classes s pure k (map class_of (drop k cs))) where
  -- behind the class
  abbrev behind : Judged (Unit {0})
  behind = judge_classes s pure (k + 1) (map class_of (drop (k + 1) cs))

  at_class : total ≡ judge_class s pure k (class_of c) >>= λ u. behind
  at_class = inv ∙ ap (λ (cs : List tree.Class). judge_classes s pure k (map class_of cs)) (at cs k c l g)

  pub class_fails : (e : CheckFault) → Faults (judge_class s pure k (class_of c)) e → Faults total e
  class_fails e f =
      faults_along total (judge_class s pure k (class_of c) >>= λ u. behind) e at_class (faults_first (judge_class s pure k (class_of c)) (λ u. behind) e f)

  pub class_passes : judge_class s pure k (class_of c) ≡ Ok tt → total ≡ judge_classes s pure (k + 1) (map class_of (drop (k + 1) cs))
  class_passes f = at_class ∙ ap (λ j. j >>= λ u. behind) f

pub classes_pass : (s : System) (pure : RoutineName → Bool) (cs : List tree.Class) (k : ℕ) (total : Judged (Unit {0})) →
    total ≡ judge_classes s pure k (map class_of (drop k cs)) → length cs ≤ k → total ≡ Ok tt
classes_pass s pure cs k total inv l = inv ∙ ap (λ (cs : List tree.Class). judge_classes s pure k (map class_of cs)) (drop_end cs k l)
