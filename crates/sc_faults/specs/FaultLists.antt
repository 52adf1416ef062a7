-- What the list of a system's faults says of it.
use Rattle.std.specs.Prelude.{◌≡◌, Bool, true, false, ◌&&◌, List, [], ◌∷◌, Err, Any, All, bytes_eq}
use Rattle.sc_text.specs.declared.token.Span.{Span}
use Rattle.sc_tree.specs.Plain.{System}
use Rattle.sc_rules.specs.declared.rule.Rule.{Rule}
use Rattle.sc_rules.specs.declared.fault.Fault.{Fault}
use Rattle.sc_rules.specs.Names.{RoutineName}
use Rattle.sc_rules.specs.Purity.{IsPurity}
use Rattle.sc_rules.specs.SystemRules.{SystemFails}
use Rattle.sc_rules.specs.RuleText.{code_of}
use Rattle.sc_rules.specs.JudgingSystem.{is_same_span, judge_system}

-- they are of the same rule, at the same place
abbrev pub is_same_fault : Fault → Fault → Bool
is_same_fault f g = is_same_span f.span g.span && bytes_eq (code_of f.rule) (code_of g.rule)

abbrev pub begins_with : Fault → List Fault → Bool
begins_with f [] = false
begins_with f (g ∷ gs) = is_same_fault f g

-- The places of the faults are exactly those at which a rule of the system fails: the rule of each fault fails at its
-- place, and each place at which some rule fails is that of one of the faults. And they begin with the first fault of
-- the walk, if there is one.
pub record IsFaultList (s : System) (faults : List Fault) : Type 0 where
  pub pure : RoutineName → Bool
  pub separates : IsPurity s pure
  pub each_fails : All (λ (f : Fault). SystemFails s f.rule f.span) faults
  pub each_place : (r : Rule) (p : Span) → SystemFails s r p → Any (λ (f : Fault). f.span ≡ p) faults
  pub first : (f : Fault) → judge_system s pure ≡ Err f → begins_with f faults ≡ true
