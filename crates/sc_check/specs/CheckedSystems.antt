-- What is known of a checked system.
use Rattle.std.specs.Prelude.{◌≡◌, ℕ, Bool, Some, slice_get}
use Rattle.sc_text.specs.declared.token.Span.{Span}
use Rattle.sc_tree.specs.Plain.{System, Class}
use Rattle.sc_rules.specs.declared.rule.Rule.{Rule}
use Rattle.sc_rules.specs.Names.{RoutineName}
use Rattle.sc_rules.specs.Purity.{IsPurity}
use Rattle.sc_rules.specs.SystemRules.{ClassFails}

-- No rule fails in the text of any class, where the test says which functions contracts and `check` may call.
abbrev pub NoRuleFails : System → (RoutineName → Bool) → Type 0
NoRuleFails s pure =
    (k : ℕ) (c : Class) (r : Rule) (p : Span) → slice_get s.classes k ≡ Some c → ClassFails s pure k c r p → ⊥

-- A test separates the pure functions of the system from its other features, and no rule fails with this test.
pub record IsChecked (s : System) : Type 0 where
  pub pure : RoutineName → Bool
  pub tells : IsPurity s pure
  pub no_rule_fails : NoRuleFails s pure
