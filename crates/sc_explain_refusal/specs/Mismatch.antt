-- Which types are reported as those that a rule has compared.
use Rattle.std.specs.Prelude.{◌≡◌, false}
use Rattle.sc_tree.specs.Plain.{System}
use Rattle.sc_rules.specs.entity_types.Conformance.{conforms}
use Rattle.sc_explain_refusal.specs.declared.types.Compared.{Compared}

-- What is given doesn't conform to what is taken.
abbrev pub IsMismatch : System → Compared → Type 0
IsMismatch s types = conforms s types.given types.taken ≡ false
