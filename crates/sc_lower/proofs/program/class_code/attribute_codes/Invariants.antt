use Rattle.std.proofs.Common.{◌≡◌, take, map}
use Rattle.sc_model.specs.Environments.{Binding}
use Rattle.sc_lower.specs.AttributeBindings.{binding_of}
use Rattle.sc_code.specs.Programs.{attribute_in}
use Rattle.sc_lower.proofs.program.class_code.attribute_codes.Given as goal

abbrev pub invariant-loop-attribute : goal.invariant-loop-attribute
invariant-loop-attribute l = map attribute_in l.codes.items ≡ map (λ (b : Binding). (b.value, b.type.attached)) (map binding_of (take l.attribute-index l.attributes))
