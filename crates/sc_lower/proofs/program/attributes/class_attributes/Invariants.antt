use Rattle.std.proofs.Common.{◌≡◌, map, take}
use Rattle.std.specs.List.{flat_map}
use Rattle.sc_class.specs.SystemIn.{system_in}
use Rattle.sc_lower.specs.AttributeBindings.{binding_of, own_attributes}
use Rattle.sc_lower.proofs.program.attributes.class_attributes.Given as goal

abbrev pub invariant-loop-ancestor : goal.invariant-loop-ancestor
invariant-loop-ancestor l = map binding_of l.attributes.items ≡ flat_map (own_attributes (system_in l.tables)) (take l.ancestor-index l.ancestor-items)
