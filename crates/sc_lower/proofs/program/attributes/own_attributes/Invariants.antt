use Rattle.std.proofs.Common.{◌≡◌, map}
use Rattle.std.specs.declared.alloc.Global.{Global}
use Rattle.std.specs.declared.vec.Vec.{Vec}
use Rattle.std.specs.List.{range_with_len}
use Rattle.sc_class.specs.SystemIn.{system_in}
use Rattle.sc_lower.specs.declared.program.attributes.Attribute.{Attribute}
use Rattle.sc_lower.specs.AttributeBindings.{binding_of, own_attributes}
use Rattle.sc_lower.proofs.program.attributes.own_attributes.Given as goal

abbrev pub invariant-loop-class : goal.invariant-loop-class
invariant-loop-class l = map (λ (attributes : Vec Attribute Global). map binding_of attributes.items) l.own.items ≡ map (own_attributes (system_in l.tables)) (range_with_len 0 l.class)
