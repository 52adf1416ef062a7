-- Attributes of a class that is lowered, as the machine has them.
use Rattle.std.specs.Prelude.{◌≡◌, ℕ, Bool, List, bytes_eq, length, map}
use Rattle.std.specs.declared.alloc.Global.{Global}
use Rattle.std.specs.declared.vec.Vec.{Vec}
use Rattle.std.specs.List.{range_with_len}
use Rattle.sc_tree.specs.Plain.{System}
use Rattle.sc_class.specs.Tables.Features.{declared_features}
use Rattle.sc_rules.specs.declared.position.Role.TheVariants as role
use Rattle.sc_model.specs.Values.{default_of}
use Rattle.sc_model.specs.Environments.{Binding, bind}
use Rattle.sc_model.specs.Objects.{fresh_attributes}
use Rattle.sc_lower.specs.declared.program.attributes.Attribute.{Attribute}

-- the attribute in a new object
abbrev pub binding_of : Attribute → Binding
binding_of a = bind a.name.now a.entity_type role.Local (default_of a.entity_type.class)

abbrev pub is_named : List ℕ → Attribute → Bool
is_named name a = bytes_eq a.name.now name

-- the attributes that the class at the number declares itself
abbrev pub own_attributes : System → ℕ → List Binding
own_attributes s k = fresh_attributes s (declared_features s k)

-- The classes of the system declare these attributes themselves, by number.
abbrev pub AreOwnAttributes : System → List (Vec Attribute Global) → Type 0
AreOwnAttributes s own = map (λ (attributes : Vec Attribute Global). map binding_of attributes.items) own ≡ map (own_attributes s) (range_with_len 0 (length s.classes))
