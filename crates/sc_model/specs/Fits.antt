-- Which values fit a type, seen from a frame of a handler.
use Rattle.std.specs.Prelude.{◌≡◌, ◌⊎◌, ℕ, true, false, List, Option, Some}
use Rattle.sc_tree.specs.Plain.{System}
use Rattle.sc_class.specs.declared.identity.ClassId.TheVariants as class
use Rattle.sc_class.specs.Tables.Conformance.{class_conforms, is_expanded}
use Rattle.sc_rules.specs.declared.entity_types.tag.Reserved.{Reserved}
use Rattle.sc_rules.specs.declared.entity_types.tag.Tag.{Tag}
use Rattle.sc_rules.specs.declared.entity_types.tag.Tag.TheVariants as tag
use Rattle.sc_rules.specs.declared.entity_types.entity_type.EntityType.{EntityType}
use Rattle.sc_rules.specs.Names.{is_local}
use Rattle.sc_model.specs.Values.{Value, Integer, Boolean, Void, Attached, Operand}
use Rattle.sc_model.specs.Environments.{Binding, handler_named}

-- An object of a type with this tag may lie on the last handler, seen from the first one, where names have these
-- handlers.
abbrev pub Lies : Tag → ℕ → (Reserved → Option ℕ) → ℕ → Type 0
Lies tag.Own me of k = k ≡ me
Lies tag.Any me of k = Unit {0}
Lies (tag.With x) me of k = of x ≡ Some k
Lies tag.None me of k = ⊥

-- Its class conforms, and an object lies where the tag says. INTEGERs and BOOLEANs lie everywhere.
abbrev pub Fits : System → ℕ → (Reserved → Option ℕ) → Value → EntityType → Type 0
Fits s me of (Integer z) t = class_conforms s class.Integer t.class ≡ true
Fits s me of (Boolean b) t = class_conforms s class.Boolean t.class ≡ true
Fits s me of Void t = (t.attached ≡ false) × (is_expanded t.class ≡ false)
Fits s me of (Attached r) t = (class_conforms s (class.Declared r.class) t.class ≡ true) × Lies t.tag me of r.handler

-- an entity of a reference type that is still Void
abbrev pub IsUnset : Value → EntityType → Type 0
IsUnset v t = (v ≡ Void) × (is_expanded t.class ≡ false)

-- what an attribute, a local or a Result holds
abbrev pub FitsOrUnset : System → ℕ → (Reserved → Option ℕ) → Value → EntityType → Type 0
FitsOrUnset s me of v t = Fits s me of v t ⊎ IsUnset v t

-- an entity of a frame with these
abbrev pub BindingFits : System → ℕ → List Binding → Binding → Type 0
BindingFits s me bs b =
    Fits s me (handler_named bs) b.value b.type ⊎ ((is_local b.role ≡ true) × IsUnset b.value b.type)

-- an operand of such a frame
abbrev pub OperandFits : System → ℕ → List Binding → Operand → Type 0
OperandFits s me bs u = Fits s me (handler_named bs) u.value u.type
