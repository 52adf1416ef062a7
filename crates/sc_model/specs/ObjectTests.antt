-- Object tests (ECMA-367, 8.24): what they ask of a value, and the name that they bind.
use Rattle.std.specs.Prelude.{ℕ, Bool, true, false, ◌&&◌, ◌==◌, List, [], ◌∷◌, ◌++◌, Option, Some, None}
use Rattle.sc_tree.specs.Plain.{System, DeclaredType}
use Rattle.sc_class.specs.declared.identity.ClassId.TheVariants as class
use Rattle.sc_class.specs.Tables.Conformance.{class_conforms}
use Rattle.sc_rules.specs.declared.entity_types.tag.Tag.{Tag}
use Rattle.sc_rules.specs.declared.entity_types.tag.Tag.TheVariants as tag
use Rattle.sc_rules.specs.declared.entity_types.tag.Reserved.{Reserved}
use Rattle.sc_rules.specs.declared.entity_types.entity_type.EntityType.{EntityType}
use Rattle.sc_rules.specs.declared.position.Role.TheVariants as role
use Rattle.sc_model.specs.Values.{Value, Integer, Boolean, Void, Attached}
use Rattle.sc_model.specs.Environments.{bind, handler_named}
use Rattle.sc_model.specs.Steps.{Point, Step, stuck, gives_boolean}

abbrev pub is_number : Option ℕ → ℕ → Bool
is_number None k = false
is_number (Some j) k = k == j

-- The tag speaks of the handler of the last number, seen from the first one, where names have these handlers.
abbrev pub lies : Tag → ℕ → (Reserved → Option ℕ) → ℕ → Bool
lies tag.Own me of k = k == me
lies tag.Any me of k = true
lies tag.None me of k = false
lies (tag.With x) me of k = is_number (of x) k

-- the value is one of the type, made attached
abbrev pub is_of_type : System → ℕ → (Reserved → Option ℕ) → Value → EntityType → Bool
is_of_type s me of (Integer z) t = class_conforms s class.Integer t.class
is_of_type s me of (Boolean b) t = class_conforms s class.Boolean t.class
is_of_type s me of Void t = false
is_of_type s me of (Attached r) t = class_conforms s (class.Declared r.class) t.class && lies t.tag me of r.handler

abbrev pub is_attached : Value → Bool
is_attached Void = false
is_attached other = true

-- without a type the test asks for an object alone
abbrev pub is_tested : System → ℕ → (Reserved → Option ℕ) → Value → Option DeclaredType → EntityType → Bool
is_tested s me of v None t = is_attached v
is_tested s me of v (Some d) t = is_of_type s me of v t

-- if it is true, the name is in scope from now on
abbrev pub binds_if : Bool → List ℕ → Value → EntityType → Point → Step
binds_if true x v t p = gives_boolean true (record p { environment = p.environment ++ bind x t role.Test v ∷ [] })
binds_if false x v t p = gives_boolean false p

abbrev pub binds : System → ℕ → Option DeclaredType → List ℕ → Value → Option EntityType → Point → Step
binds s me d x v None p = stuck p
binds s me d x v (Some t) p = binds_if (is_tested s me (handler_named p.environment) v d t) x v t p
