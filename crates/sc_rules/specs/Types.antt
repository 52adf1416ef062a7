-- Types as they are declared (ECMA-367, 8.11; the tags after Nienaltowski's thesis), and the types that operators take
-- (8.28).
use Rattle.std.specs.Prelude.{◌≡◌, ◌+◌, ℕ, Bool, true, false, not, ◌&&◌, ◌||◌, if◌then◌else◌, List, [], ◌∷◌, Option, Some, None, bytes_eq}
use Rattle.std.specs.Option.{option_map}
use Rattle.sc_text.specs.declared.token.Span.{Span}
use Rattle.sc_tree.specs.declared.expression.UnaryOperator.{UnaryOperator}
use Rattle.sc_tree.specs.declared.expression.UnaryOperator.TheVariants as unary
use Rattle.sc_tree.specs.declared.expression.BinaryOperator.{BinaryOperator}
use Rattle.sc_tree.specs.declared.expression.BinaryOperator.TheVariants as binary
use Rattle.sc_tree.specs.Plain.{System, Declaration, DeclaredType, HandlerTag, Own, Separate, HandlerOf}
use Rattle.sc_class.specs.declared.identity.ClassId.{ClassId}
use Rattle.sc_class.specs.declared.identity.ClassId.TheVariants as class
use Rattle.sc_class.specs.Tables.Conformance.{is_expanded, type_class}
use Rattle.sc_rules.specs.declared.entity_types.tag.Reserved.TheVariants.{Formal}
use Rattle.sc_rules.specs.declared.entity_types.tag.Tag.{Tag}
use Rattle.sc_rules.specs.declared.entity_types.tag.Tag.TheVariants as tag
use Rattle.sc_rules.specs.declared.entity_types.entity_type.EntityType.{EntityType}
use Rattle.sc_rules.specs.entity_types.Conformance.{integer, boolean}
use Rattle.sc_rules.specs.declared.rule.Rule.{Rule}
use Rattle.sc_rules.specs.declared.rule.Rule.TheVariants.{UnknownName, TagName}

-- ---- declared types

abbrev pub is_separate : HandlerTag → Bool
is_separate Separate = true
is_separate Own = false
is_separate (HandlerOf x) = false

abbrev pub is_own : HandlerTag → Bool
is_own Own = true
is_own Separate = false
is_own (HandlerOf x) = false

-- an attached formal that is declared `separate`: a tag may name it
abbrev pub is_nameable : Declaration → Bool
is_nameable d = not d.declared_type.is_detachable && is_separate d.declared_type.tag

-- the number of the formal that a tag names
abbrev pub number_of_named : List ℕ → List Declaration → Option ℕ
number_of_named x [] = None
number_of_named x (d ∷ ds) =
    if bytes_eq d.name.text x then (if is_nameable d then Some 0 else None) else option_map (λ i. i + 1)
    (number_of_named x ds)

-- The tag that is written, where these are the formals that it may name.
abbrev pub declared_tag : List Declaration → HandlerTag → Option Tag
declared_tag formals Own = Some tag.Own
declared_tag formals Separate = Some tag.Any
declared_tag formals (HandlerOf x) = option_map (λ i. tag.With (Formal i)) (number_of_named x.text formals)

-- written with a mark or a tag
abbrev pub is_marked : DeclaredType → Bool
is_marked t = t.is_detachable || not (is_own t.tag)

-- INTEGER and BOOLEAN take no mark and no tag.
abbrev pub typed : DeclaredType → Option ClassId → Option Tag → Option EntityType
typed t None g = None
typed t (Some c) None = None
typed t (Some c) (Some g) =
    if is_expanded c && is_marked t then None else Some (record { attached = not t.is_detachable; tag = g; class = c })

-- The type that is declared, where a tag may name these formals; it is none where the declaration is faulty.
abbrev pub declared_type : System → List Declaration → DeclaredType → Option EntityType
declared_type s formals t = typed t (type_class s t.class.text) (declared_tag formals t.tag)

-- What is wrong with a declared type. A tag of an attribute or a result may name no formal.
pub data TypeFails (s : System) (formals : List Declaration) (t : DeclaredType) : Rule → Span → Type 0 where
  unknown_class : type_class s t.class.text ≡ None → TypeFails s formals t UnknownName t.class.span
  unknown_tag : declared_tag formals t.tag ≡ None → TypeFails s formals t TagName t.span
  marked : {c : ClassId} → type_class s t.class.text ≡ Some c → is_expanded c ≡ true → is_marked t ≡ true →
      TypeFails s formals t TagName t.span

-- ---- controlled targets

-- of the current handler, or of one that is reserved
abbrev pub is_controlled_tag : Tag → Bool
is_controlled_tag tag.Own = true
is_controlled_tag (tag.With x) = true
is_controlled_tag tag.Any = false
is_controlled_tag tag.None = false

-- A target is controlled where its type is attached and its tag is of the current handler or of one that is reserved.
abbrev pub is_controlled : EntityType → Bool
is_controlled t = t.attached && is_controlled_tag t.tag

-- A call is separate where its target's tag isn't `own`.
abbrev pub is_foreign : Tag → Bool
is_foreign tag.Own = false
is_foreign (tag.With x) = true
is_foreign tag.Any = true
is_foreign tag.None = true

-- ---- operators

abbrev pub is_integer : ClassId → Bool
is_integer class.Integer = true
is_integer class.Boolean = false
is_integer class.Any = false
is_integer class.None = false
is_integer (class.Declared k) = false

abbrev pub is_boolean : ClassId → Bool
is_boolean class.Boolean = true
is_boolean class.Integer = false
is_boolean class.Any = false
is_boolean class.None = false
is_boolean (class.Declared k) = false

-- both are INTEGER, both are BOOLEAN, or both are of references
abbrev pub is_comparable : ClassId → ClassId → Bool
is_comparable class.Integer b = is_integer b
is_comparable class.Boolean b = is_boolean b
is_comparable class.Any b = not (is_expanded b)
is_comparable class.None b = not (is_expanded b)
is_comparable (class.Declared k) b = not (is_expanded b)

abbrev pub gives_if : Bool → EntityType → Option EntityType
gives_if true t = Some t
gives_if false t = None

-- The type of the result, where the operator takes an operand of this type.
abbrev pub unary_type : UnaryOperator → EntityType → Option EntityType
unary_type unary.Old a = Some a
unary_type unary.Not a = gives_if (is_boolean a.class) boolean
unary_type unary.Plus a = gives_if (is_integer a.class) integer
unary_type unary.Minus a = gives_if (is_integer a.class) integer

abbrev pub arithmetic : EntityType → EntityType → Option EntityType
arithmetic a b = gives_if (is_integer a.class && is_integer b.class) integer

abbrev pub order : EntityType → EntityType → Option EntityType
order a b = gives_if (is_integer a.class && is_integer b.class) boolean

abbrev pub logic : EntityType → EntityType → Option EntityType
logic a b = gives_if (is_boolean a.class && is_boolean b.class) boolean

abbrev pub equality : EntityType → EntityType → Option EntityType
equality a b = gives_if (is_comparable a.class b.class) boolean

-- The type of the result, where the operator takes operands of these types.
abbrev pub binary_type : BinaryOperator → EntityType → EntityType → Option EntityType
binary_type binary.Times = arithmetic
binary_type binary.Quotient = arithmetic
binary_type binary.Remainder = arithmetic
binary_type binary.Plus = arithmetic
binary_type binary.Minus = arithmetic
binary_type binary.Equal = equality
binary_type binary.NotEqual = equality
binary_type binary.Less = order
binary_type binary.Greater = order
binary_type binary.LessEqual = order
binary_type binary.GreaterEqual = order
binary_type binary.And = logic
binary_type binary.AndThen = logic
binary_type binary.Or = logic
binary_type binary.OrElse = logic
binary_type binary.Xor = logic
binary_type binary.Implies = logic

-- The result for operands that may have no type: then it has none, and nothing is wrong with the operator.
abbrev pub unary_result : UnaryOperator → Option EntityType → Option (Option EntityType)
unary_result op None = Some None
unary_result op (Some a) = option_map (λ t. Some t) (unary_type op a)

abbrev pub binary_result : BinaryOperator → Option EntityType → Option EntityType → Option (Option EntityType)
binary_result op None b = Some None
binary_result op (Some a) None = Some None
binary_result op (Some a) (Some b) = option_map (λ t. Some t) (binary_type op a b)

-- An object test is BOOLEAN; where the tested expression has no type, it has none.
abbrev pub test_result : Option EntityType → Option EntityType
test_result None = None
test_result (Some a) = Some boolean
