-- The meanings of names (ECMA-367, 8.5, 8.8, 8.19 and 8.23).
use Rattle.std.specs.Prelude.{◌+◌, ℕ, Bool, true, false, ◌&&◌, if◌then◌else◌, List, [], ◌∷◌, ◌++◌, Option, Some, None, bytes_eq, find, map}
use Rattle.std.specs.Option.{option_map}
use Rattle.sc_text.specs.declared.token.Span.{Span}
use Rattle.sc_tree.specs.Plain.{System, Declaration, DeclaredType, RoutineDeclaration, FeatureKind, Attribute, Routine, Name, Target, no_target, target, Variable, Named, ResultVariable}
use Rattle.sc_class.specs.declared.identity.ClassId.TheVariants as class
use Rattle.sc_tree.specs.Properties.{is_print}
use Rattle.sc_class.specs.ClassNames.{is_none}
use Rattle.sc_class.specs.Tables.Features.{DeclaredFeature, feature_named}
use Rattle.sc_rules.specs.declared.entity_types.tag.Reserved.TheVariants.{Formal, BlockName}
use Rattle.sc_rules.specs.declared.entity_types.tag.Tag.TheVariants as tag
use Rattle.sc_rules.specs.entity_types.Tags.{is_any}
use Rattle.sc_rules.specs.declared.entity_types.entity_type.EntityType.{EntityType}
use Rattle.sc_rules.specs.entity_types.Combiners.{combined_result}
use Rattle.sc_rules.specs.declared.position.Role.{Role}
use Rattle.sc_rules.specs.declared.position.Role.TheVariants as role
use Rattle.sc_rules.specs.Types.{declared_type}

-- A function or procedure, by the number of the class that declares it and its name.
pub record RoutineName : Type 0 where
  pub class : ℕ
  pub name : List ℕ

-- The routine, or the invariant, whose text is judged: its class, its formals, the type of its Result if it is a
-- function, and which functions are pure.
pub record RoutineContext : Type 0 where
  pub system : System
  pub class : ℕ
  pub formals : List Declaration
  pub result : Option (Option EntityType)
  pub pure : RoutineName → Bool

-- a routine of the class at the number, with these formals and this result type
abbrev pub routine_context : System → (RoutineName → Bool) → ℕ → List Declaration → Option DeclaredType → RoutineContext
routine_context s pure k formals result =
    record { system = s; class = k; formals = formals; result = option_map (declared_type s []) result; pure = pure }

abbrev pub context_of : System → (RoutineName → Bool) → ℕ → RoutineDeclaration → RoutineContext
context_of s pure k routine = routine_context s pure k routine.formals routine.result_type

-- ---- entities of a routine

-- A name that is known in a part of a routine. It has no type where its declaration is faulty.
pub record Entity : Type 0 where
  pub name : List ℕ
  pub type : Option EntityType
  pub role : Role

-- the names that are known at some point, in the order in which they became known
abbrev pub Entities : Type 0
Entities = List Entity

abbrev pub entity : List ℕ → Option EntityType → Role → Entity
entity x t r = record { name = x; type = t; role = r }

-- An attached formal of tag `any` has, in its routine, the tag that names it: its handler is reserved.
abbrev pub reserved : ℕ → EntityType → EntityType
reserved i t =
    record {
      attached = t.attached;
      tag = if t.attached && is_any t.tag then tag.With (Formal i) else t.tag;
      class = t.class;
    }

-- these formals; the first has this number in the whole list
abbrev pub formal_entities : System → List Declaration → ℕ → List Declaration → Entities
formal_entities s all i [] = []
formal_entities s all i (d ∷ ds) =
    entity d.name.text (option_map (reserved i) (declared_type s all d.declared_type)) role.Formal ∷
    formal_entities s all (i + 1) ds

-- what a routine's contract knows: its formals
abbrev pub formals_known : System → List Declaration → Entities
formals_known s formals = formal_entities s formals 0 formals

-- what its body knows too: its locals, whose tags may name its formals
abbrev pub locals_known : System → List Declaration → List Declaration → Entities
locals_known s formals locals =
    map (λ (d : Declaration). entity d.name.text (declared_type s formals d.declared_type) role.Local) locals

-- all that a routine's body knows
abbrev pub known_in_body : System → RoutineDeclaration → Entities
known_in_body s routine = formals_known s routine.formals ++ locals_known s routine.formals routine.locals

abbrev pub attached : EntityType → EntityType
attached t = record { attached = true; tag = t.tag; class = t.class }

-- an object test's name has the type that is tested, or else the tested expression's, and is attached
abbrev pub test_type : RoutineContext → Option DeclaredType → Option EntityType → Option EntityType
test_type h None t = option_map attached t
test_type h (Some d) t = option_map attached (declared_type h.system h.formals d)

abbrev pub is_block : Role → Bool
is_block role.Block = true
is_block _ = false

abbrev pub is_local : Role → Bool
is_local role.Local = true
is_local _ = false

-- how many names of separate blocks are known
abbrev pub blocks : Entities → ℕ
blocks [] = 0
blocks (e ∷ n) = if is_block e.role then blocks n + 1 else blocks n

-- A block's name has its head's class; it is attached, and of its own tag.
abbrev pub block_type : ℕ → Option EntityType → Option EntityType
block_type j t =
    option_map (λ (t : EntityType). record { attached = true; tag = tag.With (BlockName j); class = t.class }) t

-- the first entity of this name
abbrev pub entity_named : List ℕ → Entities → Option Entity
entity_named x n = find (λ e. bytes_eq e.name x) n

-- ---- features and entities as callers see them

-- What a formal takes: values of its type as declared, anything where its declaration is faulty, or, for `print`, any
-- value that is no reference.
pub data FormalType : Type 0 where
  of_type : EntityType → FormalType
  of_none : FormalType
  of_expanded : FormalType

abbrev pub formal_type : Option EntityType → FormalType
formal_type (Some t) = of_type t
formal_type None = of_none

-- What a call is judged by: the type of its target, the formals as declared, the type that it gives, combined with the
-- target's, if it isn't a procedure, the routine that it is, if it is one, and whether it is exported to no class.
pub record Signature : Type 0 where
  pub target : EntityType
  pub formals : List FormalType
  pub gives : Option (Option EntityType)
  pub routine : Option RoutineName
  pub is_secret : Bool

-- The meaning of a name: nothing, nothing that is known since its target has no type, or something.
pub data Meaning : Type 0 where
  unknown : Meaning
  target_untyped : Meaning
  named : Signature → Meaning

-- a feature that is exported to NONE
abbrev pub is_hidden : List Name → Bool
is_hidden [] = false
is_hidden (n ∷ ns) = is_none n.text

-- the type of Current
abbrev pub current : RoutineContext → EntityType
current h = record { attached = true; tag = tag.Own; class = class.Declared h.class }

-- an attribute or a function gives its declared type, combined with that of the target
abbrev pub given_type : System → EntityType → DeclaredType → Option EntityType
given_type s t d = option_map (combined_result t) (declared_type s [] d)

abbrev pub routine_of : DeclaredFeature → RoutineName
routine_of f = record { class = f.class; name = f.feature.name.text }

abbrev pub signature_of_kind : System → EntityType → DeclaredFeature → FeatureKind → Signature
signature_of_kind s t f (Attribute d) =
    record {
      target = t;
      formals = [];
      gives = Some (given_type s t d);
      routine = None;
      is_secret = is_hidden f.feature.exports;
    }
signature_of_kind s t f (Routine routine) =
    record {
      target = t;
      formals =
          map (λ (d : Declaration). formal_type (declared_type s routine.formals d.declared_type)) routine.formals;
      gives = option_map (given_type s t) routine.result_type;
      routine = Some (routine_of f);
      is_secret = is_hidden f.feature.exports;
    }

-- a feature after a target of this type
abbrev pub signature_of : System → EntityType → DeclaredFeature → Signature
signature_of s t f = signature_of_kind s t f f.feature.kind

abbrev pub meaning_of_feature : System → EntityType → Option DeclaredFeature → Meaning
meaning_of_feature s t None = unknown
meaning_of_feature s t (Some f) = named (signature_of s t f)

-- `print` takes one value that is no reference, and gives nothing.
abbrev pub print_signature : RoutineContext → Signature
print_signature h =
    record { target = current h; formals = of_expanded ∷ []; gives = None; routine = None; is_secret = false }

abbrev pub entity_signature : RoutineContext → Entity → Signature
entity_signature h e =
    record { target = current h; formals = []; gives = Some e.type; routine = None; is_secret = false }

-- a name that is no entity: `print`, or a feature of Current
abbrev pub feature_meaning : RoutineContext → List ℕ → Meaning
feature_meaning h x = if is_print x then named (print_signature h) else meaning_of_feature h.system (current h)
    (feature_named h.system (class.Declared h.class) x)

abbrev pub entity_or : RoutineContext → List ℕ → Option Entity → Meaning
entity_or h x (Some e) = named (entity_signature h e)
entity_or h x None = feature_meaning h x

-- the meaning of a name without a target
abbrev pub unqualified_meaning : RoutineContext → Entities → List ℕ → Meaning
unqualified_meaning h n x = entity_or h x (entity_named x n)

-- its meaning after a target of this type
abbrev pub qualified_meaning : RoutineContext → EntityType → List ℕ → Meaning
qualified_meaning h t x = meaning_of_feature h.system t (feature_named h.system t.class x)

-- the meaning of a name in a call, after a target of this type, if it has one
abbrev pub meaning_of : RoutineContext → Entities → Target → Option EntityType → Name → Meaning
meaning_of h n no_target t x = unqualified_meaning h n x.text
meaning_of h n (target a) (Some t) x = qualified_meaning h t x.text
meaning_of h n (target a) None x = target_untyped

abbrev pub is_qualified : Target → Bool
is_qualified no_target = false
is_qualified (target a) = true

-- ---- what is assigned or created

-- The meaning of a name on the left side: nothing, something that can't be assigned, a local or Result, or an
-- attribute, of this type.
pub data Assignee : Type 0 where
  unknown_assignee : Assignee
  unassignable : Assignee
  to_local : Option EntityType → Assignee
  to_attribute : Option EntityType → Assignee

abbrev pub assignee_of_kind : RoutineContext → FeatureKind → Assignee
assignee_of_kind h (Attribute d) = to_attribute (given_type h.system (current h) d)
assignee_of_kind h (Routine routine) = unassignable

abbrev pub assignee_of_feature : RoutineContext → Option DeclaredFeature → Assignee
assignee_of_feature h None = unknown_assignee
assignee_of_feature h (Some f) = assignee_of_kind h f.feature.kind

abbrev pub assignee_of_entity : Entity → Assignee
assignee_of_entity e = if is_local e.role then to_local e.type else unassignable

abbrev pub assignee_or : RoutineContext → List ℕ → Option Entity → Assignee
assignee_or h x (Some e) = assignee_of_entity e
assignee_or h x None =
    if is_print x then unassignable else assignee_of_feature h (feature_named h.system (class.Declared h.class) x)

abbrev pub assignee_of_result : Option (Option EntityType) → Assignee
assignee_of_result None = unassignable
assignee_of_result (Some t) = to_local t

abbrev pub assignee : RoutineContext → Entities → Variable → Assignee
assignee h n (Named x) = assignee_or h x.text (entity_named x.text n)
assignee h n (ResultVariable s) = assignee_of_result h.result

-- the type of what may be assigned, if it has one
abbrev pub assignee_type : Assignee → Option EntityType
assignee_type unknown_assignee = None
assignee_type unassignable = None
assignee_type (to_local t) = t
assignee_type (to_attribute t) = t

-- the place of the left side
abbrev pub variable_span : Variable → Span
variable_span (Named x) = x.span
variable_span (ResultVariable s) = s
