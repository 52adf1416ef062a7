-- The entities that are known in a part of a text, each with the place of its declaration.
use Rattle.std.specs.Prelude.{◌+◌, ℕ, if◌then◌else◌, List, [], ◌∷◌, ◌++◌, Option, Some, None, bytes_eq, map}
use Rattle.std.specs.Option.{option_map}
use Rattle.sc_text.specs.declared.token.Span.{Span}
use Rattle.sc_tree.specs.Plain.{System, Declaration, DeclaredType, Head, Name, RoutineDeclaration, Expr, Binary, ObjectTest}
use Rattle.sc_rules.specs.declared.entity_types.entity_type.EntityType.{EntityType}
use Rattle.sc_rules.specs.declared.position.Context.{Context}
use Rattle.sc_rules.specs.declared.position.Context.TheVariants as context
use Rattle.sc_rules.specs.declared.position.Role.TheVariants as role
use Rattle.sc_rules.specs.Positions.{is_and_then}
use Rattle.sc_rules.specs.Names.{RoutineContext, Entity, Entities, entity, blocks, block_type, test_type, formals_known, known_in_body}

-- the entities in the order in which they became known, and the places of their declarations in the same order
pub record Scope : Type 0 where
  pub entities : Entities
  pub places : List Span

abbrev pub no_scope : Scope
no_scope = record { entities = []; places = [] }

abbrev pub known_too : Scope → Entity → Span → Scope
known_too n e p = record { entities = n.entities ++ e ∷ []; places = n.places ++ p ∷ [] }

abbrev pub declared_places : List Declaration → List Span
declared_places ds = map (λ (d : Declaration). d.name.span) ds

-- what a routine's contract knows: its formals
abbrev pub scope_of_formals : System → List Declaration → Scope
scope_of_formals s formals = record { entities = formals_known s formals; places = declared_places formals }

-- what its body knows: its locals, too
abbrev pub scope_of_body : System → RoutineDeclaration → Scope
scope_of_body s r = record {
  entities = known_in_body s r;
  places = declared_places r.formals ++ declared_places r.locals;
}

-- how many entities come before the first one of this name
abbrev pub number_named : List ℕ → Entities → Option ℕ
number_named x [] = None
number_named x (e ∷ n) = if bytes_eq e.name x then Some 0 else option_map (λ i. i + 1) (number_named x n)

-- The type of each expression, in its routine and where these entities are known, if it has one.
abbrev pub TypeOf : Type 0
TypeOf = RoutineContext → Context → Entities → Expr → Option EntityType

-- the name of an object test
abbrev pub tested : TypeOf → RoutineContext → Context → Entities → Option DeclaredType → Expr → Name → Entity
tested type h c n d a x = entity x.text (test_type h d (type h c n a)) role.Test

-- what is known if the condition holds: the names of the object tests at its top, too
unfoldable pub scope_given : TypeOf → RoutineContext → Context → Scope → Expr → Scope
scope_given type h c n (Binary p op a b) =
    if is_and_then op then scope_given type h c (scope_given type h c n a) b else n
scope_given type h c n (ObjectTest p d a x) = known_too n (tested type h c n.entities d a x) x.span
scope_given type h c n e = n

-- the name of a head of a block, where these are known around the block, and those before the head
abbrev pub headed : TypeOf → RoutineContext → Entities → Entities → Head → Entity
headed type h n m d =
    entity d.name.text (block_type (blocks m) (type h context.Body n d.value)) role.Block

abbrev pub known_head : TypeOf → RoutineContext → Scope → Scope → Head → Scope
known_head type h n m d = known_too m (headed type h n.entities m.entities d) d.name.span

-- what the body of a block knows: the names of its heads, too
abbrev pub scope_reserved : TypeOf → RoutineContext → Scope → Scope → List Head → Scope
scope_reserved type h n m [] = m
scope_reserved type h n m (d ∷ ds) = scope_reserved type h n (known_head type h n m d) ds
