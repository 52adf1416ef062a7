-- Environments: the entities of a routine, or of an object, with their values (ECMA-367, 8.8 and 8.19).
use Rattle.std.specs.Prelude.{ℕ, ◌+◌, Bool, true, false, not, ◌&&◌, List, [], ◌∷◌, ◌++◌, Option, Some, None, map, filter, find, bytes_eq, slice_get, if◌then◌else◌}
use Rattle.std.specs.List.{filter_map}
use Rattle.std.specs.Option.{option_map, option_and_then}
use Rattle.sc_tree.specs.Plain.{System, Declaration, Name}
use Rattle.sc_class.specs.Tables.Conformance.{is_expanded}
use Rattle.sc_rules.specs.declared.entity_types.tag.Reserved.{Reserved}
use Rattle.sc_rules.specs.declared.entity_types.tag.Reserved.TheVariants.{Formal, BlockName}
use Rattle.sc_rules.specs.declared.entity_types.entity_type.EntityType.{EntityType}
use Rattle.sc_rules.specs.declared.position.Role.{Role}
use Rattle.sc_rules.specs.declared.position.Role.TheVariants as role
use Rattle.sc_rules.specs.Names.{Entity, Entities, entity, is_block, reserved, block_type, blocks}
use Rattle.sc_rules.specs.Types.{declared_type, is_foreign}
use Rattle.sc_model.specs.Values.{Value, Operand, default_of, handler_of}

-- an entity with its type and its value
pub record Binding : Type 0 where
  pub name : List ℕ
  pub type : EntityType
  pub role : Role
  pub value : Value

abbrev pub bind : List ℕ → EntityType → Role → Value → Binding
bind x t r v = record { name = x; type = t; role = r; value = v }

-- the first of the name
abbrev pub binding_named : List ℕ → List Binding → Option Binding
binding_named x bs = find (λ (b : Binding). bytes_eq b.name x) bs

-- the first of the name gets the value
abbrev pub assigned_to : List ℕ → Value → List Binding → List Binding
assigned_to x v [] = []
assigned_to x v (b ∷ bs) = if bytes_eq b.name x then record b { value = v } ∷ bs else b ∷ assigned_to x v bs

-- what the rules know where these are bound
abbrev pub known_of : Binding → Entity
known_of b = entity b.name (Some b.type) b.role

abbrev pub scope_of : List Binding → Entities
scope_of bs = map known_of bs

-- ---- formals

abbrev pub is_formal : Role → Bool
is_formal role.Formal = true
is_formal role.Local = false
is_formal role.Test = false
is_formal role.Block = false

abbrev pub with_binding : Option EntityType → List ℕ → ℕ → Value → Option (List Binding) → Option (List Binding)
with_binding (Some t) x i v (Some bs) = Some (bind x (reserved i t) role.Formal v ∷ bs)
with_binding t x i v bs = None

-- the formals with their actuals, if there are as many; the first has this number among all of the routine
abbrev pub formals_bound : System → List Declaration → ℕ → List Declaration → List Value → Option (List Binding)
formals_bound s all i [] [] = Some []
formals_bound s all i (d ∷ ds) (v ∷ vs) =
    with_binding (declared_type s all d.declared_type) d.name.text i v (formals_bound s all (i + 1) ds vs)
formals_bound s all i ds vs = None

-- an attached formal that isn't of the current handler
abbrev pub is_separate_formal : Binding → Bool
is_separate_formal b = is_formal b.role && b.type.attached && is_foreign b.type.tag && not (is_expanded b.type.class)

abbrev pub separate_formals : List Binding → List Value
separate_formals bs = map (λ (b : Binding). b.value) (filter is_separate_formal bs)

-- ---- locals

-- a local with its default
abbrev pub local_bound : System → List Declaration → Declaration → Option Binding
local_bound s formals d =
    option_map (λ (t : EntityType). bind d.name.text t role.Local (default_of t.class))
    (declared_type s formals d.declared_type)

abbrev pub locals_bound : System → List Declaration → List Declaration → List Binding
locals_bound s formals locals = filter_map (local_bound s formals) locals

-- ---- names of separate blocks

abbrev pub name_bound : Name → Option EntityType → Value → List Binding
name_bound x None v = []
name_bound x (Some t) v = bind x.text t role.Block v ∷ []

-- these and the names of a block, with the values of its heads
abbrev pub block_bound : List Name → List Operand → List Binding → List Binding
block_bound [] us bs = bs
block_bound (x ∷ xs) [] bs = bs
block_bound (x ∷ xs) (u ∷ us) bs =
    block_bound xs us (bs ++ name_bound x (block_type (blocks (scope_of bs)) (Some u.type)) u.value)

abbrev pub block_values : List Binding → List Value
block_values [] = []
block_values (b ∷ bs) = if is_block b.role then b.value ∷ block_values bs else block_values bs

-- ---- what a tag names

abbrev pub formal_handler : Binding → Option ℕ
formal_handler b = if is_formal b.role then handler_of b.value else None

-- the handler of the formal, or of the name of a separate block
abbrev pub handler_named : List Binding → Reserved → Option ℕ
handler_named bs (Formal i) = option_and_then formal_handler (slice_get bs i)
handler_named bs (BlockName j) = option_and_then handler_of (slice_get (block_values bs) j)
