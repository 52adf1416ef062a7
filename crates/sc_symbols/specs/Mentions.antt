-- What each name of a text means, and where that is declared.
use Rattle.std.specs.Prelude.{◌≡◌, ◌+◌, ◌↔◌, ℕ, Bool, true, if◌then◌else◌, List, [], ◌∷◌, ◌++◌, Option, Some, None, map, slice_get}
use Rattle.std.specs.List.{flat_map}
use Rattle.std.specs.Option.{option_map_or}
use Rattle.sc_text.specs.declared.token.Span.{Span}
use Rattle.sc_tree.specs.Plain.{System, Class, Parent, Feature, FeatureKind, Attribute, Routine, RoutineDeclaration, Declaration, DeclaredType, HandlerTag, Own, Separate, HandlerOf, Clause, Head, Name, Variable, Named, ResultVariable, Creation, CreationCall, Expr, Call, Unary, Binary, ObjectTest, Target, no_target, target, Exprs, no_exprs, expr_then, Instr, Assign, PrintText, CallRoutine, Create, If, Loop, Check, Block, Instrs, no_instrs, instr_then, Branches, no_branches, branch_then}
use Rattle.sc_class.specs.declared.identity.ClassId.{ClassId}
use Rattle.sc_class.specs.declared.identity.ClassId.TheVariants as class
use Rattle.sc_class.specs.ClassNames.{class_named}
use Rattle.sc_class.specs.Names.{number_among}
use Rattle.sc_class.specs.Tables.ByClass.{ancestors_of}
use Rattle.sc_class.specs.Tables.Declared.{declared_feature_names_at}
use Rattle.sc_class.specs.Tables.Features.{DeclaredFeature, feature_named}
use Rattle.sc_class.specs.Tables.Heirs.{topmost_along}
use Rattle.sc_rules.specs.declared.entity_types.entity_type.EntityType.{EntityType}
use Rattle.sc_rules.specs.declared.position.Context.{Context}
use Rattle.sc_rules.specs.declared.position.Context.TheVariants as context
use Rattle.sc_rules.specs.declared.position.Position.TheVariants.{Plain}
use Rattle.sc_rules.specs.Positions.{operand_context, is_and_then}
use Rattle.sc_rules.specs.Names.{RoutineName, RoutineContext, Entity, Entities, assignee, assignee_type, context_of}
use Rattle.sc_rules.specs.SystemRules.{invariant_context}
use Rattle.sc_rules.specs.Typing.{HasType, typing}
use Rattle.sc_symbols.specs.declared.symbol.Mention.{Mention}
use Rattle.sc_symbols.specs.declared.symbol.Symbol.{Symbol}
use Rattle.sc_symbols.specs.declared.symbol.Symbol.TheVariants as symbol
use Rattle.sc_symbols.specs.Scopes.{Scope, no_scope, TypeOf, scope_of_formals, scope_of_body, number_named, tested, headed, known_head, scope_given, scope_reserved}

-- ---- classes and features

-- the name means this, which is declared at one place alone
abbrev pub mention : Name → Symbol → Span → Mention
mention x m p = record { span = x.span; symbol = m; declaration = p; origin = p }

abbrev pub mention_of_class : Name → ℕ → Class → Mention
mention_of_class x k c = mention x (symbol.Class k) c.name.span

-- A class that every system has is declared nowhere.
abbrev pub mentions_of_class_at : System → Name → Option ClassId → List Mention
mentions_of_class_at s x None = []
mentions_of_class_at s x (Some (class.Declared k)) =
    option_map_or (λ (c : Class). mention_of_class x k c ∷ []) (slice_get s.classes k) []
mentions_of_class_at s x (Some class.Any) = []
mentions_of_class_at s x (Some class.None) = []
mentions_of_class_at s x (Some class.Integer) = []
mentions_of_class_at s x (Some class.Boolean) = []

abbrev pub mentions_of_class : System → Name → List Mention
mentions_of_class s x = mentions_of_class_at s x (class_named s x.text)

abbrev pub declaration_of : DeclaredFeature → Span
declaration_of f = f.feature.name.span

-- where the topmost ancestor that has a feature of this name declares it
abbrev pub origin_of : System → DeclaredFeature → Span
origin_of s f =
    option_map_or declaration_of (topmost_along s f.feature.name.text (ancestors_of s (class.Declared f.class)))
    (declaration_of f)

-- the feature, which has this number in its class
abbrev pub mention_of_feature : System → Name → DeclaredFeature → ℕ → Mention
mention_of_feature s x f i =
    record { span = x.span; symbol = symbol.Feature f.class i; declaration = declaration_of f; origin = origin_of s f }

abbrev pub mentions_of_declared : System → Name → DeclaredFeature → List Mention
mentions_of_declared s x f =
    option_map_or (λ i. mention_of_feature s x f i ∷ [])
    (number_among x.text (declared_feature_names_at s f.class)) []

-- the feature of this name of a class
abbrev pub mentions_of_feature : System → ClassId → Name → List Mention
mentions_of_feature s k x = option_map_or (mentions_of_declared s x) (feature_named s k x.text) []

abbrev pub mentions_of_feature_if_any : System → Option ClassId → Name → List Mention
mentions_of_feature_if_any s k x = option_map_or (λ k. mentions_of_feature s k x) k []

-- after a target of this type, if it has one
abbrev pub mentions_after : System → Option EntityType → Name → List Mention
mentions_after s t x = option_map_or (λ (t : EntityType). mentions_of_feature s t.class x) t []

-- ---- entities

abbrev pub mention_of_entity : Name → Entity → Span → Mention
mention_of_entity x e p = mention x (symbol.Entity e.role e.type) p

abbrev pub mentions_of_entity : Name → Option Entity → Option Span → List Mention
mentions_of_entity x (Some e) (Some p) = mention_of_entity x e p ∷ []
mentions_of_entity x (Some e) None = []
mentions_of_entity x None p = []

-- the entity at this number
abbrev pub mentions_at : Scope → Name → ℕ → List Mention
mentions_at n x i = mentions_of_entity x (slice_get n.entities i) (slice_get n.places i)

-- the first entity of this name, if there is one
abbrev pub mentions_of_known : Scope → Name → List Mention
mentions_of_known n x = option_map_or (mentions_at n x) (number_named x.text n.entities) []

-- without a target: an entity, or else a feature of the class
abbrev pub mentions_of_name : RoutineContext → Scope → Name → List Mention
mentions_of_name h n x =
    option_map_or (mentions_at n x) (number_named x.text n.entities)
    (mentions_of_feature h.system (class.Declared h.class) x)

-- ---- types and declarations

abbrev pub mentions_of_tag : Scope → HandlerTag → List Mention
mentions_of_tag n Own = []
mentions_of_tag n Separate = []
mentions_of_tag n (HandlerOf x) = mentions_of_known n x

abbrev pub mentions_of_type : System → Scope → DeclaredType → List Mention
mentions_of_type s n t = mentions_of_tag n t.tag ++ mentions_of_class s t.class

abbrev pub mentions_of_type_if_any : System → Scope → Option DeclaredType → List Mention
mentions_of_type_if_any s n None = []
mentions_of_type_if_any s n (Some t) = mentions_of_type s n t

abbrev pub mentions_of_declaration : System → Scope → Declaration → List Mention
mentions_of_declaration s n d = mentions_of_known n d.name ++ mentions_of_type s n d.declared_type

-- ---- expressions

unfoldable mutual
  pub mentions_in : TypeOf → RoutineContext → Context → Scope → Expr → List Mention
  mentions_in type h c n (Call p a x es) = mentions_in_target type h c n a x ++ mentions_in_each type h c n es
  mentions_in type h c n (Unary p op a) = mentions_in type h (operand_context op c) n a
  mentions_in type h c n (Binary p op a b) = mentions_in type h c n a ++ mentions_in type h c n b
  mentions_in type h c n (ObjectTest p d a x) = mentions_in type h c n a
  mentions_in type h c n e = []

  -- the target of a call, and the name after it
  pub mentions_in_target : TypeOf → RoutineContext → Context → Scope → Target → Name → List Mention
  mentions_in_target type h c n no_target x = mentions_of_name h n x
  mentions_in_target type h c n (target a) x =
      mentions_in type h c n a ++ mentions_after h.system (type h c n.entities a) x

  pub mentions_in_each : TypeOf → RoutineContext → Context → Scope → Exprs → List Mention
  mentions_in_each type h c n no_exprs = []
  mentions_in_each type h c n (expr_then e es) = mentions_in type h c n e ++ mentions_in_each type h c n es

abbrev pub mentions_in_call : TypeOf → RoutineContext → Context → Scope → Target → Name → Exprs → List Mention
mentions_in_call type h c n a x es = mentions_in_target type h c n a x ++ mentions_in_each type h c n es

-- an object test: the type that it tests for, what is tested, and the name that it gives
abbrev pub mentions_in_test : TypeOf → RoutineContext → Context → Scope → Option DeclaredType → Expr → Name →
    List Mention
mentions_in_test type h c n d a x =
    mentions_of_type_if_any h.system n d
    ++ (mentions_in type h c n a ++ mention_of_entity x (tested type h c n.entities d a x) x.span ∷ [])

-- a condition, in which the right operand of an `and then` knows the names of the object tests in the left one
unfoldable pub mentions_in_condition : TypeOf → RoutineContext → Context → Scope → Expr → List Mention
mentions_in_condition type h c n (Binary p op a b) =
    if is_and_then op
    then mentions_in_condition type h c n a ++ mentions_in_condition type h c (scope_given type h c n a) b
    else mentions_in type h c n (Binary p op a b)
mentions_in_condition type h c n (ObjectTest p d a x) = mentions_in_test type h c n d a x
mentions_in_condition type h c n e = mentions_in type h c n e

abbrev pub mentions_in_clause : TypeOf → RoutineContext → Context → Scope → Clause → List Mention
mentions_in_clause type h c n k = mentions_in type h c n k.condition

-- ---- instructions

abbrev pub mentions_of_variable : RoutineContext → Scope → Variable → List Mention
mentions_of_variable h n (Named x) = mentions_of_name h n x
mentions_of_variable h n (ResultVariable p) = []

abbrev pub mentions_in_creation_call : TypeOf → RoutineContext → Scope → Variable → Option CreationCall → List Mention
mentions_in_creation_call type h n v None = []
mentions_in_creation_call type h n v (Some k) =
    mentions_after h.system (assignee_type (assignee h n.entities v)) k.name
    ++ mentions_in_each type h context.Body n k.actuals

abbrev pub mentions_in_head : TypeOf → RoutineContext → Scope → Scope → Head → List Mention
mentions_in_head type h n m d =
    mentions_in type h context.Body n d.value
    ++ mention_of_entity d.name (headed type h n.entities m.entities d) d.name.span ∷ []

-- the heads of a block, the names of those before them among the second entities
abbrev pub mentions_in_heads : TypeOf → RoutineContext → Scope → Scope → List Head → List Mention
mentions_in_heads type h n m [] = []
mentions_in_heads type h n m (d ∷ ds) =
    mentions_in_head type h n m d ++ mentions_in_heads type h n (known_head type h n m d) ds

unfoldable mutual
  pub mentions_in_instr : TypeOf → RoutineContext → Scope → Instr → List Mention
  mentions_in_instr type h n (Assign p v e) = mentions_of_variable h n v ++ mentions_in type h context.Body n e
  mentions_in_instr type h n (PrintText p x) = []
  mentions_in_instr type h n (CallRoutine p a x es) = mentions_in_call type h context.Body n a x es
  mentions_in_instr type h n (Create p c) =
      mentions_of_variable h n c.variable ++ mentions_in_creation_call type h n c.variable c.call
  mentions_in_instr type h n (If p e body bs other) =
      (mentions_in_condition type h context.Body n e
      ++ mentions_in_instrs type h (scope_given type h context.Body n e) body)
      ++ (mentions_in_branches type h n bs ++ mentions_in_instrs type h n other)
  mentions_in_instr type h n (Loop p initial e body) =
      mentions_in_instrs type h n initial
      ++ (mentions_in type h context.Body n e ++ mentions_in_instrs type h n body)
  mentions_in_instr type h n (Check p ks) = flat_map (mentions_in_clause type h context.Check n) ks
  mentions_in_instr type h n (Block p ds body) =
      mentions_in_heads type h n n ds ++ mentions_in_instrs type h (scope_reserved type h n n ds) body

  pub mentions_in_instrs : TypeOf → RoutineContext → Scope → Instrs → List Mention
  mentions_in_instrs type h n no_instrs = []
  mentions_in_instrs type h n (instr_then i is) = mentions_in_instr type h n i ++ mentions_in_instrs type h n is

  pub mentions_in_branches : TypeOf → RoutineContext → Scope → Branches → List Mention
  mentions_in_branches type h n no_branches = []
  mentions_in_branches type h n (branch_then e body bs) =
      (mentions_in_condition type h context.Body n e
      ++ mentions_in_instrs type h (scope_given type h context.Body n e) body)
      ++ mentions_in_branches type h n bs

abbrev pub mentions_in_branch : TypeOf → RoutineContext → Scope → Expr → Instrs → List Mention
mentions_in_branch type h n e body =
    mentions_in_condition type h context.Body n e
    ++ mentions_in_instrs type h (scope_given type h context.Body n e) body

abbrev pub mentions_in_block : TypeOf → RoutineContext → Scope → List Head → Instrs → List Mention
mentions_in_block type h n ds body =
    mentions_in_heads type h n n ds ++ mentions_in_instrs type h (scope_reserved type h n n ds) body

-- ---- the whole text

-- Types don't depend on which functions are pure: each one is taken for pure.
abbrev pub every_function : RoutineName → Bool
every_function f = true

-- a routine after its formals and its result type, where its contract knows these
abbrev pub mentions_in_text : TypeOf → RoutineContext → Scope → RoutineDeclaration → List Mention
mentions_in_text type h n r =
    flat_map (mentions_in_clause type h context.Require n) r.precondition
    ++ (flat_map (mentions_of_declaration h.system (scope_of_body h.system r)) r.locals
    ++ (mentions_in_instrs type h (scope_of_body h.system r) r.body
    ++ flat_map (mentions_in_clause type h context.Ensure n) r.postcondition))

abbrev pub mentions_in_routine : TypeOf → System → ℕ → RoutineDeclaration → List Mention
mentions_in_routine type s k r =
    flat_map (mentions_of_declaration s (scope_of_formals s r.formals)) r.formals
    ++ (mentions_of_type_if_any s no_scope r.result_type
    ++ mentions_in_text type (context_of s every_function k r) (scope_of_formals s r.formals) r)

abbrev pub mentions_in_kind : TypeOf → System → ℕ → FeatureKind → List Mention
mentions_in_kind type s k (Attribute t) = mentions_of_type s no_scope t
mentions_in_kind type s k (Routine r) = mentions_in_routine type s k r

abbrev pub mentions_in_feature : TypeOf → System → ℕ → Feature → List Mention
mentions_in_feature type s k f =
    flat_map (mentions_of_class s) f.exports
    ++ (mentions_of_feature s (class.Declared k) f.name ++ mentions_in_kind type s k f.kind)

abbrev pub mentions_in_parent : System → Parent → List Mention
mentions_in_parent s p =
    mentions_of_class s p.name
    ++ flat_map (mentions_of_feature_if_any s (class_named s p.name.text)) p.redefined

abbrev pub mentions_in_invariant : TypeOf → System → ℕ → List Clause → List Mention
mentions_in_invariant type s k ks =
    flat_map (mentions_in_clause type (invariant_context s every_function k) context.Invariant no_scope) ks

abbrev pub mentions_in_class : TypeOf → System → ℕ → Class → List Mention
mentions_in_class type s k c =
    mentions_of_class s c.name
    ++ (flat_map (mentions_in_parent s) c.parents
    ++ (flat_map (mentions_of_feature s (class.Declared k)) c.creators
    ++ (flat_map (mentions_in_feature type s k) c.features
    ++ mentions_in_invariant type s k c.invariant)))

-- these classes; the first has this number
abbrev pub mentions_in_classes : TypeOf → System → ℕ → List Class → List Mention
mentions_in_classes type s k [] = []
mentions_in_classes type s k (c ∷ cs) = mentions_in_class type s k c ++ mentions_in_classes type s (k + 1) cs

abbrev pub mentions_in_system : TypeOf → System → List Mention
mentions_in_system type s = mentions_in_classes type s 0 s.classes

-- ---- what a place means

-- The types are those that the rules give.
abbrev pub AreTypes : TypeOf → Type 0
AreTypes type =
    (h : RoutineContext) (c : Context) (n : Entities) (e : Expr) (t : EntityType) →
    (type h c n e ≡ Some t) ↔ ((b : Bool) × HasType h c Plain n e (typing (Some t) b))

-- These are the names of the system, each with its meaning, by the types that the rules give.
pub record AreMentions (s : System) (ms : List Mention) : Type 0 where
  pub type : TypeOf
  pub are_types : AreTypes type
  pub are_all : ms ≡ mentions_in_system type s
