-- Laws of types, of declarations and of well-formed systems.
use Rattle.std.specs.Prelude.{◌≡◌, ◌⊎◌, ℕ, Bool, true, ◌&&◌, ◌++◌, List, [], Option, Some, None, is_some}
use Rattle.std.specs.List.{list_all}
use Rattle.sc_text.specs.declared.token.Span.{Span}
use Rattle.sc_tree.specs.Plain.{System, Declaration, DeclaredType, FeatureKind, Attribute, Routine, Expr}
use Rattle.sc_class.specs.Tables.Features.{DeclaredFeature, declared_features}
use Rattle.sc_rules.specs.declared.entity_types.entity_type.EntityType.{EntityType}
use Rattle.sc_rules.specs.declared.rule.Rule.{Rule}
use Rattle.sc_rules.specs.declared.position.Context.{Context}
use Rattle.sc_rules.specs.declared.position.Position.{Position}
use Rattle.sc_rules.specs.Types.{declared_type}
use Rattle.sc_rules.specs.Names.{RoutineName, RoutineContext, Entity, Entities, formals_known, locals_known}
use Rattle.sc_rules.specs.Typing.{Typing, HasType}
use Rattle.sc_rules.specs.Sites.{expression}
use Rattle.sc_rules.specs.Purity.{IsPurity}
use Rattle.sc_rules.specs.TextRules.{Fails}
use Rattle.sc_rules.specs.SystemRules.{SystemFails, WellFormed}

-- An expression has one type at most.
abbrev pub OneType : Type 0
OneType = (h : RoutineContext) (c : Context) (k : Position) (n : Entities) (e : Expr) (t u : Typing) →
    HasType h c k n e t → HasType h c k n e u → t ≡ u

-- It has none where a rule fails in it.
abbrev pub NoneWhereARuleFails : Type 0
NoneWhereARuleFails =
    (h : RoutineContext) (c : Context) (k : Position) (n : Entities) (e : Expr) (t : Typing) (r : Rule) (p : Span) →
    HasType h c k n e t → Fails h (expression c k n e) r p → ⊥

-- some rule fails in it
abbrev pub SomeFails : RoutineContext → Context → Position → Entities → Expr → Type 0
SomeFails h c k n e = (r : Rule) × (p : Span) × Fails h (expression c k n e) r p

-- It has a type, or a rule fails in it.
abbrev pub TypeOrFault : Type 0
TypeOrFault = (h : RoutineContext) (c : Context) (k : Position) (n : Entities) (e : Expr) →
    ((t : Typing) × HasType h c k n e t) ⊎ SomeFails h c k n e

-- ---- declarations

abbrev pub are_declared : System → List Declaration → List Declaration → Bool
are_declared s formals ds = list_all (λ (d : Declaration). is_some (declared_type s formals d.declared_type)) ds

abbrev pub is_result_declared : System → Option DeclaredType → Bool
is_result_declared s None = true
is_result_declared s (Some d) = is_some (declared_type s [] d)

-- the types of a feature are declared without fault
abbrev pub is_declared : System → FeatureKind → Bool
is_declared s (Attribute d) = is_some (declared_type s [] d)
is_declared s (Routine routine) =
    are_declared s routine.formals routine.formals &&
    (is_result_declared s routine.result_type && are_declared s routine.formals routine.locals)

-- those of all features are
abbrev pub AllDeclared : System → Type 0
AllDeclared s = (k : ℕ) →
    list_all (λ (f : DeclaredFeature). is_declared s f.feature.kind) (declared_features s k) ≡ true

-- the names have types
abbrev pub are_typed : Entities → Bool
are_typed n = list_all (λ (e : Entity). is_some e.type) n

-- What is given as Result has a type.
abbrev pub HasResult : RoutineContext → Type 0
HasResult h = (t : Option EntityType) → h.result ≡ Some t → is_some t ≡ true

-- If nothing is wrong with the declarations, the result of judging an expression is a type.
abbrev pub EveryTyped : Type 0
EveryTyped =
    (h : RoutineContext) (c : Context) (k : Position) (n : Entities) (e : Expr) (t : Typing) → AllDeclared h.system →
    HasResult h → are_typed n ≡ true → HasType h c k n e t →
    is_some t.type ≡ true

-- Nothing is wrong with them in a well-formed system.
abbrev pub DeclaredIfWellFormed : Type 0
DeclaredIfWellFormed = (s : System) (pure : RoutineName → Bool) → IsPurity s pure → WellFormed s → AllDeclared s

-- A routine whose types are declared without fault gives its names types.
abbrev pub NamesTyped : Type 0
NamesTyped =
    (s : System) (formals locals : List Declaration) → are_declared s formals formals ≡ true →
    are_declared s formals locals ≡ true →
    (are_typed (formals_known s formals) ≡ true) ×
    (are_typed (formals_known s formals ++ locals_known s formals locals) ≡ true)

-- ---- systems

-- A system is well formed, or some rule fails at some place.
abbrev pub WellFormedOrFault : Type 0
WellFormedOrFault = (s : System) (pure : RoutineName → Bool) → IsPurity s pure →
    WellFormed s ⊎ ((r : Rule) × (p : Span) × SystemFails s r p)
