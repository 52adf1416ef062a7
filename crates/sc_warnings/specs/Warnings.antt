-- What is warned of in a system.
use Rattle.std.specs.Prelude.{ℕ, ◌+◌, Bool, true, false, not, ◌&&◌, ◌||◌, List, [], ◌∷◌, ◌++◌, if◌then◌else◌}
use Rattle.std.specs.List.{flat_map, list_any}
use Rattle.sc_text.specs.declared.token.Span.{Span}
use Rattle.sc_tree.specs.Plain.{System, Class, Feature, FeatureKind, Attribute, Routine, RoutineDeclaration, Declaration, HandlerTag, Own, Separate, HandlerOf, Clause, Expr, Integer, Boolean, Void, Unary, Binary}
use Rattle.sc_tree.specs.Properties.{span_of}
use Rattle.sc_warnings.specs.declared.warning.Warning.{Warning}
use Rattle.sc_warnings.specs.declared.warning.WarningKind.{WarningKind}
use Rattle.sc_warnings.specs.declared.warning.WarningKind.TheVariants.{UnreadLocal, ConstantCondition, CheckFalse, NeverWaits}
use Rattle.sc_warnings.specs.Sites.{Site, used, asked, passed, condition, until, checked, Names, has, sites_of, sites_of_clause, sites_of_instrs}

abbrev pub warn_if : Bool → WarningKind → Span → List Warning
warn_if true k p = record { kind = k; span = p } ∷ []
warn_if false k p = []

-- ---- conditions

-- Literals and operators alone: neither a name nor a call.
unfoldable pub is_constant : Expr → Bool
is_constant (Integer s n) = true
is_constant (Boolean s b) = true
is_constant (Void s) = true
is_constant (Unary s op a) = is_constant a
is_constant (Binary s op a b) = is_constant a && is_constant b
is_constant e = false

abbrev pub is_false : Expr → Bool
is_false (Boolean s b) = not b
is_false e = false

-- A loop `until False` has no end on purpose.
abbrev pub is_constant_end : Expr → Bool
is_constant_end e = is_constant e && not (is_false e)

abbrev pub kind_of_check : Expr → WarningKind
kind_of_check e = if is_false e then CheckFalse else ConstantCondition

abbrev pub warnings_at : Site → List Warning
warnings_at (condition e) = warn_if (is_constant e) ConstantCondition (span_of e)
warnings_at (until e) = warn_if (is_constant_end e) ConstantCondition (span_of e)
warnings_at (checked e) = warn_if (is_constant e) (kind_of_check e) (span_of e)
warnings_at s = []

-- a clause of a `require`, an `ensure` or an `invariant`
abbrev pub warnings_of_clause : Clause → List Warning
warnings_of_clause k = warn_if (is_constant k.condition) ConstantCondition (span_of k.condition)

-- ---- locals

-- No expression of the body is the local, and no object is created in it.
abbrev pub is_unread : List Site → Declaration → Bool
is_unread body d = not (has (used d.name.text) body)

abbrev pub warnings_of_local : List Site → Declaration → List Warning
warnings_of_local body d = warn_if (is_unread body d) UnreadLocal d.name.span

-- ---- what a routine reserves

abbrev pub is_separate : HandlerTag → Bool
is_separate Own = false
is_separate Separate = true
is_separate (HandlerOf x) = true

-- The handler of an attached separate formal is reserved in the routine's body.
abbrev pub is_formal_reserved : Declaration → Bool
is_formal_reserved d = is_separate d.declared_type.tag && not d.declared_type.is_detachable

abbrev pub name_if_reserved : Declaration → Names
name_if_reserved d = if is_formal_reserved d then d.name.text ∷ [] else []

abbrev pub reserved_names : List Declaration → Names
reserved_names ds = flat_map name_if_reserved ds

abbrev pub sites_of_body : RoutineDeclaration → List Site
sites_of_body r = sites_of_instrs (reserved_names r.formals) r.body

-- ---- clauses that are never waited for

-- In each call in the text of a feature of this name the actual of this number is a name whose handler is reserved there,
-- and there is such a call.
abbrev pub is_always_reserved : List Site → List ℕ → ℕ → Bool
is_always_reserved calls f i = has (passed f i true) calls && not (has (passed f i false) calls)

-- The clause, of which these are the sites, names the formal, which is separate.
abbrev pub is_named : List Site → Declaration → Bool
is_named clause d = is_separate d.declared_type.tag && has (used d.name.text) clause

-- It calls a feature on the formal.
abbrev pub is_asked : List Site → Declaration → Bool
is_asked clause d = is_separate d.declared_type.tag && has (asked d.name.text) clause

-- If the clause names the formal, which has this number, each caller of the feature has reserved its handler.
abbrev pub is_reserved_if_named : List Site → List ℕ → ℕ → List Site → Declaration → Bool
is_reserved_if_named calls f i clause d = not (is_named clause d) || is_always_reserved calls f i

-- the same of each of these formals; the first has this number
abbrev pub are_reserved : List Site → List ℕ → ℕ → List Declaration → List Site → Bool
are_reserved calls f i [] clause = true
are_reserved calls f i (d ∷ ds) clause =
    is_reserved_if_named calls f i clause d && are_reserved calls f (i + 1) ds clause

-- The clause asks a separate formal, and each one that it names is of a handler that each caller has reserved.
abbrev pub never_waits : List Site → List ℕ → List Declaration → List Site → Bool
never_waits calls f formals clause = list_any (is_asked clause) formals && are_reserved calls f 0 formals clause

abbrev pub warnings_of_waiting : List Site → List ℕ → List Declaration → Clause → List Warning
warnings_of_waiting calls f formals k =
    warn_if (never_waits calls f formals (sites_of [] k.condition)) NeverWaits (span_of k.condition)

abbrev pub warnings_of_require : List Site → List ℕ → List Declaration → Clause → List Warning
warnings_of_require calls f formals k = warnings_of_clause k ++ warnings_of_waiting calls f formals k

-- ---- the whole text

-- In contracts no handler is taken as reserved.
abbrev pub sites_of_routine : RoutineDeclaration → List Site
sites_of_routine r =
    flat_map (sites_of_clause []) r.precondition ++ (sites_of_body r ++ flat_map (sites_of_clause []) r.postcondition)

abbrev pub sites_of_kind : FeatureKind → List Site
sites_of_kind (Attribute t) = []
sites_of_kind (Routine r) = sites_of_routine r

abbrev pub sites_of_class : Class → List Site
sites_of_class c = flat_map (λ (f : Feature). sites_of_kind f.kind) c.features

abbrev pub sites_of_system : System → List Site
sites_of_system s = flat_map sites_of_class s.classes

-- of its locals, its body and its postcondition; these are the sites of the body
abbrev pub warnings_after_require : List Site → RoutineDeclaration → List Warning
warnings_after_require body r =
    flat_map (warnings_of_local body) r.locals
    ++ (flat_map warnings_at body ++ flat_map warnings_of_clause r.postcondition)

abbrev pub warnings_of_routine : List Site → List ℕ → RoutineDeclaration → List Warning
warnings_of_routine calls f r =
    flat_map (warnings_of_require calls f r.formals) r.precondition ++ warnings_after_require (sites_of_body r) r

abbrev pub warnings_of_kind : List Site → List ℕ → FeatureKind → List Warning
warnings_of_kind calls f (Attribute t) = []
warnings_of_kind calls f (Routine r) = warnings_of_routine calls f r

abbrev pub warnings_of_feature : List Site → Feature → List Warning
warnings_of_feature calls f = warnings_of_kind calls f.name.text f.kind

abbrev pub warnings_of_class : List Site → Class → List Warning
warnings_of_class calls c =
    flat_map (warnings_of_feature calls) c.features ++ flat_map warnings_of_clause c.invariant

abbrev pub warnings_of : System → List Warning
warnings_of s = flat_map (warnings_of_class (sites_of_system s)) s.classes
