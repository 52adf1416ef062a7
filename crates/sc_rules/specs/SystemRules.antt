-- Which rule fails where in a system of classes, and which systems are well formed (ECMA-367, 8.5, 8.8, 8.9 and 8.20).
use Rattle.std.specs.Prelude.{◌≡◌, ℕ, Bool, true, false, not, ◌&&◌, List, [], Option, Some, None, Any, is_some, slice_get}
use Rattle.sc_text.specs.declared.token.Span.{Span}
use Rattle.sc_tree.specs.Plain.{System, Class, Feature, FeatureKind, RoutineDeclaration, Attribute, Routine, Declaration, DeclaredType, Clause, Name, Expr, Integer, Boolean, Void, Call, Unary, Binary, no_target, no_exprs}
use Rattle.sc_class.specs.declared.identity.ClassId.TheVariants as class
use Rattle.sc_class.specs.Tables.Conformance.{is_expanded}
use Rattle.sc_class.specs.Tables.Features.{DeclaredFeature, feature_named}
use Rattle.sc_rules.specs.declared.entity_types.entity_type.EntityType.{EntityType}
use Rattle.sc_rules.specs.declared.rule.Rule.{Rule}
use Rattle.sc_rules.specs.declared.rule.Rule.TheVariants.{UnknownName, ResultType, InvariantForm}
use Rattle.sc_rules.specs.declared.position.Context.TheVariants as context
use Rattle.sc_rules.specs.Types.{TypeFails, declared_type}
use Rattle.sc_rules.specs.Positions.{span_of, is_old, is_equality}
use Rattle.sc_rules.specs.Names.{RoutineName, RoutineContext, routine_context, context_of, formals_known, known_in_body}
use Rattle.sc_rules.specs.Sites.{instructions}
use Rattle.sc_rules.specs.Purity.{IsPurity}
use Rattle.sc_rules.specs.TextRules.{Fails, ClauseFails}

-- ---- features

-- In a feature of the class at the number: in its types, its contract, or its body. Locals are known in the body alone.
pub data FeatureFails (s : System) (pure : RoutineName → Bool) (k : ℕ) : FeatureKind → Rule → Span → Type 0 where
  attribute_type : {d : DeclaredType} {r : Rule} {p : Span} → TypeFails s [] d r p →
      FeatureFails s pure k (Attribute d) r p
  formal_type : {routine : RoutineDeclaration} {r : Rule} {p : Span} →
      Any (λ (d : Declaration). TypeFails s routine.formals d.declared_type r p) routine.formals →
      FeatureFails s pure k (Routine routine) r p
  result_type : {routine : RoutineDeclaration} {d : DeclaredType} {r : Rule} {p : Span} →
      routine.result_type ≡ Some d → TypeFails s [] d r p → FeatureFails s pure k (Routine routine) r p
  precondition : {routine : RoutineDeclaration} {r : Rule} {p : Span} →
      Any (λ c. ClauseFails (context_of s pure k routine) context.Require (formals_known s routine.formals) c r p)
      routine.precondition →
      FeatureFails s pure k (Routine routine) r p
  local_type : {routine : RoutineDeclaration} {r : Rule} {p : Span} →
      Any (λ (d : Declaration). TypeFails s routine.formals d.declared_type r p) routine.locals →
      FeatureFails s pure k (Routine routine) r p
  in_body : {routine : RoutineDeclaration} {r : Rule} {p : Span} →
      Fails (context_of s pure k routine) (instructions (known_in_body s routine) routine.body) r p →
      FeatureFails s pure k (Routine routine) r p
  postcondition : {routine : RoutineDeclaration} {r : Rule} {p : Span} →
      Any (λ c. ClauseFails (context_of s pure k routine) context.Ensure (formals_known s routine.formals) c r p)
      routine.postcondition →
      FeatureFails s pure k (Routine routine) r p

-- ---- invariants

-- an invariant has no formals and no Result
abbrev pub invariant_context : System → (RoutineName → Bool) → ℕ → RoutineContext
invariant_context s pure k = routine_context s pure k [] None

-- the type of an attribute, which is none where its declaration is faulty
abbrev pub attribute_type_of : System → FeatureKind → Option (Option EntityType)
attribute_type_of s (Attribute d) = Some (declared_type s [] d)
attribute_type_of s (Routine routine) = None

abbrev pub attribute_type_in : System → Option DeclaredFeature → Option (Option EntityType)
attribute_type_in s None = None
attribute_type_in s (Some f) = attribute_type_of s f.feature.kind

-- that of the class's attribute of this name, if there is one
abbrev pub attribute_type_named : System → ℕ → List ℕ → Option (Option EntityType)
attribute_type_named s k x = attribute_type_in s (feature_named s (class.Declared k) x)

-- Of INTEGER or BOOLEAN; the truth value says it of an attribute without a type.
abbrev pub is_value_type : Bool → Option (Option EntityType) → Bool
is_value_type untyped None = false
is_value_type untyped (Some None) = untyped
is_value_type untyped (Some (Some t)) = is_expanded t.class

abbrev pub is_reference_type : Bool → Option (Option EntityType) → Bool
is_reference_type untyped None = false
is_reference_type untyped (Some None) = untyped
is_reference_type untyped (Some (Some t)) = not (is_expanded t.class)

-- the name alone of an attribute of references
abbrev pub is_reference_attribute : Bool → System → ℕ → Expr → Bool
is_reference_attribute untyped s k (Call p no_target x no_exprs) =
    is_reference_type untyped (attribute_type_named s k x.text)
is_reference_attribute untyped s k _ = false

-- Integer and truth values, attributes of INTEGER and BOOLEAN of the class at the number, the operators other than
-- `old`, and the comparison of an attribute of references with Void. The truth value says whether an attribute
-- without a type is allowed.
unfoldable pub is_formula_where : Bool → System → ℕ → Expr → Bool
is_formula_where untyped s k (Integer p v) = true
is_formula_where untyped s k (Boolean p v) = true
is_formula_where untyped s k (Call p no_target x no_exprs) = is_value_type untyped (attribute_type_named s k x.text)
is_formula_where untyped s k (Unary p op a) = not (is_old op) && is_formula_where untyped s k a
is_formula_where untyped s k (Binary p op a (Void q)) = is_equality op && is_reference_attribute untyped s k a
is_formula_where untyped s k (Binary p op a b) = is_formula_where untyped s k a && is_formula_where untyped s k b
is_formula_where untyped s k _ = false

-- A formula over the attributes of the class at the number.
abbrev pub is_formula : System → ℕ → Expr → Bool
is_formula s k e = is_formula_where false s k e

-- It would be one where the attributes whose declarations are faulty were of fitting types.
abbrev pub may_be_formula : System → ℕ → Expr → Bool
may_be_formula s k e = is_formula_where true s k e

-- the place of a clause: from its tag, if it has one, to the end of its condition
abbrev pub clause_span : Option Name → Expr → Span
clause_span None e = span_of e
clause_span (Some t) e = record { start = t.span.start; end = (span_of e).end }

-- In a clause of the invariant of the class at the number: as in any other, or if it is no formula, whatever the
-- types are that faulty declarations don't give.
pub data InvariantFails (s : System) (pure : RoutineName → Bool) (k : ℕ) (c : Clause) : Rule → Span → Type 0 where
  in_invariant_clause : {r : Rule} {p : Span} → ClauseFails (invariant_context s pure k) context.Invariant [] c r p →
      InvariantFails s pure k c r p
  form : may_be_formula s k c.condition ≡ false →
      InvariantFails s pure k c InvariantForm (clause_span c.tag c.condition)

-- ---- creation procedures

abbrev pub is_query : FeatureKind → Bool
is_query (Attribute d) = true
is_query (Routine routine) = is_some routine.result_type

-- A name that the class at the number lists under `create` is no feature of it, or is a query.
pub data CreatorFails (s : System) (k : ℕ) (x : Name) : Rule → Span → Type 0 where
  no_feature : feature_named s (class.Declared k) x.text ≡ None → CreatorFails s k x UnknownName x.span
  listed_query : {f : DeclaredFeature} → feature_named s (class.Declared k) x.text ≡ Some f →
      is_query f.feature.kind ≡ true →
      CreatorFails s k x ResultType x.span

-- ---- classes and systems

-- In the text of the class at the number.
pub data ClassFails (s : System) (pure : RoutineName → Bool) (k : ℕ) (c : Class) : Rule → Span → Type 0 where
  in_creators : {r : Rule} {p : Span} → Any (λ x. CreatorFails s k x r p) c.creators → ClassFails s pure k c r p
  in_features : {r : Rule} {p : Span} → Any (λ (f : Feature). FeatureFails s pure k f.kind r p) c.features →
      ClassFails s pure k c r p
  in_invariant : {r : Rule} {p : Span} → Any (λ i. InvariantFails s pure k i r p) c.invariant →
      ClassFails s pure k c r p

-- The rule fails at the place, with the test of which functions are pure.
pub data SystemFails (s : System) (r : Rule) (p : Span) : Type 0 where
  in_class : {pure : RoutineName → Bool} {k : ℕ} {c : Class} → IsPurity s pure → slice_get s.classes k ≡ Some c →
      ClassFails s pure k c r p → SystemFails s r p

-- No rule fails anywhere.
abbrev pub WellFormed : System → Type 0
WellFormed s = (r : Rule) (p : Span) → SystemFails s r p → ⊥
