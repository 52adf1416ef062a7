-- Judging classes and systems, as functions like those of `Judging`: the first rule that fails, in the order of the
-- walk.
use Rattle.std.specs.Prelude.{◌+◌, ℕ, Bool, true, false, not, ◌&&◌, ◌==◌, if◌then◌else◌, List, [], ◌∷◌, Option, Some, None, Ok, Err}
use Rattle.sc_text.specs.declared.token.Span.{Span}
use Rattle.sc_tree.specs.Plain.{System, Class, Feature, FeatureKind, RoutineDeclaration, Attribute, Routine, Declaration, DeclaredType, Clause, Name}
use Rattle.sc_class.specs.declared.identity.ClassId.TheVariants as class
use Rattle.sc_class.specs.Tables.Features.{DeclaredFeature, feature_named}
use Rattle.sc_rules.specs.declared.rule.Rule.{Rule}
use Rattle.sc_rules.specs.declared.rule.Rule.TheVariants as rule
use Rattle.sc_rules.specs.declared.rule.Rule.TheVariants.{UnknownName, ResultType, InvariantForm}
use Rattle.sc_rules.specs.declared.position.Context.{Context}
use Rattle.sc_rules.specs.declared.position.Context.TheVariants as context
use Rattle.sc_rules.specs.Names.{RoutineName, context_of, formals_known, known_in_body}
use Rattle.sc_rules.specs.SystemRules.{invariant_context, may_be_formula, clause_span, is_query}
use Rattle.sc_rules.specs.Judging.{Judged, ◌>>=◌, fault, required, judge_each, judge_type}
use Rattle.sc_rules.specs.JudgingText.{judge_clause, judge_instrs}

-- each declaration's type
abbrev pub judge_declarations : System → List Declaration → List Declaration → Judged (Unit {0})
judge_declarations s formals ds = judge_each (λ (d : Declaration). judge_type s formals d.declared_type) ds

abbrev pub judge_result_type : System → Option DeclaredType → Judged (Unit {0})
judge_result_type s None = Ok tt
judge_result_type s (Some d) = judge_type s [] d

-- clauses of a routine's contract, which knows its formals
abbrev pub judge_clauses : System → (RoutineName → Bool) → ℕ → RoutineDeclaration → Context → List Clause →
    Judged (Unit {0})
judge_clauses s pure k routine c =
    judge_each (judge_clause (context_of s pure k routine) c (formals_known s routine.formals))

-- a feature of the class at the number: its types, precondition, locals, body and postcondition
abbrev pub judge_feature : System → (RoutineName → Bool) → ℕ → FeatureKind → Judged (Unit {0})
judge_feature s pure k (Attribute d) = judge_type s [] d
judge_feature s pure k (Routine routine) = do
  _ ← judge_declarations s routine.formals routine.formals
  _ ← judge_result_type s routine.result_type
  _ ← judge_clauses s pure k routine context.Require routine.precondition
  _ ← judge_declarations s routine.formals routine.locals
  _ ← judge_instrs (context_of s pure k routine) (known_in_body s routine) routine.body
  judge_clauses s pure k routine context.Ensure routine.postcondition

-- the rules that come after the one on the form of an invariant's clause, if several fail at one place
abbrev pub is_late : Rule → Bool
is_late rule.ImpureContract = true
is_late rule.PreconditionArgument = true
is_late rule.NotExported = true
is_late rule.ObjectTestPlace = true
is_late rule.OldPlace = true
is_late rule.VoidUse = true
is_late _ = false

abbrev pub is_same_span : Span → Span → Bool
is_same_span p q = p.start == q.start && p.end == q.end

-- the form of a clause is judged after its expression, but before a later rule that fails at the same place
abbrev pub judge_form : Bool → Span → Judged (Unit {0}) → Judged (Unit {0})
judge_form b p (Ok u) = required b InvariantForm p
judge_form b p (Err f) =
    if not b && (is_same_span f.span p && is_late f.rule) then Err (fault InvariantForm p) else Err f

-- a clause of the invariant of the class at the number
abbrev pub judge_invariant : System → (RoutineName → Bool) → ℕ → Clause → Judged (Unit {0})
judge_invariant s pure k c =
    judge_form (may_be_formula s k c.condition) (clause_span c.tag c.condition)
    (judge_clause (invariant_context s pure k) context.Invariant [] c)

abbrev pub judge_listed : Span → Option DeclaredFeature → Judged (Unit {0})
judge_listed p None = Err (fault UnknownName p)
judge_listed p (Some f) = required (not (is_query f.feature.kind)) ResultType p

-- a name that the class at the number lists under `create`
abbrev pub judge_creator : System → ℕ → Name → Judged (Unit {0})
judge_creator s k x = judge_listed x.span (feature_named s (class.Declared k) x.text)

-- the text of the class at the number
abbrev pub judge_class : System → (RoutineName → Bool) → ℕ → Class → Judged (Unit {0})
judge_class s pure k c = do
  _ ← judge_each (judge_creator s k) c.creators
  _ ← judge_each (λ (f : Feature). judge_feature s pure k f.kind) c.features
  judge_each (judge_invariant s pure k) c.invariant

-- these classes; the first is at the number
abbrev pub judge_classes : System → (RoutineName → Bool) → ℕ → List Class → Judged (Unit {0})
judge_classes s pure k [] = Ok tt
judge_classes s pure k (c ∷ cs) = do
  _ ← judge_class s pure k c
  judge_classes s pure (k + 1) cs

abbrev pub judge_system : System → (RoutineName → Bool) → Judged (Unit {0})
judge_system s pure = judge_classes s pure 0 s.classes
