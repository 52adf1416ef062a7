-- At each place at which a rule fails at an expression or an instruction there is one of the faults that are listed of it.
use Rattle.std.proofs.Common.{◌≡◌, Bool, true, false, List, [], ◌++◌, Option, Some, None, refl, ap, sym, subst}
use Rattle.std.specs.Prelude.{Any, not, ◌&&◌, ◌||◌}
use Rattle.sc_text.specs.declared.token.Span.{Span}
use Rattle.sc_tree.specs.Plain as plain
use Rattle.sc_tree.specs.Plain.{Variable, Named, ResultVariable, CreationCall, Clause, Head, Expr, Void, Call, Unary, Binary, ObjectTest, Instr, Assign, CallRoutine, Create}
use Rattle.sc_class.proofs.Anys.{any_left, any_right}
use Rattle.sc_rules.specs.declared.entity_types.entity_type.EntityType.{EntityType}
use Rattle.sc_rules.specs.entity_types.Conformance.{conforms}
use Rattle.sc_rules.specs.declared.rule.Rule.{Rule}
use Rattle.sc_rules.specs.declared.rule.Rule.TheVariants.{ArgumentType, AssignType, NotBoolean, NotCreation, CreationTag, ObjectTestPlace, OldPlace, VoidUse}
use Rattle.sc_rules.specs.declared.fault.Fault.{Fault}
use Rattle.sc_rules.specs.declared.position.Context.{Context}
use Rattle.sc_rules.specs.declared.position.Context.TheVariants as context
use Rattle.sc_rules.specs.declared.position.Position.{Position}
use Rattle.sc_rules.specs.declared.position.Position.TheVariants.{Plain, Condition, Source}
use Rattle.sc_rules.specs.declared.position.Use.TheVariants.{Instruction}
use Rattle.sc_rules.specs.Types.{is_boolean}
use Rattle.sc_rules.specs.Positions.{span_of, is_old, is_ensure, is_condition, takes_void, operand_context, operand_position, shares_names}
use Rattle.sc_rules.specs.Names.{RoutineContext, Entities, Meaning, Assignee, unknown_assignee, unassignable, assignee, assignee_of_result, assignee_type, variable_span}
use Rattle.sc_rules.specs.Typing.{typing, old_stands, HasType}
use Rattle.sc_rules.specs.CallRules.{count}
use Rattle.sc_rules.specs.TextRules.{ExpressionFails, void_use, no_result, in_call, operand, operands, joined_operands, old_outside, old_over_separate, misplaced_test, tested_type, VariableFails, no_entity, no_result_here, not_assignable, is_tagged, is_made_without_procedure, is_made_by, CreationFails, tagged, without_procedure, creation_argument, at_procedure, not_listed, NoCondition, not_boolean, separate_any, InstructionFails, left_side, right_side, call_instruction, created_entity, creation, if_condition, until_condition, check_clause, head}
use Rattle.sc_rules.specs.Judging.{required, judge_operation, judge_result, formals_of, judge, judge_given}
use Rattle.sc_rules.specs.JudgingText.{is_untagged, judge_assignee, judge_variable, creation_meaning, judge_condition, judge_instr}
use Rattle.sc_rules.proofs.Refusals.{tells_more, tells_then, passes, tells_gave}
use Rattle.sc_rules.proofs.Complete.{typed, given}
use Rattle.sc_rules.proofs.Sound.{told_name}
use Rattle.sc_rules.proofs.TextComplete.{variable_ok}
use Rattle.sc_faults.specs.Internal.Listing.{faults_at, faults_of_each, judge_passed_to, judge_named, judge_old, judge_place, faults_of_type_if_any, faults_in, faults_in_actuals, faults_of, faults_of_condition, faults_of_clause, judge_value, faults_of_head, judge_made, faults_in_creation, faults_in_instr, faults_of_simple, faults_of_instr, faults_of_branches}
use Rattle.sc_faults.proofs.ReportedFaults.{Holds, at_any, each_any}
use Rattle.sc_faults.proofs.Places.{At, There, at_place, there_first, there_next, there_required, there_either, there_after, there_if_true, there_if_false}
use Rattle.sc_faults.proofs.TypeFaults.{type_place}
use Rattle.sc_faults.proofs.CallFaults.{mismatch_place, named_place, call_place}

-- ---- expressions

no_operation : (p : Span) (b : Bool) (o : Option (Option EntityType)) → o ≡ None → There p (judge_operation p b o)
no_operation p b o e = subst (λ o. There p (judge_operation p b o)) (sym e) refl

no_result_there : (p : Span) (o : Option (Option EntityType)) → o ≡ None → There p (judge_result p o)
no_result_there p o e = subst (λ o. There p (judge_result p o)) (sym e) refl

old_misplaced : (b c : Bool) → b ≡ true → c ≡ false → (not b || (c && not false)) ≡ false
old_misplaced true true d e = cc
old_misplaced true false d e = refl
old_misplaced false c d e = cc

old_separate : (b c : Bool) → b ≡ true → (not b || (c && not true)) ≡ false
old_separate true true d = refl
old_separate true false d = refl
old_separate false c d = cc

module _ (h : RoutineContext) where
  -- at the expression itself, or at what is listed inside it
  own : (c : Context) (k : Position) (n : Entities) (e : Expr) (p : Span) → There p (judge h c k n e) →
      Any (Holds (At p)) (faults_of h c k n e)
  own c k n e p t = at_place (judge h c k n e) (faults_in h c k n e) p t

  inner : (c : Context) (k : Position) (n : Entities) (e : Expr) (p : Span) → Any (Holds (At p)) (faults_in h c k n e) →
      Any (Holds (At p)) (faults_of h c k n e)
  inner c k n e p a = at_any (At p) (judge h c k n e) (faults_in h c k n e) a

  pub expression_place : {c : Context} {k : Position} {n : Entities} {e : Expr} {r : Rule} {p : Span} → ExpressionFails h c k n e r p →
      Any (Holds (At p)) (faults_of h c k n e)
  unfolding faults_in judge
  expression_place (void_use {c} {k} {n} {s} e) =
      own c k n (Void s) s (there_first s (required (takes_void k) VoidUse s) _ (there_required (takes_void k) VoidUse s e))
  expression_place (no_result {c} {k} {n} {s} e) =
      own c k n (plain.Result s) s (there_first s (judge_result s h.result) _ (no_result_there s h.result e))
  expression_place (in_call {c} {k} {n} {s} {p} {a} {x} {es} f) = inner c k n (Call s a x es) p (call_place f)
  expression_place (operand {c} {k} {n} {s} {op} {a} {t} d e) =
      own c k n (Unary s op a) s
      (there_next s (judge h (operand_context op c) Plain n a) _ t (typed d)
      (there_either (old_stands c op t) OldPlace s _ (no_operation s t.is_separate _ e)))
  expression_place (operands {c} {k} {n} {s} {op} {a} {b} {t} {u} i d g e) =
      own c k n (Binary s op a b) s
      (there_if_false s (shares_names k op) _ _ i
      (there_next s (judge h c (operand_position op) n a) _ t (typed d)
      (there_next s (judge h c (operand_position op) n b) _ u (typed g) (no_operation s (t.is_separate || u.is_separate) _ e))))
  expression_place (joined_operands {c} {k} {n} {m} {s} {op} {a} {b} {t} {u} i d v g e) =
      own c k n (Binary s op a b) s
      (there_if_true s (shares_names k op) _ _ i
      (there_next s (judge h c Condition n a) _ t (typed d)
      (there_next s (judge_given h c n a) _ m (given v)
      (there_next s (judge h c Condition m b) _ u (typed g) (no_operation s (t.is_separate || u.is_separate) _ e)))))
  expression_place (old_outside {c} {k} {n} {s} {op} {a} i e) =
      inner c k n (Unary s op a) s
      (any_right (faults_of h (operand_context op c) Plain n a) _
      (at_place (judge_old c op s) [] s
      (there_first s _ _ (there_first s (required (old_stands c op (typing None false)) OldPlace s) _
      (there_required (old_stands c op (typing None false)) OldPlace s (old_misplaced (is_old op) (is_ensure c) i e))))))
  expression_place (old_over_separate {c} {k} {n} {s} {op} {a} {t} i d) =
      own c k n (Unary s op a) s
      (there_next s (judge h (operand_context op c) Plain n a) _ (typing t true) (typed d)
      (there_first s (required (old_stands c op (typing t true)) OldPlace s) _
      (there_required (old_stands c op (typing t true)) OldPlace s (old_separate (is_old op) (is_ensure c) i))))
  expression_place (misplaced_test {c} {k} {n} {s} {d} {a} {x} e) =
      inner c k n (ObjectTest s d a x) s
      (any_right (faults_of_type_if_any h.system h.formals d) _ (any_right (faults_of h c Plain n a) _
      (at_place (judge_place k s) [] s (there_required (is_condition k) ObjectTestPlace s e))))
  expression_place (tested_type {c} {k} {n} {s} {p} {d} {a} {x} f) =
      inner c k n (ObjectTest s (Some d) a x) p (any_left (faults_of_type_if_any h.system h.formals (Some d)) _ (type_place f))

-- ---- what is assigned or created

no_entity_there : (p : Span) (a : Assignee) → a ≡ unknown_assignee → There p (judge_assignee p a)
no_entity_there p a e = subst (λ a. There p (judge_assignee p a)) (sym e) refl

fixed_there : (p : Span) (a : Assignee) → a ≡ unassignable → There p (judge_assignee p a)
fixed_there p a e = subst (λ a. There p (judge_assignee p a)) (sym e) refl

fixed_result : (p : Span) (o : Option (Option EntityType)) → assignee_of_result o ≡ unassignable → There p (judge_result p o)
fixed_result p None e = refl
fixed_result p (Some t) e = cc

variable_there : {h : RoutineContext} {n : Entities} {v : Variable} {r : Rule} {p : Span} → VariableFails h n v r p →
    There p (judge_variable h n v)
variable_there {h} {n} (no_entity {x} e) = no_entity_there x.span (assignee h n (Named x)) e
variable_there {h} (no_result_here {s} e) = no_result_there s h.result e
variable_there {h} {n} (not_assignable {v} e) = by v e
  where
    by : (v : Variable) → assignee h n v ≡ unassignable → There (variable_span v) (judge_variable h n v)
    by (Named x) e = fixed_there x.span (assignee h n (Named x)) e
    by (ResultVariable s) e = fixed_result s h.result e

-- a creation for an entity of this type
module _ (h : RoutineContext) (n : Entities) (s : Span) (v : Variable) (t : EntityType) (i : assignee_type (assignee h n v) ≡ Some t) where
  abbrev made : Option CreationCall → Instr
  made o = Create s (record { variable = v; call = o })

  abbrev ListedAt : Option CreationCall → Span → Type 0
  ListedAt o p = Any (Holds (At p)) (faults_of_simple h n (made o))

  refused : (o : Option CreationCall) (p : Span) → There p (judge_instr h n (made o)) → ListedAt o p
  refused o p j = at_place (judge_instr h n (made o)) (faults_in_instr h n (made o)) p j

  tagged_there : (o : Option CreationCall) → is_tagged t.tag ≡ true → There (variable_span v) (judge_instr h n (made o))
  unfolding judge_instr
  tagged_there None e =
      there_next (variable_span v) (judge_variable h n v) _ (Some t) (variable_ok h n v t i)
      (there_either (is_made_without_procedure h.system t.class) NotCreation (variable_span v) _
      (there_required (not (is_tagged t.tag)) CreationTag (variable_span v) (ap not e)))
  tagged_there (Some k) e =
      there_next (variable_span v) (judge_variable h n v) _ (Some t) (variable_ok h n v t i)
      (there_first (variable_span v) (required (not (is_tagged t.tag)) CreationTag (variable_span v)) _
      (there_required (not (is_tagged t.tag)) CreationTag (variable_span v) (ap not e)))

  without_there : is_made_without_procedure h.system t.class ≡ false → There (variable_span v) (judge_instr h n (made None))
  unfolding judge_instr
  without_there e =
      there_next (variable_span v) (judge_variable h n v) _ (Some t) (variable_ok h n v t i)
      (there_first (variable_span v) (required (is_made_without_procedure h.system t.class) NotCreation (variable_span v)) _
      (there_required (is_made_without_procedure h.system t.class) NotCreation (variable_span v) e))

  -- among what is listed of its call, where the type is known
  called : (k : CreationCall) (p : Span) → Any (Holds (At p)) (faults_in_creation h n (variable_span v) (Some t) (Some k)) →
      ListedAt (Some k) p
  called k p a =
      at_any (At p) (judge_instr h n (made (Some k))) (faults_in_instr h n (made (Some k)))
      (subst (λ o. Any (Holds (At p)) (faults_in_creation h n (variable_span v) o (Some k))) (sym i) a)

  abbrev meaning : CreationCall → Meaning
  meaning k = creation_meaning h (Some t) k.name

  abbrev tag_faults : List Fault
  tag_faults = faults_at (required (is_untagged (Some t)) CreationTag (variable_span v)) []

  abbrev actuals : CreationCall → List Fault
  actuals k = faults_in_actuals h context.Body n (judge_passed_to h context.Body n (Some t) (meaning k) k.actuals) (formals_of (meaning k)) k.actuals

  -- at the name of its procedure
  named_at : (k : CreationCall) → There k.name.span (judge_made h (Some t) (meaning k) k.name (count k.actuals)) → ListedAt (Some k) k.name.span
  named_at k j =
      called k k.name.span
      (any_right tag_faults _ (any_right (actuals k) _ (at_place (judge_made h (Some t) (meaning k) k.name (count k.actuals)) [] k.name.span j)))

  pub creation_place : {o : Option CreationCall} {r : Rule} {p : Span} → CreationFails h n v t o r p → ListedAt o p
  creation_place (tagged {k} e) = refused k (variable_span v) (tagged_there k e)
  creation_place (without_procedure e) = refused None (variable_span v) (without_there e)
  creation_place (creation_argument {k} {g} {p} m f) =
      called k p
      (any_right tag_faults _ (any_left (actuals k) _
      (subst (λ m. Any (Holds (At p)) (faults_in_actuals h context.Body n (judge_passed_to h context.Body n (Some t) m k.actuals) (formals_of m) k.actuals))
      (sym m) (mismatch_place h context.Body n k.actuals g.target (Some t) f))))
  creation_place (at_procedure {k} {r} f) =
      named_at k (there_first k.name.span (judge_named h context.Body Instruction plain.no_target (meaning k) (count k.actuals) k.name.span) _
      (named_place k.name.span f))
  creation_place (not_listed {k} e) =
      named_at k
      (there_after k.name.span (judge_named h context.Body Instruction plain.no_target (meaning k) (count k.actuals) k.name.span) _
      (tells_then _ (tells_more (λ r q g. g.0)
      (tells_gave (told_name h context.Body Instruction plain.no_target (meaning k) (count k.actuals) k.name.span))) (λ u. passes))
      (λ u. there_required (is_made_by h.system t.class k.name) NotCreation k.name.span e))

-- ---- conditions and instructions

condition_there : {h : RoutineContext} {c : Context} {k : Position} {n : Entities} {e : Expr} {r : Rule} {p : Span} →
    NoCondition h c k n e r p → There p (judge_condition h c k n e)
condition_there {h} {c} {k} {n} {e} (not_boolean {t} {b} d i) =
    there_next (span_of e) (judge h c k n e) _ (typing (Some t) b) (typed d) (there_required (is_boolean t.class) NotBoolean (span_of e) i)

condition_place : {h : RoutineContext} {c : Context} {k : Position} {n : Entities} {e : Expr} {r : Rule} {p : Span} →
    NoCondition h c k n e r p → Any (Holds (At p)) (faults_of_condition h c k n e)
condition_place {h} {c} {k} {n} {e} {p = p} f = at_place (judge_condition h c k n e) (faults_of h c k n e) p (condition_there f)

pub clause_type_there : {h : RoutineContext} {c : Context} {n : Entities} (i : Clause) {r : Rule} {p : Span} →
    NoCondition h c Plain n i.condition r p → There p (judge_condition h c Plain n i.condition)
clause_type_there i f = condition_there f

pub clause_type_place : {h : RoutineContext} {c : Context} {n : Entities} (i : Clause) {r : Rule} {p : Span} →
    NoCondition h c Plain n i.condition r p → Any (Holds (At p)) (faults_of_clause h c n i)
clause_type_place i f = condition_place f

head_place : {h : RoutineContext} {n : Entities} (d : Head) (t : EntityType) (b : Bool) →
    HasType h context.Body Plain n d.value (typing (Some t) b) → conforms h.system t separate_any ≡ false →
    Any (Holds (At (span_of d.value))) (faults_of_head h n d)
head_place {h} {n} d t b i e =
    at_place (judge_value h n d) (faults_of h context.Body Plain n d.value) (span_of d.value)
    (there_first (span_of d.value) _ _
    (there_next (span_of d.value) (judge h context.Body Plain n d.value) _ (typing (Some t) b) (typed i)
    (there_first (span_of d.value) (required (conforms h.system t separate_any) ArgumentType (span_of d.value)) _
    (there_required (conforms h.system t separate_any) ArgumentType (span_of d.value) e))))

pub instruction_place : {h : RoutineContext} {n : Entities} {i : Instr} {r : Rule} {p : Span} → InstructionFails h n i r p →
    Any (Holds (At p)) (faults_of_instr h n i)
unfolding faults_of_instr judge_instr
instruction_place {h} {n} (left_side {s} {p} {v} {e} f) =
    at_place (judge_instr h n (Assign s v e)) (faults_in_instr h n (Assign s v e)) p
    (there_first p (judge_variable h n v) _ (variable_there f))
instruction_place {h} {n} (right_side {s} {v} {e} {t} {a} {b} i d c) =
    at_place (judge_instr h n (Assign s v e)) (faults_in_instr h n (Assign s v e)) (span_of e)
    (there_next (span_of e) (judge_variable h n v) _ (Some t) (variable_ok h n v t i)
    (there_next (span_of e) (judge h context.Body Source n e) _ (typing (Some a) b) (typed d)
    (there_required (conforms h.system a t) AssignType (span_of e) c)))
instruction_place {h} {n} (call_instruction {s} {p} {a} {x} {es} f) =
    at_any (At p) (judge_instr h n (CallRoutine s a x es)) (faults_in_instr h n (CallRoutine s a x es)) (call_place f)
instruction_place {h} {n} (created_entity {s} {p} {creation = v} f) =
    at_place (judge_instr h n (Create s v)) (faults_in_instr h n (Create s v)) p (there_first p (judge_variable h n v.variable) _ (variable_there f))
instruction_place {h} {n} (creation {s} {p} {creation = v} {t} i f) = creation_place h n s v.variable t i f
instruction_place {h} {n} (if_condition {s} {p} {choice = c} f) =
    any_left (faults_of_condition h context.Body Condition n c.condition ++ _) _
    (any_left (faults_of_condition h context.Body Condition n c.condition) _ (condition_place f))
instruction_place {h} {n} (until_condition {s} {p} {loop = l} f) =
    any_right _ _ (any_left (faults_of_condition h context.Body Plain n l.until) _ (condition_place f))
instruction_place {h} {n} (check_clause {s} {p} {ks} {k} i f) =
    each_any (At p) (faults_of_clause h context.Check n) ks k i (clause_type_place k f)
instruction_place {h} {n} (head {s} {block = b} {d} {t} {b = u} i g c) =
    any_left (faults_of_each (faults_of_head h n) b.heads) _
    (each_any (At (span_of d.value)) (faults_of_head h n) b.heads d i (head_place d t u g c))

pub branch_place : {h : RoutineContext} {n : Entities} {e : Expr} (body : plain.Instrs) (bs : plain.Branches) {r : Rule} {p : Span} →
    NoCondition h context.Body Condition n e r p → Any (Holds (At p)) (faults_of_branches h n (plain.branch_then e body bs))
unfolding faults_of_instr
branch_place {h} {n} {e} body bs f =
    any_left (faults_of_condition h context.Body Condition n e ++ _) _
    (any_left (faults_of_condition h context.Body Condition n e) _ (condition_place f))
