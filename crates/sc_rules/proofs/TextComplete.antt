-- Where a rule fails in a routine's text, judging it refuses.
use Rattle.std.proofs.Common.{◌≡◌, ◌<◌, zero, suc, Bool, true, false, List, [], ◌∷◌, ◌++◌, length, Option, Some, None, Ok, Err, ap, sym, subst, arith}
use Rattle.std.specs.Prelude.{Any, Contains, not}
use Rattle.sc_text.specs.declared.token.Span.{Span}
use Rattle.sc_tree.specs.Plain.{Clause, Head, Variable, Named, ResultVariable, CreationCall, Expr, target, no_target, Instr}
use Rattle.sc_rules.specs.declared.entity_types.entity_type.EntityType.{EntityType}
use Rattle.sc_rules.specs.entity_types.Conformance.{conforms}
use Rattle.sc_rules.specs.declared.rule.Rule.{Rule}
use Rattle.sc_rules.specs.declared.rule.Rule.TheVariants.{ArgumentType, AssignType, NotBoolean, NotCreation, CreationTag}
use Rattle.sc_rules.specs.declared.position.Context.{Context}
use Rattle.sc_rules.specs.declared.position.Context.TheVariants as context
use Rattle.sc_rules.specs.declared.position.Position.{Position}
use Rattle.sc_rules.specs.declared.position.Position.TheVariants.{Plain, Condition, Source}
use Rattle.sc_rules.specs.declared.position.Use.TheVariants.{Instruction}
use Rattle.sc_rules.specs.declared.position.Role.TheVariants as role
use Rattle.sc_rules.specs.Types.{is_boolean}
use Rattle.sc_rules.specs.Positions.{span_of}
use Rattle.sc_rules.specs.Names.{RoutineContext, Entities, entity, blocks, block_type, named, qualified_meaning, Assignee, unknown_assignee, unassignable, to_local, to_attribute, assignee, assignee_of_result, assignee_type, variable_span}
use Rattle.sc_rules.specs.Typing.{Typing, typing, HasType}
use Rattle.sc_rules.specs.Sites.{Site, Reserves, no_more, one_more, Part, target_part, actual_part, operand_part, left_part, right_part, joined_left_part, joined_right_part, tested_part, source_part, call_target_part, call_actual_part, creation_actual_part, condition_part, then_part, elseif_part, else_part, from_part, until_part, loop_part, check_part, head_part, block_part, first_part, others_part, branch_condition_part, branch_part, later_branches_part, Within, itself, inside}
use Rattle.sc_rules.specs.TextRules.{VariableFails, no_entity, no_result_here, not_assignable, is_tagged, is_made_without_procedure, is_made_by, CreationFails, tagged, without_procedure, creation_argument, at_procedure, not_listed, NoCondition, not_boolean, separate_any, InstructionFails, left_side, right_side, call_instruction, created_entity, creation, if_condition, until_condition, check_clause, head, FailsAt, at_expression, at_instruction, at_branch, Fails, fails, ClauseFails, in_clause, clause_type}
use Rattle.sc_rules.specs.Judging.{Judged, ◌>>=◌, required, judged_types, formals_of, target_of, judge_actuals_and_name, judge_called, judge_result, judge, judge_receiver, judged_actuals, judge_given}
use Rattle.sc_rules.specs.JudgingText.{conforms_if_any, is_boolean_if_any, judge_condition, judge_clause, judge_assignee, judge_variable, is_untagged, creation_meaning, judge_creation, judge_heads, judge_instr, judge_instrs, judge_branches}
use Rattle.sc_rules.proofs.Refusals.{bind_ok, Refused, stops, stops_behind, stops_at, unmet, refused_each}
use Rattle.sc_rules.proofs.Complete.{typed, given}
use Rattle.sc_rules.proofs.RefusedParts.{actual_refused, mismatch_refused}
use Rattle.sc_rules.proofs.Refused.{RefusedAt, receiver_refused, meant_refused_by_actuals, meant_refused_by_name, called_refused_inside, call_refused, expression_refused, expression_part_refused}

-- what is refused is, whatever comes behind each way
refused_further : {A B C : Type 0} (m : Judged A) (f : A → Judged B) (g : B → Judged C) → Refused (m >>= f) →
    Refused (m >>= λ x. f x >>= g)
refused_further (Ok x) f g r = stops (f x) g r
refused_further (Err e) f g r = tt

contained : {A : Type 0} (P : A → Type 0) (xs : List A) (x : A) → Contains xs x → P x → Any P xs
contained P xs x (k, l, e) p = (k, x, l, e, p)

-- ---- the heads of a block

abbrev pub head_required : RoutineContext → Head → Typing → Judged (Unit {0})
head_required h d t = required (conforms_if_any h.system t.type (Some separate_any)) ArgumentType (span_of d.value)

abbrev pub also_known : Entities → Head → Typing → Entities
also_known m d t = m ++ entity d.name.text (block_type (blocks m) t.type) role.Block ∷ []

-- the head is refused, whatever comes behind it
abbrev HeadRefused : RoutineContext → Entities → Head → Type 0
HeadRefused h n d =
    (f : Typing → Judged Entities) → Refused (judge h context.Body Plain n d.value >>= λ t. head_required h d t >>= λ u. f t)

heads_refused : (h : RoutineContext) (n m : Entities) (ds : List Head) → Any (HeadRefused h n) ds →
    Refused (judge_heads h n m ds)
heads_refused h n m [] (k, d, l, e, r) = absurd (omega (arith, l))
heads_refused h n m (x ∷ ds) (zero, d, l, e, r) = subst (λ d. Refused (judge_heads h n m (d ∷ ds))) (sym e)
    (r (λ t. judge_heads h n (also_known m d t) ds))
heads_refused h n m (x ∷ ds) (suc k, d, l, e, r) =
    stops_behind (judge h context.Body Plain n x.value)
    (λ t. head_required h x t >>= λ u. judge_heads h n (also_known m x t) ds)
    (λ t. stops_behind (head_required h x t) (λ u. judge_heads h n (also_known m x t) ds) (λ u. heads_refused h n (also_known m x t) ds (k, d, less l, e, r)))
  where
    less : suc k < suc (length ds) → k < length ds
    less l = omega arith

past_head : {B : Type 0} (b : Bool) (r : Rule) (p : Span) (j : Judged Entities) (f : Entities → Judged B) →
    Refused (j >>= f) → Refused ((required b r p >>= λ u. j) >>= f)
past_head true r p j f i = i
past_head false r p j f i = tt

-- what stands where the heads' names are known is refused, or a head is
reserved : {h : RoutineContext} {n m o : Entities} {ds : List Head} → Reserves h n m ds o →
    (f : Entities → Judged (Unit {0})) → Refused (f o) → Refused (judge_heads h n m ds >>= f)
reserved no_more f r = r
reserved {h} {n} (one_more {m} {o} {d} {ds} {t} a b) f r =
    subst (λ j. Refused (j >>= f)) (sym (bind_ok (λ t. head_required h d t >>= λ u. judge_heads h n (also_known m d t) ds) (typed a)))
    (past_head (conforms_if_any h.system t.type (Some separate_any)) ArgumentType (span_of d.value) (judge_heads h n (also_known m d t) ds) f (reserved b f r))

-- ---- parts

condition_refused : (h : RoutineContext) (c : Context) (k : Position) (n : Entities) (e : Expr) →
    Refused (judge h c k n e) → Refused (judge_condition h c k n e)
condition_refused h c k n e r =
    stops (judge h c k n e) (λ t. required (is_boolean_if_any t.type) NotBoolean (span_of e)) r

-- where a part is refused, the whole is
pub part_refused : {h : RoutineContext} {a b : Site} → Part h a b → RefusedAt h b → RefusedAt h a
unfolding judge_instr
part_refused (target_part) r = expression_part_refused target_part r
part_refused (actual_part i) r = expression_part_refused (actual_part i) r
part_refused (operand_part) r = expression_part_refused operand_part r
part_refused (left_part j) r = expression_part_refused (left_part j) r
part_refused (right_part j) r = expression_part_refused (right_part j) r
part_refused (joined_left_part j) r = expression_part_refused (joined_left_part j) r
part_refused (joined_right_part j g) r = expression_part_refused (joined_right_part j g) r
part_refused (tested_part) r = expression_part_refused tested_part r
part_refused {h} (source_part {n} {v} {e}) r =
    stops_behind (judge_variable h n v) _ (λ t. stops (judge h context.Body Source n e) _ r)
part_refused {h} (call_target_part {n} {s} {a} {x} {es}) r =
    receiver_refused h context.Body n a (λ q. judge_called h context.Body n Instruction (target a) x (judged_actuals h context.Body n es) q >>= λ t. Ok tt) r
part_refused {h} (call_actual_part {n} {t} {x} {es} i) r =
    stops_behind (judge_receiver h context.Body n t) _
    (λ q. stops (judge_called h context.Body n Instruction t x (judged_actuals h context.Body n es) q) _ (called_refused_inside h context.Body n Instruction t x i r q))
part_refused {h} (creation_actual_part {n} {creation} {k} c i) r =
    stops_behind (judge_variable h n creation.variable) _ (λ t. subst (λ o. Refused (judge_creation h n (variable_span creation.variable) t o)) (sym c)
    (stops_behind (required (is_untagged t) CreationTag (variable_span creation.variable)) _
    (λ u. stops (judge_actuals_and_name h context.Body Instruction no_target (creation_meaning h t k.name) k.name.span (judged_actuals h context.Body n k.actuals) (typing t false)) _
    (meant_refused_by_actuals h context.Body Instruction no_target (creation_meaning h t k.name) k.name.span (judged_actuals h context.Body n k.actuals) (typing t false)
    (actual_refused h context.Body n i r t (target_of h (creation_meaning h t k.name)) (judged_types (judged_actuals h context.Body n k.actuals)) (formals_of (creation_meaning h t k.name)))))))
part_refused {h} (condition_part {n} {choice}) r =
    stops (judge_condition h context.Body Condition n choice.condition) _ (condition_refused h context.Body Condition n choice.condition r)
part_refused {h} (then_part {n} {m} {choice} g) r =
    stops_behind (judge_condition h context.Body Condition n choice.condition) _
    (λ u. stops_at (judge_given h context.Body n choice.condition) _ m (given g) (stops (judge_instrs h m choice.body) _ r))
part_refused {h} (elseif_part {n} {choice}) r =
    stops_behind (judge_condition h context.Body Condition n choice.condition) _ (λ u. stops_behind (judge_given h context.Body n choice.condition) _
    (λ m. stops_behind (judge_instrs h m choice.body) _ (λ u. stops (judge_branches h n choice.branches) _ r)))
part_refused {h} (else_part {n} {choice}) r =
    stops_behind (judge_condition h context.Body Condition n choice.condition) _ (λ u. stops_behind (judge_given h context.Body n choice.condition) _
    (λ m. stops_behind (judge_instrs h m choice.body) _ (λ u. stops_behind (judge_branches h n choice.branches) _ (λ u. r))))
part_refused {h} (from_part {n} {loop}) r = stops (judge_instrs h n loop.initial) _ r
part_refused {h} (until_part {n} {loop}) r =
    stops_behind (judge_instrs h n loop.initial) _
    (λ u. stops (judge_condition h context.Body Plain n loop.until) _ (condition_refused h context.Body Plain n loop.until r))
part_refused {h} (loop_part {n} {loop}) r =
    stops_behind (judge_instrs h n loop.initial) _ (λ u. stops_behind (judge_condition h context.Body Plain n loop.until) _ (λ u. r))
part_refused {h} (check_part {n} {ks} {k} i) r =
    refused_each (judge_clause h context.Check n) ks (contained (λ k. Refused (judge_clause h context.Check n k)) ks k i (condition_refused h context.Check Plain n k.condition r))
part_refused {h} (head_part {n} {block} {d} i) r =
    stops (judge_heads h n n block.heads) _ (heads_refused h n n block.heads (contained (HeadRefused h n) block.heads d i (λ f. stops (judge h context.Body Plain n d.value) _ r)))
part_refused {h} (block_part {block} v) r = reserved v (λ m. judge_instrs h m block.body) r
part_refused {h} (first_part {n} {i}) r = stops (judge_instr h n i) _ r
part_refused {h} (others_part {n} {i}) r = stops_behind (judge_instr h n i) _ (λ u. r)
part_refused {h} (branch_condition_part {n} {e}) r =
    stops (judge_condition h context.Body Condition n e) _ (condition_refused h context.Body Condition n e r)
part_refused {h} (branch_part {n} {m} {e} {body} g) r =
    stops_behind (judge_condition h context.Body Condition n e) _ (λ u. stops_at (judge_given h context.Body n e) _ m (given g) (stops (judge_instrs h m body) _ r))
part_refused {h} (later_branches_part {n} {e} {body}) r =
    stops_behind (judge_condition h context.Body Condition n e) _ (λ u. stops_behind (judge_given h context.Body n e) _ (λ m. stops_behind (judge_instrs h m body) _ (λ u. r)))

pub within_refused : {h : RoutineContext} {a b : Site} → Within h a b → RefusedAt h b → RefusedAt h a
within_refused itself r = r
within_refused (inside d w) r = part_refused d (within_refused w r)

-- ---- what is assigned or created

no_variable : (p : Span) (a : Assignee) → a ≡ unknown_assignee → Refused (judge_assignee p a)
no_variable p a e = subst (λ a. Refused (judge_assignee p a)) (sym e) tt

fixed_variable : (p : Span) (a : Assignee) → a ≡ unassignable → Refused (judge_assignee p a)
fixed_variable p a e = subst (λ a. Refused (judge_assignee p a)) (sym e) tt

fixed_result : (p : Span) (o : Option (Option EntityType)) → assignee_of_result o ≡ unassignable →
    Refused (judge_result p o)
fixed_result p None e = tt
fixed_result p (Some t) e = cc

no_result_refused : (p : Span) (o : Option (Option EntityType)) → o ≡ None → Refused (judge_result p o)
no_result_refused p o e = subst (λ o. Refused (judge_result p o)) (sym e) tt

variable_refused : {h : RoutineContext} {n : Entities} {v : Variable} {r : Rule} {p : Span} → VariableFails h n v r p →
    Refused (judge_variable h n v)
variable_refused {h} {n} (no_entity {x} e) = no_variable x.span (assignee h n (Named x)) e
variable_refused {h} (no_result_here {s} e) = no_result_refused s h.result e
variable_refused {h} {n} (not_assignable {v} e) = fixed_refused v e
  where
    fixed_refused : (v : Variable) → assignee h n v ≡ unassignable → Refused (judge_variable h n v)
    fixed_refused (Named x) e = fixed_variable x.span (assignee h n (Named x)) e
    fixed_refused (ResultVariable s) e = fixed_result s h.result e

assignee_ok : (p : Span) (a : Assignee) (t : EntityType) → assignee_type a ≡ Some t → judge_assignee p a ≡ Ok (Some t)
assignee_ok p unknown_assignee t e = cc
assignee_ok p unassignable t e = cc
assignee_ok p (to_local o) t e = ap Ok e
assignee_ok p (to_attribute o) t e = ap Ok e

result_ok : (p : Span) (o : Option (Option EntityType)) (t : EntityType) →
    assignee_type (assignee_of_result o) ≡ Some t → judge_result p o ≡ Ok (Some t)
result_ok p None t e = cc
result_ok p (Some o) t e = ap Ok e

-- what has a type is judged so
pub variable_ok : (h : RoutineContext) (n : Entities) (v : Variable) (t : EntityType) →
    assignee_type (assignee h n v) ≡ Some t → judge_variable h n v ≡ Ok (Some t)
variable_ok h n (Named x) t e = assignee_ok x.span (assignee h n (Named x)) t e
variable_ok h n (ResultVariable s) t e = result_ok s h.result t e

tagged_refused : (t : EntityType) (p : Span) → is_tagged t.tag ≡ true →
    Refused (required (is_untagged (Some t)) CreationTag p)
tagged_refused t p e = unmet (not (is_tagged t.tag)) CreationTag p (ap not e)

creation_refused : {h : RoutineContext} {n : Entities} {v : Variable} {t : EntityType} {k : Option CreationCall}
    {r : Rule} {p : Span} → CreationFails h n v t k r p →
    Refused (judge_creation h n (variable_span v) (Some t) k)
creation_refused {h} {n} {v} {t} (tagged {k} e) = tagged_in k
  where
    tagged_in : (k : Option CreationCall) → Refused (judge_creation h n (variable_span v) (Some t) k)
    tagged_in None = stops_behind (required (is_made_without_procedure h.system t.class) NotCreation (variable_span v)) _ (λ u. tagged_refused t (variable_span v) e)
    tagged_in (Some k) = stops (required (is_untagged (Some t)) CreationTag (variable_span v)) _ (tagged_refused t (variable_span v) e)
creation_refused {h} {n} {v} {t} (without_procedure e) =
    stops (required (is_made_without_procedure h.system t.class) NotCreation (variable_span v)) _ (unmet (is_made_without_procedure h.system t.class) NotCreation (variable_span v) e)
creation_refused {h} {n} {v} {t} (creation_argument {k} {g} {p} e m) =
    stops_behind (required (is_untagged (Some t)) CreationTag (variable_span v)) _
    (λ u. stops (judge_actuals_and_name h context.Body Instruction no_target (qualified_meaning h t k.name.text) k.name.span (judged_actuals h context.Body n k.actuals) (typing (Some t) false)) _
    (subst (λ m. Refused (judge_actuals_and_name h context.Body Instruction no_target m k.name.span (judged_actuals h context.Body n k.actuals) (typing (Some t) false))) (sym e)
    (meant_refused_by_actuals h context.Body Instruction no_target (named g) k.name.span (judged_actuals h context.Body n k.actuals) (typing (Some t) false) (mismatch_refused m (Some t)))))
creation_refused {h} {n} {v} {t} (at_procedure {k} {r} f) =
    stops_behind (required (is_untagged (Some t)) CreationTag (variable_span v)) _
    (λ u. stops (judge_actuals_and_name h context.Body Instruction no_target (qualified_meaning h t k.name.text) k.name.span (judged_actuals h context.Body n k.actuals) (typing (Some t) false)) _
    (meant_refused_by_name n k.actuals k.name.span (typing (Some t) false) f))
creation_refused {h} {n} {v} {t} (not_listed {k} e) =
    stops_behind (required (is_untagged (Some t)) CreationTag (variable_span v)) _
    (λ u. stops_behind (judge_actuals_and_name h context.Body Instruction no_target (qualified_meaning h t k.name.text) k.name.span (judged_actuals h context.Body n k.actuals) (typing (Some t) false)) _
    (λ w. unmet (is_made_by h.system t.class k.name) NotCreation k.name.span e))

-- ---- instructions

not_boolean_refused : {h : RoutineContext} {c : Context} {k : Position} {n : Entities} {e : Expr} {r : Rule}
    {p : Span} → NoCondition h c k n e r p →
    Refused (judge_condition h c k n e)
not_boolean_refused {h} {c} {k} {n} {e} (not_boolean {t} {b} d i) =
    stops_at (judge h c k n e) (λ t. required (is_boolean_if_any t.type) NotBoolean (span_of e)) (typing (Some t) b)
    (typed d) (unmet (is_boolean t.class) NotBoolean (span_of e) i)

head_refused : (h : RoutineContext) (n : Entities) (d : Head) (t : EntityType) (b : Bool) →
    HasType h context.Body Plain n d.value (typing (Some t) b) →
    conforms h.system t separate_any ≡ false → HeadRefused h n d
head_refused h n d t b i e f =
    stops_at (judge h context.Body Plain n d.value) (λ t. head_required h d t >>= λ u. f t) (typing (Some t) b)
    (typed i)
    (stops (required (conforms h.system t separate_any) ArgumentType (span_of d.value)) _ (unmet (conforms h.system t separate_any) ArgumentType (span_of d.value) e))

instruction_refused : {h : RoutineContext} {n : Entities} {i : Instr} {r : Rule} {p : Span} →
    InstructionFails h n i r p → Refused (judge_instr h n i)
unfolding judge_instr
instruction_refused {h} {n} (left_side {v} f) = stops (judge_variable h n v) _ (variable_refused f)
instruction_refused {h} {n} (right_side {v} {e} {t} {a} {b} i d c) =
    stops_at (judge_variable h n v) _ (Some t) (variable_ok h n v t i)
    (stops_at (judge h context.Body Source n e) (λ a. required (conforms_if_any h.system a.type (Some t)) AssignType (span_of e)) (typing (Some a) b) (typed d)
    (unmet (conforms h.system a t) AssignType (span_of e) c))
instruction_refused {h} {n} (call_instruction {a} {x} {es} f) =
    refused_further (judge_receiver h context.Body n a)
    (λ r. judge_called h context.Body n Instruction a x (judged_actuals h context.Body n es) r) (λ t. Ok tt)
    (call_refused f)
instruction_refused {h} {n} (created_entity {creation =
    v} f) = stops (judge_variable h n v.variable) _ (variable_refused f)
instruction_refused {h} {n} (creation {creation = v} {t} i f) =
    stops_at (judge_variable h n v.variable) (λ t. judge_creation h n (variable_span v.variable) t v.call) (Some t)
    (variable_ok h n v.variable t i) (creation_refused f)
instruction_refused {h} {n} (if_condition {choice} f) =
    stops (judge_condition h context.Body Condition n choice.condition) _ (not_boolean_refused f)
instruction_refused {h} {n} (until_condition {loop} f) =
    stops_behind (judge_instrs h n loop.initial) _ (λ u. stops (judge_condition h context.Body Plain n loop.until) _ (not_boolean_refused f))
instruction_refused {h} {n} (check_clause {ks} {k} i f) =
    refused_each (judge_clause h context.Check n) ks (contained (λ k. Refused (judge_clause h context.Check n k)) ks k i (not_boolean_refused f))
instruction_refused {h} {n} (head {block} {d} {t} {b} i d' c) =
    stops (judge_heads h n n block.heads) _ (heads_refused h n n block.heads (contained (HeadRefused h n) block.heads d i (head_refused h n d t b d' c)))

at_refused : {h : RoutineContext} {a : Site} {r : Rule} {p : Span} → FailsAt h a r p → RefusedAt h a
unfolding judge_instr
at_refused (at_expression f) = expression_refused f
at_refused (at_instruction f) = instruction_refused f
at_refused {h} (at_branch {n} {e} f) = stops (judge_condition h context.Body Condition n e) _ (not_boolean_refused f)

-- where a rule fails at a site or at one that stands in it, judging it refuses
pub refused : {h : RoutineContext} {a : Site} {r : Rule} {p : Span} → Fails h a r p → RefusedAt h a
refused (fails w f) = within_refused w (at_refused f)

pub clause_refused : {h : RoutineContext} {c : Context} {n : Entities} {k : Clause} {r : Rule} {p : Span} →
    ClauseFails h c n k r p → Refused (judge_clause h c n k)
clause_refused {h} {c} {n} {k} (in_clause f) = condition_refused h c Plain n k.condition (refused f)
clause_refused (clause_type f) = not_boolean_refused f
