-- The rule that judging a routine's text answers fails at its place.
use Rattle.std.proofs.Common.{◌≡◌, Bool, true, false, List, [], ◌∷◌, Option, Some, None, Ok, Err, refl, ap, sym, subst}
use Rattle.std.specs.Prelude.{Any, Contains, not}
use Rattle.sc_text.specs.declared.token.Span.{Span}
use Rattle.sc_tree.specs.Plain.{Clause, Head, Name, Variable, Named, ResultVariable, CreationCall, Creation, Expr, Target, no_target, Exprs, Instr, Assign, PrintText, CallRoutine, Create, If, Conditional, if_instr, Loop, Iteration, loop_instr, Check, Block, SeparateBlock, block_instr, Instrs, no_instrs, instr_then, Branches, no_branches, branch_then}
use Rattle.sc_rules.specs.declared.entity_types.entity_type.EntityType.{EntityType}
use Rattle.sc_rules.specs.entity_types.Conformance.{conforms}
use Rattle.sc_rules.specs.declared.rule.Rule.{Rule}
use Rattle.sc_rules.specs.declared.rule.Rule.TheVariants.{ArgumentType, AssignType, NotBoolean, NotCreation, CreationTag}
use Rattle.sc_rules.specs.declared.position.Context.{Context}
use Rattle.sc_rules.specs.declared.position.Context.TheVariants as context
use Rattle.sc_rules.specs.declared.position.Position.{Position}
use Rattle.sc_rules.specs.declared.position.Position.TheVariants.{Plain, Condition, Source}
use Rattle.sc_rules.specs.declared.position.Use.TheVariants.{Instruction}
use Rattle.sc_rules.specs.Types.{is_boolean}
use Rattle.sc_rules.specs.Positions.{span_of}
use Rattle.sc_rules.specs.Names.{RoutineContext, Entities, Meaning, unknown, target_untyped, named, qualified_meaning, meaning_of, Assignee, unknown_assignee, unassignable, to_local, to_attribute, assignee, assignee_of_result, assignee_type, variable_span}
use Rattle.sc_rules.specs.Typing.{typing, HasType}
use Rattle.sc_rules.specs.Sites.{expression, instruction, instructions, branches, Reserves, no_more, one_more, source_part, call_target_part, call_actual_part, creation_actual_part, condition_part, then_part, elseif_part, else_part, from_part, until_part, loop_part, check_part, head_part, block_part, first_part, others_part, branch_condition_part, branch_part, later_branches_part, itself}
use Rattle.sc_rules.specs.CallRules.{count, AtName}
use Rattle.sc_rules.specs.TextRules.{VariableFails, no_entity, no_result_here, not_assignable, is_tagged, is_made_without_procedure, is_made_by, CreationFails, tagged, without_procedure, creation_argument, at_procedure, not_listed, NoCondition, not_boolean, separate_any, InstructionFails, left_side, right_side, call_instruction, created_entity, creation, if_condition, until_condition, check_clause, head, at_instruction, at_branch, Fails, fails, ClauseFails, in_clause, clause_type}
use Rattle.sc_rules.specs.Judging.{Judged, ◌>>=◌, required, judge_actuals_and_name, judge_called, judge_result, judge_receiver, judged_actuals}
use Rattle.sc_rules.specs.JudgingText.{conforms_if_any, is_boolean_if_any, judge_condition, judge_clause, judge_assignee, judge_variable, is_made_without_procedure_if_any, is_made_by_if_any, is_untagged, creation_meaning, judge_creation, judge_heads, judge_instr, judge_instrs, judge_branches}
use Rattle.sc_rules.proofs.Refusals.{Tells, passes, tells, tells_more, tells_then, tells_each, Gave, gave, refuses, gave_then, gave_more, gave_map, gave_required, tells_gave, any_first, any_later}
use Rattle.sc_rules.proofs.TextComplete.{head_required, also_known}
use Rattle.sc_rules.proofs.ToldActuals.{up, TargetFails, in_target, at_target, in_actual, mismatch, passed_reference}
use Rattle.sc_rules.proofs.Sound.{MeantFails, by_actuals, by_name, told_meant, meant_call, told, told_receiver, told_found, told_given}

pub tells_required : (P : Rule → Span → Type 0) (b : Bool) (r : Rule) (p : Span) → (b ≡ false → P r p) →
    Tells P (required b r p)
tells_required P b r p f = tells_gave (gave_required P b r p f)

-- what comes first gives what is so, or its rule fails at its place
then_tells : {A B : Type 0} {Q : A → Type 0} {P R : Rule → Span → Type 0} {i : Judged A} (f : A → Judged B) →
    Gave Q P i → ((r : Rule) (p : Span) → P r p →
    R r p) →
    ((x : A) → Q x → Tells R (f x)) → Tells R (i >>= f)
then_tells f (gave {x} q) w t = t x q
then_tells f (refuses {f = e} p) w t = tells (w e.rule e.span p)

tells_further : {A B C : Type 0} {P : Rule → Span → Type 0} (m : Judged A) (f : A → Judged B) (x : C) →
    Tells P (m >>= f) → Tells P (m >>= λ a. f a >>= λ b. Ok x)
tells_further (Ok a) f x t = tells_then (λ b. Ok x) t (λ b. passes)
tells_further (Err e) f x (tells t) = tells t

at : {h : RoutineContext} {n : Entities} {i : Instr} (r : Rule) (p : Span) → InstructionFails h n i r p →
    Fails h (instruction n i) r p
at r p f = fails itself (at_instruction f)

-- ---- conditions

-- in the expression, or it isn't BOOLEAN
pub data ConditionFails (h : RoutineContext) (c : Context) (k : Position) (n : Entities) (e : Expr) : Rule → Span →
    Type 0 where
  in_condition : {r : Rule} {p : Span} → Fails h (expression c k n e) r p → ConditionFails h c k n e r p
  of_condition : {r : Rule} {p : Span} → NoCondition h c k n e r p → ConditionFails h c k n e r p

tells_boolean : (h : RoutineContext) (c : Context) (k : Position) (n : Entities) (e : Expr) (o : Option EntityType)
    (b : Bool) → HasType h c k n e (typing o b) →
    Tells (ConditionFails h c k n e) (required (is_boolean_if_any o) NotBoolean (span_of e))
tells_boolean h c k n e None b d = passes
tells_boolean h c k n e (Some t) b d = tells_required (ConditionFails h c k n e)
    (is_boolean t.class) NotBoolean (span_of e) (λ i. of_condition (not_boolean d i))

pub tells_condition : (h : RoutineContext) (c : Context) (k : Position) (n : Entities) (e : Expr) →
    Tells (ConditionFails h c k n e) (judge_condition h c k n e)
tells_condition h c k n e = then_tells (λ t. required (is_boolean_if_any t.type) NotBoolean (span_of e))
    (told h c k n e) (λ r p f. in_condition f)
    (λ t d. tells_boolean h c k n e t.type t.is_separate d)

pub tells_clause : (h : RoutineContext) (c : Context) (n : Entities) (k : Clause) →
    Tells (ClauseFails h c n k) (judge_clause h c n k)
tells_clause h c n k = tells_more clause_fails (tells_condition h c Plain n k.condition)
  where
    clause_fails : (r : Rule) (p : Span) → ConditionFails h c Plain n k.condition r p → ClauseFails h c n k r p
    clause_fails r p (in_condition f) = in_clause f
    clause_fails r p (of_condition f) = clause_type f

-- ---- what is assigned or created

told_assignee : (h : RoutineContext) (n : Entities) (x : Name) (a : Assignee) → assignee h n (Named x) ≡ a →
    Gave (λ t. assignee_type (assignee h n (Named x)) ≡ t) (VariableFails h n (Named x)) (judge_assignee x.span a)
told_assignee h n x unknown_assignee e = refuses (no_entity e)
told_assignee h n x unassignable e = refuses (not_assignable e)
told_assignee h n x (to_local t) e = gave (ap assignee_type e)
told_assignee h n x (to_attribute t) e = gave (ap assignee_type e)

told_result : (h : RoutineContext) (n : Entities) (s : Span) (o : Option (Option EntityType)) → h.result ≡ o →
    Gave (λ t. assignee_type (assignee h n (ResultVariable s)) ≡ t) (VariableFails h n (ResultVariable s))
    (judge_result s o)
told_result h n s None e = refuses (no_result_here e)
told_result h n s (Some t) e = gave (ap (λ o. assignee_type (assignee_of_result o)) e)

told_variable : (h : RoutineContext) (n : Entities) (v : Variable) →
    Gave (λ t. assignee_type (assignee h n v) ≡ t) (VariableFails h n v) (judge_variable h n v)
told_variable h n (Named x) = told_assignee h n x (assignee h n (Named x)) refl
told_variable h n (ResultVariable s) = told_result h n s h.result refl

tells_assignment : (h : RoutineContext) (n : Entities) (s : Span) (v : Variable) (e : Expr) (a t : Option EntityType)
    (b : Bool) → assignee_type (assignee h n v) ≡ t →
    HasType h context.Body Source n e (typing a b) →
    Tells (Fails h (instruction n (Assign s v e))) (required (conforms_if_any h.system a t) AssignType (span_of e))
tells_assignment h n s v e None t b i d = passes
tells_assignment h n s v e (Some a) None b i d = passes
tells_assignment h n s v e (Some a) (Some t) b i d =
    tells_required (Fails h (instruction n (Assign s v e))) (conforms h.system a t) AssignType (span_of e)
    (λ c. at AssignType (span_of e) (right_side i d c))

is_true : (b : Bool) → not b ≡ false → b ≡ true
is_true true e = refl
is_true false e = cc

-- what fails in a creation with this call fails in the creation
creation_at : {h : RoutineContext} {n : Entities} {s p : Span} {v : Creation} {o : Option CreationCall}
    {t : EntityType} {r : Rule} →
    assignee_type (assignee h n v.variable) ≡ Some t → v.call ≡ o → CreationFails h n v.variable t o r p →
    InstructionFails h n (Create s v) r p
creation_at {h} {n} {s} {p} {v} {o} {t} {r} i c f =
    creation i (subst (λ o. CreationFails h n v.variable t o r p) (sym c) f)

-- where a rule fails in what the creation means, it does in the creation
meant_creation : (h : RoutineContext) (n : Entities) (s : Span) (v : Creation) (k : CreationCall) → v.call ≡ Some k →
    (t : EntityType) (m : Meaning) →
    qualified_meaning h t k.name.text ≡ m → assignee_type (assignee h n v.variable) ≡ Some t → (r : Rule) (p : Span) →
    MeantFails h context.Body n Instruction no_target m k.name.span k.actuals (Some t) r p →
    Fails h (instruction n (Create s v)) r p
meant_creation h n s v k c t m e i r p (by_actuals (in_actual a f)) = up (creation_actual_part c a) r p f
meant_creation h n s v k c t unknown e i r p (by_actuals (mismatch f)) = elim f [ ]
meant_creation h n s v k c t target_untyped e i r p (by_actuals (mismatch f)) = elim f [ ]
meant_creation h n s v k c t (named g) e i r p (by_actuals (mismatch f)) =
    at r p (creation_at i c (creation_argument e f))
meant_creation h n s v k c t m e i r p (by_actuals (passed_reference q f a d x)) = cc
meant_creation h n s v k c t m e i r p (by_name (q, f)) =
    subst (λ p. Fails h (instruction n (Create s v)) r p) (sym q)
    (at r k.name.span (creation_at i c (at_procedure (subst (λ m. AtName h context.Body no_target Instruction m (count k.actuals) r) (sym e) f))))

-- nothing is known of what the creation means
meant_nothing : (h : RoutineContext) (n : Entities) (s : Span) (v : Creation) (k : CreationCall) → v.call ≡ Some k →
    (r : Rule) (p : Span) →
    MeantFails h context.Body n Instruction no_target target_untyped k.name.span k.actuals None r p →
    Fails h (instruction n (Create s v)) r p
meant_nothing h n s v k c r p (by_actuals (in_actual a f)) = up (creation_actual_part c a) r p f
meant_nothing h n s v k c r p (by_actuals (mismatch f)) = elim f [ ]
meant_nothing h n s v k c r p (by_actuals (passed_reference q f a d x)) = cc
meant_nothing h n s v k c r p (by_name (q, f)) = elim f [ ]

-- the creation of an object for an entity of this type
tells_made : (h : RoutineContext) (n : Entities) (s : Span) (v : Creation) (k : CreationCall) → v.call ≡ Some k →
    (t : Option EntityType) →
    assignee_type (assignee h n v.variable) ≡ t → Tells (Fails h (instruction n (Create s v)))
    (judge_actuals_and_name h context.Body Instruction no_target (creation_meaning h t k.name) k.name.span (judged_actuals h context.Body n k.actuals) (typing t false))
tells_made h n s v k c None i =
    tells_more (meant_nothing h n s v k c)
    (tells_gave (told_meant Instruction no_target target_untyped k.name.span (typing None false) (told_found h context.Body n k.actuals)))
tells_made h n s v k c (Some t) i =
    tells_more (meant_creation h n s v k c t (qualified_meaning h t k.name.text) refl i)
    (tells_gave (told_meant Instruction no_target (qualified_meaning h t k.name.text) k.name.span (typing (Some t) false) (told_found h context.Body n k.actuals)))

untagged : (h : RoutineContext) (n : Entities) (s : Span) (v : Creation) (t : Option EntityType) →
    assignee_type (assignee h n v.variable) ≡ t →
    Tells (Fails h (instruction n (Create s v))) (required (is_untagged t) CreationTag (variable_span v.variable))
untagged h n s v None i = passes
untagged h n s v (Some t) i =
    tells_required (Fails h (instruction n (Create s v))) (not (is_tagged t.tag)) CreationTag (variable_span v.variable)
    (λ e. at CreationTag (variable_span v.variable) (creation i (tagged (is_true (is_tagged t.tag) e))))

made_without_call : (h : RoutineContext) (n : Entities) (s : Span) (v : Creation) → v.call ≡ None →
    (t : Option EntityType) → assignee_type (assignee h n v.variable) ≡ t →
    Tells (Fails h (instruction n (Create s v)))
    (required (is_made_without_procedure_if_any h.system t) NotCreation (variable_span v.variable))
made_without_call h n s v c None i = passes
made_without_call h n s v c (Some t) i =
    tells_required (Fails h (instruction n (Create s v)))
    (is_made_without_procedure h.system t.class) NotCreation (variable_span v.variable)
    (λ e. at NotCreation (variable_span v.variable) (creation_at i c (without_procedure e)))

listed : (h : RoutineContext) (n : Entities) (s : Span) (v : Creation) (k : CreationCall) → v.call ≡ Some k →
    (t : Option EntityType) →
    assignee_type (assignee h n v.variable) ≡ t →
    Tells (Fails h (instruction n (Create s v)))
    (required (is_made_by_if_any h.system t k.name) NotCreation k.name.span)
listed h n s v k c None i = passes
listed h n s v k c (Some t) i =
    tells_required (Fails h (instruction n (Create s v))) (is_made_by h.system t.class k.name) NotCreation k.name.span
    (λ e. at NotCreation k.name.span (creation_at i c (not_listed e)))

tells_creation : (h : RoutineContext) (n : Entities) (s : Span) (v : Creation) (o : Option CreationCall) → v.call ≡ o →
    (t : Option EntityType) →
    assignee_type (assignee h n v.variable) ≡ t → Tells (Fails h (instruction n (Create s v)))
    (judge_creation h n (variable_span v.variable) t o)
tells_creation h n s v None c t i = tells_then _ (made_without_call h n s v c t i) (λ u. untagged h n s v t i)
tells_creation h n s v (Some k) c t i = tells_then _ (untagged h n s v t i)
    (λ u. tells_then _ (tells_made h n s v k c t i) (λ w. listed h n s v k c t i))

-- ---- the heads of a block

-- in the head, or it doesn't conform to `separate ANY`
data HeadFails (h : RoutineContext) (n : Entities) (d : Head) : Rule → Span → Type 0 where
  in_head : {r : Rule} {p : Span} → Fails h (expression context.Body Plain n d.value) r p → HeadFails h n d r p
  of_head : {t : EntityType} {b : Bool} → HasType h context.Body Plain n d.value (typing (Some t) b) →
      conforms h.system t separate_any ≡ false →
      HeadFails h n d ArgumentType (span_of d.value)

told_head : (h : RoutineContext) (n : Entities) (d : Head) (o : Option EntityType) (b : Bool) →
    HasType h context.Body Plain n d.value (typing o b) →
    Gave (λ (u : Unit {0}). conforms_if_any h.system o (Some separate_any) ≡ true) (HeadFails h n d)
    (head_required h d (typing o b))
told_head h n d None b i = gave refl
told_head h n d (Some t) b i = gave_required (HeadFails h n d)
    (conforms h.system t separate_any) ArgumentType (span_of d.value) (λ e. of_head i e)

told_heads : (h : RoutineContext) (n m : Entities) (ds : List Head) →
    Gave (λ o. Reserves h n m ds o) (λ r p. Any (λ d. HeadFails h n d r p) ds) (judge_heads h n m ds)
told_heads h n m [] = gave no_more
told_heads h n m (d ∷ ds) =
    gave_then (λ t. head_required h d t >>= λ u. judge_heads h n (also_known m d t) ds)
    (gave_more (λ r p f. any_first d ds (in_head f)) (told h context.Body Plain n d.value))
    (λ t i. gave_then (λ u. judge_heads h n (also_known m d t) ds) (gave_more (λ r p f. any_first d ds f) (told_head h n d t.type t.is_separate i))
    (λ u c. gave_map (λ o v. one_more i v) (gave_more (λ r p f. any_later d ds f) (told_heads h n (also_known m d t) ds))))

head_fails : (h : RoutineContext) (n : Entities) (s : Span) (b : SeparateBlock) (d : Head) → Contains b.heads d →
    (r : Rule) (p : Span) → HeadFails h n d r p →
    Fails h (instruction n (block_instr s b)) r p
head_fails h n s b d i r p (in_head f) = up (head_part i) r p f
head_fails h n s b d i r p (of_head t c) = at r p (head i t c)

heads_fail : (h : RoutineContext) (n : Entities) (s : Span) (b : SeparateBlock) (r : Rule) (p : Span) →
    Any (λ d. HeadFails h n d r p) b.heads →
    Fails h (instruction n (block_instr s b)) r p
heads_fail h n s b r p (k, d, l, e, f) = head_fails h n s b d (k, l, e) r p f

-- ---- instructions

check_fails : (h : RoutineContext) (n : Entities) (s : Span) (ks : List Clause) (r : Rule) (p : Span) →
    Any (λ k. ConditionFails h context.Check Plain n k.condition r p) ks →
    Fails h (instruction n (Check s ks)) r p
check_fails h n s ks r p (k, c, l, e, f) = clause_fails c (k, l, e) f
  where
    clause_fails : (c : Clause) → Contains ks c → ConditionFails h context.Check Plain n c.condition r p →
        Fails h (instruction n (Check s ks)) r p
    clause_fails c i (in_condition f) = up (check_part i) r p f
    clause_fails c i (of_condition f) = at r p (check_clause i f)

if_fails : (h : RoutineContext) (n : Entities) (s : Span) (c : Conditional) (r : Rule) (p : Span) →
    ConditionFails h context.Body Condition n c.condition r p → Fails h (instruction n (if_instr s c)) r p
if_fails h n s c r p (in_condition f) = up condition_part r p f
if_fails h n s c r p (of_condition f) = at r p (if_condition f)

until_fails : (h : RoutineContext) (n : Entities) (s : Span) (l : Iteration) (r : Rule) (p : Span) →
    ConditionFails h context.Body Plain n l.until r p → Fails h (instruction n (loop_instr s l)) r p
until_fails h n s l r p (in_condition f) = up until_part r p f
until_fails h n s l r p (of_condition f) = at r p (until_condition f)

branch_fails : (h : RoutineContext) (n : Entities) (e : Expr) (body : Instrs) (bs : Branches) (r : Rule) (p : Span) →
    ConditionFails h context.Body Condition n e r p → Fails h (branches n (branch_then e body bs)) r p
branch_fails h n e body bs r p (in_condition f) = up branch_condition_part r p f
branch_fails h n e body bs r p (of_condition f) = fails itself (at_branch f)

receiver_fails : (h : RoutineContext) (n : Entities) (s : Span) (a : Target) (x : Name) (es : Exprs) (r : Rule)
    (p : Span) → TargetFails h context.Body n a r p →
    Fails h (instruction n (CallRoutine s a x es)) r p
receiver_fails h n s a x es r p (in_target f) = up call_target_part r p f
receiver_fails h n s a x es r p (at_target f) = at r p (call_instruction (f Instruction x es))

tells_called : (h : RoutineContext) (n : Entities) (s : Span) (a : Target) (x : Name) (es : Exprs) →
    Tells (Fails h (instruction n (CallRoutine s a x es)))
    (judge_receiver h context.Body n a >>= λ r. judge_called h context.Body n Instruction a x (judged_actuals h context.Body n es) r)
tells_called h n s a x es =
    then_tells (λ r. judge_called h context.Body n Instruction a x (judged_actuals h context.Body n es) r)
    (told_receiver h context.Body n a) (receiver_fails h n s a x es)
    (λ r v. tells_more (meant_call (meaning_of h n a r.type x) refl v.0 (Fails h (instruction n (CallRoutine s a x es))) (λ q p f. at q p (call_instruction f))
    (λ e i q p f. up (call_actual_part i) q p f))
    (tells_gave (told_meant Instruction a (meaning_of h n a r.type x) x.span r (told_found h context.Body n es))))

mutual
  unfolding judge_instr

  -- a refusal's rule fails at its place
  pub tells_instr : (h : RoutineContext) (n : Entities) (i : Instr) →
      Tells (Fails h (instruction n i)) (judge_instr h n i)
  tells_instr h n (Assign s v e) =
      then_tells _ (told_variable h n v) (λ r p f. at r p (left_side f))
      (λ t i. then_tells (λ a. required (conforms_if_any h.system a.type t) AssignType (span_of e)) (told h context.Body Source n e) (up source_part)
      (λ a d. tells_assignment h n s v e a.type t a.is_separate i d))
  tells_instr h n (PrintText s x) = passes
  tells_instr h n (CallRoutine s a x es) =
      tells_further (judge_receiver h context.Body n a)
      (λ r. judge_called h context.Body n Instruction a x (judged_actuals h context.Body n es) r) tt (tells_called h n s a x es)
  tells_instr h n (Create s v) =
      then_tells (λ t. judge_creation h n (variable_span v.variable) t v.call) (told_variable h n v.variable)
      (λ r p f. at r p (created_entity f))
      (λ t i. tells_creation h n s v v.call refl t i)
  tells_instr h n (If s e body bs other) =
      tells_then _ (tells_more (if_fails h n s (record { condition = e; body = body; branches = bs; other = other })) (tells_condition h context.Body Condition n e))
      (λ u. then_tells _ (told_given h context.Body n e) (up condition_part)
      (λ m g. tells_then _ (tells_more (up (then_part g)) (tells_instrs h m body))
      (λ u. tells_then _ (tells_more (up elseif_part) (tells_branches h n bs)) (λ u. tells_more (up else_part) (tells_instrs h n other)))))
  tells_instr h n (Loop s initial e body) =
      tells_then _ (tells_more (up from_part) (tells_instrs h n initial))
      (λ u. tells_then _ (tells_more (until_fails h n s (record { initial = initial; until = e; body = body })) (tells_condition h context.Body Plain n e))
      (λ u. tells_more (up loop_part) (tells_instrs h n body)))
  tells_instr h n (Check s ks) =
      tells_more (check_fails h n s ks)
      (tells_each (λ k. ConditionFails h context.Check Plain n k.condition) (judge_clause h context.Check n) (λ k. tells_condition h context.Check Plain n k.condition) ks)
  tells_instr h n (Block s ds body) =
      then_tells (λ m. judge_instrs h m body) (told_heads h n n ds)
      (heads_fail h n s (record { heads = ds; body = body }))
      (λ m v. tells_more (up (block_part v)) (tells_instrs h m body))

  pub tells_instrs : (h : RoutineContext) (n : Entities) (is : Instrs) →
      Tells (Fails h (instructions n is)) (judge_instrs h n is)
  tells_instrs h n no_instrs = passes
  tells_instrs h n (instr_then i is) = tells_then _ (tells_more (up first_part) (tells_instr h n i))
      (λ u. tells_more (up others_part) (tells_instrs h n is))

  pub tells_branches : (h : RoutineContext) (n : Entities) (bs : Branches) →
      Tells (Fails h (branches n bs)) (judge_branches h n bs)
  tells_branches h n no_branches = passes
  tells_branches h n (branch_then e body bs) =
      tells_then _ (tells_more (branch_fails h n e body bs) (tells_condition h context.Body Condition n e))
      (λ u. then_tells _ (told_given h context.Body n e) (up branch_condition_part)
      (λ m g. tells_then _ (tells_more (up (branch_part g)) (tells_instrs h m body)) (λ u. tells_more (up later_branches_part) (tells_branches h n bs))))
