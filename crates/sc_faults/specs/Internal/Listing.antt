-- The faults that are listed of each site of a text, in the order of the walk, as the code follows it. Public contracts
-- don't speak of it.
use Rattle.std.specs.Prelude.{◌+◌, ℕ, Bool, false, if◌then◌else◌, List, [], ◌∷◌, ◌++◌, Option, Some, None, is_some, Ok, Err}
use Rattle.sc_text.specs.declared.token.Span.{Span}
use Rattle.sc_tree.specs.declared.expression.UnaryOperator.{UnaryOperator}
use Rattle.sc_tree.specs.Plain.{System, Class, Feature, FeatureKind, Attribute, Routine, Declaration, DeclaredType, Clause, Head, Name, Variable, CreationCall, Expr, Call, Unary, Binary, ObjectTest, Target, no_target, target, Exprs, no_exprs, expr_then, Instr, Assign, PrintText, CallRoutine, Create, If, Loop, Check, Block, Instrs, no_instrs, instr_then, Branches, no_branches, branch_then}
use Rattle.sc_rules.specs.declared.entity_types.entity_type.EntityType.{EntityType}
use Rattle.sc_rules.specs.declared.rule.Rule.TheVariants.{ArgumentType, NotCreation, CreationTag, TagName, InvariantForm, PreconditionArgument, ObjectTestPlace}
use Rattle.sc_rules.specs.declared.fault.Fault.{Fault}
use Rattle.sc_rules.specs.declared.position.Context.{Context}
use Rattle.sc_rules.specs.declared.position.Context.TheVariants as context
use Rattle.sc_rules.specs.declared.position.Position.{Position}
use Rattle.sc_rules.specs.declared.position.Position.TheVariants.{Plain, Condition, Source}
use Rattle.sc_rules.specs.declared.position.Role.TheVariants as role
use Rattle.sc_rules.specs.declared.position.Use.{Use}
use Rattle.sc_rules.specs.declared.position.Use.TheVariants.{Value, Instruction}
use Rattle.sc_rules.specs.Types.{declared_tag}
use Rattle.sc_rules.specs.Positions.{span_of, is_condition, operand_context, operand_position, shares_names}
use Rattle.sc_rules.specs.Names.{RoutineName, RoutineContext, Entities, entity, blocks, block_type, FormalType, Meaning, meaning_of, assignee, assignee_type, variable_span, context_of, formals_known, locals_known}
use Rattle.sc_rules.specs.Typing.{typing}
use Rattle.sc_rules.specs.CallRules.{count}
use Rattle.sc_rules.specs.SystemRules.{invariant_context, may_be_formula, clause_span}
use Rattle.sc_rules.specs.Judging.{Judged, ◌>>=◌, required, JudgedActual, judged_types, formals_of, target_of, is_taken, rest, may_pass, judge_name, judge, judged_actuals, judge_given, judge_type}
use Rattle.sc_rules.specs.JudgingText.{is_made_by_if_any, is_untagged, creation_meaning, judge_condition, judge_instr}
use Rattle.sc_rules.specs.JudgingSystem.{is_same_span, judge_creator, judge_invariant}
use Rattle.sc_rules.specs.JudgingPurity.{receiver_type}
use Rattle.sc_typing.specs.Judges.{judge_received, judge_unary}
use Rattle.sc_check.specs.BlockHeads.{judge_head}
use Rattle.sc_faults.specs.FaultLists.{begins_with}

-- ---- a site and its operands

-- the fault, then these, unless they begin with it
abbrev pub with_first : Fault → List Fault → List Fault
with_first f fs = if begins_with f fs then fs else f ∷ fs

-- the fault that judging a site reports, if it reports one, then those of its operands
abbrev pub faults_at : {A : Type 0} → Judged A → List Fault → List Fault
faults_at (Ok x) fs = fs
faults_at (Err f) fs = with_first f fs

-- those of each of them
abbrev pub faults_of_each : {A : Type 0} → (A → List Fault) → List A → List Fault
faults_of_each list [] = []
faults_of_each list (x ∷ xs) = list x ++ faults_of_each list xs

-- those that are listed where names are known, if they are
abbrev pub where_known : Judged Entities → (Entities → List Fault) → List Fault
where_known (Ok m) list = list m
where_known (Err f) list = []

-- ---- declared types

-- the tag of a declared type, whatever its class is
abbrev pub judge_tag : List Declaration → DeclaredType → Judged (Unit {0})
judge_tag formals d = required (is_some (declared_tag formals d.tag)) TagName d.span

abbrev pub faults_of_type : System → List Declaration → DeclaredType → List Fault
faults_of_type s formals d = faults_at (judge_type s formals d) (faults_at (judge_tag formals d) [])

-- a type, if one is written, whose tag may name these formals
abbrev pub faults_of_type_if_any : System → List Declaration → Option DeclaredType → List Fault
faults_of_type_if_any s formals None = []
faults_of_type_if_any s formals (Some d) = faults_of_type s formals d

-- ---- what is judged of a call and its parts

-- what is before the dot, which may be a target
abbrev pub judge_before : RoutineContext → Context → Entities → Expr → Judged (Unit {0})
judge_before h c n a = do
  t ← judge h c Plain n a
  _ ← judge_received (span_of a) t
  Ok tt

-- an actual that may be passed to the first of these formals, where r is the type of the target
abbrev pub judge_passed : RoutineContext → Context → Option EntityType → EntityType → List (Option EntityType) →
    List FormalType → JudgedActual → Judged (Unit {0})
judge_passed h c r t ts fs a = do
  b ← a.1
  _ ← required (is_taken h.system t ts fs b.type) ArgumentType a.0
  required (may_pass c r b.type) PreconditionArgument a.0

-- one of these actuals of a call that means this
abbrev pub judge_passed_to : RoutineContext → Context → Entities → Option EntityType → Meaning → Exprs →
    List FormalType → JudgedActual → Judged (Unit {0})
judge_passed_to h c n r m es fs a =
    judge_passed h c r (target_of h m) (judged_types (judged_actuals h c n es)) fs a

-- the name of a call with this number of actuals
abbrev pub judge_named : RoutineContext → Context → Use → Target → Meaning → ℕ → Span → Judged (Unit {0})
judge_named h c u a m k p = do
  t ← judge_name h c u a m k p
  Ok tt

-- what the name of a call means, also where its target may not be one
abbrev pub meant : RoutineContext → Context → Entities → Target → Name → Meaning
meant h c n a x = meaning_of h n a (receiver_type h c n a) x

-- `old`, whatever its operand is
abbrev pub judge_old : Context → UnaryOperator → Span → Judged (Unit {0})
judge_old c op p = do
  t ← judge_unary c p op (typing None false)
  Ok tt

-- an object test, whatever its operand is
abbrev pub judge_place : Position → Span → Judged (Unit {0})
judge_place k p = required (is_condition k) ObjectTestPlace p

-- ---- expressions

unfoldable mutual
  -- those of the operands of an expression, and of what is judged of it whatever they are
  pub faults_in : RoutineContext → Context → Position → Entities → Expr → List Fault
  faults_in h c k n (Call p a x es) =
      faults_in_target h c n a
      ++ (faults_in_actuals h c n (judge_passed_to h c n (receiver_type h c n a) (meant h c n a x) es)
      (formals_of (meant h c n a x)) es
      ++ faults_at (judge_named h c Value a (meant h c n a x) (count es) x.span) [])
  faults_in h c k n (Unary p op a) =
      faults_at (judge h (operand_context op c) Plain n a) (faults_in h (operand_context op c) Plain n a)
      ++ faults_at (judge_old c op p) []
  faults_in h c k n (Binary p op a b) =
      if shares_names k op
      then faults_at (judge h c Condition n a) (faults_in h c Condition n a)
      ++ where_known (judge_given h c n a) (λ m. faults_at (judge h c Condition m b) (faults_in h c Condition m b))
      else faults_at (judge h c (operand_position op) n a) (faults_in h c (operand_position op) n a)
      ++ faults_at (judge h c (operand_position op) n b) (faults_in h c (operand_position op) n b)
  faults_in h c k n (ObjectTest p d a x) =
      faults_of_type_if_any h.system h.formals d
      ++ (faults_at (judge h c Plain n a) (faults_in h c Plain n a) ++ faults_at (judge_place k p) [])
  faults_in h c k n e = []

  pub faults_in_target : RoutineContext → Context → Entities → Target → List Fault
  faults_in_target h c n no_target = []
  faults_in_target h c n (target a) =
      faults_at (judge_before h c n a) (faults_at (judge h c Plain n a) (faults_in h c Plain n a))

  -- those of actuals, each of which is judged with its formal
  pub faults_in_actuals : RoutineContext → Context → Entities →
      (List FormalType → JudgedActual → Judged (Unit {0})) → List FormalType → Exprs → List Fault
  faults_in_actuals h c n pass fs no_exprs = []
  faults_in_actuals h c n pass fs (expr_then e es) =
      faults_at (pass fs (span_of e, judge h c Source n e))
      (faults_at (judge h c Source n e) (faults_in h c Source n e))
      ++ faults_in_actuals h c n pass (rest fs) es

abbrev pub faults_of : RoutineContext → Context → Position → Entities → Expr → List Fault
faults_of h c k n e = faults_at (judge h c k n e) (faults_in h c k n e)

-- the actuals and the name of a call that means this, where r is the type of the target
abbrev pub faults_of_meant : RoutineContext → Context → Entities → Option EntityType → Meaning → Exprs →
    Judged (Unit {0}) → List Fault
faults_of_meant h c n r m es name =
    faults_in_actuals h c n (judge_passed_to h c n r m es) (formals_of m) es ++ faults_at name []

abbrev pub faults_of_call : RoutineContext → Context → Entities → Use → Target → Name → Exprs → List Fault
faults_of_call h c n u a x es =
    faults_in_target h c n a
    ++ faults_of_meant h c n (receiver_type h c n a) (meant h c n a x) es
    (judge_named h c u a (meant h c n a x) (count es) x.span)

-- ---- conditions, clauses and heads

abbrev pub faults_of_condition : RoutineContext → Context → Position → Entities → Expr → List Fault
faults_of_condition h c k n e = faults_at (judge_condition h c k n e) (faults_of h c k n e)

abbrev pub faults_of_clause : RoutineContext → Context → Entities → Clause → List Fault
faults_of_clause h c n i = faults_of_condition h c Plain n i.condition

-- a head of a block
abbrev pub judge_value : RoutineContext → Entities → Head → Judged (Unit {0})
judge_value h n d = do
  e ← judge_head h n 0 d
  Ok tt

abbrev pub faults_of_head : RoutineContext → Entities → Head → List Fault
faults_of_head h n d = faults_at (judge_value h n d) (faults_of h context.Body Plain n d.value)

-- the entities that the body of a block knows, where the value of each head has a type
abbrev pub judge_reserved : RoutineContext → Entities → Entities → List Head → Judged Entities
judge_reserved h n m [] = Ok m
judge_reserved h n m (d ∷ ds) = do
  t ← judge h context.Body Plain n d.value
  judge_reserved h n (m ++ entity d.name.text (block_type (blocks m) t.type) role.Block ∷ []) ds

-- ---- instructions

-- the procedure of this name and meaning, called with this number of actuals, that makes an object for an entity of
-- this type
abbrev pub judge_made : RoutineContext → Option EntityType → Meaning → Name → ℕ → Judged (Unit {0})
judge_made h t m x k = do
  _ ← judge_named h context.Body Instruction no_target m k x.span
  required (is_made_by_if_any h.system t x) NotCreation x.span

-- the creation of an object for an entity of this type, which is at the place
abbrev pub faults_in_creation : RoutineContext → Entities → Span → Option EntityType → Option CreationCall → List Fault
faults_in_creation h n p t None = []
faults_in_creation h n p t (Some k) =
    faults_at (required (is_untagged t) CreationTag p) []
    ++ faults_of_meant h context.Body n t (creation_meaning h t k.name) k.actuals
    (judge_made h t (creation_meaning h t k.name) k.name (count k.actuals))

-- the type of the entity of a creation, if it has one
abbrev pub created_type : RoutineContext → Entities → Variable → Option EntityType
created_type h n v = assignee_type (assignee h n v)

-- those of the parts of an instruction that holds no others
abbrev pub faults_in_instr : RoutineContext → Entities → Instr → List Fault
faults_in_instr h n (Assign p v e) = faults_of h context.Body Source n e
faults_in_instr h n (CallRoutine p a x es) = faults_of_call h context.Body n Instruction a x es
faults_in_instr h n (Create p creation) =
    faults_in_creation h n (variable_span creation.variable) (created_type h n creation.variable) creation.call
faults_in_instr h n i = []

-- an instruction that holds no others
abbrev pub faults_of_simple : RoutineContext → Entities → Instr → List Fault
faults_of_simple h n i = faults_at (judge_instr h n i) (faults_in_instr h n i)

unfoldable mutual
  pub faults_of_instr : RoutineContext → Entities → Instr → List Fault
  faults_of_instr h n (Assign p v e) = faults_of_simple h n (Assign p v e)
  faults_of_instr h n (PrintText p x) = faults_of_simple h n (PrintText p x)
  faults_of_instr h n (CallRoutine p a x es) = faults_of_simple h n (CallRoutine p a x es)
  faults_of_instr h n (Create p creation) = faults_of_simple h n (Create p creation)
  faults_of_instr h n (If p e body bs other) =
      (faults_of_condition h context.Body Condition n e
      ++ where_known (judge_given h context.Body n e) (λ m. faults_of_instrs h m body))
      ++ (faults_of_branches h n bs ++ faults_of_instrs h n other)
  faults_of_instr h n (Loop p initial until body) =
      faults_of_instrs h n initial
      ++ (faults_of_condition h context.Body Plain n until ++ faults_of_instrs h n body)
  faults_of_instr h n (Check p ks) = faults_of_each (faults_of_clause h context.Check n) ks
  faults_of_instr h n (Block p heads body) =
      faults_of_each (faults_of_head h n) heads
      ++ where_known (judge_reserved h n n heads) (λ m. faults_of_instrs h m body)

  pub faults_of_instrs : RoutineContext → Entities → Instrs → List Fault
  faults_of_instrs h n no_instrs = []
  faults_of_instrs h n (instr_then i is) = faults_of_instr h n i ++ faults_of_instrs h n is

  pub faults_of_branches : RoutineContext → Entities → Branches → List Fault
  faults_of_branches h n no_branches = []
  faults_of_branches h n (branch_then e body bs) =
      (faults_of_condition h context.Body Condition n e
      ++ where_known (judge_given h context.Body n e) (λ m. faults_of_instrs h m body))
      ++ faults_of_branches h n bs

-- instructions where these names are known, if they are
abbrev pub faults_under : RoutineContext → Judged Entities → Instrs → List Fault
faults_under h j is = where_known j (λ m. faults_of_instrs h m is)

-- a condition and the instructions under it
abbrev pub faults_of_branch : RoutineContext → Entities → Expr → Instrs → List Fault
faults_of_branch h n e body =
    faults_of_condition h context.Body Condition n e ++ faults_under h (judge_given h context.Body n e) body

abbrev pub faults_of_block : RoutineContext → Entities → List Head → Instrs → List Fault
faults_of_block h n heads body =
    faults_of_each (faults_of_head h n) heads ++ faults_under h (judge_reserved h n n heads) body

-- ---- features

abbrev pub faults_of_types : System → List Declaration → List Declaration → List Fault
faults_of_types s formals ds = faults_of_each (λ (d : Declaration). faults_of_type s formals d.declared_type) ds

-- the locals and the body of a routine before which these names are known
abbrev pub faults_of_body : RoutineContext → Entities → List Declaration → Instrs → List Fault
faults_of_body h n locals is =
    faults_of_types h.system h.formals locals ++ faults_of_instrs h (n ++ locals_known h.system h.formals locals) is

-- the text of a routine after its types
abbrev pub faults_of_text : RoutineContext → List Clause → List Declaration → Instrs → List Clause → List Fault
faults_of_text h pre locals is post =
    faults_of_each (faults_of_clause h context.Require (formals_known h.system h.formals)) pre
    ++ (faults_of_types h.system h.formals locals
    ++ (faults_of_instrs h (formals_known h.system h.formals ++ locals_known h.system h.formals locals) is
    ++ faults_of_each (faults_of_clause h context.Ensure (formals_known h.system h.formals)) post))

abbrev pub faults_of_kind : System → (RoutineName → Bool) → ℕ → FeatureKind → List Fault
faults_of_kind s pure k (Attribute d) = faults_of_type s [] d
faults_of_kind s pure k (Routine routine) =
    faults_of_types s routine.formals routine.formals
    ++ (faults_of_type_if_any s [] routine.result_type
    ++ faults_of_text (context_of s pure k routine) routine.precondition routine.locals routine.body
    routine.postcondition)

abbrev pub faults_of_features : System → (RoutineName → Bool) → ℕ → List Feature → List Fault
faults_of_features s pure k fs = faults_of_each (λ (f : Feature). faults_of_kind s pure k f.kind) fs

-- ---- classes and systems

abbrev pub faults_of_creator : System → ℕ → Name → List Fault
faults_of_creator s k x = faults_at (judge_creator s k x) []

-- the form of a clause at this place, of which this was reported
abbrev pub faults_of_form : Judged (Unit {0}) → Bool → Span → List Fault
faults_of_form (Ok u) b p = []
faults_of_form (Err f) b p = if is_same_span f.span p then [] else faults_at (required b InvariantForm p) []

abbrev pub faults_of_invariant : System → (RoutineName → Bool) → ℕ → Clause → List Fault
faults_of_invariant s pure k i =
    faults_at (judge_invariant s pure k i)
    (faults_of (invariant_context s pure k) context.Invariant Plain [] i.condition)
    ++ faults_of_form (judge_invariant s pure k i) (may_be_formula s k i.condition) (clause_span i.tag i.condition)

abbrev pub faults_of_class : System → (RoutineName → Bool) → ℕ → Class → List Fault
faults_of_class s pure k c =
    faults_of_each (faults_of_creator s k) c.creators
    ++ (faults_of_features s pure k c.features ++ faults_of_each (faults_of_invariant s pure k) c.invariant)

-- these classes; the first is at the number
abbrev pub faults_of_classes : System → (RoutineName → Bool) → ℕ → List Class → List Fault
faults_of_classes s pure k [] = []
faults_of_classes s pure k (c ∷ cs) = faults_of_class s pure k c ++ faults_of_classes s pure (k + 1) cs

abbrev pub faults_of_system : System → (RoutineName → Bool) → List Fault
faults_of_system s pure = faults_of_classes s pure 0 s.classes
