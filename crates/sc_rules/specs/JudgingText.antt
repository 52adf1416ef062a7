-- Judging instructions and clauses, as functions like those of `Judging`: the first rule that fails, in the order of
-- the walk.
use Rattle.std.specs.Prelude.{Bool, true, false, not, List, [], ◌∷◌, ◌++◌, Option, Some, None, Ok, Err}
use Rattle.sc_text.specs.declared.token.Span.{Span}
use Rattle.sc_tree.specs.Plain.{System, Clause, Head, Name, Variable, Named, ResultVariable, CreationCall, Expr, no_target, Instr, Assign, PrintText, CallRoutine, Create, If, Loop, Check, Block, Instrs, no_instrs, instr_then, Branches, no_branches, branch_then}
use Rattle.sc_rules.specs.declared.entity_types.entity_type.EntityType.{EntityType}
use Rattle.sc_rules.specs.entity_types.Conformance.{conforms}
use Rattle.sc_rules.specs.declared.rule.Rule.TheVariants.{UnknownName, ArgumentType, AssignType, NotBoolean, NotAssignable, NotCreation, CreationTag}
use Rattle.sc_rules.specs.declared.position.Context.{Context}
use Rattle.sc_rules.specs.declared.position.Context.TheVariants as context
use Rattle.sc_rules.specs.declared.position.Position.{Position}
use Rattle.sc_rules.specs.declared.position.Position.TheVariants.{Plain, Condition, Source}
use Rattle.sc_rules.specs.declared.position.Use.TheVariants.{Instruction}
use Rattle.sc_rules.specs.declared.position.Role.TheVariants as role
use Rattle.sc_rules.specs.Types.{is_boolean}
use Rattle.sc_rules.specs.Positions.{span_of}
use Rattle.sc_rules.specs.Names.{RoutineContext, Entities, entity, blocks, block_type, Meaning, target_untyped, qualified_meaning, Assignee, unknown_assignee, unassignable, to_local, to_attribute, assignee, variable_span}
use Rattle.sc_rules.specs.Typing.{typing}
use Rattle.sc_rules.specs.TextRules.{is_tagged, is_made_without_procedure, is_made_by, separate_any}
use Rattle.sc_rules.specs.Judging.{Judged, ◌>>=◌, fault, required, judge_each, judge_actuals_and_name, judge_called, judge_result, judge, judge_receiver, judged_actuals, judge_given}

-- what has a type conforms
abbrev pub conforms_if_any : System → Option EntityType → Option EntityType → Bool
conforms_if_any s None t = true
conforms_if_any s (Some a) None = true
conforms_if_any s (Some a) (Some t) = conforms s a t

abbrev pub is_boolean_if_any : Option EntityType → Bool
is_boolean_if_any None = true
is_boolean_if_any (Some t) = is_boolean t.class

abbrev pub judge_condition : RoutineContext → Context → Position → Entities → Expr → Judged (Unit {0})
judge_condition h c k n e = do
  t ← judge h c k n e
  required (is_boolean_if_any t.type) NotBoolean (span_of e)

abbrev pub judge_clause : RoutineContext → Context → Entities → Clause → Judged (Unit {0})
judge_clause h c n k = judge_condition h c Plain n k.condition

-- the type of what may be assigned
abbrev pub judge_assignee : Span → Assignee → Judged (Option EntityType)
judge_assignee p unknown_assignee = Err (fault UnknownName p)
judge_assignee p unassignable = Err (fault NotAssignable p)
judge_assignee p (to_local t) = Ok t
judge_assignee p (to_attribute t) = Ok t

abbrev pub judge_variable : RoutineContext → Entities → Variable → Judged (Option EntityType)
judge_variable h n (Named x) = judge_assignee x.span (assignee h n (Named x))
judge_variable h n (ResultVariable p) = judge_result p h.result

abbrev pub is_made_without_procedure_if_any : System → Option EntityType → Bool
is_made_without_procedure_if_any s None = true
is_made_without_procedure_if_any s (Some t) = is_made_without_procedure s t.class

abbrev pub is_made_by_if_any : System → Option EntityType → Name → Bool
is_made_by_if_any s None x = true
is_made_by_if_any s (Some t) x = is_made_by s t.class x

abbrev pub is_untagged : Option EntityType → Bool
is_untagged None = true
is_untagged (Some t) = not (is_tagged t.tag)

abbrev pub creation_meaning : RoutineContext → Option EntityType → Name → Meaning
creation_meaning h None x = target_untyped
creation_meaning h (Some t) x = qualified_meaning h t x.text

-- the creation of an object for an entity of this type, if it has one
abbrev pub judge_creation : RoutineContext → Entities → Span → Option EntityType → Option CreationCall →
    Judged (Unit {0})
judge_creation h n p t None = do
  _ ← required (is_made_without_procedure_if_any h.system t) NotCreation p
  required (is_untagged t) CreationTag p
judge_creation h n p t (Some k) = do
  _ ← required (is_untagged t) CreationTag p
  _ ← judge_actuals_and_name h context.Body Instruction no_target (creation_meaning h t k.name) k.name.span
      (judged_actuals h context.Body n k.actuals) (typing t false)
  required (is_made_by_if_any h.system t k.name) NotCreation k.name.span

-- the heads of a block, each where its own names aren't known; the entities that its body knows
abbrev pub judge_heads : RoutineContext → Entities → Entities → List Head → Judged Entities
judge_heads h n m [] = Ok m
judge_heads h n m (d ∷ ds) = do
  t ← judge h context.Body Plain n d.value
  _ ← required (conforms_if_any h.system t.type (Some separate_any)) ArgumentType (span_of d.value)
  judge_heads h n (m ++ entity d.name.text (block_type (blocks m) t.type) role.Block ∷ []) ds

unfoldable mutual
  pub judge_instr : RoutineContext → Entities → Instr → Judged (Unit {0})
  judge_instr h n (Assign p v e) = do
    t ← judge_variable h n v
    a ← judge h context.Body Source n e
    required (conforms_if_any h.system a.type t) AssignType (span_of e)
  judge_instr h n (PrintText p x) = Ok tt
  judge_instr h n (CallRoutine p a x es) = do
    r ← judge_receiver h context.Body n a
    _ ← judge_called h context.Body n Instruction a x (judged_actuals h context.Body n es) r
    Ok tt
  judge_instr h n (Create p creation) = do
    t ← judge_variable h n creation.variable
    judge_creation h n (variable_span creation.variable) t creation.call
  judge_instr h n (If p condition body elseifs other) = do
    _ ← judge_condition h context.Body Condition n condition
    m ← judge_given h context.Body n condition
    _ ← judge_instrs h m body
    _ ← judge_branches h n elseifs
    judge_instrs h n other
  judge_instr h n (Loop p initial until body) = do
    _ ← judge_instrs h n initial
    _ ← judge_condition h context.Body Plain n until
    judge_instrs h n body
  judge_instr h n (Check p ks) = judge_each (judge_clause h context.Check n) ks
  judge_instr h n (Block p heads body) = do
    m ← judge_heads h n n heads
    judge_instrs h m body

  pub judge_instrs : RoutineContext → Entities → Instrs → Judged (Unit {0})
  judge_instrs h n no_instrs = Ok tt
  judge_instrs h n (instr_then i is) = do
    _ ← judge_instr h n i
    judge_instrs h n is

  pub judge_branches : RoutineContext → Entities → Branches → Judged (Unit {0})
  judge_branches h n no_branches = Ok tt
  judge_branches h n (branch_then e body bs) = do
    _ ← judge_condition h context.Body Condition n e
    m ← judge_given h context.Body n e
    _ ← judge_instrs h m body
    judge_branches h n bs
