-- Parts of what judging instructions does, as the code is divided.
use Rattle.std.specs.Prelude.{ℕ, Bool, true, false, List, ◌++◌, Option, Some, Result, Ok}
use Rattle.sc_text.specs.declared.token.Span.{Span}
use Rattle.sc_tree.specs.Plain.{System, Declaration, Clause, Feature, Head, Name, Variable, Expr, Void, Target, no_target, Exprs, Instrs, Branches}
use Rattle.sc_rules.specs.declared.entity_types.entity_type.EntityType.{EntityType}
use Rattle.sc_rules.specs.declared.rule.Rule.TheVariants.{ArgumentType, AssignType, NotCreation}
use Rattle.sc_rules.specs.declared.position.Context.TheVariants as context
use Rattle.sc_rules.specs.declared.position.Position.TheVariants.{Plain, Condition, Source}
use Rattle.sc_rules.specs.declared.position.Role.TheVariants as role
use Rattle.sc_rules.specs.TextRules.{separate_any}
use Rattle.sc_rules.specs.declared.position.Use.TheVariants.{Instruction}
use Rattle.sc_rules.specs.Positions.{span_of}
use Rattle.sc_rules.specs.Names.{RoutineName, RoutineContext, Entities, Entity, entity, block_type, formals_known, locals_known}
use Rattle.sc_rules.specs.Typing.{typing}
use Rattle.sc_rules.specs.Judging.{Judged, ◌>>=◌, required, judge_each, judged_actuals, judge, judge_given, judge_actuals_and_name}
use Rattle.sc_rules.specs.JudgingSystem.{judge_declarations, judge_feature, judge_form}
use Rattle.sc_typing.specs.declared.fault.CheckFault.{CheckFault}
use Rattle.sc_typing.specs.Judges.{Passes, judge_call}
use Rattle.sc_rules.specs.JudgingText.{conforms_if_any, creation_meaning, is_made_by_if_any, judge_condition, judge_clause, judge_variable, judge_heads, judge_instrs, judge_branches}

-- an assignment
abbrev pub judge_assignment : RoutineContext → Entities → Variable → Expr → Judged (Unit {0})
judge_assignment h n v e = do
  t ← judge_variable h n v
  a ← judge h context.Body Source n e
  required (conforms_if_any h.system a.type t) AssignType (span_of e)

-- a call that is an instruction
abbrev pub judge_command : RoutineContext → Entities → Target → Name → Exprs → Judged (Unit {0})
judge_command h n a x es = do
  _ ← judge_call h context.Body n Instruction a x es
  Ok tt

-- the call that an object of this type is created by
abbrev pub judge_creation_call : RoutineContext → Entities → Option EntityType → Name → Exprs → Judged (Unit {0})
judge_creation_call h n t x es = do
  _ ← judge_actuals_and_name h context.Body Instruction no_target (creation_meaning h t x) x.span
      (judged_actuals h context.Body n es) (typing t false)
  required (is_made_by_if_any h.system t x) NotCreation x.span

-- the instructions under a condition
abbrev pub judge_branch : RoutineContext → Entities → Expr → Instrs → Judged (Unit {0})
judge_branch h n e body = do
  _ ← judge_condition h context.Body Condition n e
  m ← judge_given h context.Body n e
  judge_instrs h m body

-- a separate block
abbrev pub judge_block : RoutineContext → Entities → List Head → Instrs → Judged (Unit {0})
judge_block h n ds body = do
  m ← judge_heads h n n ds
  judge_instrs h m body

-- an `if`, a loop
abbrev pub judge_if : RoutineContext → Entities → Expr → Instrs → Branches → Instrs → Judged (Unit {0})
judge_if h n e body bs other = do
  _ ← judge_branch h n e body
  _ ← judge_branches h n bs
  judge_instrs h n other

abbrev pub judge_loop : RoutineContext → Entities → Instrs → Expr → Instrs → Judged (Unit {0})
judge_loop h n initial e body = do
  _ ← judge_instrs h n initial
  _ ← judge_condition h context.Body Plain n e
  judge_instrs h n body

-- the text of a routine after its types: its precondition, locals, body and postcondition
abbrev pub judge_text : RoutineContext → List Clause → List Declaration → Instrs → List Clause → Judged (Unit {0})
judge_text h pre locals is post = do
  _ ← judge_each (judge_clause h context.Require (formals_known h.system h.formals)) pre
  _ ← judge_declarations h.system h.formals locals
  _ ← judge_instrs h (formals_known h.system h.formals ++ locals_known h.system h.formals locals) is
  judge_each (judge_clause h context.Ensure (formals_known h.system h.formals)) post

-- a feature that the class at the number declares
abbrev pub judge_declared : System → (RoutineName → Bool) → ℕ → Feature → Judged (Unit {0})
judge_declared s pure k f = judge_feature s pure k f.kind

abbrev pub is_void : Expr → Bool
is_void (Void p) = true
is_void _ = false

-- what is found of a clause, with its form
abbrev pub JudgesForm : Bool → Span → Result Unit CheckFault → Result Unit CheckFault → Type 0
JudgesForm b p judged result = (j : Judged (Unit {0})) → Passes j judged → Passes (judge_form b p j) result
