-- Laws of the instructions of well-formed systems: what they assign, create and test.
use Rattle.std.specs.Prelude.{◌≡◌, Bool, true, false, List, Option, Some, None, Contains}
use Rattle.sc_text.specs.declared.token.Span.{Span}
use Rattle.sc_tree.specs.Plain.{Clause, Variable, CreationCall, Creation, Expr, no_target, Instr, Assign, Create, Conditional, if_instr, Iteration, loop_instr, Check, Instrs, Branches, branch_then}
use Rattle.sc_rules.specs.declared.entity_types.entity_type.EntityType.{EntityType}
use Rattle.sc_rules.specs.declared.position.Context.{Context}
use Rattle.sc_rules.specs.declared.position.Context.TheVariants as context
use Rattle.sc_rules.specs.declared.position.Position.{Position}
use Rattle.sc_rules.specs.declared.position.Position.TheVariants.{Plain, Condition}
use Rattle.sc_rules.specs.declared.position.Use.TheVariants.{Instruction}
use Rattle.sc_rules.specs.Types.{is_boolean}
use Rattle.sc_rules.specs.Names.{RoutineContext, Entities, Signature, named, qualified_meaning, Assignee, to_local, to_attribute, assignee}
use Rattle.sc_rules.specs.Typing.{typing, HasType}
use Rattle.sc_rules.specs.Sites.{Site, instruction, branches}
use Rattle.sc_rules.specs.TextRules.{is_tagged, is_made_without_procedure, is_made_by}
use Rattle.sc_rules.specs.SystemLaws.{Stands, WhereWellFormed, MayBeCalled}

-- a local, a Result or an attribute, of this type
pub data IsOfType (t : EntityType) : Assignee → Type 0 where
  is_local : IsOfType t (to_local (Some t))
  is_attribute : IsOfType t (to_attribute (Some t))

-- the instruction assigns or creates this
pub data Changes : Instr → Variable → Type 0 where
  assigns : {s : Span} {v : Variable} {e : Expr} → Changes (Assign s v e) v
  creates : {s : Span} {creation : Creation} → Changes (Create s creation) creation.variable

-- What is assigned or created is a local, a Result or an attribute, of some type.
abbrev pub VariablesStand : Type 0
VariablesStand = WhereWellFormed λ s pure. (h : RoutineContext) (n : Entities) (i : Instr) (v : Variable) →
    Stands s pure h (instruction n i) → Changes i v →
    (t : EntityType) × IsOfType t (assignee h n v)

-- An object of the type may be created so.
pub data MayBeCreated (h : RoutineContext) (t : EntityType) : Option CreationCall → Type 0 where
  made_without_procedure : is_made_without_procedure h.system t.class ≡ true → MayBeCreated h t None
  made_by : {k : CreationCall} {g : Signature} → is_made_by h.system t.class k.name ≡ true →
      qualified_meaning h t k.name.text ≡ named g →
      MayBeCalled h context.Body Instruction no_target k.actuals g → MayBeCreated h t (Some k)

-- Each creation makes an object of the current handler or of a new one, in a way that its class allows.
abbrev pub CreationsStand : Type 0
CreationsStand = WhereWellFormed λ s pure. (h : RoutineContext) (n : Entities) (p : Span) (creation : Creation) →
    Stands s pure h (instruction n (Create p creation)) →
    (t : EntityType) × IsOfType t (assignee h n creation.variable) × (is_tagged t.tag ≡ false) ×
    MayBeCreated h t creation.call

-- the site is judged by this condition, in this position
pub data IsCondition : Site → Context → Position → Entities → Expr → Type 0 where
  of_if : {n : Entities} {s : Span} {choice : Conditional} →
      IsCondition (instruction n (if_instr s choice)) context.Body Condition n choice.condition
  of_branch : {n : Entities} {e : Expr} {body : Instrs} {bs : Branches} →
      IsCondition (branches n (branch_then e body bs)) context.Body Condition n e
  of_loop : {n : Entities} {s : Span} {loop : Iteration} →
      IsCondition (instruction n (loop_instr s loop)) context.Body Plain n loop.until
  of_check : {n : Entities} {s : Span} {ks : List Clause} {k : Clause} → Contains ks k →
      IsCondition (instruction n (Check s ks)) context.Check Plain n k.condition

-- Each condition of an instruction is of type BOOLEAN.
abbrev pub ConditionsAreBoolean : Type 0
ConditionsAreBoolean = WhereWellFormed λ s pure. (h : RoutineContext) (b : Site) (c : Context) (k : Position)
    (n : Entities) (e : Expr) → Stands s pure h b → IsCondition b c k n e →
    (t : EntityType) (is_separate : Bool) → HasType h c k n e (typing (Some t) is_separate) → is_boolean t.class ≡ true
