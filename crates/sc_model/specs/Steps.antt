-- Steps of a routine: its point, what is visible of a step, and what steps are made of.
use Rattle.std.specs.Prelude.{ℕ, zero, suc, ℤ, Bool, List, [], ◌∷◌, ◌++◌, Option, Some, None, take, if◌then◌else◌}
use Rattle.sc_tree.specs.Plain.{Clause}
use Rattle.sc_rules.specs.declared.entity_types.entity_type.EntityType.{EntityType}
use Rattle.sc_rules.specs.entity_types.Conformance.{integer, boolean}
use Rattle.sc_model.specs.declared.cause.Cause.{Cause}
use Rattle.sc_model.specs.declared.cause.Cause.TheVariants as cause
use Rattle.sc_model.specs.Values.{Reference, Value, Integer, Boolean, Void, Attached, Operand, operand}
use Rattle.sc_model.specs.Environments.{Binding}
use Rattle.sc_model.specs.Objects.{Object}
use Rattle.sc_model.specs.Routines.{Text}
use Rattle.sc_model.specs.Tasks.{Task}

-- A routine's point, with the objects of its handler. Silent steps change nothing else.
pub record Point : Type 0 where
  pub objects : List Object
  pub text : Text
  pub environment : List Binding
  pub result : Option Operand  -- its Result, of the type that its own text declares
  pub olds : List Operand
  pub tasks : List Task
  pub values : List Operand  -- the last one first

-- how a routine of the same handler is called
pub data Calling : Type 0 where
  Unqualified : Calling
  Qualified : Calling
  Creation : Calling

-- what is seen of a visible step
pub data Act : Type 0 where
  Prints : (text : List ℕ) → Act
  Until : Act  -- an `until`
  Creates : Act  -- an object of the current handler, without a call
  CreatesHandler : (class : ℕ) (procedure : Option (List ℕ)) (actuals : List Operand) (type : EntityType)
      (passes : Bool) → Act
  Enters : (calling : Calling) (object : Reference) (name : List ℕ) (actuals : List Operand)
      (gives : Option EntityType) → Act
  Requests : (object : Reference) (name : List ℕ) (actuals : List Operand) (gives : Option EntityType)
      (passes : Bool) → Act
  Starts : Act  -- each clause of the precondition holds
  Refuses : (clause : Clause) → Act  -- this is the first that doesn't
  Opens : Act  -- a separate block
  Leaves : Act
  Exits : Act
  Fails : (why : Cause) → Act

-- a step: a silent one, or a visible one, with the point after it
pub data Step : Type 0 where
  Goes : (point : Point) → Step
  Does : (act : Act) (point : Point) → Step

-- a failure: what is left to do is dropped, and the objects stay
abbrev pub fails : Cause → Point → Step
fails why p = Does (Fails why) (record p { environment = []; result = None; olds = []; tasks = []; values = [] })

-- no other case fits
abbrev pub stuck : Point → Step
stuck p = fails cause.BadCode p

-- these tasks come first
abbrev pub comes : List Task → Point → Step
comes ts p = Goes (record p { tasks = ts ++ p.tasks })

-- ---- values

abbrev pub gives : Value → EntityType → Point → Step
gives v t p = Goes (record p { values = operand v t ∷ p.values })

abbrev pub gives_integer : ℤ → Point → Step
gives_integer z = gives (Integer z) integer

abbrev pub gives_boolean : Bool → Point → Step
gives_boolean b = gives (Boolean b) boolean

-- An entity is read, the declared type first: where that is attached and the value still Void it is unset.
abbrev pub reads_as : EntityType → Value → EntityType → Point → Step
reads_as d Void t p = if d.attached then fails cause.UnsetEntity p else gives Void t p
reads_as d (Integer z) t p = gives (Integer z) t p
reads_as d (Boolean b) t p = gives (Boolean b) t p
reads_as d (Attached r) t p = gives (Attached r) t p

abbrev pub reads : Value → EntityType → Point → Step
reads v t p = reads_as t v t p

abbrev pub reads_attribute : Option Binding → EntityType → Point → Step
reads_attribute None t p = stuck p
reads_attribute (Some b) t p = reads b.value t p

-- the last `n` values, in the order of the text, before those given; and those below them
abbrev pub popped : ℕ → List Operand → List Operand → Option (List Operand × List Operand)
popped zero us vs = Some (us, vs)
popped (suc n) us [] = None
popped (suc n) us (v ∷ vs) = popped n (v ∷ us) vs

-- ---- names

-- this number of names stay in scope
abbrev pub forgets : ℕ → Point → Point
forgets depth p = record p { environment = take depth p.environment }
