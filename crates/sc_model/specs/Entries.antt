-- Entering a routine, and the reserve steps of routines and of separate blocks.
use Rattle.std.specs.Prelude.{ℕ, Bool, true, false, List, [], ◌∷◌, Option, Some, None, length, map, drop, nat_lt, if◌then◌else◌}
use Rattle.sc_tree.specs.Plain.{System}
use Rattle.sc_rules.specs.declared.entity_types.entity_type.EntityType.{EntityType}
use Rattle.sc_lockpass.specs.wait_conditions.Entries.{needed}
use Rattle.sc_lockpass.specs.wait_conditions.Reservations.{reserve_fails, reserve_is_enabled}
use Rattle.sc_lockpass.specs.declared.wait_conditions.mark.Marked.{Marked}
use Rattle.sc_model.specs.declared.cause.Cause.TheVariants as cause
use Rattle.sc_model.specs.Values.{Reference, Value, Operand, operand, default_of, handler_of}
use Rattle.sc_model.specs.Environments.{Binding, formals_bound, separate_formals}
use Rattle.sc_model.specs.Routines.{Routine}
use Rattle.sc_model.specs.Limits.{max_frames}
use Rattle.sc_model.specs.Tasks.{Task, Do, Leave, tasks_of}
use Rattle.sc_model.specs.Handlers.{Request, Origin, Stage, Runs, Reserves, Frame, World, with_stack}
use Rattle.sc_model.specs.Sessions.{standing_in, reserve}
use Rattle.sc_model.specs.Failures.{fail, fails_with}

-- ---- a frame begins

-- a routine with attached separate formals begins with its reserve step
abbrev pub stage_with : List Value → Stage
stage_with [] = Runs
stage_with (v ∷ vs) = Reserves

abbrev pub result_of : Option (Option EntityType) → Option Operand
result_of (Some (Some t)) = Some (operand (default_of t.class) t)
result_of other = None

abbrev pub entry : Reference → Routine → Origin → List Binding → Frame
entry me r o bs = record {
  current = me;
  routine = r;
  origin = o;
  stage = stage_with (separate_formals bs);
  text = r.contract;
  environment = bs;
  result = result_of r.text.result;
  olds = [];
  tasks = tasks_of r;
  values = [];
  reserved = [];
  blocks = [];
  mark = [];
}

abbrev pub enters_bound : ℕ → Reference → Routine → Origin → List Frame → List Request →
    Option (List Binding) → World → World
enters_bound h me r o below taken None w = fails_with h cause.BadCode taken w
enters_bound h me r o below taken (Some bs) w =
    if nat_lt (length below) max_frames
    then with_stack h (entry me r o bs ∷ below) w
    else fails_with h cause.StackFull taken w

-- The routine is entered on top of this stack, perhaps for a request that is taken.
abbrev pub enters : System → ℕ → Reference → Option Routine → Origin → List Frame → List Request →
    List Value → World → World
enters s h me None o below taken vs w = fails_with h cause.BadCode taken w
enters s h me (Some r) o below taken vs w =
    enters_bound h me r o below taken (formals_bound s r.text.formals 0 r.text.formals vs) w

-- ---- reserve steps

-- the handlers of these values that the handler doesn't hold
abbrev pub needed_for : ℕ → List Value → World → List ℕ
needed_for h vs w = needed w.rights h (map handler_of vs)

abbrev pub entry_needs : ℕ → Frame → World → List ℕ
entry_needs h f w = needed_for h (separate_formals f.environment) w

-- the values of the names of the block that was opened last: its body's end forgets them
abbrev pub opened_in : List Binding → List Task → List Value
opened_in bs (Do body ∷ Leave depth ∷ ts) = map (λ (b : Binding). b.value) (drop depth bs)
opened_in bs ts = []

abbrev pub block_needs : ℕ → Frame → World → List ℕ
block_needs h f w = needed_for h (opened_in f.environment f.tasks) w

-- These are reserved, all at once, and the frame becomes this one; if one of them is lost, the step fails.
abbrev pub reserves : ℕ → List ℕ → Frame → List Frame → World → World
reserves h ks f below w =
    if reserve_fails (standing_in w) w.rights ks then fail h cause.SupplierFailed w
    else reserve h ks (with_stack h (f ∷ below) w)

-- the step, if it is enabled
abbrev pub reserves_if : Bool → ℕ → List ℕ → Frame → List Frame → World → World
reserves_if true h ks f below w = reserves h ks f below w
reserves_if false h ks f below w = w

abbrev pub may_reserve : List ℕ → List Marked → World → Bool
may_reserve ks mark w = reserve_is_enabled (standing_in w) w.rights ks mark

abbrev pub reserves_entry : ℕ → List ℕ → Frame → List Frame → World → World
reserves_entry h ks f below w =
    reserves_if (may_reserve ks f.mark w) h ks (record f { stage = Runs; reserved = ks }) below w

abbrev pub reserves_block : ℕ → List ℕ → Frame → List Frame → World → World
reserves_block h ks f below w =
    reserves_if (may_reserve ks [] w) h ks (record f { stage = Runs; blocks = ks ∷ f.blocks }) below w
