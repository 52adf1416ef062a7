-- Handlers: what each runs, and what it is asked for (after Nienaltowski's thesis).
use Rattle.std.specs.Prelude.{ℕ, Bool, List, [], Option, None, ◌==◌, if◌then◌else◌}
use Rattle.sc_rules.specs.declared.entity_types.entity_type.EntityType.{EntityType}
use Rattle.sc_lockpass.specs.Rights.{Rights}
use Rattle.sc_lockpass.specs.Passing.{Passed}
use Rattle.sc_lockpass.specs.declared.wait_conditions.mark.Marked.{Marked}
use Rattle.sc_model.specs.declared.cause.Cause.{Cause}
use Rattle.sc_model.specs.Values.{Reference, Value, Operand}
use Rattle.sc_model.specs.Environments.{Binding}
use Rattle.sc_model.specs.Objects.{Object}
use Rattle.sc_model.specs.Routines.{Text, Routine}
use Rattle.sc_model.specs.Tasks.{Task}
use Rattle.sc_model.specs.Steps.{Calling, Point}

-- ---- requests

-- a feature is called, or an object made of its target's class, by a procedure or without
pub data Errand : Type 0 where
  Calls : (name : List ℕ) → Errand
  Makes : (procedure : Option (List ℕ)) → Errand

-- What a handler is asked for. The root request has no poster.
pub record Request : Type 0 where
  pub poster : Option ℕ
  pub target : Reference
  pub errand : Errand
  pub actuals : List Value
  pub is_waited : Bool
  pub passed : Option Passed

pub data Answer : Type 0 where
  Reply : (value : Option Value) → Answer
  Failed : Answer
  Refused : Answer

-- ---- frames

-- what began a frame: a call on its own handler, or a request
pub data Origin : Type 0 where
  Called : (calling : Calling) → Origin
  Requested : (request : Request) → Origin

-- What a frame does in its next turn: it goes on, it reserves the handlers of its formals or of the names of a separate
-- block, it is in a call on its own handler, or it waits for a supplier's answer, perhaps to a creation. A call gives a
-- value of a type, if any.
pub data Stage : Type 0 where
  Runs : Stage
  Reserves : Stage
  ReservesBlock : Stage
  InCall : (gives : Option EntityType) → Stage
  Awaits : (supplier : ℕ) (gives : Option EntityType) (is_creation : Bool) → Stage

-- a routine in the middle of its run, on the object that is Current
pub record Frame : Type 0 where
  pub current : Reference
  pub routine : Routine
  pub origin : Origin
  pub stage : Stage
  pub text : Text
  pub environment : List Binding
  pub result : Option Operand
  pub olds : List Operand
  pub tasks : List Task
  pub values : List Operand
  pub reserved : List ℕ  -- what its entry newly reserved
  pub blocks : List (List ℕ)  -- what each of its open separate blocks newly reserved, the innermost first
  pub mark : List Marked  -- of an entry that waits

-- the point of the frame, with these objects
abbrev pub point_of : Frame → List Object → Point
point_of f objects =
    record {
      objects = objects;
      text = f.text;
      environment = f.environment;
      result = f.result;
      olds = f.olds;
      tasks = f.tasks;
      values = f.values;
    }

-- the frame at this point
abbrev pub frame_at : Frame → Point → Frame
frame_at f p =
    record f {
      text = p.text;
      environment = p.environment;
      result = p.result;
      olds = p.olds;
      tasks = p.tasks;
      values = p.values;
    }

-- ---- handlers

pub record Handler : Type 0 where
  pub objects : List Object
  pub stack : List Frame  -- the topmost first
  pub output : List ℕ
  pub failure : Option Cause
  pub queue : List Request  -- the next first
  pub callback : Option Request
  pub answer : Option Answer
  pub sessions : ℕ  -- how many of its sessions have ended
  pub refused : ℕ  -- how many requests it refused for which nobody waited

abbrev pub new_handler : Handler
new_handler =
    record {
      objects = [];
      stack = [];
      output = [];
      failure = None;
      queue = [];
      callback = None;
      answer = None;
      sessions = 0;
      refused = 0;
    }

-- the handlers, numbered below `count`, and who holds whom
pub record World : Type 0 where
  pub count : ℕ
  pub handlers : ℕ → Handler
  pub rights : Rights

-- the world with this handler at the number
abbrev pub put : ℕ → Handler → World → World
put h x w = record w { handlers = λ k. if k == h then x else w.handlers k }

-- the world with this stack of the handler
abbrev pub with_stack : ℕ → List Frame → World → World
with_stack h stack w = put h (record (w.handlers h) { stack = stack }) w
