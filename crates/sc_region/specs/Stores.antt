-- The store of a handler, and what its calls make of it.
use Rattle.std.specs.Prelude.{ℕ, ◌+◌, ◌-◌, ◌≡◌, ◌==◌, ◌&&◌, Bool, true, not, List, [], ◌∷◌, ◌++◌, Option, Some, None, length, replicate, nat_lt, if◌then◌else◌}
use Rattle.std.specs.Option.{is_none, option_map}
use Rattle.sc_model.specs.declared.cause.Cause.{Cause}
use Rattle.sc_model.specs.declared.cause.Cause.TheVariants as cause
use Rattle.sc_region.specs.declared.value.Value.{Value}
use Rattle.sc_region.specs.declared.value.Value.TheVariants.{Void}
use Rattle.sc_region.specs.declared.value.Reference.{Reference}
use Rattle.sc_code.specs.declared.operation.DefaultValue.{DefaultValue}
use Rattle.sc_code.specs.declared.program.Image.{Image}
use Rattle.sc_code.specs.declared.program.RoutineCode.{RoutineCode}
use Rattle.sc_region.specs.declared.frame.Origin.{Origin}
use Rattle.sc_region.specs.declared.frame.Origin.TheVariants as origin
use Rattle.sc_region.specs.declared.frame.Stage.{Stage}
use Rattle.sc_region.specs.declared.frame.Stage.TheVariants as stage
use Rattle.sc_region.specs.Values.{default_value}
use Rattle.sc_region.specs.Objects.{PlainObject, object_numbered, with_attribute}
use Rattle.sc_region.specs.Frames.{PlainActivation, PlainFrame, is_current}
use Rattle.sc_region.specs.Classes.{routine_at, fresh_object, MeetsInvariant, object_breaks}

pub record PlainStore : Type 0 where
  pub program : Image
  pub objects : List PlainObject
  pub frames : List PlainFrame  -- the topmost first
  pub output : List ℕ
  pub failure : Option Cause  -- it has ended so

abbrev pub max_objects : ℕ
max_objects = 65536

abbrev pub max_frames : ℕ
max_frames = 1024

abbrev pub new_store : Image → PlainStore
new_store p = record { program = p; objects = []; frames = []; output = []; failure = None }

-- Two stores hold the same, whatever their programs are.
pub record AreSame (x y : PlainStore) : Type 0 where
  pub objects : x.objects ≡ y.objects
  pub frames : x.frames ≡ y.frames
  pub output : x.output ≡ y.output
  pub failure : x.failure ≡ y.failure

-- ---- settled objects

-- The object of the number is settled: the store has not ended in a failure, and no frame has it as Current.
abbrev pub is_settled : ℕ → PlainStore → Bool
is_settled number x = is_none x.failure && not (is_current number x.frames)

-- Each settled object meets its class invariant.
abbrev pub SettledObjectsMeet : PlainStore → Type 0
SettledObjectsMeet x = (number : ℕ) (o : PlainObject) → is_settled number x ≡ true →
    object_numbered number x.objects ≡ Some o → MeetsInvariant x.program o

-- ---- failure

-- The frames are dropped; objects and output stay.
abbrev pub failed : Cause → PlainStore → PlainStore
failed why x = record x { frames = []; failure = Some why }

-- Where the object of the number is settled now and breaks its invariant, the store fails.
abbrev pub settled : ℕ → PlainStore → PlainStore
settled number x =
    if is_settled number x && object_breaks x.program (object_numbered number x.objects)
    then failed cause.Invariant x else x

-- ---- attributes

abbrev pub written_to : List PlainFrame → ℕ → Value → PlainStore → PlainStore
written_to [] slot v x = x
written_to (f ∷ below) slot v x = record x { objects = with_attribute f.current.number slot v x.objects }

-- the attribute of Current at the number gets the value
abbrev pub written : ℕ → Value → PlainStore → PlainStore
written slot v x = written_to x.frames slot v x

-- ---- frames

-- a routine with attached separate formals begins with its reserve step
abbrev pub stage_of : List ℕ → Stage
stage_of [] = stage.Runs
stage_of (slot ∷ slots) = stage.Reserves

-- a routine begins: its first slots have the actuals, the others are Void
abbrev pub beginning : ℕ → RoutineCode → Origin → List Value → PlainActivation
beginning routine r o actuals = record {
  routine = routine;
  origin = o;
  stage = stage_of r.separate_formals.items;
  place = 0;
  slots = actuals ++ replicate (r.slots - r.formals) Void;
  result = option_map (λ (d : DefaultValue × Bool). default_value d.0) r.result;
  olds = record { room = r.olds; values = [] };
  operands = record { depth = r.depth; values = [] };
  reserved = [];
  blocks = [];
}

abbrev pub entry : Reference → ℕ → RoutineCode → Origin → List Value → PlainFrame
entry me routine r o actuals = record { current = me; activation = beginning routine r o actuals }

-- The frame comes onto the others, of which there are so many; where there are as many as there may be, the store
-- fails.
abbrev pub entered_at : ℕ → Reference → ℕ → Option RoutineCode → Origin → List Value → PlainStore → PlainStore
entered_at count me routine None o actuals x = failed cause.BadCode x
entered_at count me routine (Some r) o actuals x =
    if length actuals == r.formals
    then (if nat_lt count max_frames then record x { frames = entry me routine r o actuals ∷ x.frames }
    else failed cause.StackFull x)
    else failed cause.BadCode x

-- the routine of the number is entered on this object
abbrev pub entered : Reference → ℕ → Origin → List Value → PlainStore → PlainStore
entered me routine o actuals x = entered_at (length x.frames) me routine (routine_at x.program routine) o actuals x

abbrev pub left_to : List PlainFrame → PlainStore → PlainStore
left_to [] x = x
left_to (f ∷ below) x = settled f.current.number (record x { frames = below })

-- the topmost frame goes
abbrev pub left : PlainStore → PlainStore
left x = left_to x.frames x

-- ---- new objects

abbrev pub with_new : ℕ → PlainStore → PlainStore
with_new class x = record x { objects = x.objects ++ fresh_object x.program class ∷ [] }

-- the object is made by a request, without a procedure
abbrev pub born : ℕ → PlainStore → PlainStore
born class x = settled (length x.objects + 1) (with_new class x)

-- the object is made, and the procedure entered on the object that is named
abbrev pub born_for : Reference → ℕ → Origin → List Value → PlainStore → PlainStore
born_for me routine o actuals x = settled (length x.objects + 1) (entered me routine o actuals (with_new me.class x))

-- the same by a routine of this handler, which may have so many objects
abbrev pub made : ℕ → PlainStore → PlainStore
made class x = if nat_lt (length x.objects) max_objects then born class x else failed cause.TooManyObjects x

abbrev pub next_reference : ℕ → ℕ → PlainStore → Reference
next_reference handler class x = record { handler = handler; number = length x.objects + 1; class = class }

abbrev pub made_for : (handler class : ℕ) → ℕ → List Value → PlainStore → PlainStore
made_for handler class routine actuals x =
    if nat_lt (length x.objects) max_objects
    then born_for (next_reference handler class x) routine origin.Creation actuals x
    else failed cause.TooManyObjects x

-- ---- output

abbrev pub printed : List ℕ → PlainStore → PlainStore
printed text x = record x { output = x.output ++ text }
