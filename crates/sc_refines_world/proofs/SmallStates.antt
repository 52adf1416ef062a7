-- Small states, of which one thing each is changed where it is told what may not be.
use Rattle.std.proofs.Common.{ℕ, ◌≡◌, ◌==◌, Bool, true, false, List, [], ◌∷◌, Some, None, refl, arith}
use Rattle.std.specs.Prelude.{Contains, if◌then◌else◌}
use Rattle.sc_tree.specs.Plain.{no_instrs}
use Rattle.sc_class.specs.declared.identity.ClassId.TheVariants as class
use Rattle.sc_rules.specs.declared.entity_types.entity_type.EntityType.{EntityType}
use Rattle.sc_rules.specs.declared.entity_types.tag.Tag.{Tag}
use Rattle.sc_lockpass.specs.Rights.{Rights, unreserved}
use Rattle.sc_model.specs.Environments.{Binding}
use Rattle.sc_model.specs.Handlers.{Calls, Frame, Handler, Origin, Request, Stage, World, new_handler}
use Rattle.sc_model.specs.Objects.{Object}
use Rattle.sc_model.specs.Routines.{Routine, Text}
use Rattle.sc_model.specs.Values.{Reference}

-- ---- states

-- two handlers, and who holds whom
abbrev pub two : Handler → Handler → Rights → World
two x y r = record { count = 2; handlers = λ k. if k == 0 then x else (if k == 1 then y else new_handler); rights = r }

-- the first of these, beside a new one that nobody holds
abbrev pub alone : Handler → World
alone x = two x new_handler unreserved

abbrev pub object_of : ℕ → List Binding → Object
object_of k bs = record { class = k; attributes = bs }

-- the first object of the handler, of the first class
abbrev pub first_of : ℕ → Reference
first_of h = record { handler = h; number = 1; class = 0 }

abbrev pub type_of : Tag → EntityType
type_of t = record { attached = true; tag = t; class = class.Any }

abbrev pub text : Text
text = record { class = 0; formals = []; result = None }

-- a routine that does nothing
abbrev pub routine : Routine
routine = record { name = []; text = text; locals = []; body = no_instrs; contract = text; require = []; ensure = [] }

-- it runs on the first object of its handler
abbrev pub frame : Origin → Stage → Frame
frame o how = record {
  current = first_of 0;
  routine = routine;
  origin = o;
  stage = how;
  text = text;
  environment = [];
  result = None;
  olds = [];
  tasks = [];
  values = [];
  reserved = [];
  blocks = [];
  mark = [];
}

-- a call of the first object of the handler by another one
abbrev pub request : ℕ → ℕ → Bool → Request
request p h is_waited =
    record { poster = Some p; target = first_of h; errand = Calls []; actuals = []; is_waited = is_waited; passed = None }

-- one of a list of one
pub first : {A : Type 0} (x : A) → Contains (x ∷ []) x
first x = (0, omega arith, refl)

pub none-of-none : {A : Type 0} (x : A) → Contains [] x → ⊥
none-of-none x is = omega (arith, is.1)

pub apart : true ≡ false → ⊥
apart e = cc

pub none-is-some : {A : Type 0} {x : A} → None ≡ Some x → ⊥
none-is-some e = cc
