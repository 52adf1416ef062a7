-- The code of a routine represents its tasks, and follows the model; in a well-formed system so does that of each
-- routine.
use Rattle.std.specs.Prelude.{◌≡◌, ◌+◌, ◌++◌, ℕ, List, [], Some, length}
use Rattle.std.specs.Option.{option_map}
use Rattle.sc_tree.specs.Plain.{System}
use Rattle.sc_class.specs.ClassNames.{Root}
use Rattle.sc_class.specs.Faults.ClassRules.{IsFaultless}
use Rattle.sc_rules.specs.SystemRules.{WellFormed}
use Rattle.sc_model.specs.Values.{Reference, Value, Operand}
use Rattle.sc_model.specs.Environments.{Binding, scope_of, formals_bound}
use Rattle.sc_model.specs.Routines.{Routine, routine_named}
use Rattle.sc_model.specs.Objects.{Object}
use Rattle.sc_model.specs.Handlers.{Origin, point_of}
use Rattle.sc_model.specs.Entries.{entry}
use Rattle.sc_model.specs.Olds.{olds_of_clauses}
use Rattle.sc_model.specs.Tasks.{tasks_of}
use Rattle.sc_model.specs.Steps.{Point}
use Rattle.sc_model.specs.Moves.{moves}
use Rattle.sc_code.specs.Places.{known_type}
use Rattle.sc_code.specs.Emitted.{setting, formals_of, locals_of, olds_of_routine, routine_code, routine_depth, routine_slots}
use Rattle.sc_code.specs.Typed.{AreClauses, AreOlds, AreInstrs, AreEnsured}
use Rattle.sc_code.specs.Stands.{Run, Stands, Moves}

-- Each expression of the routine and of its contract has its type.
pub record IsTypedRoutine (s : System) (r : Routine) : Type 0 where
  pub precondition : AreClauses (setting s r r.contract []) (formals_of s r) r.require
  pub olds : AreOlds (setting s r r.contract []) (formals_of s r) (olds_of_clauses r.ensure) (olds_of_routine s r)
  pub body : AreInstrs (setting s r r.text (olds_of_routine s r)) (formals_of s r ++ scope_of (locals_of s r)) r.body
  pub postcondition : AreEnsured (setting s r r.contract (olds_of_routine s r)) (formals_of s r) 0 r.ensure

-- a run of the routine's code
abbrev pub run_of : System → Routine → Run
run_of s r = record {
  system = s;
  own = r.text;
  result = known_type r.text.result;
  code = record { operations = routine_code s r; depth = routine_depth s r };
  slots = routine_slots s r;
}

-- The routine begins here, with its actuals in the first slots; or its entry begins anew.
pub record Beginning (s : System) (r : Routine) (p : Point) (tail : List Value) : Type 0 where
  pub text : p.text ≡ r.contract
  pub names : scope_of p.environment ≡ formals_of s r
  pub result : option_map (λ (u : Operand). u.type) p.result ≡ known_type r.text.result
  pub olds : p.olds ≡ []
  pub tasks : p.tasks ≡ tasks_of r
  pub values : p.values ≡ []
  pub slots : length p.environment + length tail ≡ routine_slots s r

-- At its first place a routine's code represents the routine.
abbrev pub LoweredStands : Type 0
LoweredStands = (s : System) (r : Routine) (p : Point) (tail : List Value) → IsTypedRoutine s r → Beginning s r p tail →
    Stands (run_of s r) 0 tail p

-- Whatever silent steps a routine makes at a point that a place represents, silent operations follow them; at the
-- visible step they reach that visible operation, and after it a place that represents the point after the step.
abbrev pub MovesFollow : Type 0
MovesFollow = (g : Run) (me : Reference) (place : ℕ) (tail : List Value) (p : Point) → Stands g place tail p →
    Moves g me place tail p (moves g.system me p)

-- Where the model enters a routine, its formals bound to actuals, the routine begins.
abbrev pub EntriesBegin : Type 0
EntriesBegin = (s : System) (r : Routine) (me : Reference) (o : Origin) (vs : List Value) (bs : List Binding)
    (os : List Object) (tail : List Value) →
    formals_bound s r.text.formals 0 r.text.formals vs ≡ Some bs → length bs + length tail ≡ routine_slots s r →
    Beginning s r (point_of (entry me r o bs) os) tail

-- A place represents a point whatever the objects are: a call may change them.
abbrev pub ObjectsMayChange : Type 0
ObjectsMayChange = (g : Run) (place : ℕ) (tail : List Value) (p : Point) (os : List Object) → Stands g place tail p →
    Stands g place tail (record p { objects = os })

-- ---- well-formed systems

-- the law of each routine that an object of a class runs for a name, in a well-formed system whose classes have no
-- fault
abbrev pub WhereAccepted : (System → Routine → Type 0) → Type 0
WhereAccepted law = (s : System) (root : Root) → IsFaultless s root → WellFormed s →
    (k : ℕ) (x : List ℕ) (r : Routine) → routine_named s k x ≡ Some r → law s r

-- Each expression of each routine and of its contract has its type.
abbrev pub RoutinesAreTyped : Type 0
RoutinesAreTyped = WhereAccepted λ s r. IsTypedRoutine s r

-- At its first place a routine's code represents the routine.
abbrev pub RoutinesStand : Type 0
RoutinesStand = WhereAccepted λ s r. (p : Point) (tail : List Value) → Beginning s r p tail →
    Stands (run_of s r) 0 tail p

-- From a routine's beginning its code makes the silent steps of the model silently, reaches that visible step, and
-- goes on at a place that represents the point after it.
abbrev pub RoutinesFollow : Type 0
RoutinesFollow = WhereAccepted λ s r. (me : Reference) (p : Point) (tail : List Value) → Beginning s r p tail →
    Moves (run_of s r) me 0 tail p (moves s me p)
