-- The entry that a handler reserved for last, and when a clause of a precondition may be found false.
use Rattle.std.specs.Prelude.{◌≡◌, ◌⊎◌, ℕ, Bool, true, false, List, [], ◌∷◌, Contains}
use Rattle.sc_tree.specs.Plain.{System}
use Rattle.sc_lockpass.specs.declared.wait_conditions.mark.Marked.{Marked}
use Rattle.sc_model.specs.Moves.{moves}
use Rattle.sc_model.specs.Steps.{Refuses, Step, Goes, Does, Point}
use Rattle.sc_model.specs.Tasks.{Task, Require, Required}
use Rattle.sc_model.specs.Values.{Reference}
use Rattle.sc_region.specs.declared.job.Job.{Job}
use Rattle.sc_region.specs.declared.job.Want.{Want}
use Rattle.sc_handler.specs.Handlers.{HandlerStage, Idle, Runs, HasMade, Reserves, Awaits, Service, Handler, State}
use Rattle.sc_request.specs.Settling.{settled}

-- ---- the core

-- What the handler is about to reserve is its entry, and none of its requests was taken at a reserve step.
pub record KeepsEntry (x : Handler) : Type 0 where
  pub entered : (ks : List ℕ) (mark : List Marked) → x.stage ≡ Reserves ks mark → x.entry ≡ ks
  pub over : (v : Service) → Contains x.services v → (ks : List ℕ) (mark : List Marked) → v.over ≡ Reserves ks mark → ⊥

abbrev pub is_reserving : HandlerStage → Bool
is_reserving (Reserves ks mark) = true
is_reserving Idle = false
is_reserving Runs = false
is_reserving (HasMade k) = false
is_reserving (Awaits k is_creation) = false

-- The entry stays, or the handler is about to reserve, or it is idle. What it is about to reserve is still its
-- entry.
pub record EntryStays (x y : Handler) : Type 0 where
  pub keeps : KeepsEntry x → KeepsEntry y
  pub stays : (y.entry ≡ x.entry) ⊎ ((is_reserving y.stage ≡ true) ⊎ (y.stage ≡ Idle))

-- In each settlement of an existing handler this holds of each handler.
abbrev pub EntriesStay : Type 0
EntriesStay = (most h turns : ℕ) (j : Job) (asks : Want) (s : State) → (h ≡ s.count → ⊥) → (k : ℕ) →
    EntryStays (s.handlers k) ((settled most h j turns asks s).handlers k)

-- ---- the machine

abbrev pub is_clause : Task → Bool
is_clause (Require ks) = true
is_clause (Required k) = true
is_clause task = false

-- No task is a clause of a precondition.
abbrev pub HasStarted : List Task → Type 0
HasStarted [] = Unit {0}
HasStarted (t ∷ ts) = (is_clause t ≡ false) × HasStarted ts

-- After the step no clause of a precondition is left, and the step finds none false.
abbrev pub RefusesNone : Step → Type 0
RefusesNone (Goes p) = HasStarted p.tasks
RefusesNone (Does (Refuses k) p) = ⊥
RefusesNone (Does a p) = HasStarted p.tasks

-- If no clause of a routine's precondition is left, none is left after its next turn, and that turn finds none
-- false.
abbrev pub StartedStay : Type 0
StartedStay = (s : System) (me : Reference) (p : Point) → HasStarted p.tasks → RefusesNone (moves s me p)
