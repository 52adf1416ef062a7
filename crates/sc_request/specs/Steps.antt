-- The law of settlements: picking, a turn, and the settlement of what it asks are together the machine's step.
use Rattle.std.specs.Prelude.{◌≡◌, ℕ, true, List, [], ◌∷◌, Option, Some, None}
use Rattle.sc_tree.specs.Plain.{System}
use Rattle.sc_model.specs.Environments.{Binding, separate_formals}
use Rattle.sc_model.specs.Objects.{Object}
use Rattle.sc_model.specs.Steps.{Step, Goes, Does}
use Rattle.sc_model.specs.Moves.{moves}
use Rattle.sc_model.specs.Handlers as machine
use Rattle.sc_model.specs.Turns.{turn}
use Rattle.sc_region.specs.declared.job.Job.{Job}
use Rattle.sc_region.specs.declared.job.Want.{Want}
use Rattle.sc_region.specs.declared.job.Want.TheVariants.{Wait}
use Rattle.sc_handler.specs.Handlers.{State}
use Rattle.sc_handler.specs.Picking.{job_of}
use Rattle.sc_request.specs.Settling.{begun, may_ask, settled}
use Rattle.sc_request.specs.Asked.{Numbering, asked, handlers_of}
use Rattle.sc_request.specs.Halves.{IsHalfOf}

-- the state after the handler's turn under this job, where there may be so many handlers
abbrev pub stepped : ℕ → Numbering → System → ℕ → machine.World → Option Job → State → State
stepped most n sys h w None s = s
stepped most n sys h w (Some j) s = settled most h j 1 (asked n sys h j (w.handlers h)) s

-- the environment of a frame after its silent steps and the visible one
abbrev pub environment_after : Step → List Binding
environment_after (Goes p) = p.environment
environment_after (Does a p) = p.environment

abbrev pub environment_at : System → List machine.Frame → List Object → List Binding
environment_at sys [] objects = []
environment_at sys (f ∷ below) objects = environment_after (moves sys f.current (machine.point_of f objects))

-- An entry that waits is the one that its handler reserved for last.
abbrev pub IsLastEntry : Want → List Binding → List ℕ → Type 0
IsLastEntry (Wait ks) bs entry = entry ≡ handlers_of (separate_formals bs)
IsLastEntry want bs entry = Unit {0}

abbrev pub IsInCall : machine.Stage → Type 0
IsInCall (machine.InCall gives) = Unit {0}
IsInCall stage = ⊥

abbrev pub IsCalledFrom : machine.Origin → List machine.Frame → Type 0
IsCalledFrom (machine.Called c) [] = ⊥
IsCalledFrom (machine.Called c) (g ∷ below) = IsInCall g.stage
IsCalledFrom (machine.Requested r) below = Unit {0}

-- A routine that its own handler called stands on the one that is in the call.
abbrev pub StandsOnCall : List machine.Frame → Type 0
StandsOnCall [] = Unit {0}
StandsOnCall (f ∷ below) = IsCalledFrom f.origin below

-- What the turn asks the core grants to a turn. Of a state that is reached this is to be proved from who holds what
-- there.
abbrev pub IsGranted : System → Want → ℕ → machine.World → State → Type 0
IsGranted sys want h w s =
    (may_ask h want s ≡ true)
    × IsLastEntry want (environment_at sys (w.handlers h).stack (w.handlers h).objects) (s.handlers h).entry

abbrev pub IsGrantedUnder : Numbering → System → ℕ → machine.World → Option Job → State → Type 0
IsGrantedUnder n sys h w None s = Unit {0}
IsGrantedUnder n sys h w (Some j) s = IsGranted sys (asked n sys h j (w.handlers h)) h w (begun h j s)

-- The core's half of the machine's step: what comes of the handler's turn, under the job that it has, where it has one.
abbrev pub HalvesStep : Type 0
HalvesStep =
    (most : ℕ) (n : Numbering) (sys : System) (h : ℕ) (w : machine.World) (s : State) → IsHalfOf n w s →
    StandsOnCall (w.handlers h).stack →
    IsGrantedUnder n sys h w (job_of h s) s → IsHalfOf n (turn most sys h w) (stepped most n sys h w (job_of h s) s)
