-- What rows compare: the job that each of a list of turns begins with, and how the handlers stand after it.
use Rattle.std.proofs.Common.{ℕ, zero, suc, Bool, true, false, List, [], ◌∷◌, ◌++◌, Option, Some, None}
use Rattle.sc_model.specs.declared.status.Status.{Status}
use Rattle.sc_region.specs.declared.value.Value.{Value}
use Rattle.sc_region.specs.declared.value.Value.TheVariants.{Attached}
use Rattle.sc_region.specs.declared.job.Errand.TheVariants.{Calls, Makes}
use Rattle.sc_region.specs.declared.job.Request.{Request}
use Rattle.sc_region.specs.declared.job.Job.{Job}
use Rattle.sc_region.specs.declared.job.Job.TheVariants as job
use Rattle.sc_region.specs.declared.job.Want.{Want}
use Rattle.sc_region.specs.declared.job.Want.TheVariants as want
use Rattle.sc_handler.specs.Handlers.{State}
use Rattle.sc_handler.specs.Picking.{job_of, status_of}
use Rattle.sc_request.specs.Settling.{settled}
use Rattle.sc_request.specs.Logs.{opening}

-- ---- jobs

-- a job, of which a request is known by its target's handler, and what it is for by a number
pub data Seen : Type 0 where
  Nothing : Seen
  Takes : (handler feature : ℕ) → Seen
  Creates : (class : ℕ) → Seen
  Replies : (value : Option Value) → Seen
  Fails : Seen
  IsRefused : Seen
  Granted : (handlers : List ℕ) → Seen
  Made : (handler : ℕ) → Seen
  Goes : Seen

abbrev seen_request : Request → Seen
seen_request r = elim r.errand as (λ _. Seen) [ Calls x ↦ Takes r.target.handler x | Makes k ↦ Creates r.target.class ]

abbrev seen : Option Job → Seen
seen None = Nothing
seen (Some (job.Take r)) = seen_request r
seen (Some (job.Reply v)) = Replies v
seen (Some job.Failed) = Fails
seen (Some job.Refused) = IsRefused
seen (Some (job.Granted ks)) = Granted ks.items
seen (Some (job.Made k)) = Made k
seen (Some job.Go) = Goes

-- ---- turns

abbrev after_turn : ℕ → ℕ → Want → Option Job → State → State
after_turn most h w None s = s
after_turn most h w (Some j) s = settled most h j 1 w s

-- the jobs of these turns, each with what it asks, where there may be so many handlers
abbrev pub jobs : ℕ → List (ℕ × Want) → State → List Seen
jobs most [] s = []
jobs most (t ∷ ts) s = seen (job_of t.0 s) ∷ jobs most ts (after_turn most t.0 t.1 (job_of t.0 s) s)

abbrev pub played : ℕ → List (ℕ × Want) → State → State
played most [] s = s
played most (t ∷ ts) s = played most ts (after_turn most t.0 t.1 (job_of t.0 s) s)

abbrev summary : ℕ → State → List (Status × ℕ)
summary zero s = []
summary (suc n) s = summary n s ++ (status_of n s, (s.handlers n).refused) ∷ []

-- each handler's status, and how many requests it refused
abbrev pub outcome : State → List (Status × ℕ)
outcome s = summary s.count s

-- ---- requests and wants

abbrev pub root : State
root = opening (record { poster = None; target = record { handler = 0; number = 1; class = 0 }; errand = Makes (Some 0); actuals = record { items = [] }; is_waited = false })

abbrev pub object : ℕ → ℕ → Value
object h class = Attached (record { handler = h; number = 1; class = class })

-- the poster, the handler that it asks, the feature and the actuals
abbrev request : ℕ → ℕ → ℕ → List Value → Bool → Request
request h k x vs waits = record {
  poster = Some h;
  target = record { handler = k; number = 1; class = k };
  errand = Calls x;
  actuals = record { items = vs };
  is_waited = waits;
}

abbrev pub goes : ℕ → ℕ × Want
goes h = (h, want.Continue)

abbrev pub reserves : ℕ → List ℕ → ℕ × Want
reserves h ks = (h, want.Reserve (record { items = ks }))

abbrev pub posts : ℕ → ℕ → ℕ → List Value → ℕ × Want
posts h k x vs = (h, want.Post (request h k x vs false))

abbrev pub asks : ℕ → ℕ → ℕ → List Value → ℕ × Want
asks h k x vs = (h, want.Ask (request h k x vs true) false)

abbrev pub asks_passing : ℕ → ℕ → ℕ → List Value → ℕ × Want
asks_passing h k x vs = (h, want.Ask (request h k x vs true) true)

abbrev pub creates : ℕ → ℕ → List Value → ℕ × Want
creates h class vs = (h, want.Create class (Some 0) (record { items = vs }) false)

abbrev pub creates_passing : ℕ → ℕ → List Value → ℕ × Want
creates_passing h class vs = (h, want.Create class (Some 0) (record { items = vs }) true)

abbrev pub releases : ℕ → List ℕ → ℕ × Want
releases h ks = (h, want.Release (record { items = ks }))

abbrev pub waits : ℕ → List ℕ → ℕ × Want
waits h ks = (h, want.Wait (record { items = ks }))

abbrev pub ends : ℕ → List ℕ → ℕ × Want
ends h ks = (h, want.Done None (record { items = ks }) false)

abbrev pub answers : ℕ → Value → ℕ × Want
answers h v = (h, want.Done (Some v) (record { items = [] }) false)

abbrev pub refuses : ℕ → List ℕ → ℕ × Want
refuses h ks = (h, want.Done None (record { items = ks }) true)
