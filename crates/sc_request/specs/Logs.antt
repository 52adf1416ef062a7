-- How a core opens, what its settlements do, and which handler is out with a job.
use Rattle.std.specs.Prelude.{◌≡◌, ℕ, zero, suc, ◌-◌, ◌||◌, false, List, [], ◌∷◌, ◌++◌, Option, Some, None, is_some, nat_lt, ◌==◌, if◌then◌else◌}
use Rattle.sc_lockpass.specs.Rights.{Rights, unreserved, reserve, release}
use Rattle.sc_model.specs.declared.status.Status.{Status}
use Rattle.sc_region.specs.declared.job.Request.{Request}
use Rattle.sc_region.specs.declared.job.Errand.TheVariants.{Makes}
use Rattle.sc_region.specs.declared.job.Job.{Job}
use Rattle.sc_region.specs.declared.job.Job.TheVariants as job
use Rattle.sc_region.specs.declared.job.Want.{Want}
use Rattle.sc_handler.specs.declared.settlement.Settlement.{Settlement}
use Rattle.sc_handler.specs.Handlers.{posted, State, new_handler}
use Rattle.sc_handler.specs.Picking.{job_of, status_with}
use Rattle.sc_request.specs.Settling.{settled}

-- ---- settlements

-- the creation of the root object, of this class by this procedure; it has no client
abbrev pub root_of : ℕ → ℕ → Request
root_of class procedure = record {
  poster = None;
  target = record { handler = 0; number = 1; class = class };
  errand = Makes (Some procedure);
  actuals = record { items = [] };
  is_waited = false;
}

-- there is one handler, with one request
abbrev pub opening : Request → State
opening root = record {
  count = 1;
  handlers = λ k. if nat_lt k 1 then record new_handler { queue = posted root None ∷ [] } else new_handler;
  rights = unreserved;
}

abbrev pub after : ℕ → Settlement → State → State
after most x s = settled most x.handler x.job x.turns x.want s

-- The log plays from one state to another: each settlement has the job that its handler had there.
abbrev pub Plays : ℕ → State → List Settlement → State → Type 0
Plays most s [] t = s ≡ t
Plays most s (x ∷ xs) t = (job_of x.handler s ≡ Some x.job) × Plays most (after most x s) xs t

-- ---- handlers that are out

-- The state, the job that each handler is out with, and the one picked last. What a reserve step was granted is
-- reserved from its pick on.
pub record Center : Type 0 where
  pub state : State
  pub out : ℕ → Option Job
  pub last : ℕ

-- the center of a core that opens, with this limit on handlers
abbrev pub opened : ℕ → Request → Center
opened most root = record { state = opening root; out = λ k. None; last = most - 1 }

-- the job of the handler, if it isn't out
abbrev pub pick_for : ℕ → Center → Option Job
pick_for h c = if is_some (c.out h) then None else job_of h c.state

-- a handler that is out is busy
abbrev pub status_in : ℕ → Center → Status
status_in h c =
    status_with (c.state.handlers h).failure (is_some (c.out h) || is_some (job_of h c.state))
    (c.state.handlers h).stage

abbrev pub status_for : ℕ → Center → Option Status
status_for h c = if nat_lt h c.state.count then Some (status_in h c) else None

abbrev pub granted : ℕ → Job → Rights → Rights
granted h (job.Granted ks) r = reserve h ks.items r
granted h j r = r

abbrev pub ungranted : Job → Rights → Rights
ungranted (job.Granted ks) r = release ks.items r
ungranted j r = r

abbrev pub with_out : ℕ → Option Job → Center → Center
with_out h j c = record c { out = λ k. if k == h then j else c.out k }

-- The handler is out with the job.
abbrev pub picked : ℕ → Job → Center → Center
picked h j c =
    with_out h (Some j) (record c { state = record c.state { rights = granted h j c.state.rights }; last = h })

-- The handler is out with the job, if it has one.
abbrev pub picked_if : ℕ → Option Job → Center → Center
picked_if h None c = c
picked_if h (Some j) c = picked h j c

-- The handler is out with the job, if there is one that has something to do.
abbrev pub picks : Option (ℕ × Job) → Center → Center
picks None c = c
picks (Some p) c = picked p.0 p.1 c

abbrev pub put_back_with : ℕ → Option Job → Center → Center
put_back_with h None c = c
put_back_with h (Some j) c =
    with_out h None (record c { state = record c.state { rights = ungranted j c.state.rights } })

-- The pick of the handler is undone, if it is out.
abbrev pub put_back : ℕ → Center → Center
put_back h c = put_back_with h (c.out h) c

-- `n` numbers from the first one on
abbrev pub numbers_from : ℕ → ℕ → List ℕ
numbers_from first zero = []
numbers_from first (suc n) = first ∷ numbers_from (suc first) n

-- the handlers in the order in which they are tried: those after the last one picked, and round to it
abbrev pub round : ℕ → ℕ → List ℕ
round count last =
    numbers_from (suc last) (count - suc last) ++ numbers_from 0 (if nat_lt last count then suc last else count)

abbrev pub first_from : ℕ → Option Job → Option (ℕ × Job) → Option (ℕ × Job)
first_from h (Some j) rest = Some (h, j)
first_from h None rest = rest

-- the first of them that has something to do
abbrev pub first_with_job : List ℕ → Center → Option (ℕ × Job)
first_with_job [] c = None
first_with_job (h ∷ hs) c = first_from h (pick_for h c) (first_with_job hs c)

-- The next handler that has something to do, after the one picked last, with its job.
abbrev pub next : Center → Option (ℕ × Job)
next c = first_with_job (round c.state.count c.last) c

-- The handler, which is out with the job, is settled, with this limit on handlers.
abbrev pub settles : ℕ → ℕ → Job → ℕ → Want → Center → Center
settles most h j turns w c = with_out h None (record c { state = settled most h j turns w c.state })
