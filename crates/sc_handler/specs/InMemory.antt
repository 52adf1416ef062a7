-- How what the core keeps of a handler lies in memory.
use Rattle.std.specs.Prelude.{◌≡◌, ℕ, Bool, true, false, List, [], ◌∷◌, Option, Some, None, map}
use Rattle.std.specs.Option.{option_map}
use Rattle.sc_lockpass.specs.Tables.{Listing, passed_of}
use Rattle.sc_lockpass.specs.declared.wait_conditions.mark.Marked.{Marked}
use Rattle.sc_region.specs.declared.job.Request.{Request}
use Rattle.sc_handler.specs.declared.handler.Answer as coded_answer
use Rattle.sc_handler.specs.declared.handler.Answer.TheVariants as answer
use Rattle.sc_handler.specs.declared.handler.HandlerStage as coded_stage
use Rattle.sc_handler.specs.declared.handler.HandlerStage.TheVariants as stage
use Rattle.sc_handler.specs.declared.handler.Posting.{Posting}
use Rattle.sc_handler.specs.declared.handler.Handler as coded
use Rattle.sc_handler.specs.Handlers.{Posted, posted, Answer, Replied, SupplierFailed, Refused, HandlerStage, Idle, Runs, HasMade, Reserves, Awaits, Service, service, Handler, State, is_reserving}
use Rattle.sc_handler.specs.Picking.{job_at}

-- ---- stages and answers

abbrev pub answer_of : coded_answer.Answer → Answer
answer_of (answer.Replied v) = Replied v
answer_of answer.SupplierFailed = SupplierFailed
answer_of answer.Refused = Refused

abbrev pub answers_of : Option coded_answer.Answer → Option Answer
answers_of a = option_map answer_of a

-- the stage, of a handler with this entry and this mark
abbrev pub stage_of : List ℕ → List Marked → coded_stage.HandlerStage → HandlerStage
stage_of entry mark stage.Idle = Idle
stage_of entry mark stage.Runs = Runs
stage_of entry mark (stage.HasMade k) = HasMade k
stage_of entry mark stage.Reserves = Reserves entry mark
stage_of entry mark (stage.Awaits k is_creation) = Awaits k is_creation

abbrev pub reserves_at : coded_stage.HandlerStage → Bool
reserves_at stage.Idle = false
reserves_at stage.Runs = false
reserves_at (stage.HasMade k) = false
reserves_at stage.Reserves = true
reserves_at (stage.Awaits k is_creation) = false

-- ---- requests

-- the request as it is sent, which is waited for or not
abbrev pub sent : Request → Bool → Option Listing → Posting
sent r is_waited passed = record { request = record r { is_waited = is_waited }; passed = passed; over = stage.Idle }

abbrev pub posting_of : Posting → Posted
posting_of p = posted p.request (option_map passed_of p.passed)

-- the request as its target then has it
abbrev pub posted_as : Request → Bool → Option Listing → Posted
posted_as r is_waited passed = posting_of (sent r is_waited passed)

abbrev pub service_of : Posting → Service
service_of p = service (posting_of p) (stage_of [] [] p.over)

-- the only one of a list, if there is one
abbrev pub first_posted : List Posting → Option Posted
first_posted [] = None
first_posted (p ∷ ps) = Some (posting_of p)

-- the first one was taken over this stage
abbrev pub over_first : coded_stage.HandlerStage → List Posting → List Posting
over_first over [] = []
over_first over (p ∷ ps) = record p { over = over } ∷ ps

-- ---- a handler

-- the handler, no session of which has ended
abbrev pub handler_of : coded.Handler → Handler
handler_of x = record {
  stage = stage_of x.entry.items x.mark x.stage;
  services = map service_of x.services;
  entry = x.entry.items;
  queue = map posting_of x.queue;
  callback = first_posted x.callback;
  answer = answers_of x.answer;
  failure = x.failure;
  sessions = 0;
  refused = x.refused;
}

-- the handler, with this number of ended sessions
abbrev pub handler_with : ℕ → coded.Handler → Handler
handler_with n x = record (handler_of x) { sessions = n }

-- the requests are served from now on, over the present stage
abbrev pub served : List Posting → coded.Handler → coded.Handler
served [] x = x
served (p ∷ ps) x = record x { services = record p { over = x.stage } ∷ x.services; stage = stage.Runs }

-- the handler with no frames, and nothing that it is asked for
abbrev pub cleared : coded.Handler → coded.Handler
cleared x =
    record x {
      stage = stage.Idle;
      entry = record { items = [] };
      mark = [];
      services = [];
      queue = [];
      callback = [];
      answer = None;
    }

-- a handler to which nothing was ever posted
abbrev pub fresh : coded.Handler
fresh = record {
  stage = stage.Idle;
  entry = record { items = [] };
  mark = [];
  services = [];
  queue = [];
  callback = [];
  answer = None;
  failure = None;
  refused = 0;
  out = None;
}

-- one that is asked for this alone
abbrev pub asked : Request → coded.Handler
asked r = record fresh { queue = record { request = r; passed = None; over = stage.Idle } ∷ [] }

-- The second is the first, out with what it has to do, but where that is a reserve step. That is so whatever number and
-- count of sessions it has, and in each state.
abbrev pub IsOutWithOwn : coded.Handler → coded.Handler → Type 0
IsOutWithOwn x y = (n h : ℕ) (s : State) → is_reserving (handler_with n x).stage ≡ false →
    y ≡ record x { out = job_at h (handler_with n x).stage (handler_with n x) s }
