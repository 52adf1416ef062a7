-- Which handlers may have a job: sets that have at least those that do.
use Rattle.std.specs.Prelude.{◌≡◌, ◌≤◌, ◌<◌, ◌==◌, ◌||◌, ℕ, Bool, true, false, List, [], ◌∷◌, Option, Some, None, is_some, map, nat_lt, not, ◌&&◌, if◌then◌else◌}
use Rattle.std.specs.List.{list_all}
use Rattle.sc_lockpass.specs.Rights.{is_among, is_handler}
use Rattle.sc_lockpass.specs.Tables.{is_member}
use Rattle.sc_region.specs.declared.job.Job.{Job}
use Rattle.sc_region.specs.declared.job.Job.TheVariants as job
use Rattle.sc_region.specs.declared.job.Want.{Want}
use Rattle.sc_region.specs.declared.job.Want.TheVariants.{Post, Ask, Create, Done}
use Rattle.sc_handler.specs.declared.handler.Handler as coded
use Rattle.sc_handler.specs.Handlers.{Posted, Service, Handler, State, is_reserving, new_handler}
use Rattle.sc_handler.specs.Changes.{to_list}
use Rattle.sc_handler.specs.Freeing.{frees_under}
use Rattle.sc_request.specs.Settling.{settled}
use Rattle.sc_request.specs.Tables.{out_at}
use Rattle.sc_request.specs.Logs.{Center, next, pick_for}

-- ---- sets as the bits of words

-- no number from one on, below another one, is in the set
abbrev pub HasNoneIn : List ℕ → ℕ → ℕ → Type 0
HasNoneIn words from to = (k : ℕ) → from ≤ k → k < to → is_member words k ≡ false

-- the least of the set that is there
pub record IsFirstIn (words : List ℕ) (from to k : ℕ) : Type 0 where
  pub start : from ≤ k
  pub below : k < to
  pub member : is_member words k ≡ true
  pub least : HasNoneIn words from k

-- The last set has what the first one has, and what the other one has, where it is so.
abbrev pub AddsIf : Bool → List ℕ → List ℕ → List ℕ → Type 0
AddsIf is_so others before after =
    (k : ℕ) → is_member after k ≡ (is_member before k || (is_so && is_member others k))

-- It has what the first one has, and each that is one of these.
abbrev pub Adds : (ℕ → Bool) → List ℕ → List ℕ → Type 0
Adds is_one before after = (k : ℕ) → k < 512 → is_member after k ≡ (is_one k || is_member before k)

-- It has this number or not, as is said, and of the others those that the first one has.
abbrev pub Puts : ℕ → Bool → List ℕ → List ℕ → Type 0
Puts n is_in before after = (k : ℕ) → is_member after k ≡ (if k == n then is_in else is_member before k)

-- ---- what the core keeps

-- Each handler that has something to do, and isn't out, is in the set.
abbrev pub AreCandidates : List ℕ → Center → Type 0
AreCandidates words c = (k : ℕ) → is_some (pick_for k c) ≡ true → is_member words k ≡ true

-- Each handler whose next step is a reserve step is in the set.
abbrev pub AreReserving : List ℕ → (ℕ → Handler) → Type 0
AreReserving words xs = (k : ℕ) → is_reserving (xs k).stage ≡ true → is_member words k ≡ true

abbrev pub entry_below : ℕ → coded.Handler → Bool
entry_below count x = list_all (λ k. nat_lt k count) x.entry.items

-- A handler that is out is one that there may be.
abbrev pub HasOutsBelow : ℕ → List coded.Handler → Type 0
HasOutsBelow most xs = (h : ℕ) (j : Job) → out_at xs h ≡ Some j → h < most

abbrev pub is_granted : Option Job → ℕ → Bool
is_granted (Some (job.Granted ks)) k = is_among k ks.items
is_granted o k = false

-- What a handler that is out was granted is handlers that there may be.
abbrev pub HasGrantsBelow : ℕ → List coded.Handler → Type 0
HasGrantsBelow most xs = (h k : ℕ) → is_granted (out_at xs h) k ≡ true → k < most

-- what the job was granted
abbrev pub granted_items : Job → List ℕ
granted_items (job.Take r) = []
granted_items (job.Reply v) = []
granted_items job.Failed = []
granted_items job.Refused = []
granted_items (job.Granted ks) = ks.items
granted_items (job.Made k) = []
granted_items job.Go = []

abbrev pub is_granting : Job → Bool
is_granting (job.Take r) = false
is_granting (job.Reply v) = false
is_granting job.Failed = false
is_granting job.Refused = false
is_granting (job.Granted ks) = true
is_granting (job.Made k) = false
is_granting job.Go = false

-- ---- whom a settlement touches

-- the handler posted the first of these
abbrev pub posted_first : ℕ → List Posted → Bool
posted_first k [] = false
posted_first k (p ∷ ps) = is_handler k p.request.poster

-- the handler posted what this one serves, or takes next
abbrev pub may_hear_from : Handler → ℕ → Bool
may_hear_from x k =
    posted_first k (map (λ (v : Service). v.posted) x.services)
    || (posted_first k x.queue || posted_first k (to_list x.callback))

-- A turn of the handler that asks this touches another one: that is asked, or made, or may hear an answer.
abbrev pub touches : ℕ → Want → State → ℕ → Bool
touches h (Post r) s k = k == r.target.handler
touches h (Ask r passing) s k = k == r.target.handler
touches h (Create class procedure actuals passing) s k = k == s.count
touches h (Done v ks refused) s k = may_hear_from (s.handlers h) k
touches h w s k = false

-- The handler itself and whom its turn touches are added to the set.
abbrev pub AddsTouched : ℕ → Want → State → List ℕ → List ℕ → Type 0
AddsTouched h w s before after =
    (k : ℕ) → k < 512 → is_member after k ≡ (k == h || (touches h w s k || is_member before k))

-- Where the handler has failed, all are added to the set; else those that wait to reserve, where something is freed.
abbrev pub Wakes : Handler → Bool → List ℕ → List ℕ → List ℕ → Type 0
Wakes x is_freeing reserving before after =
    (k : ℕ) → k < 512 →
    is_member after k ≡ (is_some x.failure || (is_member before k || (is_freeing && is_member reserving k)))

-- Beside the handler that is out with the job no other one has anything to do, and the job frees nothing. So as long as
-- its turns ask nothing, it is the next one again.
abbrev pub comes_again : Job → Center → Bool
comes_again j c = not (frees_under j) && not (is_some (next c))

-- the handler, whatever the count of its sessions
abbrev pub uncounted : Handler → Handler
uncounted x = record x { sessions = 0 }

-- From this number on no handler that has a place was asked for anything yet.
abbrev pub AreFreshFrom : ℕ → State → Type 0
AreFreshFrom n s = (h : ℕ) → n ≤ h → h < 512 → uncounted (s.handlers h) ≡ new_handler

-- The handler of the number isn't the first one, nor the next one that is made, and didn't post what the first one
-- serves, or takes next.
pub record IsStrangerTo (h : ℕ) (s : State) (k : ℕ) : Type 0 where
  pub other : (k == h) ≡ false
  pub later : (k == s.count) ≡ false
  pub silent : may_hear_from (s.handlers h) k ≡ false

-- a turn that wants this asks the handler of the number
abbrev pub is_asked : Want → ℕ → Bool
is_asked (Post r) k = k == r.target.handler
is_asked (Ask r passing) k = k == r.target.handler
is_asked w k = false

-- A turn of a handler that wanted this didn't ask the handler of the number, and it has not failed.
pub record IsSparedBy (h : ℕ) (w : Want) (s : State) (k : ℕ) : Type 0 where
  pub unasked : is_asked w k ≡ false
  pub stands : (s.handlers h).failure ≡ None

-- From this number on all that have a place are strangers to the handler.
abbrev pub AreStrangersFrom : ℕ → ℕ → State → Type 0
AreStrangersFrom n h s = (k : ℕ) → n ≤ k → k < 512 → IsStrangerTo h s k

-- Whom a settlement doesn't touch stays as it is but for its count of sessions, unless the settled handler has failed.
abbrev pub LeavesUntouched : Type 0
LeavesUntouched =
    (most h : ℕ) (j : Job) (turns : ℕ) (w : Want) (s : State) (k : ℕ) → (k == h) ≡ false → touches h w s k ≡ false →
    ((settled most h j turns w s).handlers h).failure ≡ None →
    uncounted ((settled most h j turns w s).handlers k) ≡ uncounted (s.handlers k)
