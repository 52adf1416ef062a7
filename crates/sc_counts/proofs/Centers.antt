-- The core's states are read alike from the opening on.
use Rattle.std.proofs.Common.{◌≡◌, ◌<◌, ◌∙◌, ◌||◌, ℕ, [], ◌∷◌, Option, Some, None, refl, sym, ap}
use Rattle.std.proofs.lemmas.List.Elements.{All-cons, All-nil}
use Rattle.std.specs.Prelude.{is_some, nat_lt, if◌then◌else◌}
use Rattle.sc_lockpass.specs.Rights.{Rights}
use Rattle.sc_model.specs.declared.status.Status.{Status}
use Rattle.sc_region.specs.declared.job.Job.{Job}
use Rattle.sc_region.specs.declared.job.Job.TheVariants as job
use Rattle.sc_region.specs.declared.job.Request.{Request}
use Rattle.sc_handler.specs.Handlers.{posted, State, new_handler}
use Rattle.sc_handler.specs.Picking.{job_of, status_with}
use Rattle.sc_handler.specs.Canonical.{canon, canon_stage, sessions_in}
use Rattle.sc_request.specs.Candidates.{granted_items}
use Rattle.sc_request.specs.Logs.{Center, granted, opening, pick_for, picked, put_back_with, ungranted}
use Rattle.sc_counts.specs.Counted.{AreBelow, IsCounted, IsFreeFrom, IsHandlerCounted, IsServiceCounted, PassesBelow}
use Rattle.sc_counts.specs.Laws.{AlikeAreReadAlike, AlikeSettleAlike, OpeningsAreCounted, PicksStayCounted, PutBacksStayCounted, SettlementsStayCounted}
use Rattle.sc_counts.proofs.Jobs.{job_canon, stands_canon}
use Rattle.sc_counts.proofs.Handlers.{either_counted, job_grants, new_counted, none_passes, release_free, reserve_free}
use Rattle.sc_counts.proofs.Counting.{settled_counted}
use Rattle.sc_counts.proofs.Settled.{settled_like}

-- ---- what a state names

asked_counted : (S : ℕ → ℕ) (n : ℕ) (root : Request) → IsHandlerCounted S n (record new_handler { queue = posted root None ∷ [] })
asked_counted S n root = record {
  stage = tt;
  services = All-nil (IsServiceCounted S n);
  entry = All-nil (λ i. i < n);
  queue = All-cons (PassesBelow n) (posted root None) [] (none_passes n root) (All-nil (PassesBelow n));
  callback = All-nil (PassesBelow n);
}

pub openings_are_counted : OpeningsAreCounted
openings_are_counted root =
    let S = sessions_in (opening root) in
    record {
      rights = λ k far. refl;
      handlers = λ k. either_counted S 1 (nat_lt k 1) (record new_handler { queue = posted root None ∷ [] }) new_handler (asked_counted S 1 root) (new_counted S 1);
    }

-- the state with other rights
abbrev with_rights : Rights → State → State
with_rights r s = record s { rights = r }

granted_free : (n h : ℕ) (j : Job) (r : Rights) → AreBelow n (granted_items j) → IsFreeFrom n r → IsFreeFrom n (granted h j r)
granted_free n h (job.Granted ks) r below free = reserve_free n h ks.items r below free
granted_free n h (job.Take q) r below free = free
granted_free n h (job.Reply v) r below free = free
granted_free n h job.Failed r below free = free
granted_free n h job.Refused r below free = free
granted_free n h (job.Made k) r below free = free
granted_free n h job.Go r below free = free

ungranted_free : (n : ℕ) (j : Job) (r : Rights) → IsFreeFrom n r → IsFreeFrom n (ungranted j r)
ungranted_free n (job.Granted ks) r free = release_free n ks.items r free
ungranted_free n (job.Take q) r free = free
ungranted_free n (job.Reply v) r free = free
ungranted_free n job.Failed r free = free
ungranted_free n job.Refused r free = free
ungranted_free n (job.Made k) r free = free
ungranted_free n job.Go r free = free

picked_job : (out : Option Job) (o : Option Job) (j : Job) → (if is_some out then None else o) ≡ Some j → o ≡ Some j
picked_job None o j e = e
picked_job (Some i) o j e = cc

job_is : (h : ℕ) (j : Job) (c : Center) → pick_for h c ≡ Some j → job_of h c.state ≡ Some j
job_is h j c e = picked_job (c.out h) (job_of h c.state) j e

items_below : (h : ℕ) (j : Job) (c : Center) → pick_for h c ≡ Some j → IsCounted c.state → AreBelow c.state.count (granted_items j)
items_below h j c e counted = job_grants h c.state j counted (job_is h j c e)

pub picks_stay_counted : PicksStayCounted
picks_stay_counted h j c e counted =
    record { rights = granted_free c.state.count h j c.state.rights (items_below h j c e counted) counted.rights; handlers = counted.handlers }

pub put_backs_stay_counted : PutBacksStayCounted
put_backs_stay_counted h c counted = by (c.out h)
  where
    by : (o : Option Job) → IsCounted (put_back_with h o c).state
    by None = counted
    by (Some j) = record { rights = ungranted_free c.state.count j c.state.rights counted.rights; handlers = counted.handlers }

pub settlements_stay_counted : SettlementsStayCounted
settlements_stay_counted most h turns j w c e counted =
    settled_counted most h j turns w (picked h j c).state (items_below h j c e counted) (picks_stay_counted h j c e counted)

-- ---- states that are read alike

jobs_alike : (h : ℕ) (s t : State) → canon s ≡ canon t → job_of h s ≡ job_of h t
jobs_alike h s t l = sym (job_canon h s) ∙ ap (job_of h) l ∙ job_canon h t

-- how a handler stands in the state, if it is out with this, or isn't out
abbrev stands : ℕ → Option Job → State → Status
stands h out s = status_with (s.handlers h).failure (is_some out || is_some (job_of h s)) (s.handlers h).stage

stands_read : (h : ℕ) (out : Option Job) (s : State) → stands h out (canon s) ≡ stands h out s
stands_read h out s =
    let st = canon_stage (sessions_in s) (s.handlers h).stage in
    ap (λ (o : Option Job). status_with (s.handlers h).failure (is_some out || is_some o) st) (job_canon h s)
    ∙ stands_canon (sessions_in s) (s.handlers h).failure (is_some out || is_some (job_of h s)) (s.handlers h).stage

pub alike_are_read_alike : AlikeAreReadAlike
alike_are_read_alike h c d l out =
    let jobs = jobs_alike h c.state d.state l in
    record {
      pick = λ i. if is_some (out i) then None else jobs i;
      status = sym (stands_read h (c.out h) c.state) ∙ ap (stands h (c.out h)) l ∙ stands_read h (c.out h) d.state ∙ ap (λ (o : Option Job). stands h o d.state) out;
    }

pub alike_settle_alike : AlikeSettleAlike
alike_settle_alike most h turns j w c d e counted its l =
    let there = items_below h j c e counted in
    let job : job_of h d.state ≡ Some j = sym (jobs_alike h c.state d.state l) ∙ job_is h j c e in
    let its_there : AreBelow d.state.count (granted_items j) = job_grants h d.state j its job in
    let picked_counted : IsCounted (picked h j d).state = record { rights = granted_free d.state.count h j d.state.rights its_there its.rights; handlers = its.handlers } in
    settled_like most h j turns w (picked h j c).state (picked h j d).state there (picks_stay_counted h j c e counted) picked_counted
    (ap (λ (s : State). record s { rights = granted h j s.rights }) l)
