-- What a handler has to do, and how it stands, is read of its state.
use Rattle.std.proofs.Common.{◌≡◌, ◌∙◌, ◌&&◌, inl, inr, ℕ, zero, suc, Bool, true, false, List, [], ◌∷◌, Option, Some, None, map, refl, sym, ap}
use Rattle.std.proofs.Math.Path.{fun_ext}
use Rattle.std.proofs.lemmas.Bool.{cases_Bool, or_from}
use Rattle.std.specs.Prelude.{is_some, nat_lt, if◌then◌else◌}
use Rattle.std.specs.List.{list_all, list_any}
use Rattle.sc_lockpass.specs.wait_conditions.Reservations.{has_risen, mark_allows, may_be_reserved, may_reserve, reserve_fails}
use Rattle.sc_lockpass.specs.declared.wait_conditions.mark.Marked.{Marked}
use Rattle.sc_model.specs.declared.cause.Cause.{Cause}
use Rattle.sc_region.specs.declared.job.Job.{Job}
use Rattle.sc_region.specs.declared.job.Job.TheVariants as job
use Rattle.sc_region.specs.declared.job.Want.{Want}
use Rattle.sc_handler.specs.Handlers.{HandlerStage, Idle, Runs, HasMade, Reserves, Awaits, Handler, State, has_frames, standing_in}
use Rattle.sc_handler.specs.Picking.{job_at, job_for_entry, job_of, job_reserving, job_with, needs, status_idle, status_of, status_with}
use Rattle.sc_handler.specs.Fits.{fits_first, fits_turns}
use Rattle.sc_handler.specs.Canonical.{canon, canon_handler, canon_mark, canon_stage, sessions_in, uncounted}
use Rattle.sc_counts.proofs.Marks.{risen_canon, waits_canon}

-- ---- marks

none_read : (ms : List Marked) → list_any (has_risen (λ k. 0)) (map uncounted ms) ≡ false
none_read [] = refl
none_read (m ∷ ms) = or_from (nat_lt 0 0) (list_any (has_risen (λ k. 0)) (map uncounted ms)) refl (none_read ms)

waits_still : (S : ℕ → ℕ) (mark : List Marked) → mark_allows S mark ≡ false → mark_allows (λ k. 0) (map uncounted mark) ≡ false
waits_still S [] e = cc
waits_still S (m ∷ ms) e = none_read (m ∷ ms)

-- a mark that is read allows what it allowed
read_allows : (S : ℕ → ℕ) (mark : List Marked) → mark_allows (λ k. 0) (canon_mark S mark) ≡ mark_allows S mark
read_allows S mark = elim (cases_Bool (mark_allows S mark)) [
  | inl e ↦ ap (mark_allows (λ k. 0)) (risen_canon S mark e) ∙ sym e
  | inr e ↦ ap (mark_allows (λ k. 0)) (waits_canon S mark e) ∙ waits_still S mark e ∙ sym e
]

-- ---- jobs

frames_canon : (S : ℕ → ℕ) (st : HandlerStage) → has_frames (canon_stage S st) ≡ has_frames st
frames_canon S Idle = refl
frames_canon S Runs = refl
frames_canon S (HasMade k) = refl
frames_canon S (Reserves ks mark) = refl
frames_canon S (Awaits k is_creation) = refl

free_canon : (s : State) (ks : List ℕ) →
    list_all (λ k. may_be_reserved (standing_in (canon s) k) (s.rights.queue k)) ks ≡ list_all (λ k. may_be_reserved (standing_in s k) (s.rights.queue k)) ks
free_canon s ks = ap (λ (f : ℕ → Bool). list_all f ks) (fun_ext (λ k.
    ap (λ (b : Bool). may_be_reserved (record (standing_in s k) { has_frames = b }) (s.rights.queue k)) (frames_canon (sessions_in s) (s.handlers k).stage)))

may_canon : (s : State) (ks : List ℕ) (mark : List Marked) →
    may_reserve (standing_in (canon s)) s.rights ks (canon_mark (sessions_in s) mark) ≡ may_reserve (standing_in s) s.rights ks mark
may_canon s ks mark =
    let waits = mark_allows (λ k. 0) (canon_mark (sessions_in s) mark) in
    let free = list_all (λ k. may_be_reserved (standing_in s k) (s.rights.queue k)) ks in
    ap (λ (b : Bool). b && waits) (free_canon s ks) ∙ ap (λ (b : Bool). free && b) (read_allows (sessions_in s) mark)

entry_canon : (s : State) (ks : List ℕ) (mark : List Marked) → job_for_entry ks (canon_mark (sessions_in s) mark) (canon s) ≡ job_for_entry ks mark s
entry_canon s ks mark = ap (λ (b : Bool). job_reserving (reserve_fails (standing_in s) s.rights ks) b ks) (may_canon s ks mark)

at_canon : (h : ℕ) (st : HandlerStage) (x : Handler) (s : State) → job_at h (canon_stage (sessions_in s) st) (canon_handler (sessions_in s) x) (canon s) ≡ job_at h st x s
at_canon h Idle x s = refl
at_canon h Runs x s = refl
at_canon h (HasMade k) x s = refl
at_canon h (Reserves ks mark) x s = entry_canon s (needs h ks s.rights) mark
at_canon h (Awaits k is_creation) x s = refl

with_canon : (h : ℕ) (o : Option Cause) (x : Handler) (s : State) → job_with h o (canon_handler (sessions_in s) x) (canon s) ≡ job_with h o x s
with_canon h (Some why) x s = refl
with_canon h None x s = at_canon h x.stage x s

-- A handler has to do what is read of the state.
pub job_canon : (h : ℕ) (s : State) → job_of h (canon s) ≡ job_of h s
job_canon h s = ap (λ (o : Option Job). if nat_lt h s.count then o else None) (with_canon h (s.handlers h).failure (s.handlers h) s)

idle_canon : (S : ℕ → ℕ) (st : HandlerStage) → status_idle (canon_stage S st) ≡ status_idle st
idle_canon S Idle = refl
idle_canon S Runs = refl
idle_canon S (HasMade k) = refl
idle_canon S (Reserves ks mark) = refl
idle_canon S (Awaits k is_creation) = refl

pub stands_canon : (S : ℕ → ℕ) (o : Option Cause) (b : Bool) (st : HandlerStage) → status_with o b (canon_stage S st) ≡ status_with o b st
stands_canon S (Some why) b st = refl
stands_canon S None true st = refl
stands_canon S None false st = idle_canon S st

-- It stands as is read of the state.
pub status_canon : (h : ℕ) (s : State) → status_of h (canon s) ≡ status_of h s
status_canon h s =
    let st = canon_stage (sessions_in s) (s.handlers h).stage in
    ap (λ (o : Option Job). status_with (s.handlers h).failure (is_some o) st) (job_canon h s)
    ∙ stands_canon (sessions_in s) (s.handlers h).failure (is_some (job_of h s)) (s.handlers h).stage

-- ---- what a turn asks

first_canon : (S : ℕ → ℕ) (st : HandlerStage) (j : Job) (w : Want) → fits_first (canon_stage S st) j w ≡ fits_first st j w
first_canon S st (job.Take r) w = refl
first_canon S st (job.Reply v) w = refl
first_canon S st job.Failed w = refl
first_canon S st job.Refused w = refl
first_canon S st (job.Granted ks) w = refl
first_canon S Idle (job.Made k) w = refl
first_canon S Runs (job.Made k) w = refl
first_canon S (HasMade i) (job.Made k) w = refl
first_canon S (Reserves ks mark) (job.Made k) w = refl
first_canon S (Awaits i is_creation) (job.Made k) w = refl
first_canon S st job.Go w = refl

pub fits_canon : (S : ℕ → ℕ) (turns : ℕ) (st : HandlerStage) (j : Job) (w : Want) → fits_turns turns (canon_stage S st) j w ≡ fits_turns turns st j w
fits_canon S zero st j w = refl
fits_canon S (suc zero) st j w = first_canon S st j w
fits_canon S (suc (suc n)) st j w = refl
