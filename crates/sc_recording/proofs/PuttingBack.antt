-- A handler that is picked and put back leaves the core's state as it was.
use Rattle.std.proofs.Common.{◌≡◌, ◌==◌, ◌&&◌, ◌||◌, ℕ, Bool, true, false, List, [], ◌∷◌, Option, Some, None, is_none, refl, sym, ap, subst, ◌∙◌}
use Rattle.std.proofs.lemmas.Bool.{eq-eqb, eqb-true}
use Rattle.std.proofs.Math.Path.{fun_ext}
use Rattle.std.specs.List.{list_all}
use Rattle.std.specs.Prelude.{nat_lt, not, if◌then◌else◌}
use Rattle.sc_lockpass.specs.Rights as rights
use Rattle.sc_lockpass.specs.Rights.{Rights, is_among}
use Rattle.sc_lockpass.specs.wait_conditions.Reservations.{Standing, is_idle, mark_allows, may_be_reserved, may_reserve, reserve_fails}
use Rattle.sc_lockpass.specs.declared.wait_conditions.mark.Marked.{Marked}
use Rattle.sc_model.specs.declared.cause.Cause.{Cause}
use Rattle.sc_region.specs.declared.job.Job.{Job}
use Rattle.sc_region.specs.declared.job.Job.TheVariants as job
use Rattle.sc_handler.specs.Handlers.{Answer, Awaits, Handler, HasMade, Idle, Posted, Refused, Replied, Reserves, Runs, HandlerStage, State, SupplierFailed, standing_in}
use Rattle.sc_handler.specs.Picking.{job_answered, job_at, job_awaiting, job_idle, job_of, job_reserving, job_with, needs}
use Rattle.sc_request.specs.declared.center.Core as coded
use Rattle.sc_request.specs.Cores.{center_of, state_of}
use Rattle.sc_request.specs.Logs.{Center, granted, picked, put_back, put_back_with, ungranted}
use Rattle.sc_recording.proofs.Dues.{Goes, is_due}

-- ---- as in sc_refines_world: who is granted was nobody's

is_nobodys : (a b : Bool) (o : Option ℕ) → a && b && is_none o ≡ true → o ≡ None
is_nobodys true true None e = refl
is_nobodys true true (Some k) e = cc
is_nobodys true false o e = cc
is_nobodys false b o e = cc

among_free : (standing : ℕ → Standing) (r : Rights) (ks : List ℕ) (k : ℕ) → list_all (λ k. may_be_reserved (standing k) (r.queue k)) ks ≡ true → is_among k ks ≡ true → r.queue k ≡ None
among_free standing r [] k all is = cc
among_free standing r (j ∷ ks) k all is = by (may_be_reserved (standing j) (r.queue j)) refl (j == k) refl all is (among_free standing r ks k)
  where
    by : (a : Bool) → may_be_reserved (standing j) (r.queue j) ≡ a → (b : Bool) → (j == k) ≡ b → a && list_all (λ k. may_be_reserved (standing k) (r.queue k)) ks ≡ true →
        b || is_among k ks ≡ true → (list_all (λ k. may_be_reserved (standing k) (r.queue k)) ks ≡ true → is_among k ks ≡ true → r.queue k ≡ None) → r.queue k ≡ None
    by false e b f all is later = cc
    by true e true f all is later = subst (λ (i : ℕ). r.queue i ≡ None) (eqb-true j k f) (is_nobodys (is_idle (standing j)) (not (standing j).has_requests) (r.queue j) e)
    by true e false f all is later = later all is

same_job : (i j : Job) → Some i ≡ Some j → i ≡ j
same_job i j e = cc

-- what is granted
abbrev given : Job → List ℕ
given (job.Granted ks) = ks.items
given (job.Take r) = []
given (job.Reply v) = []
given job.Failed = []
given job.Refused = []
given (job.Made k) = []
given job.Go = []

abbrev Free : State → Job → Type 0
Free s j = (k : ℕ) → is_among k (given j) ≡ true → s.rights.queue k ≡ None

none_given : (s : State) (i j : Job) → given i ≡ [] → Some i ≡ Some j → Free s j
none_given s i j e is = λ k among. let no : is_among k [] ≡ true = subst (λ (ks : List ℕ). is_among k ks ≡ true) (ap given (sym (same_job i j is)) ∙ e) among in cc

first : (a b : Bool) → a && b ≡ true → a ≡ true
first true b e = refl
first false b e = cc

reserving_free : (s : State) (mark : List Marked) (ks : List ℕ) (j : Job) (lost may : Bool) → may_reserve (standing_in s) s.rights ks mark ≡ may → job_reserving lost may ks ≡ Some j → Free s j
reserving_free s mark ks j true may e is = none_given s job.Failed j refl is
reserving_free s mark ks j false false e is = cc
reserving_free s mark ks j false true e is = λ k among. (
    let all : is_among k ks ≡ true = subst (λ (i : Job). is_among k (given i) ≡ true) (sym (same_job (job.Granted (record { items = ks })) j is)) among in
    among_free (standing_in s) s.rights ks k
    (first (list_all (λ k. may_be_reserved (standing_in s k) (s.rights.queue k)) ks) (mark_allows (λ k. (standing_in s k).sessions) mark) e) all
    )

idle_free : (s : State) (ps : List Posted) (j : Job) → job_idle ps ≡ Some j → Free s j
idle_free s [] j is = cc
idle_free s (p ∷ ps) j is = none_given s (job.Take p.request) j refl is

answered_free : (s : State) (k : ℕ) (b : Bool) (a : Answer) (j : Job) → Some (job_answered k b a) ≡ Some j → Free s j
answered_free s k true (Replied v) j is = none_given s (job.Made k) j refl is
answered_free s k false (Replied v) j is = none_given s (job.Reply v) j refl is
answered_free s k true SupplierFailed j is = none_given s job.Failed j refl is
answered_free s k false SupplierFailed j is = none_given s job.Failed j refl is
answered_free s k true Refused j is = none_given s job.Refused j refl is
answered_free s k false Refused j is = none_given s job.Refused j refl is

awaiting_free : (s : State) (k : ℕ) (b : Bool) (p : Option Posted) (a : Option Answer) (j : Job) → job_awaiting k b p a ≡ Some j → Free s j
awaiting_free s k b (Some p) a j is = none_given s (job.Take p.request) j refl is
awaiting_free s k b None (Some a) j is = answered_free s k b a j is
awaiting_free s k b None None j is = cc

at_free : (s : State) (h : ℕ) (stage : HandlerStage) (y : Handler) (j : Job) → job_at h stage y s ≡ Some j → Free s j
at_free s h Idle y j is = idle_free s y.queue j is
at_free s h Runs y j is = none_given s job.Go j refl is
at_free s h (HasMade k) y j is = none_given s (job.Made k) j refl is
at_free s h (Reserves ks mark) y j is =
    let needed = needs h ks s.rights in
    reserving_free s mark needed j (reserve_fails (standing_in s) s.rights needed) (may_reserve (standing_in s) s.rights needed mark) refl is
at_free s h (Awaits k b) y j is = awaiting_free s k b y.callback y.answer j is

job_free : (h : ℕ) (s : State) (j : Job) → job_of h s ≡ Some j → Free s j
job_free h s j = by (nat_lt h s.count) (s.handlers h).failure
  where
    by : (b : Bool) (o : Option Cause) → (if b then job_with h o (s.handlers h) s else None) ≡ Some j → Free s j
    by true None is = at_free s h (s.handlers h).stage (s.handlers h) j is
    by true (Some why) is = cc
    by false o is = cc

-- ---- a pick that is undone

freed : (h : ℕ) (ks : List ℕ) (r : Rights) → ((k : ℕ) → is_among k ks ≡ true → r.queue k ≡ None) → rights.release ks (rights.reserve h ks r) ≡ r
freed h ks r free = ap (λ (q : ℕ → Option ℕ). let all : Rights = record { queue = q; top = r.top } in all) (fun_ext (λ k. again (is_among k ks) (r.queue k) (free k)))
  where
    again : (b : Bool) (holder : Option ℕ) → (b ≡ true → holder ≡ None) → (if b then None else (if b then Some h else holder)) ≡ holder
    again true holder free = sym (free refl)
    again false holder free = refl

undone : (h : ℕ) (j : Job) (s : State) → Free s j → ungranted j (granted h j s.rights) ≡ s.rights
undone h (job.Granted ks) s free = freed h ks.items s.rights free
undone h (job.Take r) s free = refl
undone h (job.Reply v) s free = refl
undone h job.Failed s free = refl
undone h job.Refused s free = refl
undone h (job.Made k) s free = refl
undone h job.Go s free = refl

is_out : (h : ℕ) (j : Job) (c : Center) → (picked h j c).out h ≡ Some j
is_out h j c = ap (λ (b : Bool). if b then Some j else c.out h) (eq-eqb h h refl)

-- the core of a handler that was picked and is put back is what it was
back_state : (h : ℕ) (j : Job) (c : Center) → job_of h c.state ≡ Some j → (put_back h (picked h j c)).state ≡ c.state
back_state h j c is =
    ap (λ (o : Option Job). (put_back_with h o (picked h j c)).state) (is_out h j c)
    ∙ ap (λ (r : Rights). let s : State = record c.state { rights = r } in s) (undone h j c.state (job_free h c.state j is))

-- and nobody is out who wasn't
back_out : (h : ℕ) (j : Job) (c : Center) (k : ℕ) → c.out k ≡ None → (put_back h (picked h j c)).out k ≡ None
back_out h j c k none = ap (λ (o : Option Job). (put_back_with h o (picked h j c)).out k) (is_out h j c) ∙ by (k == h)
  where
    by : (b : Bool) → (if b then None else (if b then Some j else c.out k)) ≡ None
    by true = refl
    by false = none

pub put_back_out : (h : ℕ) (a b d : coded.Core) → Goes h a b → center_of d ≡ put_back h (center_of b) → (k : ℕ) → (center_of a).out k ≡ None → (center_of d).out k ≡ None
put_back_out h a b d goes back k none =
    ap (λ (x : Center). x.out k) (back ∙ ap (put_back h) goes.2) ∙ back_out h goes.0 (center_of a) k none

pub put_back_state : (h : ℕ) (a b d : coded.Core) → Goes h a b → center_of d ≡ put_back h (center_of b) → state_of d ≡ state_of a
put_back_state h a b d goes back =
    ap (λ (x : Center). x.state) (back ∙ ap (put_back h) goes.2) ∙ back_state h goes.0 (center_of a) (is_due h goes.0 (center_of a) goes.1)
