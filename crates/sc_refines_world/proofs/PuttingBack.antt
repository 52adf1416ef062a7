-- Where memory is refused to a turn, its handler is put back, and the core is what it was.
use Rattle.std.proofs.Common.{◌≡◌, ◌≤◌, ◌==◌, ◌&&◌, ◌||◌, ◌⊎◌, inl, inr, ℕ, Bool, true, false, List, [], ◌∷◌, Option, Some, None, is_none, slice_get, slice_set, refl, sym, ap, subst, ◌∙◌, arith}
use Rattle.std.proofs.lemmas.Bool.{cases_eq, eq-eqb, eqb-true}
use Rattle.std.proofs.Math.Path.{fun_ext}
use Rattle.std.specs.List.{list_all}
use Rattle.std.specs.Prelude.{nat_lt, not, if◌then◌else◌}
use Rattle.sc_tree.specs.Plain.{System}
use Rattle.sc_lockpass.specs.Rights as rights
use Rattle.sc_lockpass.specs.Rights.{Rights, is_among}
use Rattle.sc_lockpass.specs.wait_conditions.Reservations.{Standing, is_idle, mark_allows, may_be_reserved, may_reserve, reserve_fails}
use Rattle.sc_lockpass.specs.declared.wait_conditions.mark.Marked.{Marked}
use Rattle.sc_model.specs.declared.cause.Cause.{Cause}
use Rattle.sc_model.specs.Handlers.{World}
use Rattle.sc_code.specs.declared.program.Image.{Image}
use Rattle.sc_region.specs.declared.job.Job.{Job}
use Rattle.sc_region.specs.declared.job.Job.TheVariants as job
use Rattle.sc_handler.specs.Handlers.{Answer, Awaits, Handler, HasMade, Idle, Posted, Refused, Replied, Reserves, Runs, HandlerStage, State, SupplierFailed, standing_in}
use Rattle.sc_handler.specs.Picking.{job_answered, job_at, job_awaiting, job_idle, job_of, job_reserving, job_with, needs}
use Rattle.sc_request.specs.Logs.{Center, granted, picked, put_back, put_back_with, ungranted}
use Rattle.sc_request.specs.Halves.{IsHalfOf}
use Rattle.sc_refines_world.specs.regions.RegionSteps.{numbering_by}
use Rattle.sc_play.specs.Regions.{PlainRegion}
use Rattle.sc_world.specs.Turning.{HeldUpUnder, IsHeldUp}
use Rattle.sc_world.specs.Worlds.{PlainWorld}
use Rattle.sc_refines_world.specs.Refining.{RefusedTurnStaysNear, StandingWorldIsNear}
use Rattle.sc_refines_world.specs.Standing.{IsNear, IsRegionFor, StandsFor, StandsNear, names_in}
use Rattle.sc_refines_world.proofs.Picks.{has_job}
use Rattle.sc_world.proofs.SettledPicks.{picks_job, set_other, set_same}

-- ---- who is granted was nobody's

is_nobodys : (a b : Bool) (o : Option ℕ) → a && b && is_none o ≡ true → o ≡ None
is_nobodys true true None e = refl
is_nobodys true true (Some k) e = cc
is_nobodys true false o e = cc
is_nobodys false b o e = cc

among_free : (standing : ℕ → Standing) (r : Rights) (ks : List ℕ) (k : ℕ) → list_all (λ k. may_be_reserved (standing k) (r.queue k)) ks ≡ true → is_among k ks ≡ true → r.queue k ≡ None
among_free standing r [] k all is = cc
among_free standing r (j ∷ ks) k all is = by (may_be_reserved (standing j) (r.queue j)) refl (j == k) refl all is (among_free standing r ks k)
  where
    by : (a : Bool) → may_be_reserved (standing j) (r.queue j) ≡ a → (b : Bool) → (j == k) ≡ b → a && list_all (λ k. may_be_reserved (standing k) (r.queue k)) ks ≡ true →
        b || is_among k ks ≡ true → (list_all (λ k. may_be_reserved (standing k) (r.queue k)) ks ≡ true → is_among k ks ≡ true → r.queue k ≡ None) → r.queue k ≡ None
    by false e b f all is later = cc
    by true e true f all is later = subst (λ (i : ℕ). r.queue i ≡ None) (eqb-true j k f) (is_nobodys (is_idle (standing j)) (not (standing j).has_requests) (r.queue j) e)
    by true e false f all is later = later all is

same_job : (i j : Job) → Some i ≡ Some j → i ≡ j
same_job i j e = cc

-- what is granted
abbrev given : Job → List ℕ
given (job.Granted ks) = ks.items
given (job.Take r) = []
given (job.Reply v) = []
given job.Failed = []
given job.Refused = []
given (job.Made k) = []
given job.Go = []

abbrev Free : State → Job → Type 0
Free s j = (k : ℕ) → is_among k (given j) ≡ true → s.rights.queue k ≡ None

none_given : (s : State) (i j : Job) → given i ≡ [] → Some i ≡ Some j → Free s j
none_given s i j e is = λ k among. let no : is_among k [] ≡ true = subst (λ (ks : List ℕ). is_among k ks ≡ true) (ap given (sym (same_job i j is)) ∙ e) among in cc

first : (a b : Bool) → a && b ≡ true → a ≡ true
first true b e = refl
first false b e = cc

reserving_free : (s : State) (mark : List Marked) (ks : List ℕ) (j : Job) (lost may : Bool) → may_reserve (standing_in s) s.rights ks mark ≡ may → job_reserving lost may ks ≡ Some j → Free s j
reserving_free s mark ks j true may e is = none_given s job.Failed j refl is
reserving_free s mark ks j false false e is = cc
reserving_free s mark ks j false true e is = λ k among. (
    let all : is_among k ks ≡ true = subst (λ (i : Job). is_among k (given i) ≡ true) (sym (same_job (job.Granted (record { items = ks })) j is)) among in
    among_free (standing_in s) s.rights ks k
    (first (list_all (λ k. may_be_reserved (standing_in s k) (s.rights.queue k)) ks) (mark_allows (λ k. (standing_in s k).sessions) mark) e) all
    )

idle_free : (s : State) (ps : List Posted) (j : Job) → job_idle ps ≡ Some j → Free s j
idle_free s [] j is = cc
idle_free s (p ∷ ps) j is = none_given s (job.Take p.request) j refl is

answered_free : (s : State) (k : ℕ) (b : Bool) (a : Answer) (j : Job) → Some (job_answered k b a) ≡ Some j → Free s j
answered_free s k true (Replied v) j is = none_given s (job.Made k) j refl is
answered_free s k false (Replied v) j is = none_given s (job.Reply v) j refl is
answered_free s k true SupplierFailed j is = none_given s job.Failed j refl is
answered_free s k false SupplierFailed j is = none_given s job.Failed j refl is
answered_free s k true Refused j is = none_given s job.Refused j refl is
answered_free s k false Refused j is = none_given s job.Refused j refl is

awaiting_free : (s : State) (k : ℕ) (b : Bool) (p : Option Posted) (a : Option Answer) (j : Job) → job_awaiting k b p a ≡ Some j → Free s j
awaiting_free s k b (Some p) a j is = none_given s (job.Take p.request) j refl is
awaiting_free s k b None (Some a) j is = answered_free s k b a j is
awaiting_free s k b None None j is = cc

at_free : (s : State) (h : ℕ) (stage : HandlerStage) (y : Handler) (j : Job) → job_at h stage y s ≡ Some j → Free s j
at_free s h Idle y j is = idle_free s y.queue j is
at_free s h Runs y j is = none_given s job.Go j refl is
at_free s h (HasMade k) y j is = none_given s (job.Made k) j refl is
at_free s h (Reserves ks mark) y j is =
    let needed = needs h ks s.rights in
    reserving_free s mark needed j (reserve_fails (standing_in s) s.rights needed) (may_reserve (standing_in s) s.rights needed mark) refl is
at_free s h (Awaits k b) y j is = awaiting_free s k b y.callback y.answer j is

job_free : (h : ℕ) (s : State) (j : Job) → job_of h s ≡ Some j → Free s j
job_free h s j = by (nat_lt h s.count) (s.handlers h).failure
  where
    by : (b : Bool) (o : Option Cause) → (if b then job_with h o (s.handlers h) s else None) ≡ Some j → Free s j
    by true None is = at_free s h (s.handlers h).stage (s.handlers h) j is
    by true (Some why) is = cc
    by false o is = cc

-- ---- a pick that is undone

freed : (h : ℕ) (ks : List ℕ) (r : Rights) → ((k : ℕ) → is_among k ks ≡ true → r.queue k ≡ None) → rights.release ks (rights.reserve h ks r) ≡ r
freed h ks r free = ap (λ (q : ℕ → Option ℕ). let all : Rights = record { queue = q; top = r.top } in all) (fun_ext (λ k. again (is_among k ks) (r.queue k) (free k)))
  where
    again : (b : Bool) (holder : Option ℕ) → (b ≡ true → holder ≡ None) → (if b then None else (if b then Some h else holder)) ≡ holder
    again true holder free = sym (free refl)
    again false holder free = refl

undone : (h : ℕ) (j : Job) (s : State) → Free s j → ungranted j (granted h j s.rights) ≡ s.rights
undone h (job.Granted ks) s free = freed h ks.items s.rights free
undone h (job.Take r) s free = refl
undone h (job.Reply v) s free = refl
undone h job.Failed s free = refl
undone h job.Refused s free = refl
undone h (job.Made k) s free = refl
undone h job.Go s free = refl

is_out : (h : ℕ) (j : Job) (c : Center) → (picked h j c).out h ≡ Some j
is_out h j c = ap (λ (b : Bool). if b then Some j else c.out h) (eq-eqb h h refl)

-- the core of a handler that was picked and is put back is what it was
pub back_state : (h : ℕ) (j : Job) (c : Center) → job_of h c.state ≡ Some j → (put_back h (picked h j c)).state ≡ c.state
back_state h j c is =
    ap (λ (o : Option Job). (put_back_with h o (picked h j c)).state) (is_out h j c)
    ∙ ap (λ (r : Rights). let s : State = record c.state { rights = r } in s) (undone h j c.state (job_free h c.state j is))

pub back_out : (h : ℕ) (j : Job) (c : Center) (k : ℕ) → c.out k ≡ None → (put_back h (picked h j c)).out k ≡ None
back_out h j c k e = ap (λ (o : Option Job). (put_back_with h o (picked h j c)).out k) (is_out h j c) ∙ by (k == h)
  where
    by : (b : Bool) → (if b then None else (if b then Some j else c.out k)) ≡ None
    by true = refl
    by false = e

-- ---- worlds

pub standing_world_is_near : StandingWorldIsNear
standing_world_is_near s p w x stands = record {
  core = stands.core;
  none_out = stands.none_out;
  regions = λ h few. (let r = stands.regions h few in (r.0, r.1, (r.0, inl refl, r.2)));
  others = stands.others;
}

same_region : (a b : PlainRegion) → Some a ≡ Some b → a ≡ b
same_region a b e = cc

-- the regions of a handler in two worlds, where it has this to do: both are there and near, or neither is there
abbrev pub AreNearAt : Option Job → Option PlainRegion → Option PlainRegion → Type 0
AreNearAt due None r = r ≡ None
AreNearAt due (Some start) r = (q : PlainRegion) × (r ≡ Some q) × IsNear due start q

no_region : {A : Type 0} (r : PlainRegion) → None ≡ Some r → A
no_region r e = cc

near_from : (due : Option Job) (r start q : PlainRegion) → r ≡ start → IsNear due r q → IsNear due start q
near_from due r start q e near = subst (λ (t : PlainRegion). IsNear due t q) e near

near_to : (due : Option Job) (start r q : PlainRegion) → r ≡ q → IsNear due start r → IsNear due start q
near_to due start r q e near = subst (λ (t : PlainRegion). IsNear due start t) e near

pub near_at : (due : Option Job) (a b : Option PlainRegion) (start q : PlainRegion) → a ≡ Some start → b ≡ Some q → IsNear due start q → AreNearAt due a b
near_at due None b start q e f near = no_region start e
near_at due (Some r) b start q e f near = (q, f, near_from due start r q (sym (same_region r start e)) near)

-- the one in the second world, where it is there in the first
pub near_behind : (due : Option Job) (a b : Option PlainRegion) (start : PlainRegion) → AreNearAt due a b → a ≡ Some start → (q : PlainRegion) × (b ≡ Some q) × IsNear due start q
near_behind due None b start near e = no_region start e
near_behind due (Some r) b start near e = (near.0, near.1, near_from due r start near.0 (same_region r start e) near.2)

-- the one in the first world, where it is there in the second
pub near_before : (due : Option Job) (a b : Option PlainRegion) (q : PlainRegion) → AreNearAt due a b → b ≡ Some q → (start : PlainRegion) × (a ≡ Some start) × IsNear due start q
near_before due None b q near e = no_region q (sym near ∙ e)
near_before due (Some start) b q near e = (start, refl, near_to due start near.0 q (same_region near.0 q (sym near.1 ∙ e)) near.2)

near_kept : (due later : Option Job) (a b : Option PlainRegion) →
    ((start q : PlainRegion) → a ≡ Some start → IsNear due start q → IsNear later start q) → AreNearAt due a b → AreNearAt later a b
near_kept due later None b keep near = near
near_kept due later (Some start) b keep near = (near.0, near.1, keep start near.0 refl near.2)

-- the same two under another job, where they stay near
pub near_still : (due later : Option Job) (a b c d : Option PlainRegion) → c ≡ a → d ≡ b →
    ((start q : PlainRegion) → a ≡ Some start → IsNear due start q → IsNear later start q) → AreNearAt due a b → AreNearAt later c d
near_still due later a b c d e f keep near =
    subst (λ (r : Option PlainRegion). AreNearAt later r d) (sym e)
    (subst (λ (r : Option PlainRegion). AreNearAt later a r) (sym f) (near_kept due later a b keep near))

-- The second world is the first one, but that memory was refused to turns that its handlers are to make next.
pub record IsNearTo (x y : PlainWorld) : Type 0 where
  pub most : y.most ≡ x.most
  pub state : y.center.state ≡ x.center.state
  pub none_out : (k : ℕ) → y.center.out k ≡ None
  pub regions : (k : ℕ) → AreNearAt (job_of k x.center.state) (slice_get x.regions k) (slice_get y.regions k)

-- Where the first one stands for a state, the second is near it.
pub near_world : (s : System) (p : Image) (w : World) (x y : PlainWorld) → StandsFor s p w x → IsNearTo x y → StandsNear s p w y
near_world s p w x y stands near = record {
  core = subst (IsHalfOf (numbering_by (names_in p)) w) (sym near.state) stands.core;
  none_out = near.none_out;
  regions = λ h few. (
      let one = stands.regions h few in
      let q = near_behind (job_of h x.center.state) (slice_get x.regions h) (slice_get y.regions h) one.0 (near.regions h) one.1 in
      (q.0, q.1, (one.0, subst (λ (t : State). IsNear (job_of h t) one.0 q.0) (sym near.state) q.2, still h one.0 one.2)));
  others = λ h r past at. (
      let one = near_before (job_of h x.center.state) (slice_get x.regions h) (slice_get y.regions h) r (near.regions h) at in
      unmoved h r one.0 past one.2 ∙ stands.others h one.0 past one.1);
}
  where
    still : (k : ℕ) (r : PlainRegion) → IsRegionFor s p k (w.handlers k) (x.center.state.handlers k).stage r → IsRegionFor s p k (w.handlers k) (y.center.state.handlers k).stage r
    still k r one = subst (λ (t : State). IsRegionFor s p k (w.handlers k) (t.handlers k).stage r) (sym near.state) one

    -- one that isn't there yet has nothing to do
    unmoved : (h : ℕ) (r start : PlainRegion) → w.count ≤ h → IsNear (job_of h x.center.state) start r → r ≡ start
    unmoved h r start past (inl same) = same
    unmoved h r start past (inr (j, due, refused)) =
        let few = has_job h x.center.state j due in
        let count = stands.core.count in
        absurd (omega (arith, few, count, past))

-- The world is the first one, but that memory was refused to a turn of this handler: silent operations of its region may be done.
pub record IsFurther (h : ℕ) (x y : PlainWorld) : Type 0 where
  pub most : y.most ≡ x.most
  pub state : y.center.state ≡ x.center.state
  pub none_out : (k : ℕ) → x.center.out k ≡ None → y.center.out k ≡ None
  pub start : PlainRegion
  pub after : PlainRegion
  pub stands : slice_get x.regions h ≡ Some start
  pub near : IsNear (job_of h x.center.state) start after
  pub regions : y.regions ≡ slice_set x.regions h after

pub held_further : (h : ℕ) (j : Job) (x y : PlainWorld) → job_of h x.center.state ≡ Some j → IsHeldUp h j x y → IsFurther h x y
held_further h j x y is held = record {
  most = held.most;
  state = ap (λ (d : Center). d.state) held.put_back.center ∙ back_state h j x.center is;
  none_out = λ k none. ap (λ (d : Center). d.out k) held.put_back.center ∙ back_out h j x.center k none;
  start = held.before;
  after = held.after;
  stands = held.stands;
  near = inr (j, is, held.put_back.refused);
  regions = held.regions;
}

here_near : (due : Option Job) (a b : Option PlainRegion) → b ≡ a → AreNearAt due a b
here_near due None b e = e
here_near due (Some r) b e = (r, e, inl refl)

further_near : (h : ℕ) (x y : PlainWorld) → ((k : ℕ) → x.center.out k ≡ None) → IsFurther h x y → IsNearTo x y
further_near h x y none_out further = record {
  most = further.most;
  state = further.state;
  none_out = λ k. further.none_out k (none_out k);
  regions = λ k. by k (cases_eq k h);
}
  where
    by : (k : ℕ) → (k ≡ h) ⊎ (k ≡ h → ⊥) → AreNearAt (job_of k x.center.state) (slice_get x.regions k) (slice_get y.regions k)
    by k (inl e) =
        near_at (job_of k x.center.state) (slice_get x.regions k) (slice_get y.regions k) further.start further.after (ap (slice_get x.regions) e ∙ further.stands)
        (ap (λ (rs : List PlainRegion). slice_get rs k) further.regions ∙ ap (slice_get (slice_set x.regions h further.after)) e
        ∙ set_same x.regions h further.start further.after further.stands)
        (subst (λ (i : ℕ). IsNear (job_of i x.center.state) further.start further.after) (sym e) further.near)
    by k (inr apart) =
        here_near (job_of k x.center.state) (slice_get x.regions k) (slice_get y.regions k)
        (ap (λ (rs : List PlainRegion). slice_get rs k) further.regions ∙ set_other x.regions h k further.after apart)

-- So it is where nothing has changed, or memory was refused to one handler's turn.
pub same_or_further_near : (s : System) (p : Image) (w : World) (x y : PlainWorld) → StandsFor s p w x → (y ≡ x) ⊎ ((h : ℕ) × IsFurther h x y) → StandsNear s p w y
same_or_further_near s p w x y stands (inl same) = subst (StandsNear s p w) (sym same) (standing_world_is_near s p w x stands)
same_or_further_near s p w x y stands (inr (h, further)) = near_world s p w x y stands (further_near h x y stands.none_out further)

refused_further : (h : ℕ) (o : Option Job) (x y : PlainWorld) → job_of h x.center.state ≡ o → HeldUpUnder h o x y → (y ≡ x) ⊎ ((h : ℕ) × IsFurther h x y)
refused_further h None x y e same = inl same
refused_further h (Some j) x y e held = inr (h, held_further h j x y e held)

pub refused_turn_stays_near : RefusedTurnStaysNear
refused_turn_stays_near s p h w x y stands (inl same) = same_or_further_near s p w x y stands (inl same)
refused_turn_stays_near s p h w x y stands (inr held) =
    same_or_further_near s p w x y stands
    (refused_further h (job_of h x.center.state) x y refl (subst (λ (o : Option Job). HeldUpUnder h o x y) (picks_job h x.center (stands.none_out h)) held))
