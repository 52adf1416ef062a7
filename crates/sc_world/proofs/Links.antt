-- Turns keep that each handler serves in the core what its region serves.
use Rattle.std.proofs.Common.{◌≡◌, inl, inr, ◌&&◌, ◌||◌, not, ℕ, zero, suc, Bool, true, false, List, [], ◌∷◌, Option, Some, None, is_none, length, slice_get, slice_set, refl, sym, ap, subst, ◌∙◌, arith}
use Rattle.std.proofs.lemmas.Bool.{cases_eq}
use Rattle.std.specs.Prelude.{if◌then◌else◌, is_some, nat_lt}
use Rattle.sc_model.specs.declared.cause.Cause.{Cause}
use Rattle.sc_model.specs.declared.status.Status.{Status}
use Rattle.sc_model.specs.declared.status.Status.TheVariants as status
use Rattle.sc_region.specs.declared.job.Job.{Job}
use Rattle.sc_region.specs.declared.job.Outcome.{Outcome}
use Rattle.sc_region.specs.Frames.{PlainFrame, is_current}
use Rattle.sc_code.specs.declared.program.Image.{Image}
use Rattle.sc_region.specs.Stores.{PlainStore, is_settled, new_store}
use Rattle.sc_handler.specs.Handlers.{HandlerStage, Idle, Runs, HasMade, Reserves, Awaits, Service, Handler, Posted, State, has_frames, new_handler, posted}
use Rattle.sc_handler.specs.Picking.{job_of, status_idle, status_with}
use Rattle.sc_request.specs.Logs.{Center, opening, pick_for, picked, put_back, put_back_with, root_of, settles, status_in}
use Rattle.sc_request.specs.Settling.{settled}
use Rattle.sc_play.specs.Regions.{PlainRegion, Plays}
use Rattle.sc_world.specs.Requests.Links.{AreLinked, FreeRegionsRest, LinkedObjectsMeet, OpeningsAreLinked, RefusedTurnsStayLinked, TurnsStayLinked}
use Rattle.sc_world.specs.Requests.Serving.{Agrees, HasFrames, Serve, Serves}
use Rattle.sc_world.specs.Requests.Settlements.{KeepsServices, known}
use Rattle.sc_world.proofs.PassingCounts.{known_there}
use Rattle.sc_world.proofs.SettledCounts.{has_pick, others_serve, settlements_serve}
use Rattle.sc_world.proofs.StoreChanges.{none_some}
use Rattle.sc_world.proofs.TurnCounts.{refused_regions_serve, regions_serve}

some_same : {A : Type 0} (x y : A) → Some x ≡ Some y → x ≡ y
some_same x y e = cc

-- ---- lists of regions

get_same : (rs : List PlainRegion) (h : ℕ) (x y z : PlainRegion) → slice_get (slice_set rs h y) h ≡ Some z → z ≡ y
get_same [] h x y z e = cc
get_same (r ∷ rs) zero x y z e = cc
get_same (r ∷ rs) (suc h) x y z e = get_same rs h x y z e

get_other : (rs : List PlainRegion) (h k : ℕ) (y : PlainRegion) → (k ≡ h → ⊥) → slice_get (slice_set rs h y) k ≡ slice_get rs k
get_other [] h k y apart = refl
get_other (r ∷ rs) zero zero y apart = absurd (apart refl)
get_other (r ∷ rs) zero (suc k) y apart = refl
get_other (r ∷ rs) (suc h) zero y apart = refl
get_other (r ∷ rs) (suc h) (suc k) y apart = get_other rs h k y (λ e. apart (ap suc e))

-- ---- turns

agrees_kept : (x y : Handler) (z : PlainStore) → KeepsServices x y → Agrees x z → Agrees y z
agrees_kept x y z k a e =
    let kept = k e in
    let had = a kept.0 in
    (subst (λ (n : ℕ). Serves n z) (sym kept.1) had.0, kept.2 had.1)

module _ (limit most h : ℕ) (j : Job) (c : Center) (rs : List PlainRegion) (x y : PlainRegion) (o : Outcome) (linked : AreLinked c rs)
    (picks : pick_for h c ≡ Some j) (stands : slice_get rs h ≡ Some x) (plays : Plays limit j x y o) where
  abbrev before : State
  before = (picked h j c).state

  abbrev after : State
  after = settled most h j o.turns o.want before

  own : Agrees (known h after) y.store
  unfolding AreLinked
  own e =
      let due = has_pick h c j picks in
      let had : Serves (length (c.state.handlers h).services) x.store × HasFrames (c.state.handlers h).stage (c.state.handlers h).services =
      subst (λ (z : Handler). Agrees z x.store) (known_there h c.state due.0) (linked h x stands) due.1 in
      let now = settlements_serve most h o.turns j o.want c picks had.1 e in (
        subst (λ (n : ℕ). Serves n y.store) (sym now.0.count) (regions_serve limit j x y o (length (c.state.handlers h).services) had.0 plays now.1),
        now.0.frames,
      )

  still_linked : AreLinked (settles most h j o.turns o.want (picked h j c)) (slice_set rs h y)
  unfolding AreLinked
  still_linked k z e = elim (cases_eq k h) [
    | inl same ↦
        let is : z ≡ y = get_same rs h x y z (subst (λ (i : ℕ). slice_get (slice_set rs h y) i ≡ Some z) same e) in
        subst (λ (i : ℕ). Agrees (known i after) z.store) (sym same) (subst (λ (r : PlainRegion). Agrees (known h after) r.store) (sym is) own)
    | inr apart ↦
        agrees_kept (known k before) (known k after) z.store (others_serve most h o.turns k j o.want before apart)
        (linked k z (sym (get_other rs h k y apart) ∙ e))
  ]

pub turns_stay_linked : TurnsStayLinked
turns_stay_linked limit most h j c rs x y o linked picks stands plays = still_linked limit most h j c rs x y o linked picks stands plays

-- ---- turns that were refused memory

back_same : (h : ℕ) (o : Option Job) (c : Center) (k : ℕ) → known k (put_back_with h o c).state ≡ known k c.state
back_same h None c k = refl
back_same h (Some j) c k = refl

pub refused_turns_stay_linked : RefusedTurnsStayLinked
unfolding AreLinked
refused_turns_stay_linked h j c rs x y linked stands refused k z e = elim (cases_eq k h) [
  | inl same ↦
      let is : z ≡ y = get_same rs h x y z (subst (λ (i : ℕ). slice_get (slice_set rs h y) i ≡ Some z) same e) in
      kept k z (subst (λ (r : PlainRegion). Agrees (known k c.state) r.store) (sym is) (own k same))
  | inr apart ↦ kept k z (linked k z (sym (get_other rs h k y apart) ∙ e))
]
  where
    kept : (k : ℕ) (z : PlainRegion) → Agrees (known k c.state) z.store → Agrees (known k (put_back h (picked h j c)).state) z.store
    kept k z a = subst (λ (u : Handler). Agrees u z.store) (sym (back_same h ((picked h j c).out h) (picked h j c) k)) a

    own : (k : ℕ) → k ≡ h → Agrees (known k c.state) y.store
    own k same e =
        let had = linked k x (ap (slice_get rs) same ∙ stands) e in
        (refused_regions_serve j x y (length (known k c.state).services) had.0 refused, had.1)

-- ---- the opening

rests : (p : Image) (b : Bool) (queue : List Posted) → Agrees (if b then (if b then record new_handler { queue = queue } else new_handler) else new_handler) (new_store p)
rests p true queue e = (record { stands = refl; serve = refl }, tt)
rests p false queue e = (record { stands = refl; serve = refl }, tt)

pub openings_are_linked : OpeningsAreLinked
unfolding AreLinked
openings_are_linked p most class procedure rs new h x stands =
    subst (λ (y : PlainStore). Agrees (known h (opening (root_of class procedure))) y) (sym (new h x stands))
    (rests p (nat_lt h 1) (posted (root_of class procedure) None ∷ []))

-- ---- handlers that are free

status_there : (b : Bool) (s t : Status) → (if b then Some s else None) ≡ Some t → (b ≡ true) × (s ≡ t)
status_there true s t e = (refl, some_same s t e)
status_there false s t e = none_some t e

is_idle : (stage : HandlerStage) → status_idle stage ≡ status.Free → has_frames stage ≡ false
is_idle Idle e = refl
is_idle Runs e = cc
is_idle (HasMade k) e = cc
is_idle (Reserves ks mark) e = cc
is_idle (Awaits k c) e = cc

is_free : (o : Option Cause) (b : Bool) (stage : HandlerStage) → status_with o b stage ≡ status.Free → (o ≡ None) × (has_frames stage ≡ false)
is_free (Some why) b stage e = cc
is_free None true stage e = cc
is_free None false stage e = (refl, is_idle stage e)

serves_none : (stage : HandlerStage) (vs : List Service) → has_frames stage ≡ false → HasFrames stage vs → vs ≡ []
serves_none stage [] e f = refl
serves_none stage (v ∷ vs) e f = let has = f.0 in cc

none_serve : (fs : List PlainFrame) (n : ℕ) → n ≡ 0 → Serve fs n → fs ≡ []
none_serve [] n e s = refl
none_serve (f ∷ below) n e s = let some = s.0 in absurd (omega (arith, e, some))

pub free_regions_rest : FreeRegionsRest
unfolding AreLinked
free_regions_rest h c rs x linked free stands =
    let there = status_there (nat_lt h c.state.count) (status_in h c) status.Free free in
    let idle = is_free (c.state.handlers h).failure (is_some (c.out h) || is_some (job_of h c.state)) (c.state.handlers h).stage there.1 in
    let agrees = subst (λ (z : Handler). Agrees z x.store) (known_there h c.state there.0) (linked h x stands) idle.0 in
    let none = serves_none (c.state.handlers h).stage (c.state.handlers h).services idle.1 agrees.1 in
    (none_serve x.store.frames (length (c.state.handlers h).services) (ap (λ (vs : List Service). length vs) none) agrees.0.serve, agrees.0.stands)

pub linked_objects_meet : LinkedObjectsMeet
linked_objects_meet c rs linked meet h number x o free stands there =
    let rest = free_regions_rest h c rs x linked free stands in
    let is : is_settled number x.store ≡ true =
    ap (λ (f : Option Cause). is_none f && not (is_current number x.store.frames)) rest.1
    ∙ ap (λ (fs : List PlainFrame). not (is_current number fs)) rest.0 in
    meet h x stands number o is there
