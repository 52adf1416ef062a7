-- The turn of a mover and that of another handler commute.
use Rattle.std.proofs.Common.{◌≡◌, ◌∙◌, ◌⊎◌, inl, inr, ◌<◌, ◌≤◌, ℕ, zero, suc, Bool, true, false, List, [], ◌∷◌, Option, Some, None, refl, sym, ap, subst, arith}
use Rattle.std.specs.Prelude.{if◌then◌else◌, slice_get, slice_set}
use Rattle.std.proofs.lemmas.Bool.{cases_eq, eq-eqb}
use Rattle.std.proofs.lemmas.List.{set_comm}
use Rattle.arrayvec.specs.ArrayVec.{ArrayVec}
use Rattle.sc_lockpass.specs.Rights.{is_among, is_handler}
use Rattle.sc_lockpass.specs.Passing.{Passed}
use Rattle.sc_model.specs.declared.cause.Cause.{Cause}
use Rattle.sc_region.specs.declared.value.Value.{Value}
use Rattle.sc_region.specs.declared.job.Job.{Job}
use Rattle.sc_region.specs.declared.job.Job.TheVariants as job
use Rattle.sc_region.specs.declared.job.Want.{Want}
use Rattle.sc_region.specs.declared.job.Want.TheVariants as want
use Rattle.sc_handler.specs.Handlers.{Service, State}
use Rattle.sc_handler.specs.Canonical.{canon}
use Rattle.sc_handler.specs.Fits.{fits_first}
use Rattle.sc_handler.specs.Picking.{job_of}
use Rattle.sc_play.specs.Contents.{contents_at}
use Rattle.sc_play.specs.Regions.{PlainRegion}
use Rattle.sc_request.specs.Logs.{Center, granted, picked, settles}
use Rattle.sc_request.specs.Sessions.{fail}
use Rattle.sc_request.specs.Settling.{begun, posts_unheld, settled}
use Rattle.sc_world.specs.Kept.{kept}
use Rattle.sc_world.specs.Turning.{Makes}
use Rattle.sc_world.specs.Worlds.{PlainWorld}
use Rattle.sc_refines_world.proofs.OtherStages.{OthersStay, has_job, others_stay}
use Rattle.sc_movers.specs.Movers.{IsMoverTurn, is_mover_under}
use Rattle.sc_movers.specs.Returned.{IdleHasNoTop, ReturnsOwn, UnlentWait, waits_unlent}
use Rattle.sc_movers.proofs.ChangedJobs.{job_changed}
use Rattle.sc_movers.proofs.ChangedKept.{Stay, is_deaf, rights_stay_only, settled_stays, stay, stay_then}
use Rattle.sc_movers.proofs.ChangedStates.{Apart, FreesNone, Harmless, changed, reserved_changed, true_false}
use Rattle.sc_movers.proofs.ChangedTurns.{Beside, settled_changed, told_cause, told_changed, told_fails}
use Rattle.sc_movers.proofs.MoveChanges.{AreThere, Move, change, counts_stay, harmless, is_closed, is_hearer, is_safe, is_spared, is_target, others_open}
use Rattle.sc_movers.proofs.MoverEnds.{IsOpen, other_hears, own_deaf}
use Rattle.sc_movers.proofs.MoverJobs.{Falls, Keeps, Meeting, StaysOff, fallen_stays, frees_by, hearing_by, keeps_beside, keeps_falls, loosens_by, meeting, move_by, moves_by, other_by, there_by}
use Rattle.sc_movers.proofs.MoverStates.{deaf}
use Rattle.sc_movers.proofs.MoverTakes.{TakesSo, takes_so}

-- ---- one turn

-- the region of another handler
get_set_other : (xs : List PlainRegion) (i j : ℕ) (v : PlainRegion) → (i ≡ j → ⊥) → slice_get (slice_set xs i v) j ≡ slice_get xs j
get_set_other [] i j v ne = refl
get_set_other (x ∷ xs) zero zero v ne = absurd (ne refl)
get_set_other (x ∷ xs) zero (suc j) v ne = refl
get_set_other (x ∷ xs) (suc i) zero v ne = refl
get_set_other (x ∷ xs) (suc i) (suc j) v ne = get_set_other xs i j v (λ e. ne (ap suc e))

-- the world after a turn that wants this and leaves this region
abbrev turned : ℕ → Job → Want → PlainRegion → PlainWorld → PlainWorld
turned h j w after x = record {
  most = x.most;
  center = settles x.most h j 1 w (picked h j x.center);
  regions = slice_set x.regions h after;
}

-- the turn from another world with the same region of the handler
pub record MovedTurn (h : ℕ) (j : Job) (w : Want) (after : PlainRegion) (y u : PlainWorld) : Type 0 where
  pub world : PlainWorld
  pub makes : Makes 1 h j 1 u world
  pub wants : makes.settles.outcome.want ≡ w
  pub state : world.center.state ≡ (settles u.most h j 1 w (picked h j u.center)).state
  pub regions : world.regions ≡ slice_set u.regions h after

same_turn : (h : ℕ) (j : Job) (x y u : PlainWorld) → (m : Makes 1 h j 1 x y) → slice_get u.regions h ≡ slice_get x.regions h →
    MovedTurn h j m.settles.outcome.want m.after y u
same_turn h j x y u m region = record {
  world = turned h j m.settles.outcome.want m.after u;
  makes = record {
    before = m.before;
    after = m.after;
    stands = region ∙ m.stands;
    settles = record { outcome = m.settles.outcome; count = m.settles.count; plays = m.settles.plays; center = refl };
    regions = refl;
    most = refl;
  };
  wants = refl;
  state = refl;
  regions = refl;
}

-- ---- what is known of the turn of another handler

module _ (g : ℕ) (m : Move) (h : ℕ) (apart : h ≡ g → ⊥) (s : State) (are : AreThere g m s) (its : Apart h (is_safe g m) s)
    (none : (ls : ArrayVec ℕ) → job_of h s ≡ Some (job.Granted ls) → (k : ℕ) → is_safe g m k ≡ true → is_among k ls.items ≡ false)
    (hearing : (k : ℕ) → is_hearer k m.answers ≡ true → IsOpen k s × (waits_unlent k g s ≡ true)) where
  not_mine : (k : ℕ) → s.rights.queue k ≡ Some h → is_safe g m k ≡ false
  not_mine k mine = by (is_safe g m k) refl
    where
      by : (b : Bool) → is_safe g m k ≡ b → is_safe g m k ≡ false
      by true e = true_false (sym (ap (is_handler h) mine ∙ eq-eqb h h refl) ∙ its.not_its k e)
      by false e = e

  none_listed : (p : Passed) → ((k : ℕ) (o : Option ℕ) → p.queue k ≡ Some o → s.rights.queue k ≡ Some h) → (k : ℕ) → is_safe g m k ≡ true → p.queue k ≡ None
  none_listed p mine k e = by (p.queue k) refl
    where
      by : (o : Option (Option ℕ)) → p.queue k ≡ o → p.queue k ≡ None
      by None i = i
      by (Some o) i = true_false (sym e ∙ not_mine k (mine k o i))

  -- whom it answers waits for no answer of g
  none_answered : (j : Job) (w : Want) → ReturnsOwn h j w s → fits_first (s.handlers h).stage j w ≡ true → (v : Option Value) (ls : ArrayVec ℕ) (refused : Bool) → w ≡ want.Done v ls refused →
      (e : Service) (es : List Service) → ((begun h j s).handlers h).services ≡ e ∷ es → (k : ℕ) → e.posted.request.is_waited ≡ true → e.posted.request.poster ≡ Some k → is_spared m k ≡ false
  none_answered j w r fits v ls refused is e es first k waited poster = by (is_spared m k) refl
    where
      by : (b : Bool) → is_spared m k ≡ b → is_spared m k ≡ false
      by true i =
          let so = hearing k i in
          absurd (apart (r.answers fits v ls refused is e es first k waited poster so.0.alive so.0.unanswered g so.1))
      by false i = i

  -- the state in which it is picked
  abbrev pick : Job → State
  pick j = record s { rights = granted h j s.rights }

  plain : (j : Job) (w : Want) → ((ls : ArrayVec ℕ) → j ≡ job.Granted ls → ⊥) → ReturnsOwn h j w s → Beside h (is_safe g m) (is_spared m) j w s
  plain j w never r = record {
    granted = λ ls e. absurd (never ls e);
    made = λ i k c at e. not_mine i (r.made i k c at e);
    returns = λ fits v ls refused is e es first p passed. none_listed p (r.returns fits v ls refused is e es first p passed);
    answers = none_answered j w r;
  }

  granted_same : (ls ms : ArrayVec ℕ) → job.Granted ls ≡ job.Granted ms → ls ≡ ms
  granted_same ls ms e = cc

  beside : (j : Job) (w : Want) → job_of h s ≡ Some j → ReturnsOwn h j w s → Beside h (is_safe g m) (is_spared m) j w (pick j)
  beside (job.Take q) w due r = plain (job.Take q) w (λ ls e. cc) r
  beside (job.Reply v) w due r = plain (job.Reply v) w (λ ls e. cc) r
  beside job.Failed w due r = plain job.Failed w (λ ls e. cc) r
  beside job.Refused w due r = plain job.Refused w (λ ls e. cc) r
  beside (job.Made k) w due r = plain (job.Made k) w (λ ls e. cc) r
  beside job.Go w due r = plain job.Go w (λ ls e. cc) r
  beside (job.Granted ls) w due r = record {
    granted = λ ms e k i. subst (λ (ns : ArrayVec ℕ). is_among k ns.items ≡ false) (granted_same ls ms e) (none ls due k i);
    made = λ i k c at e. cc;
    returns = λ fits v ms refused is e es first p passed. true_false (sym (ap (fits_first (s.handlers h).stage (job.Granted ls)) (sym is) ∙ fits));
    answers = λ fits v ms refused is e es first k waited poster. true_false (sym (ap (fits_first (s.handlers h).stage (job.Granted ls)) (sym is) ∙ fits));
  }

  picked_apart : (j : Job) → job_of h s ≡ Some j → Apart h (is_safe g m) (pick j)
  picked_apart (job.Granted ls) due = record {
    not_its = λ k e. ap (λ (b : Bool). is_handler h (if b then Some h else s.rights.queue k)) (none ls due k e) ∙ its.not_its k e;
    few = are.few;
  }
  picked_apart (job.Take q) due = its
  picked_apart (job.Reply v) due = its
  picked_apart job.Failed due = its
  picked_apart job.Refused due = its
  picked_apart (job.Made k) due = its
  picked_apart job.Go due = its

  module _ (other : is_target h m.sent ≡ false) (unheard : is_hearer h m.answers ≡ false) where
    abbrev harm : Harmless h s.count (is_safe g m) (is_closed g m) (is_spared m) (change g m)
    harm = harmless g h s.count m apart other unheard are.there are.few are.hears

    picked_changed : (j : Job) → job_of h s ≡ Some j → let t : State = changed (change g m) s in let u : State = record t { rights = granted h j t.rights } in u ≡ changed (change g m) (pick j)
    picked_changed (job.Granted ls) due = reserved_changed h s.count (is_safe g m) (is_closed g m) (is_spared m) (change g m) harm ls.items s (none ls due)
    picked_changed (job.Take q) due = refl
    picked_changed (job.Reply v) due = refl
    picked_changed job.Failed due = refl
    picked_changed job.Refused due = refl
    picked_changed (job.Made k) due = refl
    picked_changed job.Go due = refl

    abbrev is_open : is_closed g m h ≡ false
    is_open = others_open g h m apart other

    picked_stays : (j : Job) → job_of h s ≡ Some j → Stay g h (is_safe g m) (is_closed g m) s (pick j)
    picked_stays (job.Granted ls) due =
        rights_stay_only g h s.count (is_safe g m) (is_closed g m) (is_spared m) apart are.there is_open harm.shut s (pick (job.Granted ls)) refl refl
        (λ k e. ap (λ (b : Bool). if b then Some h else s.rights.queue k) (none ls due k e))
    picked_stays (job.Take q) due = stay g h s.count (is_safe g m) (is_closed g m) (is_spared m) apart are.there is_open harm.shut s
    picked_stays (job.Reply v) due = stay g h s.count (is_safe g m) (is_closed g m) (is_spared m) apart are.there is_open harm.shut s
    picked_stays job.Failed due = stay g h s.count (is_safe g m) (is_closed g m) (is_spared m) apart are.there is_open harm.shut s
    picked_stays job.Refused due = stay g h s.count (is_safe g m) (is_closed g m) (is_spared m) apart are.there is_open harm.shut s
    picked_stays (job.Made k) due = stay g h s.count (is_safe g m) (is_closed g m) (is_spared m) apart are.there is_open harm.shut s
    picked_stays job.Go due = stay g h s.count (is_safe g m) (is_closed g m) (is_spared m) apart are.there is_open harm.shut s

-- ---- a mover meets another turn

same_kept : (x y : PlainWorld) → x.center.state ≡ y.center.state → x.regions ≡ y.regions → kept x ≡ kept y
same_kept x y state regions =
    ap (λ (s : State). record { state = canon s; regions = contents_at x.regions }) state
    ∙ ap (λ (rs : List PlainRegion). record { state = canon y.center.state; regions = contents_at rs }) regions

module _ (g : ℕ) (x moved : PlainWorld) (own : IsMoverTurn g x moved) where
  abbrev pub its : Want
  its = own.makes.settles.outcome.want

  abbrev pub before : State
  before = x.center.state

  abbrev pub move : Move
  move = move_by g own.job its before

  pub state_moved : IdleHasNoTop before → moved.center.state ≡ changed (change g move) before
  state_moved tops = ap (λ (c : Center). c.state) own.makes.settles.center ∙ moves_by g x.most own.job its before tops own.due own.moves

  pub are_there : ((k : ℕ) → before.count ≤ k → before.rights.queue k ≡ None) → UnlentWait before → AreThere g move before
  are_there counted unlent = there_by g own.job its before own.due own.moves counted unlent

module _ (g h : ℕ) (differ : g ≡ h → ⊥) (j : Job) (x moved : PlainWorld) (own : IsMoverTurn g x moved) (are : AreThere g (move g x moved own) x.center.state)
    (tops : IdleHasNoTop x.center.state) (unlent : UnlentWait x.center.state) (due : job_of h x.center.state ≡ Some j) where
  apart : h ≡ g → ⊥
  apart e = differ (sym e)

  abbrev w : Want
  w = its g x moved own

  abbrev s : State
  s = x.center.state

  abbrev m : Move
  m = move g x moved own

  abbrev f : State → State
  f t = changed (change g m) t

  not_target : is_target h m.sent ≡ false
  not_target = other_by g own.job w s own.moves h j due

  not_closed : is_closed g m h ≡ false
  not_closed = others_open g h m apart not_target

  hears : (k : ℕ) → is_hearer k m.answers ≡ true → IsOpen k s × (waits_unlent k g s ≡ true)
  hears = hearing_by g own.job w s own.due own.moves

  not_heard : is_hearer h m.answers ≡ false
  not_heard = other_hears g s (move g x moved own) hears unlent h j due

  abbrev harmed : Harmless h s.count (is_safe g m) (is_closed g m) (is_spared m) (change g m)
  harmed = harmless g h s.count m apart not_target not_heard are.there are.few are.hears

  frees : FreesNone h (change g m) s
  frees = frees_by g own.job w s own.moves h apart

  meet : Meeting g h own.job j w s
  meet = meeting g h own.job j w s apart own.due own.moves are unlent due

  others_region : slice_get moved.regions h ≡ slice_get x.regions h
  others_region = ap (λ (rs : List PlainRegion). slice_get rs h) own.makes.regions ∙ get_set_other x.regions g h own.makes.after differ

  -- the other has the same job after the mover's turn
  pub same_due : job_of h moved.center.state ≡ Some j
  same_due =
      ap (job_of h) (state_moved g x moved own tops)
      ∙ job_changed h s.count (is_safe g m) (is_closed g m) (is_spared m) (change g m) harmed s frees (loosens_by g own.job w s own.due own.moves) j due

  module _ (other : PlainWorld) (makes : Makes 1 h j 1 x other) (returns : ReturnsOwn h j makes.settles.outcome.want x.center.state) where
    abbrev asks : Want
    asks = makes.settles.outcome.want

    abbrev p : State
    p = record s { rights = granted h j s.rights }

    other_state : other.center.state ≡ settled x.most h j 1 asks p
    other_state = ap (λ (c : Center). c.state) makes.settles.center

    -- the other one is told that a supplier has failed, so it fails
    abbrev why : Cause
    why = told_cause (posts_unheld h asks s) asks

    falls_to : j ≡ job.Failed → settled x.most h j 1 asks p ≡ settled x.most h job.Failed 1 asks s
    falls_to is = ap (λ (i : Job). settled x.most h i 1 asks (record s { rights = granted h i s.rights })) is

    other_falls : j ≡ job.Failed → other.center.state ≡ fail h why s
    other_falls is = other_state ∙ falls_to is ∙ told_fails h x.most asks s

    -- what the other's turn makes of the state after the mover's
    settled_there : Meeting g h own.job j w s →
        let t : State = f s in let u : State = record t { rights = granted h j t.rights } in settled x.most h j 1 asks u ≡ f (settled x.most h j 1 asks p)
    settled_there (StaysOff its none) =
        ap (settled x.most h j 1 asks) (picked_changed g m h apart s are its none hears not_target not_heard j due)
        ∙ settled_changed h s.count (is_safe g m) (is_closed g m) (is_spared m) (change g m) harmed (counts_stay g h s.count m apart not_target not_heard are.there are.few are.hears)
        x.most j asks p (omega arith) (picked_apart g m h apart s are its none hears j due) (beside g m h apart s are its none hears j asks due returns)
    settled_there (Falls r takes is) =
        ap (λ (i : Job). let t : State = f s in settled x.most h i 1 asks (record t { rights = granted h i t.rights })) is
        ∙ told_changed h s.count (is_safe g m) (is_closed g m) (is_spared m) (change g m) harmed x.most asks s frees
        ∙ ap f (sym (falls_to is))

    state_after : (settles moved.most h j 1 asks (picked h j moved.center)).state ≡ f other.center.state
    state_after =
        ap (λ (t : State). settled moved.most h j 1 asks (record t { rights = granted h j t.rights })) (state_moved g x moved own tops)
        ∙ ap (λ (i : ℕ). let t : State = f s in settled i h j 1 asks (record t { rights = granted h j t.rights })) own.makes.most
        ∙ settled_there meet
        ∙ ap f (sym other_state)

    others : OthersStay h s other.center.state
    others =
        let still = others_stay h x.most 1 j asks p in
        subst (OthersStay h s) (sym other_state) (record { more = still.more; others = still.others })

    -- who waits unlent for the mover, and is deaf, stays so
    deaf_stays : ((k : ℕ) → k < s.count → (k ≡ h → ⊥) → deaf s k ≡ true → deaf other.center.state k ≡ true) → (k : ℕ) → waits_unlent k g s ≡ true → deaf s k ≡ true → deaf other.center.state k ≡ true
    deaf_stays still k lent e = by (cases_eq k h)
      where
        by : (k ≡ h) ⊎ (k ≡ h → ⊥) → deaf other.center.state k ≡ true
        by (inl same) =
            let is_due : job_of k s ≡ Some j = ap (λ (i : ℕ). job_of i s) same ∙ due in
            ap (λ (t : State). deaf t k) other_state
            ∙ ap (λ (i : ℕ). is_deaf ((settled x.most i j 1 asks p).handlers k)) (sym same)
            ∙ own_deaf x.most k g asks s p j ((unlent k g lent).1 (has_job k s j is_due).stands) is_due
        by (inr differs) = still k (unlent k g lent).0 differs e

    -- the mover has its job in the other's turn, and stays a mover
    keeps : Keeps g own.job w s other.center.state
    keeps = by meet
      where
        by : Meeting g h own.job j w s → Keeps g own.job w s other.center.state
        by (StaysOff its none) =
            let stays : Stay g h (is_safe g m) (is_closed g m) s other.center.state =
            subst (Stay g h (is_safe g m) (is_closed g m) s) (sym other_state)
            (stay_then g h s.count (is_safe g m) (is_closed g m) (is_spared m) apart are.there not_closed harmed.shut s p (settled x.most h j 1 asks p)
            (picked_stays g m h apart s are its none hears not_target not_heard j due)
            (settled_stays g h s.count (is_safe g m) (is_closed g m) (is_spared m) apart are.there not_closed harmed.shut x.most j asks p (picked_apart g m h apart s are its none hears j due) (omega arith)
            (beside g m h apart s are its none hears j asks due returns))) in
            keeps_beside g h w s other.center.state differ others (deaf_stays stays.deaf) own.job own.due own.moves stays not_target are
        by (Falls r takes is) =
            let to = other_falls is in
            let so : TakesSo g r w s =
            takes_so g r w s (own.due ∙ ap (λ (i : Job). Some i) takes) (ap (λ (i : Job). is_mover_under g i w s) (sym takes) ∙ own.moves) in
            let stays : Stay g h (λ k. false) (λ k. false) s other.center.state =
            subst (Stay g h (λ k. false) (λ k. false) s) (sym to) (fallen_stays g h why s apart so.there) in
            subst (λ (i : Job). Keeps g i w s other.center.state) (sym takes) (
            subst (Keeps g (job.Take r) w s) (sym to) (
            keeps_falls g h r w why s apart so (subst (OthersStay h s) to others)
            (λ k lent e. ap (λ (t : State). deaf t k) (sym to) ∙ deaf_stays stays.deaf k lent e)))

    -- the other's turn after the mover's
    pub after_own : MovedTurn h j asks makes.after other moved
    after_own = same_turn h j x other moved makes others_region

    pub after_state : after_own.world.center.state ≡ f other.center.state
    after_state = after_own.state ∙ state_after

    -- the mover's turn after the other's
    pub own_after : MovedTurn g own.job w own.makes.after moved other
    own_after =
        same_turn g own.job x moved other own.makes
        (ap (λ (rs : List PlainRegion). slice_get rs g) makes.regions ∙ get_set_other x.regions h g makes.after apart)

    pub own_there : IsMoverTurn g other own_after.world
    own_there = record {
      job = own.job;
      due = keeps.due;
      makes = own_after.makes;
      moves = ap (λ (a : Want). is_mover_under g own.job a other.center.state) own_after.wants ∙ keeps.moves;
    }

    module _ (tops_there : IdleHasNoTop other.center.state) where
      own_state : own_after.world.center.state ≡ f other.center.state
      own_state = own_after.state ∙ moves_by g other.most own.job w other.center.state tops_there keeps.due keeps.moves ∙ keeps.same

      pub both_kept : kept own_after.world ≡ kept after_own.world
      both_kept = same_kept own_after.world after_own.world (own_state ∙ sym after_state) (
          own_after.regions
          ∙ ap (λ (rs : List PlainRegion). slice_set rs g own.makes.after) makes.regions
          ∙ set_comm x.regions h g makes.after own.makes.after apart
          ∙ ap (λ (rs : List PlainRegion). slice_set rs h makes.after) (sym own.makes.regions)
          ∙ sym after_own.regions)

  -- the other's turn before the mover's, if it goes after it
  pub before_own : (after : PlainWorld) → (t : Makes 1 h j 1 moved after) → MovedTurn h j t.settles.outcome.want t.after after x
  before_own after t = same_turn h j moved after x t (sym others_region)
