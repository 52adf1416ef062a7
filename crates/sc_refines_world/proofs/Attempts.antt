-- Turns that were made, and turns that memory was refused to, beside those of a world to which it was refused none.
use Rattle.std.proofs.Common.{◌≡◌, ◌⊎◌, ◌<◌, ◌≤◌, inl, inr, ℕ, Bool, true, false, List, [], ◌∷◌, ◌++◌, Option, Some, None, is_some, slice_get, slice_set, refl, sym, ap, subst, ◌∙◌, take-append-drop, arith}
use Rattle.std.proofs.lemmas.Bool.{cases_eq}
use Rattle.std.specs.Prelude.{drop, take}
use Rattle.std.specs.Option.{option_map}
use Rattle.sc_tree.specs.Plain.{System}
use Rattle.sc_class.specs.ClassNames.{Root}
use Rattle.sc_class.specs.Faults.ClassRules.{IsFaultless}
use Rattle.sc_rules.specs.SystemRules.{WellFormed}
use Rattle.sc_lockpass.specs.Versions.{most_handlers}
use Rattle.sc_lockpass.specs.declared.version.Version.{Version}
use Rattle.sc_model.specs.Handlers as machine
use Rattle.sc_model.specs.Objects.{Object}
use Rattle.sc_model.specs.Runs.{IsReached, opening, run}
use Rattle.sc_code.specs.declared.program.Image.{Image}
use Rattle.sc_code.specs.Programs.{IsProgramOf}
use Rattle.sc_code.specs.RequestRoom.{FitsRequests}
use Rattle.sc_region.specs.declared.frame.Stage.{Stage}
use Rattle.sc_region.specs.declared.frame.Stage.TheVariants as stage
use Rattle.sc_region.specs.declared.job.Job.{Job}
use Rattle.sc_region.specs.declared.job.Job.TheVariants as job
use Rattle.sc_region.specs.declared.job.Want.{Want}
use Rattle.sc_region.specs.Calls.{top_frame}
use Rattle.sc_region.specs.Frames.{PlainActivation, PlainFrame, top_activation}
use Rattle.sc_region.specs.Stores.{PlainStore}
use Rattle.sc_handler.specs.Handlers as core
use Rattle.sc_handler.specs.Handlers.{State}
use Rattle.sc_handler.specs.Picking.{job_of}
use Rattle.sc_request.specs.Halves.{IsHandlerOf, IsStage, IsTop}
use Rattle.sc_request.specs.Logs.{Center, pick_for, picked, settles}
use Rattle.sc_request.specs.Settling.{settled}
use Rattle.sc_refines_world.specs.regions.RegionHalves.{AreFrames, AreHalvesOf, IsStageFor, stage_of}
use Rattle.sc_refines_world.specs.regions.RegionSteps.{numbering_by}
use Rattle.sc_play.specs.Answering.{told_on, top_stage}
use Rattle.sc_play.specs.Regions.{IsRefused, PlainRegion, Plays}
use Rattle.sc_play.specs.Turns.{begun}
use Rattle.sc_play.proofs.RefusedJobs.{refused_jobs_go_on, refused_twice_is_refused}
use Rattle.sc_world.specs.Turning.{Attempt, Attempts, HeldUpUnder, IsHeldUp, IsRefusedTurn, IsTurn, Made, Makes, Refused, Runs as RunsBy, StopsBehind, TurnsUnder, made_by}
use Rattle.sc_world.specs.Worlds.{PlainWorld, opened}
use Rattle.sc_world.proofs.SettledPicks.{picks_job, set_other, set_same, settled_out, settled_state}
use Rattle.sc_world.proofs.Runs.{runs-join}
use Rattle.sc_refines_world.specs.Refining.{AttemptsHaveHeadline, AttemptsRunAsMachine, MachineHasHeadline, RestRunsAsMachine, TurnsStandExactly, WorldRunsAsMachine}
use Rattle.sc_refines_world.specs.Standing.{IsNear, IsRegionFor, StandsFor, StandsNear, names_in}
use Rattle.sc_refines_world.proofs.PuttingBack.{AreNearAt, IsNearTo, back_out, back_state, near_at, near_before, near_still, near_world}
use Rattle.sc_refines_world.proofs.Picks.{has_job}
use Rattle.sc_refines_world.proofs.OtherStages as staying
use Rattle.sc_refines_world.proofs.OtherStages.{going_stays, others_stay, telling_stays}

-- ---- a routine that waits for a handler that is made doesn't go on

stage_waits : (k i : ℕ) (f : machine.Frame) (st gt : machine.Stage) → IsStage st f (core.Awaits i true) → IsStageFor k st gt → stage_of gt ≡ stage.Runs → ⊥
stage_waits k i f machine.Runs gt (inl e) g r = cc
stage_waits k i f machine.Runs gt (inr (m, e)) g r = cc
stage_waits k i f machine.Reserves gt e g r = cc
stage_waits k i f machine.ReservesBlock gt e g r = cc
stage_waits k i f (machine.InCall gives) gt e g r = cc
stage_waits k i f (machine.Awaits m gives true) gt e g r = let no : stage_of (machine.Awaits k gives true) ≡ stage.Runs = ap stage_of (sym g) ∙ r in cc
stage_waits k i f (machine.Awaits m gives false) gt e g r = cc

same_region : (a b : PlainRegion) → Some a ≡ Some b → a ≡ b
same_region a b e = cc

some_stage : (s t : Stage) → Some s ≡ Some t → s ≡ t
some_stage s t e = cc

top_waits : (s : System) (k i : ℕ) (objects : List Object) (stack half : List machine.Frame) (frames : List PlainFrame) → IsTop stack (core.Awaits i true) →
    AreHalvesOf k (core.Awaits i true) stack half → AreFrames s objects half frames →
    option_map (λ (a : PlainActivation). a.stage) (top_activation frames) ≡ Some stage.Runs → ⊥
top_waits s k i objects [] half frames top halves are r = cc
top_waits s k i objects (f ∷ fs) [] frames top halves are r = halves
top_waits s k i objects (f ∷ fs) (g ∷ gs) [] top halves are r = are
top_waits s k i objects (f ∷ fs) (g ∷ gs) (q ∷ qs) top halves are r =
    stage_waits k i f f.stage g.stage top halves.0.stands (sym are.0.stage ∙ some_stage q.activation.stage stage.Runs r)

told_frames : (m : ℕ) (fs : List PlainFrame) →
    option_map (λ (a : PlainActivation). a.stage) (top_activation (top_frame (told_on m) fs)) ≡ option_map (λ (a : PlainActivation). a.stage) (top_activation fs)
told_frames m [] = refl
told_frames m (f ∷ fs) = refl

-- what its topmost routine is told leaves it at its stage
told_stage : (b : Bool) (m : ℕ) (x : PlainStore) → top_stage (begun b (job.Made m) x) ≡ top_stage x
told_stage true m x = refl
told_stage false m x = told_frames m x.frames

-- ---- regions of other handlers

unmoved : (start q : PlainRegion) → q ≡ (let r : PlainRegion = record start { store = q.store; is_told = start.is_told } in r) → q.store ≡ start.store → q ≡ start
unmoved start q same store = same ∙ ap (λ (x : PlainStore). let r : PlainRegion = record start { store = x; is_told = start.is_told } in r) store

module _ (s : System) (p : Image) (w : machine.World) (x : PlainWorld) (stands : StandsFor s p w x) where
  abbrev c : State
  c = x.center.state

  region_waits : (k i : ℕ) (start : PlainRegion) → slice_get x.regions k ≡ Some start → k < c.count → (c.handlers k).failure ≡ None → (c.handlers k).stage ≡ core.Awaits i true →
      top_stage start.store ≡ Some stage.Runs → ⊥
  region_waits k i start at few lives is runs =
      let there : k < w.count = omega (arith, few, stands.core.count) in
      let one = stands.regions k there in
      let same : one.0 ≡ start = same_region one.0 start (sym one.1 ∙ at) in
      let own : IsRegionFor s p k (w.handlers k) (core.Awaits i true) start =
      subst (λ (t : core.HandlerStage). IsRegionFor s p k (w.handlers k) t start) is (subst (IsRegionFor s p k (w.handlers k) (c.handlers k).stage) same one.2) in
      let half : IsHandlerOf (numbering_by (names_in p)) (w.handlers k) (c.handlers k) = stands.core.handlers k in
      let halves = own.is_half.stands (sym half.failure ∙ lives) in
      top_waits s k i own.half.objects (w.handlers k).stack own.half.stack start.store.frames (subst (IsTop (w.handlers k).stack) is half.stage) halves.1 own.stands.frames runs

  module _ (h k most turns : ℕ) (j : Job) (want : Want) (apart : k ≡ h → ⊥) where
    abbrev later : State
    later = settled most h j turns want c

    still_refused : (start q : PlainRegion) → slice_get x.regions k ≡ Some start → (i : Job) → job_of k c ≡ Some i → IsRefused i start q → IsNear (job_of k later) start q
    still_refused start q at (job.Take r) due refused = inl (unmoved start q refused.same refused.store)
    still_refused start q at (job.Reply v) due refused = inl (unmoved start q refused.same refused.store)
    still_refused start q at job.Failed due refused = inl (unmoved start q refused.same refused.store)
    still_refused start q at job.Refused due refused = inl (unmoved start q refused.same refused.store)
    still_refused start q at (job.Granted ks) due refused = inl (unmoved start q refused.same refused.store)
    still_refused start q at job.Go due refused = inr (job.Go, going_stays h k most turns j want c apart due, refused)
    still_refused start q at (job.Made m) due refused =
        let has = staying.has_job k c (job.Made m) due in
        let runs : top_stage start.store ≡ Some stage.Runs = sym (told_stage start.is_told m start.store) ∙ refused.store.runs in
        inr (
          job.Made m,
          telling_stays h k most turns j want c apart m due (λ waits. region_waits k m start at has.there has.stands waits runs),
          refused,
        )

    still_near : (start q : PlainRegion) → slice_get x.regions k ≡ Some start → IsNear (job_of k c) start q → IsNear (job_of k later) start q
    still_near start q at (inl same) = inl same
    still_near start q at (inr (i, due, refused)) = still_refused start q at i due refused

-- ---- a turn is made

same_job : (i j : Job) → Some i ≡ Some j → i ≡ j
same_job i j e = cc

-- It is made in the first world, too, which is left near the one that it leaves, and the region of its handler stands exactly.
pub record Follows (h : ℕ) (o : Option Job) (x z : PlainWorld) : Type 0 where
  pub world : PlainWorld
  pub turns : TurnsUnder h o x world
  pub near : IsNearTo world z
  pub more : x.center.state.count ≤ world.center.state.count
  pub exact : is_some o ≡ true → slice_get z.regions h ≡ slice_get world.regions h

module _ (s : System) (p : Image) (w : machine.World) (x y z : PlainWorld) (stands : StandsFor s p w x) (near : IsNearTo x y) (h : ℕ) where
  module _ (j : Job) (due : job_of h x.center.state ≡ Some j) (m : Makes 1 h j 1 y z) where
    abbrev want : Want
    want = m.settles.outcome.want

    before : (start : PlainRegion) × (slice_get x.regions h ≡ Some start) × IsNear (job_of h x.center.state) start m.before
    before = near_before (job_of h x.center.state) (slice_get x.regions h) (slice_get y.regions h) m.before (near.regions h) m.stands

    plays : (start : PlainRegion) → IsNear (job_of h x.center.state) start m.before → Plays 1 j start m.after m.settles.outcome
    plays start (inl same) = subst (λ (r : PlainRegion). Plays 1 j r m.after m.settles.outcome) same m.settles.plays
    plays start (inr (i, is, refused)) =
        refused_jobs_go_on 1 j start m.before m.after m.settles.outcome (subst (λ (k : Job). IsRefused k start m.before) (same_job i j (sym is ∙ due)) refused) m.settles.plays

    abbrev u : PlainWorld
    u = record { most = x.most; center = settles x.most h j 1 want (picked h j x.center); regions = slice_set x.regions h m.after }

    makes : Makes 1 h j 1 x u
    makes = record {
      before = before.0;
      after = m.after;
      stands = before.1;
      settles = record { outcome = m.settles.outcome; count = m.settles.count; plays = plays before.0 before.2; center = refl };
      regions = refl;
      most = refl;
    }

    own_there : slice_get u.regions h ≡ Some m.after
    own_there = set_same x.regions h before.0 m.after before.1

    own_here : slice_get z.regions h ≡ Some m.after
    own_here = ap (λ (rs : List PlainRegion). slice_get rs h) m.regions ∙ set_same y.regions h m.before m.after m.stands

    same_state : z.center.state ≡ u.center.state
    same_state =
        ap (λ (d : Center). d.state) m.settles.center ∙ settled_state y.most h j 1 want y.center
        ∙ ap (λ (n : ℕ). settled n h j 1 want y.center.state) near.most ∙ ap (λ (t : State). settled x.most h j 1 want t) near.state
        ∙ sym (settled_state x.most h j 1 want x.center)

    near_each : (k : ℕ) → (k ≡ h) ⊎ (k ≡ h → ⊥) → AreNearAt (job_of k u.center.state) (slice_get u.regions k) (slice_get z.regions k)
    near_each k (inl e) =
        near_at (job_of k u.center.state) (slice_get u.regions k) (slice_get z.regions k) m.after m.after (ap (slice_get u.regions) e ∙ own_there)
        (ap (slice_get z.regions) e ∙ own_here) (inl refl)
    near_each k (inr apart) =
        subst (λ (t : State). AreNearAt (job_of k t) (slice_get u.regions k) (slice_get z.regions k)) (sym (settled_state x.most h j 1 want x.center))
        (near_still (job_of k x.center.state) (job_of k (settled x.most h j 1 want x.center.state)) (slice_get x.regions k) (slice_get y.regions k) (slice_get u.regions k)
        (slice_get z.regions k) (set_other x.regions h k m.after apart) (ap (λ (rs : List PlainRegion). slice_get rs k) m.regions ∙ set_other y.regions h k m.after apart)
        (still_near s p w x stands h k x.most 1 j want apart) (near.regions k))

    followed : Follows h (Some j) x z
    followed = record {
      world = u;
      turns = makes;
      near = record {
        most = m.most ∙ near.most;
        state = same_state;
        none_out = λ k. ap (λ (d : Center). d.out k) m.settles.center ∙ settled_out y.most h j 1 want y.center k (near.none_out k);
        regions = λ k. near_each k (cases_eq k h);
      };
      more = subst (λ (t : State). x.center.state.count ≤ t.count) (sym (settled_state x.most h j 1 want x.center)) (others_stay h x.most 1 j want x.center.state).more;
      exact = λ some. own_here ∙ sym own_there;
    }

  follows_under : (o : Option Job) → job_of h x.center.state ≡ o → TurnsUnder h o y z → Follows h o x z
  follows_under None due same = record { world = x; turns = refl; near = subst (IsNearTo x) (sym same) near; more = omega arith; exact = λ some. cc }
  follows_under (Some j) due m = followed j due m

  due_here : pick_for h y.center ≡ job_of h x.center.state
  due_here = picks_job h y.center (near.none_out h) ∙ ap (λ (t : State). job_of h t) near.state

  pub follows : IsTurn h y z → Follows h (pick_for h x.center) x z
  follows turn =
      subst (λ (o : Option Job). Follows h o x z) (sym (picks_job h x.center (stands.none_out h)))
      (follows_under (job_of h x.center.state) refl (subst (λ (o : Option Job). TurnsUnder h o y z) due_here turn))

-- ---- memory is refused to a turn

module _ (x y z : PlainWorld) (near : IsNearTo x y) (h : ℕ) where
  module _ (j : Job) (due : job_of h x.center.state ≡ Some j) (d : IsHeldUp h j y z) where
    first : (start : PlainRegion) × (slice_get x.regions h ≡ Some start) × IsNear (job_of h x.center.state) start d.before
    first = near_before (job_of h x.center.state) (slice_get x.regions h) (slice_get y.regions h) d.before (near.regions h) d.stands

    refused_here : (start : PlainRegion) → IsNear (job_of h x.center.state) start d.before → IsNear (job_of h x.center.state) start d.after
    refused_here start (inl same) = inr (j, due, subst (λ (r : PlainRegion). IsRefused j r d.after) same d.put_back.refused)
    refused_here start (inr (i, is, once)) =
        inr (j, due, refused_twice_is_refused j start d.before d.after (subst (λ (k : Job). IsRefused k start d.before) (same_job i j (sym is ∙ due)) once) d.put_back.refused)

    each_near : (k : ℕ) → (k ≡ h) ⊎ (k ≡ h → ⊥) → AreNearAt (job_of k x.center.state) (slice_get x.regions k) (slice_get z.regions k)
    each_near k (inl e) =
        near_at (job_of k x.center.state) (slice_get x.regions k) (slice_get z.regions k) first.0 d.after (ap (slice_get x.regions) e ∙ first.1)
        (ap (λ (rs : List PlainRegion). slice_get rs k) d.regions ∙ ap (slice_get (slice_set y.regions h d.after)) e ∙ set_same y.regions h d.before d.after d.stands)
        (subst (λ (i : ℕ). IsNear (job_of i x.center.state) first.0 d.after) (sym e) (refused_here first.0 first.2))
    each_near k (inr apart) =
        near_still (job_of k x.center.state) (job_of k x.center.state) (slice_get x.regions k) (slice_get y.regions k) (slice_get x.regions k) (slice_get z.regions k) refl
        (ap (λ (rs : List PlainRegion). slice_get rs k) d.regions ∙ set_other y.regions h k d.after apart) (λ start q at one. one) (near.regions k)

    held_near : IsNearTo x z
    held_near = record {
      most = d.most ∙ near.most;
      state = ap (λ (e : Center). e.state) d.put_back.center ∙ back_state h j y.center (ap (λ (t : State). job_of h t) near.state ∙ due) ∙ near.state;
      none_out = λ k. ap (λ (e : Center). e.out k) d.put_back.center ∙ back_out h j y.center k (near.none_out k);
      regions = λ k. each_near k (cases_eq k h);
    }

  held_under : (o : Option Job) → job_of h x.center.state ≡ o → HeldUpUnder h o y z → IsNearTo x z
  held_under None due same = subst (IsNearTo x) (sym same) near
  held_under (Some j) due d = held_near j due d

  pub refused_stays : IsRefusedTurn h y z → IsNearTo x z
  refused_stays (inl same) = subst (IsNearTo x) (sym same) near
  refused_stays (inr held) =
      held_under (job_of h x.center.state) refl
      (subst (λ (o : Option Job). HeldUpUnder h o y z) (picks_job h y.center (near.none_out h) ∙ ap (λ (t : State). job_of h t) near.state) held)

-- ---- one after the other

one_more : (hs : List ℕ) (h : ℕ) (ks : List ℕ) → (hs ++ h ∷ []) ++ ks ≡ hs ++ h ∷ ks
one_more [] h ks = refl
one_more (k ∷ hs) h ks = ap (λ (ls : List ℕ). k ∷ ls) (one_more hs h ks)

no_more : (hs : List ℕ) → hs ++ [] ≡ hs
no_more [] = refl
no_more (k ∷ hs) = ap (λ (ls : List ℕ). k ∷ ls) (no_more hs)

join_join : (hs ks ls : List ℕ) → (hs ++ ks) ++ ls ≡ hs ++ (ks ++ ls)
join_join [] ks ls = refl
join_join (h ∷ hs) ks ls = ap (λ (ms : List ℕ). h ∷ ms) (join_join hs ks ls)

same_near : (x : PlainWorld) → ((k : ℕ) → x.center.out k ≡ None) → IsNearTo x x
same_near x none_out = record { most = refl; state = refl; none_out = none_out; regions = λ k. here (job_of k x.center.state) (slice_get x.regions k) }
  where
    here : (due : Option Job) (a : Option PlainRegion) → AreNearAt due a a
    here due None = refl
    here due (Some r) = (r, refl, inl refl)

-- Turns of these handlers lead from the first world to one that this is near.
pub record IsBeside (hs : List ℕ) (x y : PlainWorld) : Type 0 where
  pub world : PlainWorld
  pub runs : RunsBy hs x world
  pub near : IsNearTo world y

module _ (runs_as : WorldRunsAsMachine) (s : System) (root : Root) (faultless : IsFaultless s root) (well : WellFormed s) (p : Image) (v : Version) (program : IsProgramOf s root p)
    (fits : FitsRequests p) where
  abbrev state_after : List ℕ → machine.World
  state_after hs = run (most_handlers v) s hs (opening s root)

  stands_there : (hs : List ℕ) (x : PlainWorld) → RunsBy hs (opened p v) x → StandsFor s p (state_after hs) x
  stands_there hs x runs = runs_as s root faultless well p v hs x program fits runs

  one_turn : (hs : List ℕ) (h : ℕ) (y z : PlainWorld) → (b : IsBeside hs (opened p v) y) → IsTurn h y z → Follows h (pick_for h b.world.center) b.world z
  one_turn hs h y z b turn = follows s p (state_after hs) b.world y z (stands_there hs b.world b.runs) b.near h turn

  behind : (hs : List ℕ) (h : ℕ) (y z : PlainWorld) → IsBeside hs (opened p v) y → IsTurn h y z → IsBeside (hs ++ h ∷ []) (opened p v) z
  behind hs h y z b turn =
      let f = one_turn hs h y z b turn in
      record { world = f.world; runs = runs-join hs (h ∷ []) (opened p v) b.world f.world b.runs (f.world, f.turns, refl); near = f.near }

  along : (ts : List Attempt) (hs : List ℕ) (y z : PlainWorld) → IsBeside hs (opened p v) y → Attempts ts y z → IsBeside (hs ++ made_by ts) (opened p v) z
  along [] hs y z b same =
      subst (λ (ls : List ℕ). IsBeside ls (opened p v) z) (sym (no_more hs)) (subst (IsBeside hs (opened p v)) (sym same) b)
  along (Made h ∷ ts) hs y z b then_more =
      subst (λ (ls : List ℕ). IsBeside ls (opened p v) z) (one_more hs h (made_by ts))
      (along ts (hs ++ h ∷ []) then_more.0 z (behind hs h y then_more.0 b then_more.1) then_more.2)
  along (Refused h ∷ ts) hs y z b then_more =
      along ts hs then_more.0 z (record { world = b.world; runs = b.runs; near = refused_stays b.world y then_more.0 b.near h then_more.1 }) then_more.2

  pub beside : (ts : List Attempt) (y : PlainWorld) → Attempts ts (opened p v) y → IsBeside (made_by ts) (opened p v) y
  beside ts y tried =
      along ts [] (opened p v) y (record { world = opened p v; runs = refl; near = same_near (opened p v) (λ k. refl) }) tried

  near_after : (hs : List ℕ) (y : PlainWorld) → IsBeside hs (opened p v) y → StandsNear s p (state_after hs) y
  near_after hs y b = near_world s p (state_after hs) b.world y (stands_there hs b.world b.runs) b.near

  -- a handler that makes a turn stands exactly
  exactly : (hs : List ℕ) (h : ℕ) (j : Job) (y z : PlainWorld) → IsBeside hs (opened p v) y → pick_for h y.center ≡ Some j → IsTurn h y z →
      (r : PlainRegion) × (slice_get z.regions h ≡ Some r)
      × IsRegionFor s p h ((state_after (hs ++ h ∷ [])).handlers h) (z.center.state.handlers h).stage r
  exactly hs h j y z b due turn =
      let before = stands_there hs b.world b.runs in
      let f = one_turn hs h y z b turn in
      let runs = runs-join hs (h ∷ []) (opened p v) b.world f.world b.runs (f.world, f.turns, refl) in
      let stands = stands_there (hs ++ h ∷ []) f.world runs in
      let there : job_of h b.world.center.state ≡ Some j =
      ap (λ (t : State). job_of h t) (sym b.near.state) ∙ sym (picks_job h y.center (b.near.none_out h)) ∙ due in
      let picks : pick_for h b.world.center ≡ Some j = picks_job h b.world.center (before.none_out h) ∙ there in
      let few : h < b.world.center.state.count = has_job h b.world.center.state j there in
      let more = f.more in
      let count = stands.core.count in
      let counted : h < (state_after (hs ++ h ∷ [])).count = omega (arith, few, more, count) in
      let one = stands.regions h counted in (
        one.0,
        f.exact (ap (λ (o : Option Job). is_some o) picks) ∙ one.1,
        subst (λ (t : State). IsRegionFor s p h ((state_after (hs ++ h ∷ [])).handlers h) (t.handlers h).stage one.0) (sym f.near.state) one.2,
      )

  runs_beside : (ks hs : List ℕ) (y z : PlainWorld) → IsBeside hs (opened p v) y → RunsBy ks y z → IsBeside (hs ++ ks) (opened p v) z
  runs_beside [] hs y z b same =
      subst (λ (ls : List ℕ). IsBeside ls (opened p v) z) (sym (no_more hs)) (subst (IsBeside hs (opened p v)) (sym same) b)
  runs_beside (k ∷ ks) hs y z b runs =
      subst (λ (ls : List ℕ). IsBeside ls (opened p v) z) (one_more hs k ks)
      (runs_beside ks (hs ++ k ∷ []) runs.0 z (behind hs k y runs.0 b runs.1) runs.2)

  -- memory is refused after some turns of a list, and the rest of it follows
  resumed : (n : ℕ) (ks hs : List ℕ) (x y z : PlainWorld) → IsBeside ks (opened p v) x → StopsBehind n hs x y → RunsBy (drop n hs) y z → IsBeside (ks ++ hs) (opened p v) z
  resumed n ks hs x y z b stops rest =
      let far = runs_beside (take n hs) ks x stops.before b stops.runs in
      let there : IsBeside (ks ++ take n hs) (opened p v) y =
      record { world = far.world; runs = far.runs; near = refused_stays far.world stops.before y far.near stops.next stops.refused } in
      subst (λ (ls : List ℕ). IsBeside ls (opened p v) z)
      (join_join ks (take n hs) (drop n hs) ∙ ap (λ (ls : List ℕ). ks ++ ls) (take-append-drop n hs))
      (runs_beside (drop n hs) (ks ++ take n hs) y z there rest)

-- ---- laws

pub attempts_run_as_machine : WorldRunsAsMachine → AttemptsRunAsMachine
attempts_run_as_machine runs_as s root faultless well p v ts y program fits tried =
    near_after runs_as s root faultless well p v program fits (made_by ts) y (beside runs_as s root faultless well p v program fits ts y tried)

pub attempts_have_headline : AttemptsRunAsMachine → MachineHasHeadline → AttemptsHaveHeadline
attempts_have_headline run_so holds s root faultless well p v ts y program fits tried =
    let w : machine.World = run (most_handlers v) s (made_by ts) (opening s root) in
    let reached : IsReached (most_handlers v) s root w = record { numbers = made_by ts; run_is = refl } in (
      w,
      reached,
      run_so s root faultless well p v ts y program fits tried,
      holds s root faultless well (most_handlers v) w reached,
    )

pub turns_stand_exactly : WorldRunsAsMachine → TurnsStandExactly
turns_stand_exactly runs_as s root faultless well p v ts h j x y program fits tried due turn =
    exactly runs_as s root faultless well p v program fits (made_by ts) h j x y (beside runs_as s root faultless well p v program fits ts x tried) due turn

pub rest_runs_as_machine : WorldRunsAsMachine → RestRunsAsMachine
rest_runs_as_machine runs_as s root faultless well p v ts n hs x y z program fits tried stops rest =
    near_after runs_as s root faultless well p v program fits (made_by ts ++ hs) z
    (resumed runs_as s root faultless well p v program fits n (made_by ts) hs x y z (beside runs_as s root faultless well p v program fits ts x tried) stops rest)
