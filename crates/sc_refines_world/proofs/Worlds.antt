-- Turns one after another lead from one world to one.
use Rattle.std.proofs.Common.{◌≡◌, ◌<◌, ℕ, Bool, false, List, [], ◌∷◌, Option, Some, None, slice_set, refl, sym, ap, ◌∙◌, subst, arith}
use Rattle.sc_tree.specs.Plain.{System}
use Rattle.sc_class.specs.ClassNames.{Root}
use Rattle.sc_class.specs.Faults.ClassRules.{IsFaultless}
use Rattle.sc_rules.specs.SystemRules.{WellFormed}
use Rattle.sc_model.specs.Handlers as machine
use Rattle.sc_model.specs.Runs.{IsReached}
use Rattle.sc_model.specs.Turns.{turn}
use Rattle.sc_code.specs.declared.program.Image.{Image}
use Rattle.sc_code.specs.Programs.{IsProgramOf}
use Rattle.sc_code.specs.RequestRoom.{FitsRequests}
use Rattle.sc_region.specs.declared.job.Job.{Job}
use Rattle.sc_region.specs.declared.job.Job.TheVariants as job
use Rattle.sc_region.specs.declared.job.Want.{Want}
use Rattle.sc_region.specs.Stores.{PlainStore, new_store}
use Rattle.sc_handler.specs.Picking.{job_of}
use Rattle.sc_request.specs.Asked.{Numbering}
use Rattle.sc_request.specs.Halves.{IsHalfOf}
use Rattle.sc_request.specs.Logs.{Center, picked, settles}
use Rattle.sc_request.specs.Laws.{PicksWhereTurns}
use Rattle.sc_refines_world.specs.regions.RegionHalves.{IsRegionOf}
use Rattle.sc_refines_world.specs.regions.RegionSteps.{IsProgramFor, first_want, numbering_by, task_of}
use Rattle.sc_refines_world.specs.regions.RegionTurns.{Half, taken_turn}
use Rattle.sc_play.specs.Regions.{PlainRegion}
use Rattle.sc_play.specs.Turns.{FirstTurn, Turns, first, more}
use Rattle.sc_refines_world.specs.regions.Halves.{JobFits}
use Rattle.sc_refines_world.specs.regions.Placed.{SoundJobsAreTaken, begun_when}
use Rattle.sc_refines_world.specs.regions.Sound.{IsSound}
use Rattle.sc_machine_laws.specs.settlements.Reached.{HalvesWhereReached, RemembersAlong}
use Rattle.sc_world.specs.Turning.{IsTurn, Makes, Runs, TurnsUnder}
use Rattle.sc_world.specs.Worlds.{PlainWorld}
use Rattle.sc_refines_world.specs.Standing.{IsRegionFor, names_in}
use Rattle.sc_world.proofs.SettledPicks.{picks_job}
use Rattle.sc_refines_world.proofs.Picks.{has_job}
use Rattle.sc_refines_world.proofs.ReachedStates.{one_further}
use Rattle.sc_refines_world.proofs.WorldTurns.{Beside, CreatedAreNew, HalvesMeet, OthersKeep, RegionsAskSo, RegionsFollow, SettledMeet, StoresTurn, TurnsEndThere, turn_steps}
use Rattle.sc_refines_world.specs.Functional.{AreExact, FirstTurnsAreFunctional, FirstTurnsKeepExact, IsGiven}

-- ---- one turn

turns_some : (h : ℕ) (b : Bool) (j : Job) (x : PlainStore) (n : ℕ) (y : PlainStore) (w : Want) → Turns h b j x n y w → 0 < n
turns_some h b j x _ _ _ (first {y} {w} t) = omega arith
turns_some h b j x _ _ _ (more {n} {y} {z} {w} ts t) = omega arith

only_first : (h : ℕ) (b : Bool) (j : Job) (x : PlainStore) (n : ℕ) (y : PlainStore) (w : Want) → Turns h b j x n y w → n ≡ 1 → FirstTurn h b j x y w
only_first h b j x _ _ _ (first {y} {w} t) e = t
only_first h b j x _ _ _ (more {n} {y} {z} {w} ts t) e = let some = turns_some h b j x n y _ ts in absurd (omega (arith, some, e))

pub untold : (j : Job) (x : Half) → begun_when false j x ≡ x
untold (job.Made k) x = refl
untold (job.Take r) x = refl
untold (job.Reply v) x = refl
untold job.Failed x = refl
untold job.Refused x = refl
untold (job.Granted ks) x = refl
untold job.Go x = refl

some_same : (a b : PlainRegion) → Some a ≡ Some b → a ≡ b
some_same a b e = cc

world_same : (x y : PlainWorld) → x.most ≡ y.most → x.center ≡ y.center → x.regions ≡ y.regions → x ≡ y
world_same x y m c r =
    ap (λ (n : ℕ). record x { most = n }) m ∙ ap (λ (d : Center). record y { center = d; regions = x.regions }) c ∙ ap (λ (rs : List PlainRegion). record y { regions = rs }) r

-- A sound store whose objects are exact.
abbrev pub Placed : ℕ → PlainStore → Type 0
Placed h y = IsSound y × AreExact y.program y.objects

abbrev pub Needs : System → Image → ℕ → Job → Half → Type 0
Needs s p h j x = JobFits s h (names_in p) j x

module _ (functional : FirstTurnsAreFunctional) (keeps : FirstTurnsKeepExact) (taken : SoundJobsAreTaken) (s : System) (root : Root) (faultless : IsFaultless s root) (well : WellFormed s) (p : Image)
    (program : IsProgramOf s root p) (fits : FitsRequests p) (most : ℕ) where
  pub is_given : (h : ℕ) (j : Job) (y : PlainStore) (x : Half) → y.program ≡ p → IsRegionOf s x y → Placed h y → Needs s p h j x → IsGiven h false j y s x
  is_given h j y x is region placed needs = record {
    sound = placed.0;
    exact = placed.1;
    fits = subst FitsRequests (sym is) fits;
    program = subst (IsProgramFor s) (sym is) (record { root = root; faultless = faultless; well_formed = well; program = program });
    region = subst (λ (a : Half). IsRegionOf s a y) (sym (untold j x)) region;
    half = subst (λ (q : Image). JobFits s h (names_in q) j x) (sym is) needs;
  }

  pub stores_turn : StoresTurn s root p faultless well most Placed (Needs s p)
  stores_turn h j y z w t is x region placed needs =
      let g = is_given h j y x is region placed needs in
      let made = taken h false j y z w t g.sound g.fits s x g.program g.region g.half in (
        subst (λ (q : Image). IsRegionOf s (taken_turn s h (task_of (names_in q) j) x) z) is made.1,
        subst (λ (q : Image). w ≡ first_want (numbering_by (names_in q)) s h (task_of (names_in q) j) x) is made.2,
        (made.0, keeps h false j y s x g z w t),
      )

  module _ (halves_meet : HalvesMeet s root p faultless well most (Needs s p)) (new_placed : (h : ℕ) → Placed h (new_store p)) (follow : RegionsFollow s root p faultless well most)
      (ask : RegionsAskSo s root p faultless well most) (others_keep : OthersKeep s root p faultless well most) (created : CreatedAreNew s root p faultless well most)
      (settled_meet : SettledMeet s root p faultless well most) (end_there : TurnsEndThere s root p faultless well most) (picks : PicksWhereTurns) (reached_halves : HalvesWhereReached) where
    abbrev n : Numbering
    n = numbering_by (names_in p)

    abbrev Here : machine.World → PlainWorld → Type 0
    Here w x = Beside s p most Placed w x

    module _ (h : ℕ) (w : machine.World) (x : PlainWorld) (j : Job) (reached : IsReached most s root w) (half : IsHalfOf n w x.center.state) (b : Here w x) (is_job : job_of h x.center.state ≡ Some j) where
      here : h < x.center.state.count
      here = has_job h x.center.state j is_job

      own : (z : PlainWorld) (m : Makes 1 h j 1 x z) → IsRegionFor s p h (w.handlers h) (x.center.state.handlers h).stage m.before × Placed h m.before.store
      own z m = b.regions h m.before m.stands here

      ran : (z : PlainWorld) (m : Makes 1 h j 1 x z) → FirstTurn h false j m.before.store m.settles.plays.last m.settles.outcome.want
      ran z m =
          let t : FirstTurn m.before.handler m.before.is_told j m.before.store m.settles.plays.last m.settles.outcome.want =
          only_first m.before.handler m.before.is_told j m.before.store m.settles.outcome.turns m.settles.plays.last m.settles.outcome.want m.settles.plays.turns m.settles.count in
          subst (λ (b : Bool). FirstTurn h b j m.before.store m.settles.plays.last m.settles.outcome.want) (own z m).0.untold
          (subst (λ (k : ℕ). FirstTurn k m.before.is_told j m.before.store m.settles.plays.last m.settles.outcome.want) (own z m).0.handler t)

      -- the region that is left has the store that the turn left
      left_so : (z : PlainWorld) (m : Makes 1 h j 1 x z) → m.after ≡ record m.before { store = m.settles.plays.last; is_told = false }
      left_so z m =
          m.settles.plays.same
          ∙ ap (λ (q : PlainStore). record m.before { store = q; is_told = false }) (end_there j m.before m.after m.settles.outcome m.settles.plays m.settles.count)

      makes_same : (z a : PlainWorld) → Makes 1 h j 1 x z → Makes 1 h j 1 x a → z ≡ a
      makes_same z a m k =
          let before : k.before ≡ m.before = some_same k.before m.before (sym k.stands ∙ m.stands) in
          let r = own z m in
          let needs = halves_meet h j w x.center.state r.0.half reached (omega (arith, here, half.count)) half is_job b.named r.0.is_half in
          let given = is_given h j m.before.store r.0.half r.0.program r.0.stands r.1 needs in
          let other = subst (λ (q : PlainRegion). FirstTurn h false j q.store k.settles.plays.last k.settles.outcome.want) before (ran a k) in
          let one = functional h false j m.before.store s r.0.half given m.settles.plays.last k.settles.plays.last m.settles.outcome.want k.settles.outcome.want (ran z m) other in
          let after : m.after ≡ k.after =
          left_so z m
          ∙ ap (λ (q : PlainStore). record m.before { store = q; is_told = false }) one.0
          ∙ ap (λ (q : PlainRegion). record q { store = k.settles.plays.last; is_told = false }) (sym before)
          ∙ sym (left_so a k) in
          world_same z a
          (m.most ∙ sym k.most)
          (m.settles.center ∙ ap (λ (v : Want). settles x.most h j 1 v (picked h j x.center)) one.1 ∙ sym k.settles.center)
          (m.regions ∙ ap (slice_set x.regions h) after ∙ sym k.regions)

    turn_same : (h : ℕ) (w : machine.World) (x z a : PlainWorld) → IsReached most s root w → IsHalfOf n w x.center.state → Here w x → IsTurn h x z → IsTurn h x a → z ≡ a
    turn_same h w x z a reached half b t u =
        let same = picks_job h x.center (b.none_out h) in
        by (job_of h x.center.state) refl (subst (λ (o : Option Job). TurnsUnder h o x z) same t) (subst (λ (o : Option Job). TurnsUnder h o x a) same u)
      where
        by : (o : Option Job) → job_of h x.center.state ≡ o → TurnsUnder h o x z → TurnsUnder h o x a → z ≡ a
        by None e m k = m ∙ sym k
        by (Some j) e m k = makes_same h w x j reached half b e z a m k

    -- ---- turns one after the other

    pub runs_same : (hs : List ℕ) (w : machine.World) (x y z : PlainWorld) → IsReached most s root w → IsHalfOf n w x.center.state → RemembersAlong most n s hs w x.center.state → Here w x →
        Runs hs x y → Runs hs x z → y ≡ z
    runs_same [] w x y z reached half all b m k = m ∙ sym k
    runs_same (h ∷ hs) w x y z reached half all b m k =
        let c = m.0 in
        let same : k.0 ≡ c = turn_same h w x k.0 c reached half b k.1 m.1 in
        let step = turn_steps s root p faultless well most Placed (Needs s p) stores_turn halves_meet new_placed follow ask others_keep created settled_meet end_there picks reached_halves
        h w x c reached half all.0 b m.1 in
        let next = reached_halves s root faultless well most n h w x.center.state reached half all.0 in
        runs_same hs (turn most s h w) c y z (one_further most s root h w reached) (subst (IsHalfOf n (turn most s h w)) (sym step.1) next)
        (subst (RemembersAlong most n s hs (turn most s h w)) (sym step.1) all.1) step.0 m.2 (subst (λ (d : PlainWorld). Runs hs d z) same k.2)
