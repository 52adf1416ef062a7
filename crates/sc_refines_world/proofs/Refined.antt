-- The world that runs refines the machine.
use Rattle.std.proofs.Common.{◌≡◌, ◌+◌, ◌⊎◌, inl, inr, ℕ, false, Option, None, length, refl, sym, subst, take, arith}
use Rattle.sc_tree.specs.Plain.{System}
use Rattle.sc_class.specs.ClassNames.{Root}
use Rattle.sc_class.specs.Faults.ClassRules.{IsFaultless}
use Rattle.sc_rules.specs.SystemRules.{WellFormed}
use Rattle.sc_rules.proofs.PurityStands.{purity_stands}
use Rattle.sc_lockpass.specs.Versions.{most_handlers}
use Rattle.sc_model.specs.Handlers as machine
use Rattle.sc_model.specs.Runs.{IsReached, opening, run}
use Rattle.sc_code.specs.declared.program.Image.{Image}
use Rattle.sc_code.specs.Programs.{IsProgramOf}
use Rattle.sc_code.specs.RequestRoom.{FitsRequests}
use Rattle.sc_region.specs.declared.job.Job.{Job}
use Rattle.sc_region.specs.declared.job.Job.TheVariants as job
use Rattle.sc_region.specs.declared.job.Want.{Want}
use Rattle.sc_region.specs.Stores.{PlainStore}
use Rattle.sc_request.specs.Laws.{PicksWhereTurns}
use Rattle.sc_refines_world.specs.regions.RegionHalves.{IsRegionOf}
use Rattle.sc_refines_world.specs.regions.RegionSteps.{IsProgramFor, RegionsAsk, first_want, numbering_by, task_of}
use Rattle.sc_refines_world.specs.regions.RegionTurns.{Half, taken_turn}
use Rattle.sc_play.specs.Regions.{EndsIn}
use Rattle.sc_refines_world.specs.regions.Halves.{JobFits}
use Rattle.sc_refines_world.specs.regions.Placed.{SoundJobsAreTaken, begun_when}
use Rattle.sc_refines_world.specs.regions.Sound.{IsSound, NewStoresAreSound}
use Rattle.sc_refines_world.specs.regions.Order.{EachInOrder, OpensInOrder, TurnsKeepOrder}
use Rattle.sc_machine_laws.specs.SettledObjects.{SettledMeetWhereReached}
use Rattle.sc_machine_laws.specs.settlements.Reached.{EntriesAreRemembered, HalvesWhereReached}
use Rattle.sc_refines_world.specs.regions.Joined as joined
use Rattle.sc_world.specs.Worlds.{opened}
use Rattle.sc_refines_world.specs.Refining.{MachineHasHeadline, StoppedWorldStaysNear, WorldHasHeadline, WorldRunsAsMachine}
use Rattle.sc_refines_world.specs.Standing.{names_in}
use Rattle.sc_refines_world.proofs.RefinedRuns.{stands_along}
use Rattle.sc_refines_world.proofs.TurnNeeds.{job_fits}
use Rattle.sc_refines_world.proofs.PuttingBack.{refused_turn_stays_near}
use Rattle.sc_refines_world.proofs.ReachedStates.{in_each, reached_fits}
use Rattle.sc_refines_world.proofs.WorldTurns.{HalvesMeet, OthersKeep, RegionsAskSo, RegionsFollow, SettledMeet, StoresTurn, TurnsEndThere}

-- a region that plays one turn stands where that left it
one_turn : (n : ℕ) (x y : PlainStore) (w : Want) → n ≡ 1 → EndsIn n 1 x w y → y ≡ x
one_turn n x y w e (inl same) = same
one_turn n x y w e (inr (few, nothing, ahead)) = absurd (omega (arith, few, e))

untold : (j : Job) (x : Half) → begun_when false j x ≡ x
untold (job.Made k) x = refl
untold (job.Take r) x = refl
untold (job.Reply v) x = refl
untold job.Failed x = refl
untold job.Refused x = refl
untold (job.Granted ks) x = refl
untold job.Go x = refl

module _ (picks : PicksWhereTurns) (halves : HalvesWhereReached) (remembered : EntriesAreRemembered) (settled : SettledMeetWhereReached) (follow : joined.RegionsFollow) (ask : RegionsAsk) (others : joined.OthersKeepHalves) (created : joined.CreatedAreNew) (ordered : OpensInOrder)
    (keep_order : TurnsKeepOrder) (new_sound : NewStoresAreSound) (taken : SoundJobsAreTaken) where
  module _ (s : System) (root : Root) (faultless : IsFaultless s root) (well : WellFormed s) (p : Image) (program : IsProgramOf s root p) (fits : FitsRequests p) (most : ℕ) where
    abbrev Placed : ℕ → PlainStore → Type 0
    Placed h y = IsSound y

    abbrev Needs : ℕ → Job → Half → Type 0
    Needs h j x = JobFits s h (names_in p) j x

    stores_turn : StoresTurn s root p faultless well most Placed Needs
    stores_turn h j y z w t is x region sound needs =
        let made = taken h false j y z w t sound (subst FitsRequests (sym is) fits) s x
        (subst (IsProgramFor s) (sym is) (record { root = root; faultless = faultless; well_formed = well; program = program }))
        (subst (λ (a : Half). IsRegionOf s a y) (sym (untold j x)) region) (subst (λ (q : Image). JobFits s h (names_in q) j x) (sym is) needs) in (
          subst (λ (q : Image). IsRegionOf s (taken_turn s h (task_of (names_in q) j) x) z) is made.1,
          subst (λ (q : Image). w ≡ first_want (numbering_by (names_in q)) s h (task_of (names_in q) j) x) is made.2,
          made.0,
        )

    pub halves_meet : HalvesMeet s root p faultless well most Needs
    halves_meet h j w c x reached here half is_job named region =
        let pure = purity_stands s in
        job_fits s root pure.0 faultless well pure.1 w (reached_fits s root pure.0 faultless well pure.1 most w reached) (names_in p) c half named h here j x is_job region

    in_order : (w : machine.World) → IsReached most s root w → EachInOrder w
    in_order w reached = in_each s root most EachInOrder (λ h w r order. keep_order most s h w order) (ordered s root) w reached

    pub followed : RegionsFollow s root p faultless well most
    followed h w c x reached here half remembers named region now =
        follow most (names_in p) s h w c x half region (in_order w reached h here) named now

    pub asked : RegionsAskSo s root p faultless well most
    asked h w c x j reached half named region is_job now = ask most (names_in p) s h w c x j half region is_job named now

    pub kept : OthersKeep s root p faultless well most
    kept h k w c x reached half apart few region = others most (numbering_by (names_in p)) s h k w c x half apart few region

    pub settled_here : SettledMeet s root p faultless well most
    settled_here w reached = settled s root faultless well most w reached

    pub end_there : TurnsEndThere s root p faultless well most
    end_there j x y o t one = one_turn o.turns t.last y.store o.want one t.ends

  pub world_runs_as_machine : WorldRunsAsMachine
  world_runs_as_machine s root faultless well p v hs y program fits runs =
      let most : ℕ = most_handlers v in
      stands_along s root p faultless well program fits v (Placed s root faultless well p program fits most) (Needs s root faultless well p program fits most)
      (stores_turn s root faultless well p program fits most) (halves_meet s root faultless well p program fits most) (λ h. new_sound p) (followed s root faultless well p program fits most)
      (asked s root faultless well p program fits most) (kept s root faultless well p program fits most) (λ h k w stage past few. created most s h k w stage past few)
      (settled_here s root faultless well p program fits most) (end_there s root faultless well p program fits most) picks halves remembered hs y runs

-- ---- what follows of that alone

pub stopped_world_stays_near : WorldRunsAsMachine → StoppedWorldStaysNear
stopped_world_stays_near runs_as s root faultless well p v n hs y program fits stops =
    let w = run (most_handlers v) s (take n hs) (opening s root) in
    refused_turn_stays_near s p stops.next w stops.before y (runs_as s root faultless well p v (take n hs) stops.before program fits stops.runs) stops.refused

pub world_has_headline : WorldRunsAsMachine → MachineHasHeadline → WorldHasHeadline
world_has_headline runs_as holds s root faultless well p v hs y program fits runs =
    let w : machine.World = run (most_handlers v) s hs (opening s root) in
    let reached : IsReached (most_handlers v) s root w = record { numbers = hs; run_is = refl } in (
      w,
      reached,
      runs_as s root faultless well p v hs y program fits runs,
      holds s root faultless well (most_handlers v) w reached,
    )
