-- From the opening of an accepted system's program on, turns lead to one world.
use Rattle.std.proofs.Common.{ℕ, [], refl}
use Rattle.sc_model.specs.Runs.{opening}
use Rattle.sc_lockpass.specs.Versions.{most_handlers}
use Rattle.sc_refines_world.specs.regions.RegionSteps.{RegionsAsk}
use Rattle.sc_region.specs.Stores.{new_store}
use Rattle.sc_request.specs.Laws.{PicksWhereTurns}
use Rattle.sc_refines_world.specs.regions.Placed.{SoundJobsAreTaken}
use Rattle.sc_refines_world.specs.regions.Sound.{NewStoresAreSound}
use Rattle.sc_refines_world.specs.regions.Joined as joined
use Rattle.sc_refines_world.specs.regions.Order.{OpensInOrder, TurnsKeepOrder}
use Rattle.sc_machine_laws.specs.settlements.Reached.{EntriesAreRemembered, HalvesWhereReached}
use Rattle.sc_machine_laws.specs.SettledObjects.{SettledMeetWhereReached}
use Rattle.sc_world.specs.Worlds.{opened}
use Rattle.sc_refines_world.specs.Functional.{FirstTurnsAreFunctional, FirstTurnsKeepExact, RunsAreFunctional}
use Rattle.sc_refines_world.proofs.RefinedRuns.{core, remembered, start}
use Rattle.sc_refines_world.proofs.Refined as refined
use Rattle.sc_refines_world.proofs.WorldTurns.{CreatedAreNew}
use Rattle.sc_refines_world.proofs.Worlds.{Needs, Placed, runs_same, stores_turn}

module _ (functional : FirstTurnsAreFunctional) (keeps : FirstTurnsKeepExact) (picks : PicksWhereTurns) (halves : HalvesWhereReached) (entries : EntriesAreRemembered) (settled : SettledMeetWhereReached)
    (follow : joined.RegionsFollow) (ask : RegionsAsk) (others : joined.OthersKeepHalves) (created : joined.CreatedAreNew) (ordered : OpensInOrder) (keep_order : TurnsKeepOrder)
    (new_sound : NewStoresAreSound) (taken : SoundJobsAreTaken) where
  pub runs_are_functional : RunsAreFunctional
  runs_are_functional s root faultless well p v hs x y program fits first second =
      let most : ℕ = most_handlers v in
      let turns = stores_turn functional keeps taken s root faultless well p program fits most in
      let meet = refined.halves_meet picks halves entries settled follow ask others created ordered keep_order new_sound taken s root faultless well p program fits most in
      let followed = refined.followed picks halves entries settled follow ask others created ordered keep_order new_sound taken s root faultless well p program fits most in
      let asked = refined.asked picks halves entries settled follow ask others created ordered keep_order new_sound taken s root faultless well p program fits most in
      let kept = refined.kept picks halves entries settled follow ask others created ordered keep_order new_sound taken s root faultless well p program fits most in
      let here = refined.settled_here picks halves entries settled follow ask others created ordered keep_order new_sound taken s root faultless well p program fits most in
      let ends = refined.end_there picks halves entries settled follow ask others created ordered keep_order new_sound taken s root faultless well p program fits most in
      let placed : (h : ℕ) → Placed h (new_store p) = λ h. (new_sound p, tt) in
      let new : CreatedAreNew s root p faultless well most = λ h k w stage past few. created most s h k w stage past few in
      runs_same functional keeps taken s root faultless well p program fits most meet placed followed asked kept new here ends picks halves hs (opening s root) (opened p v) x y
      (record { numbers = []; run_is = refl })
      (core s root p faultless well program fits v)
      (remembered s root p faultless well program fits v Placed (Needs s p) turns meet placed followed asked kept new here ends picks halves entries hs)
      (start s root p faultless well program fits v Placed (Needs s p) turns meet placed followed asked kept new here ends picks halves entries)
      first second
