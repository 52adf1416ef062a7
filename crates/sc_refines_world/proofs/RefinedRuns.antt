-- The world that runs stands for the machine, along turns from the opening of an accepted system's program on.
use Rattle.std.proofs.Common.{◌≡◌, ◌≤◌, ℕ, List, [], Some, slice_get, refl, sym, subst, arith}
use Rattle.sc_tree.specs.Plain.{System}
use Rattle.sc_class.specs.ClassNames.{Root}
use Rattle.sc_class.specs.Faults.ClassRules.{IsFaultless}
use Rattle.sc_rules.specs.SystemRules.{WellFormed}
use Rattle.sc_lockpass.specs.Versions.{most_handlers}
use Rattle.sc_lockpass.specs.declared.version.Version.{Version}
use Rattle.sc_lockpass.specs.declared.version.Version.TheVariants.{One, Two}
use Rattle.sc_model.specs.Runs.{opening, run}
use Rattle.sc_code.specs.declared.program.Image.{Image}
use Rattle.sc_code.specs.Programs.{IsProgramOf}
use Rattle.sc_region.specs.declared.job.Job.{Job}
use Rattle.sc_region.specs.Stores.{PlainStore, new_store}
use Rattle.sc_request.specs.Asked.{Numbering}
use Rattle.sc_request.specs.Halves.{IsHalfOf}
use Rattle.sc_request.proofs.Opening.{opens}
use Rattle.sc_refines_world.specs.regions.RegionSteps.{numbering_by}
use Rattle.sc_refines_world.specs.regions.RegionTurns.{Half, new_half}
use Rattle.sc_refines_world.proofs.regions.RegionOpening.{new_region as new_store_stands}
use Rattle.sc_play.specs.Regions.{PlainRegion, new_region}
use Rattle.sc_code.specs.RequestRoom.{FitsRequests}
use Rattle.sc_request.specs.Laws.{PicksWhereTurns}
use Rattle.sc_machine_laws.specs.settlements.Reached.{EntriesAreRemembered, HalvesWhereReached, RemembersAlong}
use Rattle.sc_world.specs.Turning.{Runs}
use Rattle.sc_world.specs.Worlds.{PlainWorld, max_handlers, opened}
use Rattle.sc_refines_world.specs.Standing.{IsRegionFor, StandsFor, names_in}
use Rattle.sc_refines_world.proofs.Opening.{opened_at, opened_length, opened_named, opened_state, opens_new}
use Rattle.sc_refines_world.proofs.WorldTurns.{Beside, CreatedAreNew, HalvesMeet, OthersKeep, RegionsAskSo, RegionsFollow, SettledMeet, StoresTurn, TurnsEndThere, along, beside_stands}

some_room : (v : Version) → 1 ≤ most_handlers v
some_room One = omega arith
some_room Two = omega arith

pub few_handlers : (v : Version) → most_handlers v ≤ max_handlers
few_handlers One = omega arith
few_handlers Two = omega arith

module _ (s : System) (root : Root) (p : Image) (faultless : IsFaultless s root) (well : WellFormed s) (program : IsProgramOf s root p) (fits : FitsRequests p) (v : Version) where
  abbrev n : Numbering
  n = numbering_by (names_in p)

  abbrev most : ℕ
  most = most_handlers v

  pub core : IsHalfOf n (opening s root) (opened p v).center.state
  core = subst (IsHalfOf n (opening s root)) (sym (opened_state s root p program fits)) (opens n s root)

  module _ (Placed : ℕ → PlainStore → Type 0) (Needs : ℕ → Job → Half → Type 0) (stores_turn : StoresTurn s root p faultless well most Placed Needs)
      (halves_meet : HalvesMeet s root p faultless well most Needs) (new_placed : (h : ℕ) → Placed h (new_store p)) (follow : RegionsFollow s root p faultless well most)
      (ask : RegionsAskSo s root p faultless well most) (others_keep : OthersKeep s root p faultless well most) (created : CreatedAreNew s root p faultless well most)
      (settled_meet : SettledMeet s root p faultless well most) (end_there : TurnsEndThere s root p faultless well most)
      (picks : PicksWhereTurns) (reached_halves : HalvesWhereReached) (entries_are_remembered : EntriesAreRemembered) where
    start_region : (h : ℕ) (r : PlainRegion) → slice_get (opened p v).regions h ≡ Some r →
        IsRegionFor s p h ((opening s root).handlers h) ((opened p v).center.state.handlers h).stage r × Placed h r.store
    start_region h r is =
        let new = opened_at p h r is in
        let fresh : IsRegionFor s p h ((opening s root).handlers h) ((opened p v).center.state.handlers h).stage (new_region p h) = record {
          handler = refl;
          program = refl;
          untold = refl;
          half = new_half;
          stands = new_store_stands s p;
          is_half = opens_new s root h ((opened p v).center.state.handlers h).stage;
        } in (
          subst (IsRegionFor s p h ((opening s root).handlers h) ((opened p v).center.state.handlers h).stage) (sym new) fresh,
          subst (λ (t : PlainRegion). Placed h t.store) (sym new) (new_placed h),
        )

    pub start : Beside s p most Placed (opening s root) (opened p v)
    start = record {
      same_most = refl;
      none_out = λ h. refl;
      few = some_room v;
      named = opened_named s root p program fits;
      many = opened_length p;
      regions = λ h r is few. start_region h r is;
      others = λ h r is past. opened_at p h r is;
    }

    pub stands_along : (hs : List ℕ) (y : PlainWorld) → Runs hs (opened p v) y → StandsFor s p (run most s hs (opening s root)) y
    stands_along hs y runs =
        let remembered : RemembersAlong most n s hs (opening s root) (opened p v).center.state =
        subst (RemembersAlong most n s hs (opening s root)) (sym (opened_state s root p program fits)) (entries_are_remembered s root faultless well most n hs) in
        let last = along s root p faultless well most Placed Needs stores_turn halves_meet new_placed follow ask others_keep created settled_meet end_there picks reached_halves
        hs (opening s root) (opened p v) y (record { numbers = []; run_is = refl }) core remembered start runs in
        beside_stands s root p faultless well most Placed Needs stores_turn halves_meet new_placed follow ask others_keep created settled_meet end_there picks reached_halves
        (run most s hs (opening s root)) y (few_handlers v) last.1 last.0

    pub remembered : (hs : List ℕ) → RemembersAlong most n s hs (opening s root) (opened p v).center.state
    remembered hs = subst (RemembersAlong most n s hs (opening s root)) (sym (opened_state s root p program fits)) (entries_are_remembered s root faultless well most n hs)
