-- What a handler gives back is its own, nobody may push on an idle handler, and who waits for a request with which it passed nothing
-- hears nothing, in each world that turns lead to from the opening of a program.
use Rattle.std.proofs.Common.{◌≡◌, ◌∙◌, ◌<◌, ℕ, Bool, List, [], Some, false, refl, sym, ap, subst, arith}
use Rattle.sc_tree.specs.Plain.{System}
use Rattle.sc_class.specs.ClassNames.{Root}
use Rattle.sc_class.specs.Faults.ClassRules.{IsFaultless}
use Rattle.sc_rules.specs.SystemRules.{WellFormed}
use Rattle.sc_lockpass.specs.Rights.{Rights}
use Rattle.sc_lockpass.specs.Versions.{most_handlers}
use Rattle.sc_lockpass.specs.declared.version.Version.{Version}
use Rattle.sc_model.specs.Handlers as machine
use Rattle.sc_model.specs.Runs.{IsReached, opening, run}
use Rattle.sc_model.specs.Settled.{SettledObjectsMeet}
use Rattle.sc_model.specs.Turns.{turn}
use Rattle.sc_code.specs.declared.program.Image.{Image}
use Rattle.sc_code.specs.Programs.{IsProgramOf}
use Rattle.sc_code.specs.RequestRoom.{FitsRequests}
use Rattle.sc_region.specs.Stores.{PlainStore, new_store}
use Rattle.sc_region.specs.declared.job.Job.{Job}
use Rattle.sc_region.specs.declared.job.Want.{Want}
use Rattle.sc_handler.specs.Handlers.{State}
use Rattle.sc_handler.specs.Picking.{job_of}
use Rattle.sc_request.specs.Asked.{Numbering, asked}
use Rattle.sc_request.specs.Halves.{IsHalfOf, IsTop}
use Rattle.sc_request.specs.Laws.{PicksWhereTurns}
use Rattle.sc_play.specs.Turns.{FirstTurn, Turns, first, more}
use Rattle.sc_machine_laws.specs.RequestLaws.{BeyondIsUnused, EndsTheOne, IdleHasNoTop, NoCallback}
use Rattle.sc_machine_laws.specs.SettledObjects.{SettledMeetWhereReached}
use Rattle.sc_machine_laws.specs.settlements.Reached.{EntriesAreRemembered, HalvesWhereReached}
use Rattle.sc_world.specs.Turning.{Makes, Runs}
use Rattle.sc_world.specs.Worlds.{PlainWorld, opened}
use Rattle.sc_refines_world.specs.Functional.{FirstTurnsAreFunctional, FirstTurnsKeepExact}
use Rattle.sc_refines_world.specs.Standing.{IsRegionFor, names_in}
use Rattle.sc_refines_world.specs.regions.Joined as joined
use Rattle.sc_refines_world.specs.regions.Order.{OpensInOrder, TurnsKeepOrder}
use Rattle.sc_refines_world.specs.regions.Placed.{SoundJobsAreTaken}
use Rattle.sc_refines_world.specs.regions.RegionSteps.{AreNamed, RegionsAsk, numbering_by}
use Rattle.sc_refines_world.specs.regions.Sound.{NewStoresAreSound}
use Rattle.sc_refines_world.proofs.Picks.{has_job}
use Rattle.sc_refines_world.proofs.ReachedStates.{one_further}
use Rattle.sc_refines_world.proofs.Refined as refined
use Rattle.sc_refines_world.proofs.RefinedRuns.{core, remembered, start}
use Rattle.sc_refines_world.proofs.RequestNames.{are_named}
use Rattle.sc_refines_world.proofs.WorldTurns.{Beside, CreatedAreNew, HalvesMeet, OthersKeep, RegionsAskSo, RegionsFollow, SettledMeet, StoresTurn, TurnsEndThere, along}
use Rattle.sc_refines_world.proofs.Worlds.{Needs, Placed, stores_turn}
use Rattle.sc_movers.specs.Returned.{AllReturnOwn, AllUnlentWait, NoIdleIsPushed}
use Rattle.sc_movers.proofs.Ended.{idle_empty, returns_own, unlent_wait}

turns_some : (h : ℕ) (b : Bool) (j : Job) (x : PlainStore) (n : ℕ) (y : PlainStore) (w : Want) → Turns h b j x n y w → 0 < n
turns_some h b j x _ _ _ (first {y} {w} t) = omega arith
turns_some h b j x _ _ _ (more {n} {y} {z} {w} ts t) = omega arith

only_first : (h : ℕ) (b : Bool) (j : Job) (x : PlainStore) (n : ℕ) (y : PlainStore) (w : Want) → Turns h b j x n y w → n ≡ 1 → FirstTurn h b j x y w
only_first h b j x _ _ _ (first {y} {w} t) e = t
only_first h b j x _ _ _ (more {n} {y} {z} {w} ts t) e = let some = turns_some h b j x n y _ ts in absurd (omega (arith, some, e))

module _ (functional : FirstTurnsAreFunctional) (keeps : FirstTurnsKeepExact) (picks : PicksWhereTurns) (halves : HalvesWhereReached) (entries : EntriesAreRemembered) (settled : SettledMeetWhereReached)
    (follow : joined.RegionsFollow) (ask : RegionsAsk) (others : joined.OthersKeepHalves) (created : joined.CreatedAreNew) (ordered : OpensInOrder) (keep_order : TurnsKeepOrder)
    (new_sound : NewStoresAreSound) (taken : SoundJobsAreTaken) where
  module _ (s : System) (root : Root) (faultless : IsFaultless s root) (well : WellFormed s) (p : Image) (v : Version) (program : IsProgramOf s root p) (fits : FitsRequests p) where
    abbrev most : ℕ
    most = most_handlers v

    abbrev n : Numbering
    n = numbering_by (names_in p)

    turns : StoresTurn s root p faultless well most Placed (Needs s p)
    turns = stores_turn functional keeps taken s root faultless well p program fits most

    meet : HalvesMeet s root p faultless well most (Needs s p)
    meet = refined.halves_meet picks halves entries settled follow ask others created ordered keep_order new_sound taken s root faultless well p program fits most

    followed : RegionsFollow s root p faultless well most
    followed = refined.followed picks halves entries settled follow ask others created ordered keep_order new_sound taken s root faultless well p program fits most

    asks : RegionsAskSo s root p faultless well most
    asks = refined.asked picks halves entries settled follow ask others created ordered keep_order new_sound taken s root faultless well p program fits most

    kept : OthersKeep s root p faultless well most
    kept = refined.kept picks halves entries settled follow ask others created ordered keep_order new_sound taken s root faultless well p program fits most

    here : SettledMeet s root p faultless well most
    here = refined.settled_here picks halves entries settled follow ask others created ordered keep_order new_sound taken s root faultless well p program fits most

    ends : TurnsEndThere s root p faultless well most
    ends = refined.end_there picks halves entries settled follow ask others created ordered keep_order new_sound taken s root faultless well p program fits most

    placed : (h : ℕ) → Placed h (new_store p)
    placed h = (new_sound p, tt)

    new : CreatedAreNew s root p faultless well most
    new h k w stage past few = created most s h k w stage past few

    -- the world stands beside the machine's state
    stands : (hs : List ℕ) (y : PlainWorld) → Runs hs (opened p v) y →
        Beside s p most Placed (run most s hs (opening s root)) y × IsHalfOf n (run most s hs (opening s root)) y.center.state
    stands hs y runs =
        along s root p faultless well most Placed (Needs s p) turns meet placed followed asks kept new here ends picks halves hs (opening s root) (opened p v) y
        (record { numbers = []; run_is = refl })
        (core s root p faultless well program fits v)
        (remembered s root p faultless well program fits v Placed (Needs s p) turns meet placed followed asks kept new here ends picks halves entries hs)
        (start s root p faultless well program fits v Placed (Needs s p) turns meet placed followed asks kept new here ends picks halves entries)
        runs

    -- what a turn asks is what the machine's asks
    module _ (h : ℕ) (w : machine.World) (x z : PlainWorld) (j : Job) (reached : IsReached most s root w) (half : IsHalfOf n w x.center.state) (b : Beside s p most Placed w x)
        (is_job : job_of h x.center.state ≡ Some j) (m : Makes 1 h j 1 x z) where
      abbrev c : State
      c = x.center.state

      abbrev wants : Want
      wants = m.settles.outcome.want

      there : h < c.count
      there = has_job h c j is_job

      own : IsRegionFor s p h (w.handlers h) (c.handlers h).stage m.before × Placed h m.before.store
      own = b.regions h m.before m.stands there

      all_named : AreNamed (names_in p) (w.handlers h)
      all_named = are_named (names_in p) w c half b.named h

      now_settled : SettledObjectsMeet s (turn most s h w)
      now_settled = here (turn most s h w) (one_further most s root h w reached)

      ran : FirstTurn h false j m.before.store m.settles.plays.last wants
      ran =
          let t : FirstTurn m.before.handler m.before.is_told j m.before.store m.settles.plays.last wants =
          only_first m.before.handler m.before.is_told j m.before.store m.settles.outcome.turns m.settles.plays.last wants m.settles.plays.turns m.settles.count in
          subst (λ (d : Bool). FirstTurn h d j m.before.store m.settles.plays.last wants) own.0.untold
          (subst (λ (k : ℕ). FirstTurn k m.before.is_told j m.before.store m.settles.plays.last wants) own.0.handler t)

      want_is : wants ≡ asked n s h j (w.handlers h)
      want_is =
          let turned = turns h j m.before.store m.settles.plays.last wants ran own.0.program own.0.half own.0.stands own.1
          (meet h j w c own.0.half reached (omega (arith, there, half.count)) half is_job b.named own.0.is_half) in
          turned.1 ∙ asks h w c own.0.half j reached half all_named own.0.is_half is_job now_settled

  pub all_return_own : EndsTheOne → AllReturnOwn
  all_return_own one s root faultless well p v program fits h j x y played is_job m =
      let hs = played.0 in
      let w : machine.World = run (most_handlers v) s hs (opening s root) in
      let reached : IsReached (most_handlers v) s root w = record { numbers = hs; run_is = refl } in
      let b = stands s root faultless well p v program fits hs x played.1 in
      returns_own (most_handlers v) s root w reached (numbering_by (names_in p)) x.center.state b.1 h one j m.settles.outcome.want is_job
      (want_is s root faultless well p v program fits h w x y j reached b.1 b.0 is_job m)

  -- A handler that has no frames has none in the machine either, so nobody may push there.
  pub no_idle_is_pushed : IdleHasNoTop → NoIdleIsPushed
  no_idle_is_pushed tops s root faultless well p v program fits x played k alive idle =
      let hs = played.0 in
      let w : machine.World = run (most_handlers v) s hs (opening s root) in
      let half = (stands s root faultless well p v program fits hs x played.1).1 in
      let of = half.handlers k in
      ap (λ (r : Rights). r.top k) half.rights
      ∙ tops (most_handlers v) s root w (record { numbers = hs; run_is = refl }) k (sym of.failure ∙ alive)
      (idle_empty (w.handlers k).stack (subst (IsTop (w.handlers k).stack) idle of.stage))

  pub all_unlent_wait : NoCallback → BeyondIsUnused → AllUnlentWait
  all_unlent_wait no_callback beyond s root faultless well p v program fits x played =
      let hs = played.0 in
      let w : machine.World = run (most_handlers v) s hs (opening s root) in
      unlent_wait no_callback beyond (most_handlers v) s root w (record { numbers = hs; run_is = refl }) (numbering_by (names_in p)) x.center.state
      (stands s root faultless well p v program fits hs x played.1).1
