-- A handler has something to do in a world where it has a turn in the machine.
use Rattle.std.proofs.Common.{◌≡◌, ◌∙◌, ℕ, List, Option, is_some, ap}
use Rattle.sc_tree.specs.Plain.{System}
use Rattle.sc_class.specs.ClassNames.{Root}
use Rattle.sc_lockpass.specs.Versions.{most_handlers}
use Rattle.sc_lockpass.specs.declared.version.Version.{Version}
use Rattle.sc_model.specs.Handlers as machine
use Rattle.sc_model.specs.Runs.{has_turn, opening, run}
use Rattle.sc_code.specs.declared.program.Image.{Image}
use Rattle.sc_region.specs.declared.job.Job.{Job}
use Rattle.sc_request.specs.Laws.{PicksWhereTurns}
use Rattle.sc_request.specs.Logs.{pick_for}
use Rattle.sc_world.specs.Turning.{Runs as RunsBy}
use Rattle.sc_world.specs.Worlds.{PlainWorld, opened}
use Rattle.sc_world.proofs.SettledPicks.{picks_job}
use Rattle.sc_refines_world.specs.regions.RegionSteps.{numbering_by}
use Rattle.sc_refines_world.specs.Standing.{StandsFor, names_in}

module _ (picks : PicksWhereTurns) (s : System) (p : Image) (w : machine.World) (x : PlainWorld) (stands : StandsFor s p w x) where
  pub turns_where : (h : ℕ) → is_some (pick_for h x.center) ≡ has_turn h w
  turns_where h =
      ap (λ (o : Option Job). is_some o) (picks_job h x.center (stands.none_out h))
      ∙ picks (numbering_by (names_in p)) w x.center.state h stands.core

-- Each world to which turns lead stands for the state to which they lead the machine.
abbrev pub WorldsStand : System → Root → Image → Version → Type 0
WorldsStand s root p v = (hs : List ℕ) (x : PlainWorld) → RunsBy hs (opened p v) x → StandsFor s p (run (most_handlers v) s hs (opening s root)) x
