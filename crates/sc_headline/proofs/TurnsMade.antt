-- Each turn of a run on threads is one that its handler has in the machine.
use Rattle.std.proofs.Common.{ℕ, List, [], ◌∷◌, ◌++◌, refl, sym, subst, ◌∙◌}
use Rattle.std.proofs.Math.Logic.{∥∥₁_map}
use Rattle.sc_tree.specs.Plain.{System}
use Rattle.sc_class.specs.ClassNames.{Root}
use Rattle.sc_lockpass.specs.Versions.{most_handlers}
use Rattle.sc_lockpass.specs.declared.version.Version.{Version}
use Rattle.sc_lockpass.specs.declared.version.Version.TheVariants.{Two}
use Rattle.sc_model.specs.Handlers as machine
use Rattle.sc_model.specs.Runs.{opening, run}
use Rattle.sc_model.proofs.Joins.{run_append}
use Rattle.sc_code.specs.declared.program.Image.{Image}
use Rattle.sc_request.specs.Cores.{log_of, state_of}
use Rattle.sc_request.specs.Laws.{PicksWhereTurns}
use Rattle.sc_world.specs.Turning.{MakeTurns, Runs}
use Rattle.sc_world.specs.Worlds.{PlainWorld, opened}
use Rattle.sc_world.proofs.Runs.{runs-more}
use Rattle.sc_plant.specs.Left.{RunsAreOneThreads}
use Rattle.sc_plant.specs.OneThread.{EndsIn}
use Rattle.sc_recording.specs.Recorded.{turns_of}
use Rattle.sc_refines_world.specs.Refining.{WorldRunsAsMachine}
use Rattle.sc_refines_world.proofs.HadTurns.{WorldsStand, turns_where}
use Rattle.sc_headline.specs.Headline.{HaveTurns}
use Rattle.sc_headline.specs.ThreadsHeadline.{ThreadsMakeTurns}

module _ (picks : PicksWhereTurns) (s : System) (root : Root) (p : Image) (v : Version) (stand : WorldsStand s root p v) where
  abbrev most : ℕ
  most = most_handlers v

  abbrev first : machine.World
  first = opening s root

  -- the turns that the world makes behind others
  pub made_are_had : (hs ks : List ℕ) (x y : PlainWorld) → Runs ks (opened p v) x → MakeTurns hs x y → HaveTurns most s hs (run most s ks first)
  made_are_had [] ks x y runs made = tt
  made_are_had (h ∷ hs) ks x y runs made =
      let there : Runs (ks ++ h ∷ []) (opened p v) made.1 = runs-more ks h (opened p v) x made.1 runs made.2 in (
        sym (turns_where picks s p (run most s ks first) x (stand ks x runs) h) ∙ made.0,
        subst (λ (w : machine.World). HaveTurns most s hs w) (run_append most s ks (h ∷ []) first) (made_are_had hs (ks ++ h ∷ []) made.1 y there made.3),
      )

pub threads_make_turns : WorldRunsAsMachine → PicksWhereTurns → RunsAreOneThreads → ThreadsMakeTurns
threads_make_turns runs_as picks one_thread text root p limit left loaded run =
    let s = loaded.system in
    let hs = turns_of (log_of left.core) in
    let stand : WorldsStand s root p Two = λ hs x runs. runs_as s root loaded.sound.faultless loaded.sound.well_formed p Two hs x loaded.is_program loaded.fits runs in
    ∥∥₁_map (one_thread p limit left run)
    (λ (w : (y : PlainWorld) × MakeTurns hs (opened p Two) y × EndsIn y (state_of left.core) left.regions.items).
    made_are_had picks s root p Two stand hs [] (opened p Two) w.0 refl w.1)
