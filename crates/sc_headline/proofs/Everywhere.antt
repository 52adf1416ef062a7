-- A world that was tried stands near a state that is reached.
use Rattle.std.proofs.Common.{◌≡◌, ◌<◌, ℕ, List, Some, get_or, length, slice_get, sym, subst, ◌∙◌, arith}
use Rattle.std.proofs.Math.Logic.{∥∥₁_map}
use Rattle.std.proofs.lemmas.Option.{slice_get-get_or}
use Rattle.sc_class.specs.ClassNames.{Root}
use Rattle.sc_lockpass.specs.Versions.{most_handlers}
use Rattle.sc_model.specs.Runs.{IsReached}
use Rattle.sc_code.specs.declared.program.Image.{Image}
use Rattle.sc_play.specs.Regions.{PlainRegion, new_region}
use Rattle.sc_world.specs.Kept.{AttemptsStayOf, IsOf, OpeningsAreOf}
use Rattle.sc_world.specs.Turning.{Attempts, IsTried}
use Rattle.sc_world.specs.Worlds.{PlainWorld, opened}
use Rattle.sc_refines_world.specs.Refining.{AttemptsHaveHeadline, HasHeadline}
use Rattle.sc_frontend.specs.Texts.{IsLoaded}
use Rattle.sc_headline.specs.Everywhere.{HasHeadlineAnyhow, RunsProgram, StandsNearReached}

module _ (law : AttemptsHaveHeadline) (open_of : OpeningsAreOf) (stay : AttemptsStayOf) (text : List ℕ) (root : Root) (program : Image) (w : PlainWorld) (loaded : IsLoaded text root program)
    (runs : RunsProgram program w) (t : IsTried w) where
  is_of : IsOf t.program (most_handlers t.version) w
  is_of = stay t.program (most_handlers t.version) t.attempts (opened t.program t.version) w (open_of t.program t.version) t.lead

  -- there is a first region, which runs both programs
  same_program : t.program ≡ program
  same_program =
      let places = is_of.places in
      let some : 0 < length w.regions = omega (arith, places) in
      let r : PlainRegion = get_or w.regions 0 (new_region t.program 0) in
      let there : slice_get w.regions 0 ≡ Some r = slice_get-get_or w.regions 0 (new_region t.program 0) some in
      sym (is_of.programs 0 r there) ∙ runs r there

  lead : Attempts t.attempts (opened program t.version) w
  lead = subst (λ (p : Image). Attempts t.attempts (opened p t.version) w) same_program t.lead

  near_reached : StandsNearReached text root program w
  near_reached =
      let found = law loaded.system root loaded.sound.faultless loaded.sound.well_formed program t.version t.attempts w loaded.is_program loaded.fits lead in
      record {
        system = loaded.system;
        read = loaded.read;
        sound = loaded.sound;
        state = found.0;
        reached = subst (λ (n : ℕ). IsReached n loaded.system root found.0) (sym is_of.most) found.1;
        near = found.2;
        headline = subst (λ (n : ℕ). HasHeadline n loaded.system found.0) (sym is_of.most) found.3;
      }

pub has_headline_anyhow : AttemptsHaveHeadline → OpeningsAreOf → AttemptsStayOf → (w : PlainWorld) → ∥ IsTried w ∥₁ → HasHeadlineAnyhow w
has_headline_anyhow law open_of stay w tried text root program loaded runs =
    ∥∥₁_map tried (λ (t : IsTried w). near_reached law open_of stay text root program w loaded runs t)
