-- Turns may be made in sound stores that stand for halves that fit.
use Rattle.std.proofs.Common.{◌≡◌, ℕ, ◌+◌, Bool, true, false, List, [], ◌∷◌, Option, Some, None, length, refl, sym, ap, ◌∙◌, subst, arith}
use Rattle.std.proofs.lemmas.List.{length-map}
use Rattle.std.specs.Option.{option_map}
use Rattle.sc_tree.specs.Plain.{System}
use Rattle.sc_model.specs.Handlers.{Frame}
use Rattle.sc_model.specs.Objects as model_objects
use Rattle.sc_model.specs.Objects.{Object}
use Rattle.sc_model.specs.Preconditions.{is_creation}
use Rattle.sc_region.specs.declared.frame.Stage.{Stage}
use Rattle.sc_region.specs.declared.frame.Stage.TheVariants as stage
use Rattle.sc_region.specs.declared.job.Job.{Job}
use Rattle.sc_region.specs.declared.job.Job.TheVariants as job
use Rattle.sc_region.specs.declared.job.Request.{Request}
use Rattle.sc_region.specs.declared.job.Want.{Want}
use Rattle.sc_region.specs.declared.value.Value.{Value}
use Rattle.sc_region.specs.Frames.{PlainActivation, PlainFrame, top_activation}
use Rattle.sc_region.specs.Stores.{PlainStore}
use Rattle.sc_interp.specs.declared.hops.Hop.{Hop}
use Rattle.sc_interp.specs.declared.hops.Hop.TheVariants as hop
use Rattle.sc_refines_world.specs.regions.Laws.{ProgramsServe}
use Rattle.sc_interp.specs.Objects.{object_in}
use Rattle.sc_refines_world.specs.regions.RegionHalves.{AreFrames, IsRegionOf}
use Rattle.sc_refines_world.specs.regions.RegionSteps.{IsProgramFor, names_of}
use Rattle.sc_refines_world.specs.regions.RegionTurns.{Half}
use Rattle.sc_interp.specs.Told.{IsTold}
use Rattle.sc_acts.proofs.Options.{none_some, some_same}
use Rattle.sc_refines_world.proofs.regions.RegionSame.{same_current}
use Rattle.sc_play.specs.Answering.{top_stage}
use Rattle.sc_play.specs.Turns.{GoesOn, TurnIn, TurnMade, TurnOf, TurnUnder}
use Rattle.sc_refines_world.specs.regions.Acting.{Comes, TopRuns}
use Rattle.sc_refines_world.specs.regions.Halves.{AreComplete, GetsReply, HalfFits, JobFits, RequestFits}
use Rattle.sc_refines_world.specs.regions.Making.{told_half}
use Rattle.sc_refines_world.specs.regions.Rooms.{GetsAnswer}
use Rattle.sc_refines_world.specs.regions.Sound.{CreateForNothing, CreatesForNothing, IsSound}
use Rattle.sc_refines_world.specs.regions.Taking.{IsTakeable}
use Rattle.sc_code.specs.RequestRoom.{FitsRequests}
use Rattle.sc_refines_world.specs.regions.Turns.{MayDo, MayTurn, MayTurnIn, MayTurnMade, MayTurnUnder, begun_half}
use Rattle.sc_refines_world.proofs.regions.MetInvariants.{numbered_same}
use Rattle.sc_refines_world.proofs.regions.ValueRoom.{answers_have_room}
use Rattle.sc_refines_world.proofs.regions.PlacedFrames.{whole_of, none_next, awaits_is}
use Rattle.sc_refines_world.proofs.regions.PlacedOperations.{may_act}

-- ---- turns

module _ (serve : ProgramsServe) (h : ℕ) (y : PlainStore) (sound : IsSound y) (program : FitsRequests y.program) (s : System) (x : Half) (is : IsProgramFor s y.program)
    (region : IsRegionOf s x y) (fits : HalfFits s h x) where
  may_go_on : (z : PlainStore) (w : Want) → TopRuns y → (g : GoesOn h y z w) → MayDo h g.operation g.before
  may_go_on z w runs g = by g.operation g.told (record { runs = runs; comes = g.comes; remains = g.remains })
    where
      by : (o : Hop) → IsTold o g.before → Comes o y g.before → MayDo h o g.before
      by hop.Passed told_so comes = tt
      by (hop.Failed why) told_so comes = tt
      by (hop.Comes a) told_so comes = may_act serve h y sound program s x is region fits a g.before comes told_so

  may_turn_in : (o : Option Stage) (z : PlainStore) (w : Want) → top_stage y ≡ o → (t : TurnIn o h y z w) → MayTurnIn o h y z w t
  may_turn_in None z w e t = tt
  may_turn_in (Some stage.Runs) z w e t = may_go_on z w e t
  may_turn_in (Some stage.Reserves) z w e t = tt
  may_turn_in (Some stage.ReservesBlock) z w e t = tt
  may_turn_in (Some (stage.InCall gives)) z w e t = tt
  may_turn_in (Some (stage.Awaits k gives is_creation)) z w e t = tt

  pub may_turn : (z : PlainStore) (w : Want) (t : TurnOf h y z w) → MayTurn h y z w t
  may_turn z w t = may_turn_in (top_stage y) z w refl t

  -- who waits for the handler that was made is given no value
  for_nothing : (fs : List PlainFrame) (k : ℕ) (gives : Bool) → CreateForNothing fs → option_map (λ (a : PlainActivation). a.stage) (top_activation fs) ≡ Some (stage.Awaits k gives true) →
      gives ≡ false
  for_nothing [] k gives free e = none_some _ e
  for_nothing (f ∷ below) k gives free e = subst CreatesForNothing (some_same f.activation.stage (stage.Awaits k gives true) e) free.0

  may_made : (o : Option Stage) (z : PlainStore) (w : Want) → top_stage y ≡ o → (t : TurnMade o h y z w) → MayTurnMade o h y z w t
  may_made None z w e t = tt
  may_made (Some (stage.Awaits k gives true)) z w e t = for_nothing y.frames k gives sound.creations e
  may_made (Some (stage.Awaits k gives false)) z w e t = tt
  may_made (Some stage.Runs) z w e t = may_go_on z w e t
  may_made (Some stage.Reserves) z w e t = tt
  may_made (Some stage.ReservesBlock) z w e t = tt
  may_made (Some (stage.InCall gives)) z w e t = tt

-- ---- jobs

takeable : (r : Request) (y : PlainStore) (s : System) (x : Half) → IsProgramFor s y.program → IsRegionOf s x y → RequestFits s (names_of y) r x → IsTakeable y r
takeable r y s x is region fits = record {
  named = fits.named;
  of_class = λ o e. fits.of_class (object_in s o)
      (ap (model_objects.object_numbered r.target.number) (sym region.objects) ∙ numbered_same s r.target.number y.objects ∙ ap (option_map (object_in s)) e);
  whole = whole_of s y is (subst (AreComplete s) (sym region.objects) fits.complete);
  unborn =
      let n = length y.objects + 1 in
      let many = sym (length-map y.objects (object_in s)) ∙ ap (λ us. length us) region.objects in
      same_current s n x.objects x.stack y.frames region.frames ∙ none_next (length x.objects) n x.stack fits.within (omega (arith, many));
}

gets : (s : System) (os : List Object) (v : Option Value) (fs : List Frame) (gs : List PlainFrame) → AreFrames s os fs gs → GetsReply v fs → GetsAnswer v gs
gets s os v [] [] a may = tt
gets s os v (f ∷ fs) (g ∷ gs) a may = λ k c e.
    let t = awaits_is k c f.stage (sym a.0.stage ∙ e) in
    may k t.0 c t.1
gets s os v [] (g ∷ gs) a may = absurd a
gets s os v (f ∷ fs) [] a may = absurd a

-- The first turn under a job that fits may be made.
pub may_take : ProgramsServe → (h : ℕ) (j : Job) (y : PlainStore) → IsSound y → FitsRequests y.program → (s : System) (x : Half) → IsProgramFor s y.program → IsRegionOf s (begun_half j x) y →
    JobFits s h (names_of y) j x → (z : PlainStore) (w : Want) (t : TurnUnder h j y z w) → MayTurnUnder h j y z w t
may_take serve h (job.Take r) y sound program s x is region fits z w t = takeable r y s x is region fits
may_take serve h (job.Reply v) y sound program s x is region fits z w t = answers_have_room v y sound.room (gets s x.objects v x.stack y.frames region.frames fits)
may_take serve h job.Failed y sound program s x is region fits z w t = tt
may_take serve h job.Refused y sound program s x is region fits z w t = tt
may_take serve h (job.Granted ks) y sound program s x is region fits z w t = tt
may_take serve h (job.Made k) y sound program s x is region fits z w t = may_made serve h y sound program s (told_half k x) is region fits (top_stage y) z w refl t
may_take serve h job.Go y sound program s x is region fits z w t = may_turn serve h y sound program s x is region fits z w t
