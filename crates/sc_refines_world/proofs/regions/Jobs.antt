-- Jobs as they begin.
use Rattle.std.proofs.Common.{◌≡◌, ◌<◌, ℕ, true, List, [], ◌∷◌, Option, Some, None, is_some, length, refl, sym, ap, ◌∙◌, subst}
use Rattle.std.proofs.lemmas.List.{reverse-append}
use Rattle.std.specs.Prelude.{if◌then◌else◌}
use Rattle.std.specs.Option.{option_map}
use Rattle.sc_tree.specs.Plain.{System}
use Rattle.sc_rules.specs.declared.entity_types.entity_type.EntityType.{EntityType}
use Rattle.sc_model.specs.declared.cause.Cause.TheVariants as cause
use Rattle.sc_model.specs.Exits as model
use Rattle.sc_model.specs.Handlers.{Stage, Runs, Reserves, ReservesBlock, InCall, Awaits, Frame, point_of}
use Rattle.sc_model.specs.Values.{operand}
use Rattle.sc_code.specs.Lowered.{run_of}
use Rattle.sc_code.specs.Machine.{State}
use Rattle.sc_code.specs.Stands.{StandsWith}
use Rattle.sc_region.specs.declared.frame.Stage.TheVariants as stage
use Rattle.sc_region.specs.declared.value.Value.{Value}
use Rattle.sc_region.specs.Frames.{PlainActivation, PlainFrame}
use Rattle.sc_region.specs.Stores.{PlainStore}
use Rattle.sc_acts.specs.Exiting.{handed_as, handed_value}
use Rattle.sc_refines_world.specs.regions.RegionHalves.{IsRegionOf, AreFrames, IsFrame, StandsIn, stage_of}
use Rattle.sc_refines_world.specs.regions.RegionTurns.{Half, Granted, Replied, begins, takes_grant, takes_reply, with_stack}
use Rattle.sc_interp.specs.Values.{value_of}
use Rattle.sc_interp.proofs.GoingOn.{less_is}
use Rattle.sc_refines_world.proofs.regions.RegionSame.{still_fails}
use Rattle.sc_play.specs.Answering.{block_granted, entry_granted, granted, granted_in, replied, replied_in, runs}
use Rattle.sc_refines_world.specs.regions.Jobs.{AnswersAreTaken, BadAnswersAreTaken, GrantsAreTaken, TakesAnswer}

pub bad_answers_are_taken : BadAnswersAreTaken
bad_answers_are_taken y = (
  λ s h x is region. still_fails s x y cause.SupplierFailed region,
  λ s h x is region. still_fails s x y cause.Precondition region,
)

module _ (s : System) (x : Half) (y : PlainStore) (region : IsRegionOf s x y) where
  -- the same with these frames
  region_with : (fs : List Frame) (gs : List PlainFrame) → AreFrames s x.objects fs gs → IsRegionOf s (with_stack fs x) (record y { frames = gs })
  region_with fs gs a = record { objects = region.objects; frames = a; output = region.output; failure = region.failure }

  module _ (f : Frame) (below : List Frame) (g : PlainFrame) (gs : List PlainFrame) (r : IsFrame s x.objects f g) (rs : AreFrames s x.objects below gs) where
    abbrev place : ℕ
    place = g.activation.place

    stands_by : (st : Stage) → f.stage ≡ st → StandsIn st (run_of s f.routine) place r.tail (point_of f x.objects)
    stands_by st e = subst (λ st. StandsIn st (run_of s f.routine) place r.tail (point_of f x.objects)) e r.stands

    -- ---- reserve steps

    entry_goes_on : (ks : List ℕ) → f.stage ≡ Reserves → IsFrame s x.objects (record f { stage = Runs; reserved = ks }) (record g { activation = entry_granted ks g.activation })
    entry_goes_on ks e = record {
      current = r.current;
      routine = r.routine;
      origin = r.origin;
      stage = refl;
      tail = r.tail;
      state = r.state;
      stands = stands_by Reserves e;
      depth = r.depth;
      reserved = refl;
      blocks = r.blocks;
    }

    block_goes_on : (ks : List ℕ) → f.stage ≡ ReservesBlock → IsFrame s x.objects (record f { stage = Runs; blocks = ks ∷ f.blocks }) (record g { activation = block_granted ks g.activation })
    block_goes_on ks e = record {
      current = r.current;
      routine = r.routine;
      origin = r.origin;
      stage = refl;
      tail = r.tail;
      state = r.state;
      stands = stands_by ReservesBlock e;
      depth = r.depth;
      reserved = r.reserved;
      blocks = reverse-append g.activation.blocks (ks ∷ []) ∙ ap (λ l. ks ∷ l) r.blocks;
    }

    grants_in : (ks : List ℕ) (st : Stage) → f.stage ≡ st →
        IsRegionOf s (takes_grant st ks f below (with_stack (f ∷ below) x)) (granted_in (Some (stage_of st)) ks (record y { frames = g ∷ gs }))
    grants_in ks Reserves e = region_with (record f { stage = Runs; reserved = ks } ∷ below) (record g { activation = entry_granted ks g.activation } ∷ gs) (entry_goes_on ks e, rs)
    grants_in ks ReservesBlock e =
        region_with (record f { stage = Runs; blocks = ks ∷ f.blocks } ∷ below) (record g { activation = block_granted ks g.activation } ∷ gs) (block_goes_on ks e, rs)
    grants_in ks Runs e = still_fails s x y cause.BadCode region
    grants_in ks (InCall gives) e = still_fails s x y cause.BadCode region
    grants_in ks (Awaits k gives is_creation) e = still_fails s x y cause.BadCode region

    -- ---- answers

    goes_on_without : StandsWith (run_of s f.routine) place r.tail None (point_of f x.objects) → IsFrame s x.objects (record f { stage = Runs }) (record g { activation = runs g.activation })
    goes_on_without stands = record {
      current = r.current;
      routine = r.routine;
      origin = r.origin;
      stage = refl;
      tail = r.tail;
      state = r.state;
      stands = stands;
      depth = r.depth;
      reserved = r.reserved;
      blocks = r.blocks;
    }

    goes_on_with : (w : Value) (t : EntityType) → StandsWith (run_of s f.routine) place r.tail (Some t) (point_of f x.objects) →
        length g.activation.operands.values < g.activation.operands.depth →
        IsFrame s x.objects (record f { stage = Runs; values = operand (value_of w) t ∷ f.values }) (record g { activation = handed_value w (runs g.activation) })
    goes_on_with w t stands room =
        let with_value : PlainActivation = record g.activation { stage = stage.Runs; operands = record g.activation.operands { values = w ∷ g.activation.operands.values } } in
        subst (λ b. IsFrame s x.objects (record f { stage = Runs; values = operand (value_of w) t ∷ f.values }) (record g { activation = if b then with_value else runs g.activation }))
        (sym (less_is (length g.activation.operands.values) g.activation.operands.depth room))
        (record {
          current = r.current;
          routine = r.routine;
          origin = r.origin;
          stage = refl;
          tail = r.tail;
          state = ap (λ (st : State). record st { values = value_of w ∷ st.values }) r.state;
          stands = stands (value_of w);
          depth = r.depth;
          reserved = r.reserved;
          blocks = r.blocks;
        })

    goes_on_by : (t : EntityType) (v : Option Value) → StandsWith (run_of s f.routine) place r.tail (Some t) (point_of f x.objects) →
        (is_some v ≡ true) × (length g.activation.operands.values < g.activation.operands.depth) →
        IsFrame s x.objects (model.handed_as (Some t) (option_map value_of v) f) (record g { activation = handed_as true v (runs g.activation) })
    goes_on_by t None stands takes = let no = takes.0 in cc
    goes_on_by t (Some w) stands takes = goes_on_with w t stands takes.1

    replies_in : (v : Option Value) (st : Stage) → f.stage ≡ st → TakesAnswer v (g ∷ gs) →
        IsRegionOf s (takes_reply st (option_map value_of v) f below (with_stack (f ∷ below) x)) (replied_in (Some (stage_of st)) v (record y { frames = g ∷ gs }))
    replies_in v Runs e takes = region_with (f ∷ below) (g ∷ gs) (r, rs)
    replies_in v Reserves e takes = still_fails s x y cause.BadCode region
    replies_in v ReservesBlock e takes = still_fails s x y cause.BadCode region
    replies_in v (InCall gives) e takes = still_fails s x y cause.BadCode region
    replies_in v (Awaits k None is_creation) e takes =
        region_with (record f { stage = Runs } ∷ below) (record g { activation = runs g.activation } ∷ gs) (goes_on_without (stands_by (Awaits k None is_creation) e), rs)
    replies_in v (Awaits k (Some t) is_creation) e takes =
        region_with (model.handed_as (Some t) (option_map value_of v) f ∷ below) (record g { activation = handed_as true v (runs g.activation) } ∷ gs)
        (goes_on_by t v (stands_by (Awaits k (Some t) is_creation) e) (takes k is_creation (r.stage ∙ ap stage_of e)), rs)

  grants : (ks : List ℕ) (h : ℕ) (fs : List Frame) (gs : List PlainFrame) → AreFrames s x.objects fs gs →
      IsRegionOf s (begins s h (Granted ks) fs (with_stack fs x)) (granted ks (record y { frames = gs }))
  grants ks h [] [] a = still_fails s x y cause.BadCode region
  grants ks h (f ∷ fs) (g ∷ gs) a =
      subst (λ st. IsRegionOf s (takes_grant f.stage ks f fs (with_stack (f ∷ fs) x)) (granted_in (Some st) ks (record y { frames = g ∷ gs }))) (sym a.0.stage)
      (grants_in f fs g gs a.0 a.1 ks f.stage refl)
  grants ks h [] (g ∷ gs) a = absurd a
  grants ks h (f ∷ fs) [] a = absurd a

  replies : (v : Option Value) (h : ℕ) (fs : List Frame) (gs : List PlainFrame) → AreFrames s x.objects fs gs → TakesAnswer v gs →
      IsRegionOf s (begins s h (Replied (option_map value_of v)) fs (with_stack fs x)) (replied v (record y { frames = gs }))
  replies v h [] [] a takes = still_fails s x y cause.BadCode region
  replies v h (f ∷ fs) (g ∷ gs) a takes =
      subst (λ st. IsRegionOf s (takes_reply f.stage (option_map value_of v) f fs (with_stack (f ∷ fs) x)) (replied_in (Some st) v (record y { frames = g ∷ gs }))) (sym a.0.stage)
      (replies_in f fs g gs a.0 a.1 v f.stage refl takes)
  replies v h [] (g ∷ gs) a takes = absurd a
  replies v h (f ∷ fs) [] a takes = absurd a

pub grants_are_taken : GrantsAreTaken
grants_are_taken ks y s h x is region = grants s x y region ks h x.stack y.frames region.frames

pub answers_are_taken : AnswersAreTaken
answers_are_taken v y takes s h x is region = replies s x y region v h x.stack y.frames region.frames takes
