-- Creators of handlers, as they are told the numbers of those that were made.
use Rattle.std.proofs.Common.{◌≡◌, ℕ, true, false, List, [], ◌∷◌, Option, Some, None, refl, sym, ap, ◌∙◌, subst}
use Rattle.sc_tree.specs.Plain.{System}
use Rattle.sc_rules.specs.declared.entity_types.entity_type.EntityType.{EntityType}
use Rattle.sc_rules.specs.Names.{Entities}
use Rattle.sc_model.specs.Environments.{scope_of}
use Rattle.sc_model.specs.Handlers.{Stage, Runs, Reserves, ReservesBlock, InCall, Awaits, Frame, point_of}
use Rattle.sc_model.specs.Objects.{Object}
use Rattle.sc_model.specs.Steps.{Point}
use Rattle.sc_model.specs.Values as values
use Rattle.sc_model.specs.Values.{Operand, operand}
use Rattle.sc_code.specs.Lowered.{run_of}
use Rattle.sc_code.specs.Machine.{State}
use Rattle.sc_code.specs.Stands as stands
use Rattle.sc_code.specs.Stands.{IsJudged, Judged, Known, Run, Stands, StandsFor, StandsWith, Tells, judged, types_of}
use Rattle.sc_region.specs.declared.frame.Stage.TheVariants as stage
use Rattle.sc_region.specs.declared.value.Value.{Value}
use Rattle.sc_region.specs.declared.value.Value.TheVariants.{Integer, Boolean, Void, Attached}
use Rattle.sc_region.specs.Frames.{PlainFrame}
use Rattle.sc_refines_world.specs.regions.RegionHalves.{IsRegionOf, AreFrames, IsFrame, StandsIn, stage_of}
use Rattle.sc_refines_world.specs.regions.RegionTurns as half
use Rattle.sc_refines_world.specs.regions.RegionTurns.{Made, begins, takes_made, with_stack}
use Rattle.sc_interp.specs.Standing.{state_of}
use Rattle.sc_region.specs.Calls.{on_top}
use Rattle.sc_interp.specs.Values.{value_of, values_of}
use Rattle.sc_acts.proofs.Options.{none_some, some_same}
use Rattle.sc_play.specs.Answering.{runs, told, told_on, told_value, told_values, top_stage}
use Rattle.sc_refines_world.specs.regions.Making.{CreatorsAreTold, MadeAreAnswers}

-- ---- operands

value_told : (k : ℕ) (v : Value) → value_of (told_value k v) ≡ half.told_value k (value_of v)
value_told k (Attached r) = refl
value_told k (Integer z) = refl
value_told k (Boolean b) = refl
value_told k Void = refl

first_same : (v w : values.Value) (vs ws : List values.Value) → v ∷ vs ≡ w ∷ ws → v ≡ w
first_same v w vs ws e = cc

others_same : (v w : values.Value) (vs ws : List values.Value) → v ∷ vs ≡ w ∷ ws → vs ≡ ws
others_same v w vs ws e = cc

values_told : (k : ℕ) (vs : List Value) (us : List Operand) → values_of vs ≡ values.values_of us → values_of (told_values k vs) ≡ values.values_of (half.told k us)
values_told k [] [] e = refl
values_told k [] (u ∷ us) e = cc
values_told k (v ∷ vs) [] e = cc
values_told k (v ∷ vs) (u ∷ us) e =
    ap (λ w. w ∷ values_of vs) (value_told k v ∙ ap (half.told_value k) (first_same (value_of v) u.value (values_of vs) (values.values_of us) e))
    ∙ ap (λ ws. half.told_value k u.value ∷ ws) (others_same (value_of v) u.value (values_of vs) (values.values_of us) e)

types_told : (k : ℕ) (us : List Operand) → types_of (half.told k us) ≡ types_of us
types_told k [] = refl
types_told k (u ∷ us) = refl

judged_told : (k : ℕ) (low high : Entities) (v : values.Value) (n : Entities) → IsJudged low high v n → IsJudged low high (half.told_value k v) n
judged_told k low high (values.Boolean b) n j = j
judged_told k low high (values.Integer z) n j = j
judged_told k low high values.Void n j = j
judged_told k low high (values.Attached r) n j = j

-- ---- places

first_operand : (u v : Operand) (us vs : List Operand) → u ∷ us ≡ v ∷ vs → u ≡ v
first_operand u v us vs e = cc

other_operands : (u v : Operand) (us vs : List Operand) → u ∷ us ≡ v ∷ vs → us ≡ vs
other_operands u v us vs e = cc

module _ (k : ℕ) (g : Run) (place : ℕ) (tail : List values.Value) (p : Point) where
  abbrev after : Point
  after = record p { values = half.told k p.values }

  tells_told : Tells g place p → Tells g place after
  tells_told (stands.told st) = stands.told (subst (λ ts. StandsFor g place (Known p.text (scope_of p.environment) (types_of p.olds) ts) p.tasks) (sym (types_told k p.values)) st)
  tells_told (judged u us low high e j st) =
      judged (record u { value = half.told_value k u.value }) us low high (ap (half.told k) e) (judged_told k low high u.value (scope_of p.environment) j) st

  stands_told : Stands g place tail p → Stands g place tail after
  stands_told st = record { tells = tells_told st.tells; has_slots = st.has_slots; has_result = st.has_result }

  module _ (v : values.Value) (t : EntityType) where
    abbrev given : List Operand → Point
    given us = record p { values = operand v t ∷ us }

    tells_under : Tells g place (given p.values) → Tells g place (given (half.told k p.values))
    tells_under (stands.told st) =
        stands.told (subst (λ ts. StandsFor g place (Known p.text (scope_of p.environment) (types_of p.olds) (t ∷ ts)) p.tasks) (sym (types_told k p.values)) st)
    tells_under (judged u us low high e j st) =
        judged u (half.told k p.values) low high (ap (λ u. u ∷ half.told k p.values) (first_operand (operand v t) u p.values us e)) j
        (subst (λ ts. StandsFor g place (Judged p.text low high (types_of p.olds) ts) p.tasks)
        (ap types_of (sym (other_operands (operand v t) u p.values us e)) ∙ sym (types_told k p.values)) st)

    stands_under : Stands g place tail (given p.values) → Stands g place tail (given (half.told k p.values))
    stands_under st = record { tells = tells_under st.tells; has_slots = st.has_slots; has_result = st.has_result }

  stands_with_told : (gives : Option EntityType) → StandsWith g place tail gives p → StandsWith g place tail gives after
  stands_with_told None st = stands_told st
  stands_with_told (Some t) st = λ v. stands_under v t (st v)

  stands_in_told : (st : Stage) → StandsIn st g place tail p → StandsIn st g place tail after
  stands_in_told Runs st = stands_told st
  stands_in_told Reserves st = stands_told st
  stands_in_told ReservesBlock st = stands_told st
  stands_in_told (InCall gives) st = stands_with_told gives st
  stands_in_told (Awaits j gives is_creation) st = stands_with_told gives st

-- ---- frames

abbrev told_frame : ℕ → Frame → Frame
told_frame k f = record f { values = half.told k f.values }

frame_told : (k : ℕ) (s : System) (os : List Object) (f : Frame) (g : PlainFrame) → IsFrame s os f g → IsFrame s os (told_frame k f) (record g { activation = told_on k g.activation })
frame_told k s os f g r =
    let vs = values_told k g.activation.operands.values f.values (ap (λ (st : State). st.values) r.state) in
    record {
      current = r.current;
      routine = r.routine;
      origin = r.origin;
      stage = r.stage;
      tail = r.tail;
      state = ap (λ vs. record (state_of os g.activation) { values = vs }) vs ∙ ap (λ (st : State). record st { values = values.values_of (half.told k f.values) }) r.state;
      stands = stands_in_told k (run_of s f.routine) g.activation.place r.tail (point_of f os) f.stage r.stands;
      depth = r.depth;
      reserved = r.reserved;
      blocks = r.blocks;
    }

pub creators_are_told : CreatorsAreTold
creators_are_told k y s x region = by x.stack y.frames region.frames
  where
    with_frames : (fs : List Frame) (gs : List PlainFrame) → AreFrames s x.objects fs gs → IsRegionOf s (with_stack fs x) (record y { frames = gs })
    with_frames fs gs a = record { objects = region.objects; frames = a; output = region.output; failure = region.failure }

    by : (fs : List Frame) (gs : List PlainFrame) → AreFrames s x.objects fs gs → IsRegionOf s (with_stack (half.told_frames k fs) x) (told k (record y { frames = gs }))
    by [] [] a = with_frames [] [] tt
    by (f ∷ fs) (g ∷ gs) a = with_frames (told_frame k f ∷ fs) (record g { activation = told_on k g.activation } ∷ gs) (frame_told k s x.objects f g a.0, a.1)
    by [] (g ∷ gs) a = absurd a
    by (f ∷ fs) [] a = absurd a

-- ---- answers

awaits_is : (st : Stage) (j : ℕ) → stage_of st ≡ stage.Awaits j false true → (i : ℕ) × (st ≡ Awaits i None true)
awaits_is (Awaits i None true) j e = (i, refl)
awaits_is (Awaits i None false) j e = cc
awaits_is (Awaits i (Some t) is_creation) j e = cc
awaits_is Runs j e = cc
awaits_is Reserves j e = cc
awaits_is ReservesBlock j e = cc
awaits_is (InCall gives) j e = cc

frame_answered : (s : System) (os : List Object) (f : Frame) (g : PlainFrame) (i : ℕ) → f.stage ≡ Awaits i None true → IsFrame s os f g →
    IsFrame s os (record f { stage = Runs }) (record g { activation = runs g.activation })
frame_answered s os f g i e r = record {
  current = r.current;
  routine = r.routine;
  origin = r.origin;
  stage = refl;
  tail = r.tail;
  state = r.state;
  stands = subst (λ st. StandsIn st (run_of s f.routine) g.activation.place r.tail (point_of f os)) e r.stands;
  depth = r.depth;
  reserved = r.reserved;
  blocks = r.blocks;
}

pub made_are_answers : MadeAreAnswers
made_are_answers h j k y s x region e = by x.stack y.frames region.frames e
  where
    with_frames : (fs : List Frame) (gs : List PlainFrame) → AreFrames s x.objects fs gs → IsRegionOf s (with_stack fs x) (record y { frames = gs })
    with_frames fs gs a = record { objects = region.objects; frames = a; output = region.output; failure = region.failure }

    by : (fs : List Frame) (gs : List PlainFrame) → AreFrames s x.objects (half.told_frames k fs) gs → top_stage (record y { frames = gs }) ≡ Some (stage.Awaits j false true) →
        IsRegionOf s (begins s h (Made k) fs x) (on_top runs (record y { frames = gs }))
    by [] [] a e = none_some (stage.Awaits j false true) e
    by (f ∷ fs) (g ∷ gs) a e =
        let st = awaits_is f.stage j (sym a.0.stage ∙ some_same g.activation.stage (stage.Awaits j false true) e) in
        subst (λ st. IsRegionOf s (takes_made s h st (told_frame k f) fs x) (on_top runs (record y { frames = g ∷ gs }))) (sym st.1)
        (with_frames (record (told_frame k f) { stage = Runs } ∷ fs) (record g { activation = runs g.activation } ∷ gs) (frame_answered s x.objects (told_frame k f) g st.0 st.1 a.0, a.1))
    by [] (g ∷ gs) a e = absurd a
    by (f ∷ fs) [] a e = absurd a
