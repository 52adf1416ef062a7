-- Clauses of preconditions that are false and waited for.
use Rattle.std.proofs.Common.{◌≡◌, ℕ, ◌+◌, true, [], ◌∷◌, length, reverse, refl, sym, ap, ◌∙◌, subst, length-append}
use Rattle.std.proofs.lemmas.List.{length-map}
use Rattle.std.specs.Option.{option_map, option_and_then}
use Rattle.std.specs.Prelude.{if◌then◌else◌, slice_get}
use Rattle.sc_tree.specs.Plain.{System}
use Rattle.sc_typing.specs.FeatureNumbers.{all_features}
use Rattle.sc_model.specs.Environments.{Binding}
use Rattle.sc_model.specs.Handlers.{Frame, Reserves, frame_at, point_of}
use Rattle.sc_model.specs.Routines.{routine_of}
use Rattle.sc_model.specs.Steps as model
use Rattle.sc_model.specs.Steps.{Point}
use Rattle.sc_model.specs.Tasks.{tasks_of}
use Rattle.sc_model.specs.Values.{Operand}
use Rattle.sc_code.specs.Lowered.{Beginning, run_of}
use Rattle.sc_code.specs.Machine.{State}
use Rattle.sc_code.specs.Stands.{Run, Stands, values_in}
use Rattle.sc_code.proofs.TypingRoutines.{routines_stand}
use Rattle.sc_region.specs.Frames.{frame_with, top_activation}
use Rattle.sc_region.specs.Stores.{PlainStore}
use Rattle.sc_acts.specs.declared.act.Act.TheVariants as act
use Rattle.sc_interp.specs.declared.hops.Hop.TheVariants as hop
use Rattle.sc_interp.specs.Hopping.{state_in}
use Rattle.sc_refines_world.specs.regions.Laws.{ProgramsServe}
use Rattle.sc_acts.specs.Refusing.{is_waited_for, refused, refused_as, waiting}
use Rattle.sc_refines_world.specs.regions.RegionHalves.{IsRegionOf, IsFrame, StandsIn}
use Rattle.sc_refines_world.specs.regions.RegionSteps.{IsProgramFor}
use Rattle.sc_refines_world.specs.regions.RegionTurns.{Half, false_clause, turn, waits_again}
use Rattle.sc_acts.specs.Tables.{formals_at}
use Rattle.sc_region.specs.Calls.{on_top}
use Rattle.sc_interp.specs.Values.{reference_of, values_of}
use Rattle.sc_refines_world.specs.regions.Acting.{Comes, Meets}
use Rattle.sc_refines_world.specs.regions.Waiting.{IsInContract, IsVersion, IsWaitedFor, RefusesInContract, RoutinesWait}
use Rattle.sc_refines_world.proofs.regions.SilentOperations.{meets, runs_in}
use Rattle.sc_refines_world.proofs.regions.PassedOperations.{stays, turn_is}
use Rattle.sc_refines_world.proofs.regions.Refusals.{Refusal, refusal, verdict_is}
use Rattle.sc_refines_world.proofs.regions.Slots.{silent_slots, visible_slots}
use Rattle.sc_refines_world.proofs.regions.ProgramRoutines.{frames_still}

module _ (serve : ProgramsServe) (s : System) (x : Half) (k : ℕ) (y z : PlainStore) (is : IsProgramFor s y.program) (region : IsRegionOf s x y)
    (comes : Comes (hop.Comes (act.Refuse k)) y z) (m : Meets s x (hop.Comes (act.Refuse k)) y z) (r : Refusal s x k y z m) where
  abbrev run : Run
  run = run_of s m.frame.routine

  abbrev after : Half
  after = record x { objects = m.point.objects; stack = frame_at m.frame m.point ∷ m.below }

  -- the frame begins anew
  abbrev anew : Frame
  anew = record (frame_at m.frame m.point) { stage = Reserves; tasks = tasks_of m.frame.routine; values = []; reserved = [] }

  -- ---- slots

  slots_before : length (values_of m.before.slots) ≡ run.slots
  slots_before =
      let st : Stands run m.before.place m.stood.tail (point_of m.frame x.objects) =
      subst (λ stage. StandsIn stage run m.before.place m.stood.tail (point_of m.frame x.objects)) m.stage m.stood.stands in
      ap (λ (f : State). length f.slots) m.stood.state
      ∙ length-append (values_in m.frame.environment) m.stood.tail
      ∙ ap (λ n. n + length m.stood.tail) (length-map m.frame.environment (λ (b : Binding). b.value))
      ∙ st.has_slots

  slots_after : length (values_of m.activation.slots) ≡ run.slots
  slots_after =
      let runs = runs_in s x.objects m.frame (frame_with m.current m.before) m.rest y serve is m.was m.stood in
      let c = comes.comes s run.code m.current m.before m.activation runs (ap top_activation m.frames) in
      visible_slots run.slots s run.code (reference_of m.current) c.1 _ _
      (silent_slots run.slots c.0 s run.code (reference_of m.current) (state_in s y m.before) c.1 slots_before c.2) c.3

  slots_left : length m.point.environment + length r.tail ≡ run.slots
  slots_left =
      sym (ap (λ n. n + length r.tail) (length-map m.point.environment (λ (b : Binding). b.value)))
      ∙ sym (length-append (values_in m.point.environment) r.tail)
      ∙ sym (ap (λ (f : State). length f.slots) r.state)
      ∙ slots_after

  -- ---- the entry

  module _ (version : IsVersion s m.frame.routine) (stands_in : IsInContract s m.frame.routine m.point) where
    begins : Beginning s m.frame.routine (point_of anew m.point.objects) r.tail
    begins = record {
      text = stands_in.text;
      names = stands_in.names;
      result = ap (option_map (λ (u : Operand). u.type)) r.like.1 ∙ m.stands.has_result;
      olds = stands_in.olds;
      tasks = refl;
      values = refl;
      slots = slots_left;
    }

    frame_anew : IsFrame s m.point.objects anew (frame_with m.current (waiting m.activation))
    frame_anew =
        let before = stays s x (hop.Comes (act.Refuse k)) y z is region comes m in
        record {
          current = m.stood.current;
          routine = ap (λ n. option_and_then (routine_of s) (slice_get (all_features s) n)) before.routine ∙ m.stood.routine;
          origin = before.origin ∙ m.stood.origin;
          stage = refl;
          tail = r.tail;
          state = ap (λ (f : State). record f { place = 0; values = []; objects = m.point.objects }) r.state;
          stands = routines_stand s is.root is.faultless is.well_formed version.class version.name m.frame.routine version.found (point_of anew m.point.objects) r.tail begins;
          depth = before.depth ∙ m.stood.depth;
          reserved = refl;
          blocks = ap reverse before.blocks ∙ m.stood.blocks;
        }

    region_anew : IsRegionOf s (waits_again (frame_at m.frame m.point) m.below after) (on_top waiting (record z { frames = frame_with m.current m.activation ∷ m.rest }))
    region_anew = record {
      objects = ap (λ (f : State). f.objects) r.state;
      frames = (frame_anew, frames_still s x.objects m.point.objects m.below m.rest m.others);
      output = comes.remains.output ∙ region.output;
      failure = comes.remains.failure ∙ region.failure;
    }

    region_waits : (h : ℕ) → is_waited_for m.activation (formals_at z.program k) ≡ true → IsRegionOf s (turn s h x) (refused k z)
    region_waits h waited =
        let o = hop.Comes (act.Refuse k) in
        let f = frame_at m.frame m.point in
        let here : PlainStore = record z { frames = frame_with m.current m.activation ∷ m.rest } in
        subst (λ w. IsRegionOf s (turn s h x) (refused k w)) (ap (λ fs. record z { frames = fs }) (sym m.frames))
        (subst (λ b. IsRegionOf s (turn s h x) (if b then on_top waiting here else refused_as m.activation.origin m.current here)) (sym waited)
        (subst (λ half. IsRegionOf s half (on_top waiting here))
        (sym (turn_is s x o y z is region comes m h (model.Refuses r.clause) r.act ∙ ap (λ v. false_clause v s f m.below after) (verdict_is s x k y z m r true waited)))
        region_anew))

pub routines_wait : ProgramsServe → RoutinesWait
routines_wait serve k y z comes waits s h x is region entered =
    let o = hop.Comes (act.Refuse k) in
    let m = meets serve s x o y z is region comes in
    let r = refusal s x k y z is region comes m in
    let first = subst (λ fs. RefusesInContract s x.objects fs) m.stack entered m.stage in
    let stands_in = first.1 r.clause m.point (m.moves ∙ ap (λ a. model.Does a m.point) r.act) in
    region_waits serve s x k y z is region comes m r first.0 stands_in h (subst (λ fs. IsWaitedFor (formals_at z.program k) (top_activation fs)) m.frames waits)
