-- Visible operations after which the routine goes on.
use Rattle.std.proofs.Common.{◌≡◌, ℕ, ◌+◌, ◌-◌, ◌<◌, ◌^◌, List, ◌∷◌, Option, Some, None, length, reverse, refl, sym, ap, ◌∙◌, subst, arith}
use Rattle.std.specs.Fmt.{signed_decimal}
use Rattle.std.specs.Prelude.{slice_get}
use Rattle.std.specs.Option.{option_and_then}
use Rattle.sc_tree.specs.Plain.{System}
use Rattle.sc_typing.specs.FeatureNumbers.{all_features}
use Rattle.sc_model.specs.Instructions.{boolean_text}
use Rattle.sc_model.specs.Objects.{Object}
use Rattle.sc_model.specs.Routines.{routine_of}
use Rattle.sc_model.specs.Steps as model
use Rattle.sc_model.specs.Steps.{Point, Does}
use Rattle.sc_model.specs.Values.{Value}
use Rattle.sc_model.specs.Handlers.{frame_at}
use Rattle.sc_code.specs.declared.program.Image.{Image}
use Rattle.sc_code.specs.Emitted.{routine_code}
use Rattle.sc_code.specs.Lowered.{run_of}
use Rattle.sc_code.specs.Machine as flat
use Rattle.sc_code.specs.Machine.{State}
use Rattle.sc_code.specs.Programs.{pool_of}
use Rattle.sc_code.specs.Stands.{Run, Seen, Leads, Stands, Tells, told, judged, state_at}
use Rattle.sc_code.proofs.Hops.{within}
use Rattle.sc_region.specs.Frames.{PlainActivation, PlainFrame, frame_with, top_activation}
use Rattle.sc_region.specs.Stores as store
use Rattle.sc_region.specs.Stores.{PlainStore, printed}
use Rattle.sc_acts.specs.declared.act.Act.TheVariants as act
use Rattle.sc_interp.specs.declared.hops.Hop.{Hop}
use Rattle.sc_interp.specs.declared.hops.Hop.TheVariants as hop
use Rattle.sc_interp.specs.Hopping.{state_in}
use Rattle.sc_refines_world.specs.regions.Laws.{ProgramsServe}
use Rattle.sc_interp.specs.Objects.{objects_in}
use Rattle.sc_refines_world.specs.regions.RegionHalves.{IsRegionOf, AreFrames, IsFrame, StandsIn}
use Rattle.sc_refines_world.specs.regions.RegionSteps.{IsProgramFor}
use Rattle.sc_refines_world.specs.regions.RegionTurns.{Half, acts, failed, goes_on, moved, turn, turn_on}
use Rattle.sc_interp.specs.Standing.{Stays, state_of, without}
use Rattle.sc_acts.specs.Tables.{listed}
use Rattle.sc_region.specs.Calls.{on_top, past, top_frame}
use Rattle.sc_acts.specs.Turning.{back, round_ended}
use Rattle.sc_interp.proofs.Behind.{passes}
use Rattle.sc_interp.proofs.SilentMoves.{stays_after}
use Rattle.sc_interp.proofs.Operands.{values_drop}
use Rattle.sc_refines_world.proofs.regions.RegionSame.{still_prints}
use Rattle.sc_refines_world.specs.regions.Acting.{Comes, Meets, IntegersArePrinted, BooleansArePrinted, TextsArePrinted, RoundsEnd, BodiesStart, RoutinesFail}
use Rattle.sc_refines_world.proofs.regions.SilentOperations.{meets}
use Rattle.sc_refines_world.proofs.regions.ShownSteps.{prints_is, until_is, starts_is, fails_is}
use Rattle.sc_refines_world.proofs.regions.ProgramRoutines.{code_at, few_operations, frames_still}

-- ---- flat code

pub act_same : (a b : flat.Act) (f g : State) → flat.Does a f ≡ flat.Does b g → a ≡ b
act_same a b f g e = cc

pub state_same : (a b : flat.Act) (f g : State) → flat.Does a f ≡ flat.Does b g → f ≡ g
state_same a b f g e = cc

tells_within : (g : Run) (place : ℕ) (p : Point) → Tells g place p → place < length g.code.operations
tells_within g place p (told st) = within g place _ p.tasks st
tells_within g place p (judged u us low high e j st) = within g place _ p.tasks st

pub stands_within : (g : Run) (place : ℕ) (tail : List Value) (p : Point) → Stands g place tail p → place < length g.code.operations
stands_within g place tail p st = tells_within g place p st.tells

-- ---- what is left where it was

pub past_stays : (n : ℕ) (a : PlainActivation) → Stays a (past n a)
past_stays n a = record { routine = refl; origin = refl; stage = refl; depth = refl; room = refl; reserved = refl; blocks = refl }

back_stays : (n : ℕ) (a : PlainActivation) → Stays a (back n a)
back_stays n a = record { routine = refl; origin = refl; stage = refl; depth = refl; room = refl; reserved = refl; blocks = refl }

-- the last operand is gone, and the operation comes that is so many back
back_is : (n : ℕ) (objects : List Object) (a : PlainActivation) →
    flat.Does flat.Until (record (without 1 (state_of objects a)) { place = a.place - n }) ≡ flat.Does flat.Until (state_of objects (back n a))
back_is n objects a =
    ap (λ vs. flat.Does flat.Until (record (state_of objects a) { place = a.place - n; values = vs })) (sym (values_drop 1 a.operands.values))

module _ (s : System) (x : Half) (o : Hop) (y z : PlainStore) (is : IsProgramFor s y.program) (region : IsRegionOf s x y) (comes : Comes o y z) (m : Meets s x o y z) where
  abbrev pub run : Run
  run = run_of s m.frame.routine

  abbrev pub objects : List Object
  objects = objects_in s z.objects

  -- the half as it is before what the step does to it
  abbrev pub after : Half
  after = record x { objects = m.point.objects; stack = frame_at m.frame m.point ∷ m.below }

  -- the turn is what the step does
  pub turn_is : (h : ℕ) (a : model.Act) → m.step ≡ a → turn s h x ≡ acts s h a (frame_at m.frame m.point) m.below after
  turn_is h a e =
      ap (λ fs. turn_on s h fs x) m.stack
      ∙ ap (λ st. goes_on s h st m.frame m.below x) m.stage
      ∙ ap (λ t. moved s h t m.frame m.below x) (m.moves ∙ ap (λ a. Does a m.point) e)

  pub stays : Stays m.before m.activation
  stays = comes.remains.stays m.before m.activation (ap (λ (fs : List PlainFrame). top_activation fs) m.was) (ap (λ (fs : List PlainFrame). top_activation fs) m.frames)

  -- a number can say the places of the code
  pub few : length (routine_code s m.frame.routine) < 2 ^ 63
  few = few_operations s m.frame.routine y.program m.before.routine (code_at s is.root y.program m.before.routine m.frame.routine is.program m.stood.routine)

  -- the topmost frame, where its routine stands so from now on
  pub frame_stands_with : (os : List Object) (d : PlainActivation) (to : ℕ) (tail : List Value) → Stays m.before d → state_of os d ≡ state_at to tail m.point → Stands run to tail m.point →
      IsFrame s m.point.objects (frame_at m.frame m.point) (frame_with m.current d)
  frame_stands_with os d to tail k e st =
      let at : d.place ≡ to = ap (λ (f : State). f.place) e in
      record {
        current = m.stood.current;
        routine = ap (λ n. option_and_then (routine_of s) (slice_get (all_features s) n)) k.routine ∙ m.stood.routine;
        origin = k.origin ∙ m.stood.origin;
        stage = k.stage ∙ m.stood.stage;
        tail = tail;
        state = ap (λ (f : State). record f { objects = m.point.objects }) e ∙ ap (λ p. state_at p tail m.point) (sym at);
        stands = subst (λ stage. StandsIn stage run d.place tail m.point) (sym m.stage) (subst (λ p. Stands run p tail m.point) (sym at) st);
        depth = k.depth ∙ m.stood.depth;
        reserved = k.reserved ∙ m.stood.reserved;
        blocks = ap reverse k.blocks ∙ m.stood.blocks;
      }

  -- the store, where its routine stands so from now on
  pub region_after : (φ : PlainActivation → PlainActivation) (to : ℕ) (tail : List Value) → Stays m.activation (φ m.activation) →
      state_of objects (φ m.activation) ≡ m.state → m.state ≡ state_at to tail m.point → Stands run to tail m.point → IsRegionOf s after (on_top φ z)
  region_after φ to tail k e leads st =
      let same = e ∙ leads in
      let top = frame_stands_with objects (φ m.activation) to tail (stays_after m.before m.activation (φ m.activation) stays k) same st in
      record {
        objects = ap (λ (f : State). f.objects) same;
        frames = subst (λ fs. AreFrames s m.point.objects (frame_at m.frame m.point ∷ m.below) (top_frame φ fs)) (sym m.frames)
            (top, frames_still s x.objects m.point.objects m.below m.rest m.others);
        output = comes.remains.output ∙ region.output;
        failure = comes.remains.failure ∙ region.failure;
      }

  -- after a visible operation that takes so many operands
  pub region_past : (shown : flat.Act) (n : ℕ) (to : ℕ) (tail : List Value) → flat.does shown (without n (state_in s z m.activation)) ≡ flat.Does m.shown m.state →
      m.state ≡ state_at to tail m.point → Stands run to tail m.point → IsRegionOf s after (on_top (past n) z)
  region_past shown n to tail does leads st =
      let next : m.activation.place + 1 ≡ to = ap (λ (f : State). f.place) (state_same shown m.shown _ m.state does ∙ leads) in
      let inside = stands_within run to tail m.point st in
      let room : m.activation.place < 18446744073709551615 = omega (arith, next, inside, few) in
      region_after (past n) to tail (past_stays n m.activation)
      (state_same shown m.shown _ m.state (sym (passes shown n objects m.activation room) ∙ does)) leads st

module _ (serve : ProgramsServe) where
  printed_text : (o : Hop) (text : List ℕ) (n : ℕ) (y z : PlainStore) (s : System) (h : ℕ) (x : Half) → IsProgramFor s y.program → IsRegionOf s x y → Comes o y z →
      (m : Meets s x o y z) → flat.does (flat.Prints text) (without n (state_in s z m.activation)) ≡ flat.Does m.shown m.state →
      IsRegionOf s (turn s h x) (on_top (past n) (printed text z))
  printed_text o text n y z s h x is region comes m does =
      let shown = act_same (flat.Prints text) m.shown _ m.state does in
      let step = prints_is m.last.environment m.point.environment m.step text (subst (λ a. Seen m.last.environment m.point.environment m.step a) (sym shown) m.seen) in
      let leads = subst (λ a. Leads (run_of s m.frame.routine) a m.point m.state) step m.leads in
      subst (λ half. IsRegionOf s half (on_top (past n) (printed text z))) (sym (turn_is s x o y z is region comes m h (model.Prints text) step))
      (still_prints s (after s x o y z is region comes m) (on_top (past n) z) text
      (region_past s x o y z is region comes m (flat.Prints text) n leads.0 leads.1 does leads.2 leads.3))

  pub integers_are_printed : IntegersArePrinted
  integers_are_printed v y z comes s h x is region =
      let m = meets serve s x (hop.Comes (act.PrintInteger v)) y z is region comes in
      printed_text (hop.Comes (act.PrintInteger v)) (signed_decimal v) 1 y z s h x is region comes m m.does

  pub booleans_are_printed : BooleansArePrinted
  booleans_are_printed b y z comes s h x is region =
      let m = meets serve s x (hop.Comes (act.PrintBoolean b)) y z is region comes in
      printed_text (hop.Comes (act.PrintBoolean b)) (boolean_text b) 1 y z s h x is region comes m m.does

  pub texts_are_printed : TextsArePrinted
  texts_are_printed k y z comes s h x is region =
      let m = meets serve s x (hop.Comes (act.PrintText k)) y z is region comes in
      subst (λ (p : Image). IsRegionOf s (turn s h x) (on_top (past 0) (printed (listed (pool_of p.pool).texts k) z))) (sym comes.remains.program)
      (printed_text (hop.Comes (act.PrintText k)) (listed (pool_of y.program.pool).texts k) 0 y z s h x is region comes m m.does)

  tested : (n : Option ℕ) (y z : PlainStore) (s : System) (h : ℕ) (x : Half) → IsProgramFor s y.program → IsRegionOf s x y →
      (comes : Comes (hop.Comes (act.Until n)) y z) → (m : Meets s x (hop.Comes (act.Until n)) y z) → (f : State) → flat.Does flat.Until f ≡ flat.Does m.shown m.state →
      ((to : ℕ) (tail : List Value) → m.state ≡ state_at to tail m.point → Stands (run_of s m.frame.routine) to tail m.point →
      IsRegionOf s (record x { objects = m.point.objects; stack = frame_at m.frame m.point ∷ m.below }) (on_top (round_ended n) z)) →
      IsRegionOf s (turn s h x) (on_top (round_ended n) z)
  tested n y z s h x is region comes m f does next =
      let shown = act_same flat.Until m.shown f m.state does in
      let step = until_is m.last.environment m.point.environment m.step (subst (λ a. Seen m.last.environment m.point.environment m.step a) (sym shown) m.seen) in
      let leads = subst (λ a. Leads (run_of s m.frame.routine) a m.point m.state) step m.leads in
      subst (λ half. IsRegionOf s half (on_top (round_ended n) z)) (sym (turn_is s x (hop.Comes (act.Until n)) y z is region comes m h model.Until step))
      (next leads.0 leads.1 leads.2 leads.3)

  pub rounds_end : RoundsEnd
  rounds_end None y z comes s h x is region =
      let m = meets serve s x (hop.Comes (act.Until None)) y z is region comes in
      tested None y z s h x is region comes m _ m.does
      (λ to tail leads st. region_past s x (hop.Comes (act.Until None)) y z is region comes m flat.Until 1 to tail m.does leads st)
  rounds_end (Some n) y z comes s h x is region =
      let m = meets serve s x (hop.Comes (act.Until (Some n))) y z is region comes in
      tested (Some n) y z s h x is region comes m _ m.does
      (λ to tail leads st. region_after s x (hop.Comes (act.Until (Some n))) y z is region comes m (back n) to tail (back_stays n m.activation)
      (state_same flat.Until m.shown _ m.state (sym (back_is n (objects_in s z.objects) m.activation) ∙ m.does)) leads st)

  pub bodies_start : BodiesStart
  bodies_start y z comes s h x is region =
      let o = hop.Comes act.Start in
      let m = meets serve s x o y z is region comes in
      let shown = act_same flat.Starts m.shown _ m.state m.does in
      let step = starts_is m.last.environment m.point.environment m.step (subst (λ a. Seen m.last.environment m.point.environment m.step a) (sym shown) m.seen) in
      let leads = subst (λ a. Leads (run_of s m.frame.routine) a m.point m.state) step m.leads in
      subst (λ half. IsRegionOf s half (on_top (past 0) z)) (sym (turn_is s x o y z is region comes m h model.Starts step))
      (region_past s x o y z is region comes m flat.Starts 0 leads.0 leads.1 m.does leads.2 leads.3)

  pub routines_fail : RoutinesFail
  routines_fail why y z comes s h x is region =
      let o = hop.Failed why in
      let m = meets serve s x o y z is region comes in
      let shown = act_same (flat.Fails why) m.shown _ m.state m.does in
      let step = fails_is m.last.environment m.point.environment m.step why (subst (λ a. Seen m.last.environment m.point.environment m.step a) (sym shown) m.seen) in
      let leads : m.state.objects ≡ m.point.objects = subst (λ a. Leads (run_of s m.frame.routine) a m.point m.state) step m.leads in
      let after : IsRegionOf s (failed why (record x { objects = m.point.objects; stack = frame_at m.frame m.point ∷ m.below })) (store.failed why z) = record {
        objects = ap (λ (f : State). f.objects) (state_same (flat.Fails why) m.shown _ m.state m.does) ∙ leads;
        frames = tt;
        output = comes.remains.output ∙ region.output;
        failure = refl;
      } in
      subst (λ half. IsRegionOf s half (store.failed why z)) (sym (turn_is s x o y z is region comes m h (model.Fails why) step)) after
