-- Visible operations after which the routine waits, or a separate block begins or ends.
use Rattle.std.proofs.Common.{◌≡◌, ℕ, zero, suc, ◌+◌, ◌-◌, ◌<◌, Bool, true, false, List, [], ◌∷◌, ◌++◌, Option, Some, None, drop, take, is_some, length, reverse, refl, sym, ap, ◌∙◌, subst, arith}
use Rattle.std.proofs.lemmas.List.{reverse-append}
use Rattle.std.specs.Prelude.{◌||◌, slice_get, slice_set}
use Rattle.std.specs.Option.{option_map, option_and_then}
use Rattle.sc_tree.specs.Plain.{System}
use Rattle.sc_typing.specs.FeatureNumbers.{all_features}
use Rattle.sc_rules.specs.declared.entity_types.entity_type.EntityType.{EntityType}
use Rattle.sc_model.specs.declared.cause.Cause.TheVariants as cause
use Rattle.sc_model.specs.Asking.{awaits_if}
use Rattle.sc_model.specs.Handlers.{Stage, ReservesBlock, Awaits, Frame, frame_at}
use Rattle.sc_model.specs.Objects.{Object}
use Rattle.sc_model.specs.Routines.{routine_of}
use Rattle.sc_model.specs.Steps as model
use Rattle.sc_model.specs.Steps.{Point}
use Rattle.sc_model.specs.Values as values
use Rattle.sc_model.specs.Values.{Operand, operand}
use Rattle.sc_code.specs.Emitted.{routine_code}
use Rattle.sc_code.specs.Lowered.{run_of}
use Rattle.sc_code.specs.Machine as flat
use Rattle.sc_code.specs.Machine.{State}
use Rattle.sc_code.specs.Stands.{Run, Leads, Seen, Stands, StandsWith, state_at}
use Rattle.sc_region.specs.declared.frame.Stage.TheVariants as stage
use Rattle.sc_region.specs.declared.value.Value.{Value}
use Rattle.sc_region.specs.Frames.{PlainActivation, frame_with, top_activation}
use Rattle.sc_region.specs.Stores as store
use Rattle.sc_region.specs.Stores.{PlainStore}
use Rattle.sc_acts.specs.declared.act.Act.TheVariants as act
use Rattle.sc_interp.specs.declared.hops.Hop.{Hop}
use Rattle.sc_interp.specs.declared.hops.Hop.TheVariants as hop
use Rattle.sc_acts.specs.Creating.{with_reference, without_last}
use Rattle.sc_region.specs.Calls.{last_values, taken, next_place, on_top, past, top_frame}
use Rattle.sc_interp.specs.Hopping.{state_in}
use Rattle.sc_refines_world.specs.regions.Laws.{ProgramsServe}
use Rattle.sc_interp.specs.Objects.{objects_in}
use Rattle.sc_refines_world.specs.regions.RegionHalves.{IsRegionOf, AreFrames, IsFrame, StandsIn, gives_value, stage_of}
use Rattle.sc_refines_world.specs.regions.RegionSteps.{IsProgramFor}
use Rattle.sc_refines_world.specs.regions.RegionTurns.{Half, creates_handler, leaves_block, with_stack}
use Rattle.sc_interp.specs.Standing as standing
use Rattle.sc_interp.specs.Standing.{actuals, state_of, without}
use Rattle.sc_acts.specs.Tables.{name_at}
use Rattle.sc_interp.specs.Values.{reference_of, value_of, values_of}
use Rattle.sc_interp.proofs.Behind.{passes}
use Rattle.sc_refines_world.specs.regions.Acting.{BlocksBegin, BlocksEnd, Comes, HandlersAreCreated, HasBlock, HasNoBlock, Meets, NoBlockEnds, RequestsAreMade, awaiting_if, closing, creating, first_object, opening, sending, written}
use Rattle.sc_refines_world.proofs.regions.SilentOperations.{meets}
use Rattle.sc_refines_world.proofs.regions.PassedOperations.{act_same, few, stands_within, state_same, stays, turn_is}
use Rattle.sc_refines_world.proofs.regions.ShownSteps.{leaves_is}
use Rattle.sc_refines_world.proofs.regions.ProgramRoutines.{frames_still}
use Rattle.sc_acts.specs.CreatingHandlers.{creation_with}
use Rattle.sc_acts.specs.Requesting.{call_of}
use Rattle.sc_refines_world.proofs.regions.SeenRequests.{creates_handler_is, requests_is, opens_is}

-- ---- places

-- with a value or without, the place lies in the code
pub with_within : (g : Run) (place : ℕ) (tail : List values.Value) (t : Option EntityType) (p : Point) → StandsWith g place tail t p → place < length g.code.operations
with_within g place tail None p st = stands_within g place tail p st
with_within g place tail (Some t) p st = stands_within g place tail (record p { values = operand values.Void t ∷ p.values }) (st values.Void)

-- ---- frames

-- What the stage of a routine may be changed with.
pub record Moved (a b : PlainActivation) : Type 0 where
  pub routine : b.routine ≡ a.routine
  pub origin : b.origin ≡ a.origin
  pub depth : b.operands.depth ≡ a.operands.depth
  pub reserved : b.reserved ≡ a.reserved

module _ (s : System) (x : Half) (o : Hop) (y z : PlainStore) (is : IsProgramFor s y.program) (region : IsRegionOf s x y) (comes : Comes o y z) (m : Meets s x o y z) where
  abbrev run : Run
  run = run_of s m.frame.routine

  abbrev after : Half
  after = record x { objects = m.point.objects; stack = frame_at m.frame m.point ∷ m.below }

  -- the frame in this stage, with these operands and open blocks
  abbrev frame_in : Stage → List Operand → List (List ℕ) → Frame
  frame_in st us blocks = record (frame_at m.frame m.point) { stage = st; values = us; blocks = blocks }

  pub frame_stands : (os : List Object) (st : Stage) (us : List Operand) (blocks : List (List ℕ)) (d : PlainActivation) (to : ℕ) (tail : List values.Value) → Moved m.activation d → d.stage ≡ stage_of st →
      reverse d.blocks ≡ blocks → state_of os d ≡ state_at to tail (record m.point { values = us }) →
      StandsIn st run to tail (record m.point { values = us }) → IsFrame s m.point.objects (frame_in st us blocks) (frame_with m.current d)
  frame_stands os st us blocks d to tail k in_stage lists e stands =
      let at : d.place ≡ to = ap (λ (f : State). f.place) e in
      let before = stays s x o y z is region comes m in
      record {
        current = m.stood.current;
        routine = ap (λ n. option_and_then (routine_of s) (slice_get (all_features s) n)) (k.routine ∙ before.routine) ∙ m.stood.routine;
        origin = k.origin ∙ before.origin ∙ m.stood.origin;
        stage = in_stage;
        tail = tail;
        state = ap (λ (f : State). record f { objects = m.point.objects }) e ∙ ap (λ p. state_at p tail (record m.point { values = us })) (sym at);
        stands = subst (λ p. StandsIn st run p tail (record m.point { values = us })) (sym at) stands;
        depth = k.depth ∙ before.depth ∙ m.stood.depth;
        reserved = k.reserved ∙ before.reserved ∙ m.stood.reserved;
        blocks = lists;
      }

  pub region_in : (st : Stage) (us : List Operand) (blocks : List (List ℕ)) (φ : PlainActivation → PlainActivation) (to : ℕ) (tail : List values.Value) → Moved m.activation (φ m.activation) →
      (φ m.activation).stage ≡ stage_of st → reverse (φ m.activation).blocks ≡ blocks →
      state_of (objects_in s z.objects) (φ m.activation) ≡ state_at to tail (record m.point { values = us }) → StandsIn st run to tail (record m.point { values = us }) →
      IsRegionOf s (with_stack (frame_in st us blocks ∷ m.below) after) (on_top φ z)
  region_in st us blocks φ to tail k in_stage lists e stands = record {
    objects = ap (λ (f : State). f.objects) e;
    frames = subst (λ fs. AreFrames s m.point.objects (frame_in st us blocks ∷ m.below) (top_frame φ fs)) (sym m.frames)
        (frame_stands (objects_in s z.objects) st us blocks (φ m.activation) to tail k in_stage lists e stands, frames_still s x.objects m.point.objects m.below m.rest m.others);
    output = comes.remains.output ∙ region.output;
    failure = comes.remains.failure ∙ region.failure;
  }

  -- the blocks stay open that were
  pub same_blocks : reverse m.activation.blocks ≡ m.frame.blocks
  same_blocks = ap reverse (stays s x o y z is region comes m).blocks ∙ m.stood.blocks

  -- a number can say the next place
  pub next_said : (to : ℕ) → m.activation.place + 1 ≡ to → to < length (routine_code s m.frame.routine) → m.activation.place < 18446744073709551615
  next_said to next inside = omega (arith, next, inside, few s x o y z is region comes m)

  -- after a visible operation that takes so many operands
  pub state_past : (shown : flat.Act) (n : ℕ) (to : ℕ) (tail : List values.Value) → flat.does shown (without n (state_in s z m.activation)) ≡ flat.Does m.shown m.state →
      m.state ≡ state_at to tail m.point → to < length (routine_code s m.frame.routine) →
      state_of (objects_in s z.objects) (past n m.activation) ≡ state_at to tail m.point
  state_past shown n to tail does leads inside =
      let next : m.activation.place + 1 ≡ to = ap (λ (f : State). f.place) (state_same shown m.shown _ m.state does ∙ leads) in
      state_same shown m.shown _ m.state (sym (passes shown n (objects_in s z.objects) m.activation (next_said to next inside)) ∙ does) ∙ leads

-- ---- lists

drop_next : (n : ℕ) (vs : List Value) → drop 1 (drop n vs) ≡ drop (n + 1) vs
drop_next n vs = by n vs ∙ ap (λ k. drop k vs) (one_more n)
  where
    one_more : (n : ℕ) → suc n ≡ n + 1
    one_more n = omega arith

    by : (n : ℕ) (vs : List Value) → drop 1 (drop n vs) ≡ drop (suc n) vs
    by zero vs = refl
    by (suc n) [] = refl
    by (suc n) (v ∷ vs) = by n vs

-- the last of some lists, and those before it
last_off : (xs : List (List ℕ)) → 0 < length xs → (k : List ℕ) × (reverse xs ≡ k ∷ reverse (take (length xs - 1) xs))
last_off [] l = absurd (omega (arith, l))
last_off (x ∷ []) l = (x, refl)
last_off (x ∷ y ∷ xs) l =
    let some : 0 < length (y ∷ xs) = omega arith in
    let rest = last_off (y ∷ xs) some in
    let less : suc (length (y ∷ xs) - 1) ≡ length (x ∷ y ∷ xs) - 1 = omega (arith, some) in (
      rest.0,
      reverse-append (x ∷ []) (y ∷ xs) ∙ ap (λ ks. ks ++ x ∷ []) rest.1
          ∙ ap (λ ks. rest.0 ∷ ks) (sym (reverse-append (x ∷ []) (take (length (y ∷ xs) - 1) (y ∷ xs))))
          ∙ ap (λ n. rest.0 ∷ reverse (take n (x ∷ y ∷ xs))) less,
    )

values_set : (vs : List Value) (k : ℕ) (v : Value) → values_of (slice_set vs k v) ≡ slice_set (values_of vs) k (value_of v)
values_set [] k v = refl
values_set (w ∷ vs) zero v = refl
values_set (w ∷ vs) (suc k) v = ap (λ l. value_of w ∷ l) (values_set vs k v)

values_written : (k : ℕ) (us vs : List Value) → values_of (written k us vs) ≡ flat.written k (values_of us) (values_of vs)
values_written k [] vs = refl
values_written k (u ∷ us) vs = values_written (suc k) us (slice_set vs k u) ∙ ap (flat.written (suc k) (values_of us)) (values_set vs k u)

pub values_taken : (n : ℕ) (us vs : List Value) → values_of (taken n us vs) ≡ standing.taken n (values_of us) (values_of vs)
values_taken zero us vs = refl
values_taken (suc n) us [] = refl
values_taken (suc n) us (v ∷ vs) = values_taken n (v ∷ us) vs

pub gives_some : (t : Option EntityType) → gives_value t ≡ is_some t
gives_some None = refl
gives_some (Some t) = refl

or_right : (a b : Bool) → a || b ≡ false → b ≡ false
or_right true b e = cc
or_right false b e = e

stands_none : (g : Run) (place : ℕ) (tail : List values.Value) (t : Option EntityType) (p : Point) → is_some t ≡ false → StandsWith g place tail t p → Stands g place tail p
stands_none g place tail None p e st = st
stands_none g place tail (Some t) p e st = cc

-- ---- requests and handlers

module _ (serve : ProgramsServe) where
  pub requests_are_made : RequestsAreMade
  requests_are_made r k n gives passes y z comes s h x is region =
      let o = hop.Comes (act.Request (call_of r k n gives passes)) in
      let m = meets serve s x o y z is region comes in
      let f = frame_at m.frame m.point in
      let after : Half = record x { objects = m.point.objects; stack = f ∷ m.below } in
      let operands = values_of m.activation.operands.values in
      let asked = flat.Requests (reference_of r) (name_at y.program k) (actuals n operands) gives passes in
      let shown = act_same asked m.shown _ m.state m.does in
      let seen = requests_is m.last.environment m.point.environment m.step (reference_of r) (name_at y.program k) (actuals n operands) gives passes
      (subst (λ a. Seen m.last.environment m.point.environment m.step a) (sym shown) m.seen) in
      let leads = subst (λ a. Leads (run_of s m.frame.routine) a m.point m.state) seen.act m.leads in
      let inside = with_within (run_of s m.frame.routine) leads.0 leads.1 seen.type m.point leads.3 in
      let state = ap (λ vs. record (state_of (objects_in s z.objects) m.activation) { place = next_place m.activation.place; values = values_of vs }) (drop_next n m.activation.operands.values)
      ∙ state_past s x o y z is region comes m asked (n + 1) leads.0 leads.1 m.does leads.2 inside in
      let before = stays s x o y z is region comes m in
      let blocks = same_blocks s x o y z is region comes m in
      subst (λ half. IsRegionOf s half (on_top (sending r n gives passes) z))
      (sym (turn_is s x o y z is region comes m h (model.Requests (reference_of r) seen.name seen.actuals seen.type passes) seen.act))
      (subst (λ g. IsRegionOf s (with_stack (awaits_if (passes || g) r.handler seen.type false f ∷ m.below) after) (on_top (sending r n gives passes) z)) (sym seen.gives_is)
      (elim (passes || gives) as (λ b. (passes || gives) ≡ b → IsRegionOf s (with_stack (awaits_if b r.handler seen.type false f ∷ m.below) after)
      (on_top (λ a. awaiting_if b r.handler gives false (without_last (past n a))) z)) [
        | true ↦ λ e.
            region_in s x o y z is region comes m (Awaits r.handler seen.type false) m.point.values m.frame.blocks
            (λ a. awaiting_if true r.handler gives false (without_last (past n a))) leads.0 leads.1 (record { routine = refl; origin = refl; depth = refl; reserved = refl })
            (ap (λ g. stage.Awaits r.handler g false) (sym seen.gives_is ∙ sym (gives_some seen.type))) blocks state leads.3
        | false ↦ λ e.
            region_in s x o y z is region comes m m.frame.stage m.point.values m.frame.blocks
            (λ a. without_last (past n a)) leads.0 leads.1 (record { routine = refl; origin = refl; depth = refl; reserved = refl })
            (before.stage ∙ m.stood.stage) blocks state
            (subst (λ st. StandsIn st (run_of s m.frame.routine) leads.0 leads.1 m.point) (sym m.stage)
            (stands_none (run_of s m.frame.routine) leads.0 leads.1 seen.type m.point (seen.gives_is ∙ or_right passes gives e) leads.3))
      ] refl))

  pub handlers_are_created : HandlersAreCreated
  handlers_are_created h class k n passes y z comes s x is region =
      let o = hop.Comes (act.CreateHandler (creation_with class k n passes)) in
      let m = meets serve s x o y z is region comes in
      let f = frame_at m.frame m.point in
      let after : Half = record x { objects = m.point.objects; stack = f ∷ m.below } in
      let operands = values_of m.activation.operands.values in
      let asked = flat.CreatesHandler class (option_map (name_at y.program) k) (actuals n operands) passes in
      let shown = act_same asked m.shown _ m.state m.does in
      let seen = creates_handler_is m.last.environment m.point.environment m.step class (option_map (name_at y.program) k) (actuals n operands) passes
      (subst (λ a. Seen m.last.environment m.point.environment m.step a) (sym shown) m.seen) in
      let leads = subst (λ a. Leads (run_of s m.frame.routine) a m.point m.state) seen.act m.leads in
      let inside = with_within (run_of s m.frame.routine) leads.0 leads.1 (Some seen.type) m.point leads.3 in
      let made : values.Value = values.Attached (reference_of (first_object h class)) in
      let us : List Operand = operand made seen.type ∷ m.point.values in
      let state = ap (λ (st : State). record st { values = made ∷ st.values }) (state_past s x o y z is region comes m asked n leads.0 leads.1 m.does leads.2 inside) in
      let before = stays s x o y z is region comes m in
      let blocks = same_blocks s x o y z is region comes m in
      subst (λ half. IsRegionOf s half (on_top (creating h class n passes) z))
      (sym (turn_is s x o y z is region comes m h (model.CreatesHandler class seen.procedure seen.actuals seen.type passes) seen.act))
      (elim passes as (λ b. IsRegionOf s (creates_handler h class seen.type b f m.below after) (on_top (λ a. awaiting_if b h false true (with_reference (first_object h class) (past n a))) z)) [
        | true ↦
            region_in s x o y z is region comes m (Awaits h None true) us m.frame.blocks
            (λ a. awaiting_if true h false true (with_reference (first_object h class) (past n a))) leads.0 leads.1 (record { routine = refl; origin = refl; depth = refl; reserved = refl })
            refl blocks state (leads.3 made)
        | false ↦
            region_in s x o y z is region comes m m.frame.stage us m.frame.blocks
            (λ a. with_reference (first_object h class) (past n a)) leads.0 leads.1 (record { routine = refl; origin = refl; depth = refl; reserved = refl })
            (before.stage ∙ m.stood.stage) blocks state
            (subst (λ st. StandsIn st (run_of s m.frame.routine) leads.0 leads.1 (record m.point { values = us })) (sym m.stage) (leads.3 made))
      ])

  -- ---- blocks

  pub blocks_begin : BlocksBegin
  blocks_begin first n y z comes s h x is region =
      let o = hop.Comes (act.Open first n) in
      let m = meets serve s x o y z is region comes in
      let a = m.activation in
      let os = objects_in s z.objects in
      let asked = flat.Opens first n in
      let shown = act_same asked m.shown _ m.state m.does in
      let step = opens_is m.last.environment m.point.environment m.step first n (subst (λ a. Seen m.last.environment m.point.environment m.step a) (sym shown) m.seen) in
      let leads = subst (λ a. Leads (run_of s m.frame.routine) a m.point m.state) step m.leads in
      let written_slots : PlainActivation = record a { slots = written first (last_values n a.operands.values) a.slots } in
      let slots = values_written first (last_values n a.operands.values) a.slots ∙ ap (λ us. flat.written first us (values_of a.slots)) (values_taken n [] a.operands.values) in
      let does = ap (λ vs. flat.does asked (record (without n (state_of os a)) { slots = vs })) slots ∙ m.does in
      let next : a.place + 1 ≡ leads.0 = ap (λ (f : State). f.place) (state_same asked m.shown _ m.state does ∙ leads.2) in
      let inside = stands_within (run_of s m.frame.routine) leads.0 leads.1 m.point leads.3 in
      let state = state_same asked m.shown _ m.state (sym (passes asked n os written_slots (next_said s x o y z is region comes m leads.0 next inside)) ∙ does) ∙ leads.2 in
      subst (λ half. IsRegionOf s half (on_top (opening first n) z)) (sym (turn_is s x o y z is region comes m h model.Opens step))
      (region_in s x o y z is region comes m ReservesBlock m.point.values m.frame.blocks (opening first n) leads.0 leads.1
      (record { routine = refl; origin = refl; depth = refl; reserved = refl }) refl (same_blocks s x o y z is region comes m) state leads.3)

  pub blocks_end : BlocksEnd
  blocks_end y z comes some s h x is region =
      let o = hop.Comes act.Leave in
      let m = meets serve s x o y z is region comes in
      let f = frame_at m.frame m.point in
      let after : Half = record x { objects = m.point.objects; stack = f ∷ m.below } in
      let shown = act_same flat.Leaves m.shown _ m.state m.does in
      let step = leaves_is m.last.environment m.point.environment m.step (subst (λ a. Seen m.last.environment m.point.environment m.step a) (sym shown) m.seen) in
      let leads = subst (λ a. Leads (run_of s m.frame.routine) a m.point m.state) step m.leads in
      let inside = stands_within (run_of s m.frame.routine) leads.0 leads.1 m.point leads.3 in
      let state = state_past s x o y z is region comes m flat.Leaves 0 leads.0 leads.1 m.does leads.2 inside in
      let before = stays s x o y z is region comes m in
      let left = last_off m.activation.blocks (subst (λ fs. HasBlock (top_activation fs)) m.frames some) in
      let blocks : m.frame.blocks ≡ left.0 ∷ reverse (take (length m.activation.blocks - 1) m.activation.blocks) = sym (same_blocks s x o y z is region comes m) ∙ left.1 in
      subst (λ half. IsRegionOf s half (on_top closing z))
      (sym (turn_is s x o y z is region comes m h model.Leaves step ∙ ap (λ kss. leaves_block kss f m.below after) blocks))
      (region_in s x o y z is region comes m m.frame.stage m.point.values (reverse (take (length m.activation.blocks - 1) m.activation.blocks)) closing leads.0 leads.1
      (record { routine = refl; origin = refl; depth = refl; reserved = refl }) (before.stage ∙ m.stood.stage) refl state
      (subst (λ st. StandsIn st (run_of s m.frame.routine) leads.0 leads.1 m.point) (sym m.stage) leads.3))

  pub no_block_ends : NoBlockEnds
  no_block_ends y z comes none s h x is region =
      let o = hop.Comes act.Leave in
      let m = meets serve s x o y z is region comes in
      let f = frame_at m.frame m.point in
      let after : Half = record x { objects = m.point.objects; stack = f ∷ m.below } in
      let shown = act_same flat.Leaves m.shown _ m.state m.does in
      let step = leaves_is m.last.environment m.point.environment m.step (subst (λ a. Seen m.last.environment m.point.environment m.step a) (sym shown) m.seen) in
      let leads = subst (λ a. Leads (run_of s m.frame.routine) a m.point m.state) step m.leads in
      let state = state_same flat.Leaves m.shown _ m.state m.does ∙ leads.2 in
      let blocks : m.frame.blocks ≡ [] = sym (same_blocks s x o y z is region comes m) ∙ ap reverse (subst (λ fs. HasNoBlock (top_activation fs)) m.frames none) in
      subst (λ half. IsRegionOf s half (store.failed cause.BadCode z))
      (sym (turn_is s x o y z is region comes m h model.Leaves step ∙ ap (λ kss. leaves_block kss f m.below after) blocks))
      (record { objects = ap (λ (st : State). st.objects) state; frames = tt; output = comes.remains.output ∙ region.output; failure = refl })
