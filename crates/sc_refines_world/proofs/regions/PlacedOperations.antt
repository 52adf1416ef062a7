-- An operation may be done, and its turn may be made, in a sound store that stands for a half that fits.
use Rattle.std.proofs.Common.{◌≡◌, ◌<◌, ◌≤◌, ℕ, ◌+◌, Bool, true, false, List, [], ◌∷◌, ◌++◌, Option, Some, None, is_some, drop, length, refl, sym, ap, ◌∙◌, subst, arith, length-append}
use Rattle.std.proofs.lemmas.List.{length-map}
use Rattle.std.specs.Prelude.{nat_lt, if◌then◌else◌}
use Rattle.std.specs.Option.{option_map}
use Rattle.sc_tree.specs.Plain.{System}
use Rattle.sc_model.specs.declared.cause.Cause.{Cause}
use Rattle.sc_model.specs.declared.cause.Cause.TheVariants as cause
use Rattle.sc_model.specs.Handlers.{Called, Frame, point_of}
use Rattle.sc_model.specs.Invariants.{meets_invariant}
use Rattle.sc_model.specs.Limits.{max_objects}
use Rattle.sc_model.specs.Moves.{step}
use Rattle.sc_model.specs.Objects.{Object, fresh_object}
use Rattle.sc_model.specs.Steps as model
use Rattle.sc_model.specs.Steps.{Calling, Point, Does}
use Rattle.sc_model.specs.Values as values
use Rattle.sc_model.specs.Values.{Operand}
use Rattle.sc_code.specs.declared.program.Image.{Image}
use Rattle.sc_code.specs.Lowered.{run_of}
use Rattle.sc_code.specs.Machine as flat
use Rattle.sc_code.specs.Machine.{State}
use Rattle.sc_code.specs.Stands.{Leads, Run, Seen, Stands, state_at}
use Rattle.sc_region.specs.declared.value.Reference.{Reference}
use Rattle.sc_region.specs.declared.value.Value.{Value}
use Rattle.sc_region.specs.Frames as frames
use Rattle.sc_region.specs.Frames.{PlainFrame, frame_with, top_activation, top_current}
use Rattle.sc_region.specs.Stores.{PlainStore}
use Rattle.sc_acts.specs.declared.act.Act.{Act}
use Rattle.sc_acts.specs.declared.act.Act.TheVariants as act
use Rattle.sc_interp.specs.declared.hops.Hop.{Hop}
use Rattle.sc_interp.specs.declared.hops.Hop.TheVariants as hop
use Rattle.sc_acts.specs.Creating.{has_room_in}
use Rattle.sc_acts.specs.Entering.{Has, HasCall, routine_in}
use Rattle.sc_interp.specs.Hopping.{state_in}
use Rattle.sc_refines_world.specs.regions.Laws.{ProgramsServe}
use Rattle.sc_interp.specs.Objects.{object_in, objects_in}
use Rattle.sc_refines_world.specs.regions.RegionHalves.{AreFrames, IsRegionOf, StandsIn, origin_of}
use Rattle.sc_refines_world.specs.regions.RegionSteps.{IsProgramFor}
use Rattle.sc_refines_world.specs.regions.RegionTurns.{Half}
use Rattle.sc_acts.specs.Tables.{version_in, name_at}
use Rattle.sc_interp.specs.Standing.{actuals, state_of, without}
use Rattle.sc_interp.specs.Told.{IsTold, NamesCreation}
use Rattle.sc_interp.specs.Values.{reference_of, value_of, values_of}
use Rattle.sc_interp.proofs.GoingOn.{less_is}
use Rattle.sc_interp.proofs.Operands.{values_drop}
use Rattle.sc_refines_world.proofs.regions.RegionSame.{same_current}
use Rattle.sc_refines_world.specs.regions.Acting.{AreWhole, Comes, Meets, RunsOn, TakesAs, TakesResult, is_called}
use Rattle.sc_refines_world.specs.regions.Halves.{AreComplete, GivesResult, GoesWell, HalfFits, HasRoutine, TopGoesWell}
use Rattle.sc_refines_world.specs.regions.Reserving.{MayOpen}
use Rattle.sc_refines_world.specs.regions.Rooms.{HaveRoom, takes_value}
use Rattle.sc_refines_world.specs.regions.Sound.{IsSound}
use Rattle.sc_code.specs.RequestRoom.{FitsRequests}
use Rattle.sc_refines_world.specs.regions.Turns.{MayAct}
use Rattle.sc_refines_world.specs.regions.Wanting.{MayCreate, MayRequest}
use Rattle.sc_refines_world.proofs.regions.Calls.{enters_is}
use Rattle.sc_refines_world.proofs.regions.SilentOperations.{all_declared, meets, runs_in}
use Rattle.sc_refines_world.proofs.regions.CreationRoom.{room_left}
use Rattle.sc_refines_world.proofs.regions.KeptObjects.{Moved}
use Rattle.sc_refines_world.proofs.regions.KeptMoves.{complete_kept, count_kept, creates_next, moved_same}
use Rattle.sc_refines_world.proofs.regions.PassedOperations.{act_same, state_same, stays}
use Rattle.sc_refines_world.proofs.regions.QuietSteps.{exits_here}
use Rattle.sc_refines_world.proofs.regions.Refusals.{refusal}
use Rattle.sc_refines_world.proofs.regions.ShownSteps.{creates_is, exits_is, fails_is}
use Rattle.sc_refines_world.proofs.regions.ToldOperations.{call_there, creation_there, enter_there, few_actuals, heads_there, name_there, numbered, operands_there, procedure_numbered, procedure_there, ready_in, small_creation}
use Rattle.sc_refines_world.proofs.regions.PlacedFrames.{whole_of, none_next, in_call_is, called_is, some_mapped, routine_some}

-- ---- one operation

module _ (serve : ProgramsServe) (h : ℕ) (y : PlainStore) (sound : IsSound y) (program : FitsRequests y.program) (s : System) (x : Half) (is : IsProgramFor s y.program)
    (region : IsRegionOf s x y) (fits : HalfFits s h x) where
  -- no fewer objects than before, and more
  abbrev Enough : List Object → Type 0
  Enough os = length x.objects ≤ length os

  abbrev More : List Object → Type 0
  More os = length x.objects < length os

  module _ (o : Hop) (b : PlainStore) (comes : Comes o y b) where
    m : Meets s x o y b
    m = meets serve s x o y b is region comes

    abbrev run : Run
    run = run_of s m.frame.routine

    abbrev start : Point
    start = point_of m.frame x.objects

    program_there : FitsRequests b.program
    program_there = subst FitsRequests (sym comes.remains.program) program

    is_there : IsProgramFor s b.program
    is_there = subst (IsProgramFor s) (sym comes.remains.program) is

    goes : GoesWell s h x.objects m.frame m.below
    goes = subst (TopGoesWell s h x.objects) m.stack fits.goes_well m.stage

    -- the code has no case that doesn't fit
    not_stuck : {A : Type 0} → m.step ≡ model.Fails cause.BadCode → A
    not_stuck e = absurd (goes.fits m.point (m.moves ∙ ap (λ a. Does a m.point) e))

    complete_there : AreComplete s m.point.objects
    complete_there =
        moved_same (AreComplete s) m.step m.point
        (subst (Moved (AreComplete s) (AreComplete s)) m.moves (complete_kept s m.frame.current start fits.complete))

    whole_there : objects_in s b.objects ≡ m.point.objects → AreWhole b
    whole_there same = whole_of s b is_there (subst (AreComplete s) (sym same) complete_there)

    counted : Moved Enough More (Does m.step m.point)
    counted = subst (Moved Enough More) m.moves (count_kept (length x.objects) s m.frame.current start (omega arith))

    own_there : m.current.handler ≡ h
    own_there = ap (λ (r : values.Reference). r.handler) m.stood.current ∙ goes.own

    runs_on : RunsOn h b
    runs_on = ap (λ fs. option_map (λ (r : Reference). r.handler) (top_current fs)) m.frames ∙ ap (λ k. Some k) own_there

    lives_there : b.failure ≡ None
    lives_there = comes.remains.failure ∙ region.failure ∙ fits.lives

    -- no routine runs on the next object
    unborn_there : length x.objects ≤ length b.objects → frames.is_current (length b.objects + 1) b.frames ≡ false
    unborn_there enough =
        let n = length b.objects + 1 in
        ap (frames.is_current n) m.frames
        ∙ sym (ap (frames.is_current n) m.was)
        ∙ same_current s n x.objects x.stack y.frames region.frames
        ∙ none_next (length x.objects) n x.stack fits.within (omega (arith, enough))

    -- what is seen where the routine fails
    fails_so : (why : Cause) (f : State) → flat.Does (flat.Fails why) f ≡ flat.Does m.shown m.state → m.step ≡ model.Fails why
    fails_so why f e =
        let shown = act_same (flat.Fails why) m.shown f m.state e in
        fails_is m.last.environment m.point.environment m.step why (subst (λ a. Seen m.last.environment m.point.environment m.step a) (sym shown) m.seen)

    -- and which objects are left then
    objects_so : (why : Cause) (f : State) → flat.Does (flat.Fails why) f ≡ flat.Does m.shown m.state → f.objects ≡ m.point.objects
    objects_so why f e =
        ap (λ (q : State). q.objects) (state_same (flat.Fails why) m.shown f m.state e)
        ∙ subst (λ a. Leads run a m.point m.state) (fails_so why f e) m.leads

    -- ---- ends

    frame_typed : option_map (λ (u : Operand). u.type) m.frame.result ≡ run.result
    frame_typed =
        let st : Stands run m.before.place m.stood.tail start = subst (λ st. StandsIn st run m.before.place m.stood.tail start) m.stage m.stood.stands in
        st.has_result

    -- the caller gets the Result
    takes_as : (v : Option Value) (below : List Frame) (rest : List PlainFrame) → AreFrames s x.objects below rest → HaveRoom rest → GivesResult m.frame below →
        (c : Calling) → m.frame.origin ≡ Called c → (is_some m.frame.result ≡ true → is_some v ≡ true) → TakesAs v rest
    takes_as v below [] a room gives c called some = tt
    takes_as v [] (g ∷ gs) a room gives c called some = absurd a
    takes_as v (f ∷ fs) (g ∷ gs) a room gives c called some = λ e.
        let t = in_call_is f.stage (sym a.0.stage ∙ e) in
        (some (gives c t.0 called t.1), room.0 (ap takes_value e))

  -- ---- the operations

  may_exit : (b : PlainStore) → Comes (hop.Comes act.Exit) y b → MayAct h act.Exit b
  may_exit b comes =
      let o = hop.Comes act.Exit in
      let met = m o b comes in
      let shown = act_same flat.Exits met.shown _ met.state met.does in
      let step_is = exits_is met.last.environment met.point.environment met.step (subst (λ a. Seen met.last.environment met.point.environment met.step a) (sym shown) met.seen) in
      let last = exits_here s met.frame.current met.last met.point (subst (λ a. step s met.frame.current met.last ≡ Does a met.point) step_is met.ends) in
      let leads = subst (λ a. Leads (run_of s met.frame.routine) a met.point met.state) step_is met.leads in
      let state : state_in s b met.activation ≡ state_at leads.0 leads.1 met.point = state_same flat.Exits met.shown _ met.state met.does ∙ leads.2 in
      let same : objects_in s b.objects ≡ met.point.objects = ap (λ (q : State). q.objects) state in
      let result : option_map value_of met.activation.result ≡ option_map (λ (u : Operand). u.value) met.point.result = ap (λ (q : State). q.result) state in
      let types = ap (λ (p : Point). option_map (λ (u : Operand). u.type) p.result) last ∙ met.stands.has_result ∙ sym (frame_typed o b comes) in
      let some : is_some met.activation.result ≡ is_some met.frame.result =
      sym (some_mapped value_of met.activation.result) ∙ ap (λ q. is_some q) result ∙ some_mapped (λ (u : Operand). u.value) met.point.result
      ∙ sym (some_mapped (λ (u : Operand). u.type) met.point.result) ∙ ap (λ q. is_some q) types ∙ some_mapped (λ (u : Operand). u.type) met.frame.result in
      let origin : met.activation.origin ≡ origin_of met.frame.origin = (stays s x o y b is region comes met).origin ∙ met.stood.origin in
      let room = (subst HaveRoom met.was sound.room).1 in
      let takes : TakesResult (frame_with met.current met.activation ∷ met.rest) = λ e.
      let c = called_is met.frame.origin (sym (ap is_called origin) ∙ e) in
      takes_as o b comes met.activation.result met.below met.rest met.others room (goes o b comes).gives_result c.0 c.1 (λ q. some ∙ q) in
      (whole_there o b comes same, subst TakesResult (sym met.frames) takes)

  may_refuse : (k : ℕ) (b : PlainStore) → Comes (hop.Comes (act.Refuse k)) y b → MayAct h (act.Refuse k) b
  may_refuse k b comes =
      let o = hop.Comes (act.Refuse k) in
      let r = refusal s x k y b is region comes (m o b comes) in
      whole_there o b comes (ap (λ (q : State). q.objects) r.state)

  one_more : (os : List Object) (o : Object) → length (os ++ o ∷ []) ≡ length os + 1
  one_more os o = length-append os (o ∷ [])

  module _ (class n : ℕ) (b : PlainStore) (comes : Comes (hop.Comes (act.Create class None n)) y b) where
    abbrev alone : Hop
    alone = hop.Comes (act.Create class None n)

    abbrev met : Meets s x alone y b
    met = m alone b comes

    abbrev os : List Object
    os = objects_in s b.objects

    abbrev before : State
    before = without n (state_of os met.activation)

    abbrev behind : State
    behind = record before { objects = os ++ fresh_object s class ∷ [] }

    abbrev r : values.Reference
    r = record { handler = met.current.handler; number = length os + 1; class = class }

    -- where an object was created there were no fewer before
    grown : (a : model.Act) → met.step ≡ a → (Moved Enough More (Does a met.point) → length x.objects < length met.point.objects) → os ++ fresh_object s class ∷ [] ≡ met.point.objects →
        length x.objects ≤ length os
    grown a step more objects =
        let longer = more (subst (λ a. Moved Enough More (Does a met.point)) step (counted alone b comes)) in
        let sum = one_more os (fresh_object s class) in
        let same = ap (λ us. length us) objects in
        omega (arith, longer, sum, same)

    no_fewer : (c d e : Bool) →
        (if c then (if d then (if e then flat.does flat.Creates (record behind { values = values.Attached r ∷ behind.values }) else flat.stuck behind) else flat.fails cause.Invariant behind)
        else flat.fails cause.TooManyObjects before) ≡ flat.Does met.shown met.state → length x.objects ≤ length os
    no_fewer true true true e =
        let shown = act_same flat.Creates met.shown _ met.state e in
        let step = creates_is met.last.environment met.point.environment met.step (subst (λ a. Seen met.last.environment met.point.environment met.step a) (sym shown) met.seen) in
        let leads = subst (λ a. Leads (run_of s met.frame.routine) a met.point met.state) step met.leads in
        grown model.Creates step (λ l. l) (ap (λ (q : State). q.objects) (state_same flat.Creates met.shown _ met.state e ∙ leads.2))
    no_fewer true true false e = not_stuck alone b comes (fails_so alone b comes cause.BadCode behind e)
    no_fewer true false d e =
        grown (model.Fails cause.Invariant) (fails_so alone b comes cause.Invariant behind e) (λ l. l) (objects_so alone b comes cause.Invariant behind e)
    no_fewer false c d e =
        let kept : length x.objects ≤ length met.point.objects =
        subst (λ a. Moved Enough More (Does a met.point)) (fails_so alone b comes cause.TooManyObjects before e) (counted alone b comes) in
        let same = ap (λ (us : List Object). length us) (objects_so alone b comes cause.TooManyObjects before e) in
        omega (arith, kept, same)

    may_create_alone : IsTold alone b → MayAct h (act.Create class None n) b
    may_create_alone told_so =
        let few = no_fewer (nat_lt (length os) max_objects) (meets_invariant s (fresh_object s class)) (nat_lt (length behind.values) (run_of s met.frame.routine).code.depth) met.does in
        let count = length-map b.objects (object_in s) in
        record { lives = lives_there alone b comes; handler = runs_on alone b comes; unborn = unborn_there alone b comes (omega (arith, few, count)) }

  module _ (class k n : ℕ) (b : PlainStore) (comes : Comes (hop.Comes (act.Create class (Some k) n)) y b) where
    abbrev creation : Hop
    creation = hop.Comes (act.Create class (Some k) n)

    abbrev made : Meets s x creation y b
    made = m creation b comes

    abbrev code : flat.Code
    code = (run_of s made.frame.routine).code

    abbrev there : List Object
    there = objects_in s b.objects

    abbrev ahead : State
    ahead = without n (state_of there made.activation)

    abbrev after : State
    after = record ahead { objects = there ++ fresh_object s class ∷ [] }

    abbrev new : values.Reference
    new = record { handler = made.current.handler; number = length there + 1; class = class }

    abbrev asked : flat.Act
    asked = flat.Enters model.Creation new (name_at y.program k) (actuals n (values_of made.activation.operands.values)) false

    -- there is room where the handler has too many objects
    room_still : flat.Does (flat.Fails cause.TooManyObjects) ahead ≡ flat.Does made.shown made.state → length ahead.values < code.depth
    room_still e =
        let step_is = fails_so creation b comes cause.TooManyObjects ahead e in
        let next = creates_next s made.frame.current made.last made.point (subst (λ a. step s made.frame.current made.last ≡ Does a made.point) step_is made.ends) in
        let runs = runs_in s x.objects made.frame (frame_with made.current made.before) made.rest y serve is made.was made.stood in
        let c = comes.comes s code made.current made.before made.activation runs (ap top_activation made.frames) in
        subst (λ (q : State). length q.values < code.depth) (sym (state_same (flat.Fails cause.TooManyObjects) made.shown ahead made.state e))
        (room_left (run_of s made.frame.routine) (reference_of made.current) made.tail made.place made.last made.stands next (state_in s y made.before) made.silent c.0 c.1 made.shown made.state
        made.reaches c.2 (c.3 ∙ made.does) (sym (act_same (flat.Fails cause.TooManyObjects) made.shown ahead made.state e)))

    has_room_there : (c d : Bool) → nat_lt (length after.values) code.depth ≡ d →
        (if c then (if d then flat.does asked (record after { values = values.Attached new ∷ after.values }) else flat.stuck after) else flat.fails cause.TooManyObjects ahead)
        ≡ flat.Does made.shown made.state → nat_lt (length after.values) code.depth ≡ true
    has_room_there true true q e = q
    has_room_there true false q e = not_stuck creation b comes (fails_so creation b comes cause.BadCode after e)
    has_room_there false d q e = less_is (length ahead.values) code.depth (room_still e)

    room_same : nat_lt (length after.values) code.depth ≡ has_room_in n (top_activation b.frames)
    room_same =
        ap (λ j. nat_lt j code.depth) (ap length (sym (values_drop n made.activation.operands.values)) ∙ length-map (drop n made.activation.operands.values) value_of)
        ∙ ap (λ j. nat_lt (length (drop n made.activation.operands.values)) j) (sym ((stays s x creation y b is region comes made).depth ∙ made.stood.depth))
        ∙ ap (λ fs. has_room_in n (top_activation fs)) (sym made.frames)

    -- where there is room for one more object the procedure is entered, and so it is a routine
    entered_so : (c d : Bool) → c ≡ true →
        (if c then (if d then flat.does asked (record after { values = values.Attached new ∷ after.values }) else flat.stuck after) else flat.fails cause.TooManyObjects ahead)
        ≡ flat.Does made.shown made.state → HasRoutine s class (name_at y.program k)
    entered_so true true q e =
        let shown = act_same asked made.shown _ made.state e in
        let seen = enters_is made.last.environment made.point.environment model.Creation made.step new (name_at y.program k) (actuals n (values_of made.activation.operands.values)) false
        (subst (λ a. Seen made.last.environment made.point.environment made.step a) (sym shown) made.seen) in
        (goes creation b comes).enters model.Creation new (name_at y.program k) seen.actuals seen.type made.point (made.moves ∙ ap (λ a. Does a made.point) seen.act)
    entered_so true false q e = not_stuck creation b comes (fails_so creation b comes cause.BadCode after e)
    entered_so false d q e = cc

    routine_there : NamesCreation b.program class (Some k) n → nat_lt (length b.objects) max_objects ≡ true →
        (routine : ℕ) × (routine_in (version_in b.program class k) ≡ Some routine)
    routine_there c few =
        let p = is_there creation b comes in
        let serves = serve s p.root b.program p.faultless (all_declared s p.well_formed) p.program in
        let count : length there ≡ length b.objects = length-map b.objects (object_in s) in
        let has = entered_so (nat_lt (length there) max_objects) (nat_lt (length after.values) code.depth) (ap (λ j. nat_lt j max_objects) count ∙ few) made.does in
        let named = ap (λ (p : Image). name_at p k) comes.remains.program in
        routine_some (version_in b.program class k)
        (serves.routines class k (name_at b.program k) (procedure_there b.program class (Some k) n c) ∙ subst (HasRoutine s class) (sym named) has)

    may_create_by : IsTold creation b → MayAct h (act.Create class (Some k) n) b
    may_create_by told_so =
        let a = ready_in b.program (act.Create class (Some k) n) (top_activation b.frames) told_so in
        let small = small_creation b.program class (Some k) n (program_there creation b comes) a.2.named in
        let has : Has n (top_activation b.frames) = subst (λ o. Has n o) (sym a.1) (let l = small.0 in operands_there n a.0 (omega (arith, l)) a.2.operands) in
        let room = has_room_there (nat_lt (length there) max_objects) (nat_lt (length after.values) code.depth) refl made.does in
        ((name_at b.program k, procedure_there b.program class (Some k) n a.2.named), has, sym room_same ∙ room, routine_there a.2.named, runs_on creation b comes)

  -- Whatever operation comes, it may be done.
  pub may_act : (a : Act) (b : PlainStore) → Comes (hop.Comes a) y b → IsTold (hop.Comes a) b → MayAct h a b
  may_act (act.Enter c r k n gives) b comes told_so =
      let a = act.Enter c r k n gives in
      let q = ready_in b.program a (top_activation b.frames) told_so in
      let requests = program_there (hop.Comes a) b comes in (
        (name_at b.program k, name_there b.program k n gives q.2.named),
        subst (λ o. HasCall c n o) (sym q.1) (enter_there c n q.0 (few_actuals b.program k n gives requests q.2.named) q.2.operands),
      )
  may_act (act.Request call) b comes told_so =
      let a = act.Request call in
      let k = call.name in
      let n = call.count in
      let q = ready_in b.program a (top_activation b.frames) told_so in
      let requests = program_there (hop.Comes a) b comes in
      let name = name_there b.program k n call.gives q.2.named in (
        numbered b k requests name,
        subst (λ o. MayRequest n o) (sym q.1) (call_there n q.0 (few_actuals b.program k n call.gives requests q.2.named) q.2.operands),
      )
  may_act (act.Create class None n) b comes told_so = may_create_alone class n b comes told_so
  may_act (act.Create class (Some k) n) b comes told_so = may_create_by class k n b comes told_so
  may_act (act.CreateHandler creation) b comes told_so =
      let a = act.CreateHandler creation in
      let class = creation.class in
      let k = creation.procedure in
      let n = creation.count in
      let q = ready_in b.program a (top_activation b.frames) told_so in
      let requests = program_there (hop.Comes a) b comes in
      let small = small_creation b.program class k n requests q.2.named in
      let name = procedure_there b.program class k n q.2.named in (
        procedure_numbered b k requests name,
        subst (λ o. MayCreate n o) (sym q.1) (creation_there n q.0 small.0 q.2.operands (q.2.room refl)),
      )
  may_act (act.Open first n) b comes told_so =
      let a = act.Open first n in
      let q = ready_in b.program a (top_activation b.frames) told_so in
      let few = (program_there (hop.Comes a) b comes).blocks q.2.named.0 _ q.2.named.1 in
      subst (λ o. MayOpen first n o) (sym q.1) (heads_there first n q.0 few q.2.operands q.2.slots)
  may_act (act.Refuse k) b comes told_so = may_refuse k b comes
  may_act act.Exit b comes told_so = may_exit b comes
  may_act (act.PrintInteger v) b comes told_so = tt
  may_act (act.PrintBoolean v) b comes told_so = tt
  may_act (act.PrintText k) b comes told_so = tt
  may_act (act.Until n) b comes told_so = tt
  may_act act.Start b comes told_so = tt
  may_act act.Leave b comes told_so = tt
