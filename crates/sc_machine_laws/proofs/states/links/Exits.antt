-- Own calls, exits, the ends of separate blocks, and false clauses.
use Rattle.std.proofs.Common.{◌≡◌, ◌⊎◌, ⊎_elim, inl, ℕ, suc, ◌&&◌, ◌||◌, not, Bool, true, false, List, [], ◌∷◌, Option, Some, None, length, refl, sym, ap, ◌∙◌, subst}
use Rattle.std.specs.Prelude.{nat_lt, if◌then◌else◌}
use Rattle.std.specs.Option.{option_map}
use Rattle.sc_tree.specs.Plain.{System}
use Rattle.sc_lockpass.specs.Rights as rights
use Rattle.sc_lockpass.specs.Rights.{is_among}
use Rattle.sc_lockpass.specs.declared.wait_conditions.session.Release.TheVariants as release_at
use Rattle.sc_lockpass.specs.wait_conditions.Reservations.{ends_session, mark_of}
use Rattle.sc_lockpass.specs.declared.wait_conditions.condition.EntryVerdict.{EntryVerdict}
use Rattle.sc_lockpass.specs.declared.wait_conditions.condition.EntryVerdict.TheVariants as verdict
use Rattle.sc_rules.specs.declared.entity_types.entity_type.EntityType.{EntityType}
use Rattle.sc_machine_laws.specs.states.World.{Answer, Request, Frame, World, rights_of, enter}
use Rattle.sc_machine_laws.specs.states.Steps.{waits_for, AnswersNobody, Enters}
use Rattle.sc_machine_laws.specs.states.Stands.{names_in, NeedsOf, NamesOf, AreCovered, IsRequest, IsOrigin, handlers_of, IsRoutine, AreBlocks, Place, place_of, IsStaged, IsStack}
use Rattle.sc_machine_laws.proofs.states.links.Lists.{one, Released, releases, entering}
use Rattle.sc_machine_laws.proofs.states.links.Looks.{Looks, looks_same, looks_ended, put_handler, put_stack, put_moved, put_more, stands_put, stands_same, released_rights, released_beyond}
use Rattle.sc_machine_laws.proofs.states.links.Failures.{Leads}
use Rattle.sc_machine_laws.proofs.states.links.RequestEnds.{Replied, Refuses}
use Rattle.sc_machine_laws.proofs.states.links.FrameSteps.{Keeps, Going, stays, going_active, going_fails, RoutineAt, routine_at, block_at, blocks_map, ends_part, ended_leads, ended_finishes}
use Rattle.sc_model.specs.declared.cause.Cause.TheVariants as cause
use Rattle.sc_model.specs.Values.{Reference, Value, Operand}
use Rattle.sc_model.specs.Environments.{Binding, formals_bound, separate_formals}
use Rattle.sc_model.specs.Objects.{object_numbered}
use Rattle.sc_model.specs.Routines as routines
use Rattle.sc_model.specs.Limits.{max_frames}
use Rattle.sc_model.specs.Tasks.{tasks_of}
use Rattle.sc_model.specs.Handlers as machine
use Rattle.sc_model.specs.Handlers.{Stage, Runs, Reserves, ReservesBlock, InCall, Awaits, frame_at, with_stack, put}
use Rattle.sc_model.specs.Steps.{Calling, Point}
use Rattle.sc_model.specs.Sessions as sessions
use Rattle.sc_model.specs.Entries.{stage_with, entry, enters, enters_bound}
use Rattle.sc_model.specs.Preconditions.{is_creation, object_meets, counted_refusal, correctness_fails, false_clause, waits_again}
use Rattle.sc_model.specs.Exits.{is_unset, is_untested, handed_as, handed_at, handed, leaves_to, exits, leaves_block}

pub if_leads : (w : World) (b : Bool) (x y : machine.World) → (b ≡ true → Leads w x) → (b ≡ false → Leads w y) → Leads w (if b then x else y)
if_leads w true x y a b = a refl
if_leads w false x y a b = b refl

-- ---- own calls

-- a routine with attached separate formals begins before its reserve step
pub fresh_needs : (me : Reference) (r : routines.Routine) (o : machine.Origin) (bs : List Binding)
    → NeedsOf (stage_with (separate_formals bs)) (entry me r o bs) []
fresh_needs me r o bs = by (separate_formals bs) refl
  where
    by : (vs : List Value) → separate_formals bs ≡ vs → NeedsOf (stage_with vs) (entry me r o bs) []
    by [] e = subst (AreCovered me.handler []) (sym e) tt
    by (v ∷ vs) e = tt

pub entered_stage : (vs : List Value) (at : Place) (B : List Frame → Type 0) (gs : List Frame) → waits_for gs ≡ None → B gs → IsStaged (stage_with vs) at B gs
entered_stage [] at B gs quiet is = (quiet, is)
entered_stage (v ∷ vs) at B gs quiet is = (quiet, is)

abbrev fresh : Frame
fresh = record { origin = None; reserved = []; needs = []; waits = None }

pub call_leads : (w : World) (m : machine.World) (h : ℕ) (f : machine.Frame) (below : List machine.Frame) (me : Reference) (r : routines.Routine)
    (c : Calling) (bs : List Binding) (gives : Option EntityType)
    → Going w m h machine.Runs f below → Leads w (with_stack h (entry me r (machine.Called c) bs ∷ record f { stage = InCall gives } ∷ below) m)
call_leads w m h f below me r c bs gives g =
    let gs = (w.handlers h).stack in
    let st : List machine.Frame = entry me r (machine.Called c) bs ∷ record f { stage = InCall gives } ∷ below in
    record {
      world = enter h w;
      steps = one w (enter h w) (Enters h (going_active w m h machine.Runs f below g));
      stands = stands_put h (entry me r (machine.Called c) bs ∷ record f { stage = InCall gives } ∷ below)
          (record { origin = None; reserved = []; needs = []; waits = None } ∷ gs) w (enter h w) m (with_stack h st m) g.stands g.here (entering h w)
          (put_stack h st m)
          (entered_stage (separate_formals bs) (place_of (entry me r (machine.Called c) bs) (record f { stage = InCall gives } ∷ below)) (IsRoutine (entry me r (machine.Called c) bs)
          (NeedsOf (stage_with (separate_formals bs)) (entry me r (machine.Called c) bs)) (IsStack (record f { stage = InCall gives } ∷ below)))
          (record { origin = None; reserved = []; needs = []; waits = None } ∷ gs) refl
          (tt, refl, (g.quiet, g.parts), fresh_needs me r (machine.Called c) bs))
          g.stands.rights (λ k le. inl refl);
    }

pub enters_leads : (G : World → Type 0) (K : Keeps G) (s : System) (w : World) (m : machine.World) (h : ℕ) (f : machine.Frame)
    (below : List machine.Frame) (me : Reference) (o : Option routines.Routine) (c : Calling) (vs : List Value) (gives : Option EntityType)
    → G w → Going w m h machine.Runs f below → Leads w (enters s h me o (machine.Called c) (record f { stage = InCall gives } ∷ below) [] vs m)
enters_leads G K s w m h f below me None c vs gives good g = going_fails w m h machine.Runs f below cause.BadCode (K.consistent w good) g
enters_leads G K s w m h f below me (Some r) c vs gives good g = by (formals_bound s r.text.formals 0 r.text.formals vs)
  where
    by : (o : Option (List Binding)) → Leads w (enters_bound h me r (machine.Called c) (record f { stage = InCall gives } ∷ below) [] o m)
    by None = going_fails w m h machine.Runs f below cause.BadCode (K.consistent w good) g
    by (Some bs) = if_leads w (nat_lt (length (record f { stage = InCall gives } ∷ below)) max_frames) _ _
        (λ e. call_leads w m h f below me r c bs gives g) (λ e. going_fails w m h machine.Runs f below cause.StackFull (K.consistent w good) g)

-- ---- exits

handed_staged : (v : Option Value) (f : machine.Frame) (st : List machine.Frame) (gs : List Frame) (stage : Stage) → f.stage ≡ stage
    → IsStaged stage (place_of f st) (AreBlocks (NamesOf stage f) f.blocks (IsRoutine f (NeedsOf stage f) (IsStack st))) gs → IsStack (handed_at stage v f ∷ st) gs
handed_staged v f st gs Runs e is = subst (λ t. IsStaged t (place_of f st) (AreBlocks (NamesOf t f) f.blocks (IsRoutine f (NeedsOf t f) (IsStack st))) gs) (sym e) is
handed_staged v f st gs Reserves e is =
    subst (λ t. IsStaged t (place_of f st) (AreBlocks (NamesOf t f) f.blocks (IsRoutine f (NeedsOf t f) (IsStack st))) gs) (sym e) is
handed_staged v f st gs ReservesBlock e is =
    subst (λ t. IsStaged t (place_of f st) (AreBlocks (NamesOf t f) f.blocks (IsRoutine f (NeedsOf t f) (IsStack st))) gs) (sym e) is
handed_staged v f st gs (Awaits k gives b) e is =
    subst (λ t. IsStaged t (place_of f st) (AreBlocks (NamesOf t f) f.blocks (IsRoutine f (NeedsOf t f) (IsStack st))) gs) (sym e) is
handed_staged v f st gs (InCall gives) e is = by gives v
  where
    by : (t : Option EntityType) (u : Option Value) → IsStack (handed_as t u f ∷ st) gs
    by (Some t) (Some u) = is
    by (Some t) None = is
    by None (Some u) = is
    by None None = is

pub handed_stack : (v : Option Value) (st : List machine.Frame) (gs : List Frame) → IsStack st gs → IsStack (handed v st) gs
handed_stack v [] gs is = is
handed_stack v (f ∷ st) gs is = handed_staged v f st gs f.stage refl is

-- the parts of a frame with no open block
pub only_routine : (w : World) (m : machine.World) (h : ℕ) (t : machine.Stage) (f : machine.Frame) (below : List machine.Frame)
    → Going w m h t f below → f.blocks ≡ [] → RoutineAt f (NeedsOf t f) (IsStack below) (w.handlers h).stack
only_routine w m h t f below g none = routine_at f (NeedsOf t f) (IsStack below) (w.handlers h).stack
    (subst (λ kss. AreBlocks (NamesOf t f) kss (IsRoutine f (NeedsOf t f) (IsStack below)) (w.handlers h).stack) none g.parts)

pub some_request : (o : Option Request) (q : machine.Request) → IsOrigin o (machine.Requested q) → (r : Request) × (o ≡ Some r) × IsRequest r q
some_request None q is = absurd is
some_request (Some r) q is = (r, refl, is)

pub no_request : (o : Option Request) (c : Calling) → IsOrigin o (machine.Called c) → AnswersNobody o
no_request None c is = tt
no_request (Some r) c is = absurd is

pub leaves_leads : (G : World → Type 0) (K : Keeps G) (w : World) (m : machine.World) (h : ℕ) (f : machine.Frame) (below : List machine.Frame)
    (v : Option Value) → G w → Going w m h machine.Runs f below → f.blocks ≡ []
    → Leads w (leaves_to h f.origin f.reserved v below m)
leaves_leads G K w m h f below v good g none = by f.origin at.origin
  where
    at : RoutineAt f (NeedsOf machine.Runs f) (IsStack below) (w.handlers h).stack
    at = only_routine w m h machine.Runs f below g none

    by : (p : machine.Origin) → IsOrigin at.frame.origin p → Leads w (leaves_to h p f.reserved v below m)
    by (machine.Called c) is =
        ended_leads w h at.frame at.below (sessions.release release_at.Exit f.reserved (with_stack h (handed v below) m))
        (no_request at.frame.origin c is)
        (ends_part w m (with_stack h (handed v below) m) h (handed v below) release_at.Exit at.frame at.below f.reserved g.stands g.here
        (going_active w m h machine.Runs f below g) at.is at.reserved
        (put_stack h (handed v below) m) refl (handed_stack v below at.below at.rest))
    by (machine.Requested q) is =
        let r = some_request at.frame.origin q is in
        ended_finishes G K w h at.frame at.below (sessions.release release_at.Exit f.reserved (with_stack h below m)) Answer.Reply
        (machine.Reply v) r.0 q good g.here (Replied v) r.1 r.2
        (ends_part w m (with_stack h below m) h below release_at.Exit at.frame at.below f.reserved g.stands g.here
        (going_active w m h machine.Runs f below g) at.is at.reserved (put_stack h below m) refl at.rest)

pub exits_leads : (G : World → Type 0) (K : Keeps G) (s : System) (w : World) (m : machine.World) (h : ℕ) (f : machine.Frame)
    (below : List machine.Frame) → G w → Going w m h machine.Runs f below → f.blocks ≡ []
    → Leads w (exits s h f below m)
exits_leads G K s w m h f below good g none =
    if_leads w (is_unset f.result) _ _ (λ e. going_fails w m h machine.Runs f below cause.UnsetEntity (K.consistent w good) g)
    (λ e. if_leads w (is_untested f.origin || object_meets s (object_numbered f.current.number (m.handlers h).objects)) _ _
    (λ e'. leaves_leads G K w m h f below (option_map (λ (u : Operand). u.value) f.result) good g none)
    (λ e'. going_fails w m h machine.Runs f below cause.Invariant (K.consistent w good) g))

-- ---- separate blocks

-- A step leaves the formals as they are, but that a failure drops them.
abbrev pub FormalsStay : machine.Frame → Point → Type 0
FormalsStay f p = (separate_formals p.environment ≡ separate_formals f.environment) ⊎ (separate_formals p.environment ≡ [])

pub stays_covered : (h : ℕ) (ks : List ℕ) (us vs : List Value) → (vs ≡ us) ⊎ (vs ≡ []) → AreCovered h ks us → AreCovered h ks vs
stays_covered h ks us vs stay is = ⊎_elim (λ e. subst (AreCovered h ks) (sym e) is) (λ e. subst (AreCovered h ks) (sym e) tt) stay

-- the frame has come to this point, and leaves its innermost block
pub leaves_block_leads : (w : World) (m : machine.World) (h : ℕ) (f : machine.Frame) (below : List machine.Frame) (p : Point)
    → Going w m h machine.Runs f below → f.stage ≡ Runs → (f.blocks ≡ [] → ⊥) → FormalsStay f p
    → ((i : ℕ) → names_in p.tasks p.environment i ≡ names_in f.tasks f.environment (suc i))
    → Leads w (leaves_block h f.blocks (frame_at f p) below
    (put h (record (m.handlers h) { objects = p.objects; stack = frame_at f p ∷ below }) m))
leaves_block_leads w m h f below p g runs some formals names = by f.blocks refl g.parts
  where
    n : machine.World
    n = put h (record (m.handlers h) { objects = p.objects; stack = frame_at f p ∷ below }) m

    by : (kss : List (List ℕ)) → f.blocks ≡ kss
        → AreBlocks (NamesOf machine.Runs f) kss (IsRoutine f (NeedsOf machine.Runs f) (IsStack below)) (w.handlers h).stack
        → Leads w (leaves_block h kss (frame_at f p) below n)
    by [] e is = absurd (some e)
    by (ks ∷ kss) e is =
        let at = block_at (NamesOf machine.Runs f) ks kss (IsRoutine f (NeedsOf machine.Runs f) (IsStack below)) (w.handlers h).stack is in
        let f1 : machine.Frame = record (frame_at f p) { blocks = kss } in
        let st : List machine.Frame = record (frame_at f p) { blocks = kss } ∷ below in
        ended_leads w h at.frame at.below (sessions.release release_at.Leave ks (with_stack h st n)) (subst AnswersNobody (sym at.origin) tt)
        (ends_part w m (with_stack h st n) h st release_at.Leave at.frame at.below ks g.stands g.here
        (going_active w m h machine.Runs f below g) at.is at.reserved
        (put_moved h p.objects (frame_at f p ∷ below) st m) refl
        (subst (λ t. IsStaged t (place_of f1 below) (AreBlocks (NamesOf t f1) kss (IsRoutine f1 (NeedsOf t f1) (IsStack below))) at.below) (sym runs) (
          at.quiet,
          blocks_map (λ i. NamesOf machine.Runs f (suc i)) (NamesOf machine.Runs f1) kss f (NeedsOf machine.Runs f) (NeedsOf machine.Runs f1)
              (IsStack below) at.below (λ i js c. subst (AreCovered f.current.handler js) (sym (names i)) c)
              (λ js c. stays_covered f.current.handler js (separate_formals f.environment) (separate_formals p.environment) formals c) at.rest,
        )))

-- or it opens one, whose names nobody needs yet
pub opens_leads : (w : World) (m : machine.World) (h : ℕ) (f : machine.Frame) (below : List machine.Frame) (p : Point)
    → Going w m h machine.Runs f below → FormalsStay f p
    → ((i : ℕ) → names_in p.tasks p.environment (suc i) ≡ names_in f.tasks f.environment i)
    → Leads w (with_stack h (record (frame_at f p) { stage = ReservesBlock } ∷ below)
    (put h (record (m.handlers h) { objects = p.objects; stack = frame_at f p ∷ below }) m))
opens_leads w m h f below p g formals names =
    let n = put h (record (m.handlers h) { objects = p.objects; stack = frame_at f p ∷ below }) m in
    let f1 : machine.Frame = record (frame_at f p) { stage = ReservesBlock } in
    let st : List machine.Frame = record (frame_at f p) { stage = ReservesBlock } ∷ below in
    stays w (with_stack h st n) (stands_same h st w m (with_stack h st n) g.stands g.here (put_moved h p.objects (frame_at f p ∷ below) st m) (
      g.quiet,
      blocks_map (NamesOf machine.Runs f) (NamesOf machine.ReservesBlock f1) f.blocks f (NeedsOf machine.Runs f)
          (NeedsOf machine.ReservesBlock f1) (IsStack below) (w.handlers h).stack
          (λ i js c. subst (AreCovered f.current.handler js) (sym (names i)) c)
          (λ js c. stays_covered f.current.handler js (separate_formals f.environment) (separate_formals p.environment) formals c) g.parts,
    ) refl)

-- ---- false clauses

pub waits_again_leads : (w : World) (m : machine.World) (h : ℕ) (f : machine.Frame) (below : List machine.Frame) → Going w m h machine.Runs f below
    → f.blocks ≡ [] → Leads w (waits_again h f below m)
waits_again_leads w m h f below g none =
    let at = only_routine w m h machine.Runs f below g none in
    let active = going_active w m h machine.Runs f below g in
    let rel : Released h at.frame at.below (handlers_of at.frame.reserved) w = releases h at.frame.reserved at.frame at.below w active at.is refl in
    let v = rel.world in
    let new : Frame = record at.frame { reserved = []; needs = rel.needs } in
    let free : at.frame.waits ≡ None = sym (ap waits_for at.is) ∙ active.1 in
    let st : List machine.Frame = again ∷ below in
    let n = waits_again h f below m in
    record {
      world = v;
      steps = rel.steps;
      stands = stands_put h (again ∷ below) (new ∷ at.below) w v m n g.stands g.here rel.stack
          (put_more h st m (with_stack h st m) n (put_stack h st m)
          (λ k. looks_ended (ends_session release_at.FalseWaitCondition && is_among k f.reserved) ((with_stack h st m).handlers k)) refl) (
            free,
            subst (λ kss. AreBlocks (NamesOf machine.Reserves again) kss (IsRoutine again (NeedsOf machine.Reserves again) (IsStack below))
                (new ∷ at.below)) (sym none)
                (at.origin, refl, at.rest, tt),
          )
          (released_rights h at.frame at.below (handlers_of at.frame.reserved) w rel ∙ ap (λ l. rights.release l (rights_of w)) at.reserved
          ∙ ap (rights.release f.reserved) g.stands.rights)
          (λ k le. released_beyond h at.frame at.below (handlers_of at.frame.reserved) w rel k);
    }
  where
    again : machine.Frame
    again = record f {
      stage = Reserves;
      tasks = tasks_of f.routine;
      values = [];
      reserved = [];
      mark = mark_of (λ k. (m.handlers k).sessions) f.reserved;
    }

looks_counted : (b : Bool) (x : machine.Handler) → Looks x (counted_refusal b x)
looks_counted true x = looks_same x
looks_counted false x = record { failure = refl; stack = refl; queue = refl; callback = refl; answer = refl }

pub refuses_leads : (G : World → Type 0) (K : Keeps G) (s : System) (w : World) (m : machine.World) (h : ℕ) (f : machine.Frame)
    (below : List machine.Frame) → G w → Going w m h machine.Runs f below → f.blocks ≡ []
    → Leads w (correctness_fails s h f.origin f below m)
refuses_leads G K s w m h f below good g none = by f.origin at.origin
  where
    at : RoutineAt f (NeedsOf machine.Runs f) (IsStack below) (w.handlers h).stack
    at = only_routine w m h machine.Runs f below g none

    by : (p : machine.Origin) → IsOrigin at.frame.origin p → Leads w (correctness_fails s h p f below m)
    by (machine.Called c) is = going_fails w m h machine.Runs f below cause.Precondition (K.consistent w good) g
    by (machine.Requested q) is =
        let r = some_request at.frame.origin q is in
        let x = counted_refusal q.is_waited (record (m.handlers h) { stack = below }) in
        if_leads w (is_creation q.errand && not (object_meets s (object_numbered f.current.number (m.handlers h).objects))) _ _
        (λ e. going_fails w m h machine.Runs f below cause.Invariant (K.consistent w good) g)
        (λ e. ended_finishes G K w h at.frame at.below (sessions.release release_at.Refusal f.reserved (put h x m)) Answer.Refused machine.Refused r.0
        q good g.here Refuses r.1 r.2
        (ends_part w m (put h x m) h below release_at.Refusal at.frame at.below f.reserved g.stands g.here
        (going_active w m h machine.Runs f below g) at.is at.reserved
        (put_handler h below (counted_refusal q.is_waited (record (m.handlers h) { stack = below })) m
        (looks_counted q.is_waited (record (m.handlers h) { stack = below }))) refl at.rest))

pub clause_leads : (G : World → Type 0) (K : Keeps G) (s : System) (w : World) (m : machine.World) (h : ℕ) (f : machine.Frame)
    (below : List machine.Frame) (v : EntryVerdict) → G w → Going w m h machine.Runs f below → f.blocks ≡ []
    → Leads w (false_clause v s h f below m)
clause_leads G K s w m h f below verdict.Wait good g none = waits_again_leads w m h f below g none
clause_leads G K s w m h f below verdict.Refuse good g none = refuses_leads G K s w m h f below good g none
clause_leads G K s w m h f below verdict.Start good g none = going_fails w m h machine.Runs f below cause.BadCode (K.consistent w good) g
