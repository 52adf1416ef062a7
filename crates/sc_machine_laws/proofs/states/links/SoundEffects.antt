-- A false clause, the end of a block, and each effect of a visible step, keep the handlers of the machine sound.
use Rattle.std.proofs.Common.{◌≡◌, ℕ, suc, ◌<◌, ◌&&◌, not, Bool, true, false, List, [], ◌∷◌, ◌++◌, length, refl, sym, ◌∙◌, subst, arith}
use Rattle.std.specs.Prelude.{nat_lt}
use Rattle.sc_tree.specs.Plain.{System}
use Rattle.sc_lockpass.specs.wait_conditions.Reservations.{mark_of}
use Rattle.sc_lockpass.specs.declared.wait_conditions.session.Release.TheVariants as release_at
use Rattle.sc_lockpass.specs.declared.wait_conditions.condition.EntryVerdict.{EntryVerdict}
use Rattle.sc_lockpass.specs.declared.wait_conditions.condition.EntryVerdict.TheVariants as verdict
use Rattle.sc_model.specs.declared.cause.Cause.TheVariants as cause
use Rattle.sc_model.specs.Values.{values_of}
use Rattle.sc_model.specs.Objects.{object_numbered}
use Rattle.sc_model.specs.Routines.{routine_named}
use Rattle.sc_model.specs.Tasks.{tasks_of}
use Rattle.sc_model.specs.Steps.{Point, Act, Prints, Until, Creates, CreatesHandler, Enters, Requests, Starts, Refuses, Opens, Leaves, Exits, Fails}
use Rattle.sc_model.specs.Handlers.{Refused, Origin, Called, Requested, Reserves, ReservesBlock, InCall, Frame, World, frame_at, put, with_stack}
use Rattle.sc_model.specs.Sessions as sessions
use Rattle.sc_model.specs.Preconditions.{verdict_on, is_creation, object_meets, counted_refusal, correctness_fails, false_clause}
use Rattle.sc_model.specs.Exits.{leaves_block}
use Rattle.sc_model.specs.Turns.{effect}
use Rattle.sc_machine_laws.specs.states.Stands.{names_in}
use Rattle.sc_machine_laws.proofs.states.links.BlockNames.{none_tidy}
use Rattle.sc_machine_laws.proofs.states.links.Points.{Every, IsWell, DoesWell}
use Rattle.sc_machine_laws.proofs.states.links.KnownValues.{values_known}
use Rattle.sc_machine_laws.proofs.states.links.LightTasks.{left_none}
use Rattle.sc_machine_laws.proofs.states.links.Sound.{formals_of, own_kept, tasks_deep, IsStageSound, IsFrameSound, IsHandlerSound, IsSound, put_sound, stack_sound, release_sound, fail_sound}
use Rattle.sc_machine_laws.proofs.states.links.Effects.{if_sound, tasks_fresh, enters_sound, finish_sound, exits_sound}
use Rattle.sc_machine_laws.proofs.states.links.SoundRequests.{At, created_sound, request_sound, same_frame, stays_sound}

pub no_blocks : {X : Type 0} (xs : List X) → length xs ≡ 0 → xs ≡ []
no_blocks [] e = refl
no_blocks (x ∷ xs) e = absurd (omega (arith, e))

-- a false clause
clause_sound : (s : System) (f : Frame) (p : Point) (below : List Frame) (h : ℕ) (m : World) (v : EntryVerdict) → At f p below h m → length f.blocks ≡ 0
    → IsWell (λ j. j < m.count) (formals_of f) (length f.blocks) p → IsSound (false_clause v s h (frame_at f p) below m)
clause_sound s f p below h m verdict.Start a none w = fail_sound h cause.BadCode m a.but
clause_sound s f p below h m verdict.Wait a none w =
    let fresh = tasks_fresh f.routine in
    let g : Frame = record (frame_at f p) {
      stage = Reserves;
      tasks = tasks_of f.routine;
      values = [];
      reserved = [];
      mark = mark_of (λ k. (m.handlers k).sessions) f.reserved;
    } in
    release_sound release_at.FalseWaitCondition f.reserved (with_stack h (g ∷ below) m)
    (stack_sound h (record (frame_at f p) {
      stage = Reserves;
      tasks = tasks_of f.routine;
      values = [];
      reserved = [];
      mark = mark_of (λ k. (m.handlers k).sessions) f.reserved;
    } ∷ below) m a.but (
      record {
        current = a.current;
        environment = w.environment;
        result = w.result;
        olds = w.olds;
        values = tt;
        tasks = fresh.0;
        staged = (fresh.1 ∙ sym none, no_blocks f.blocks none, refl);
        formals = record {
          same = refl;
          room = w.formals.room;
          rest = w.formals.rest;
          deep = tasks_deep f.routine;
          named = λ i. refl;
          tidy = none_tidy (tasks_of f.routine) p.environment (left_none p.tasks p.environment (w.left ∙ none) w.formals.tidy);
        };
      },
      a.under,
    ))
clause_sound s f p below h m verdict.Refuse a none w = by f.origin
  where
    counted : (b : Bool) → IsHandlerSound (λ j. j < m.count) h (record (m.handlers h) { stack = below })
        → IsHandlerSound (λ j. j < m.count) h (counted_refusal b (record (m.handlers h) { stack = below }))
    counted true x = x
    counted false x = record { objects = x.objects; stack = x.stack; queue = x.queue; callback = x.callback; answer = x.answer }

    by : (o : Origin) → IsSound (correctness_fails s h o (frame_at f p) below m)
    by (Called c) = fail_sound h cause.Precondition m a.but
    by (Requested q) = if_sound (is_creation q.errand && not (object_meets s (object_numbered f.current.number (m.handlers h).objects))) _ _
        (λ e. fail_sound h cause.Invariant m a.but)
        (λ e. let x = counted_refusal q.is_waited (record (m.handlers h) { stack = below }) in
        finish_sound q Refused (sessions.release release_at.Refusal f.reserved (put h x m))
        (release_sound release_at.Refusal f.reserved (put h x m)
        (put_sound h (counted_refusal q.is_waited (record (m.handlers h) { stack = below })) m a.but.others
        (counted q.is_waited (record {
          objects = a.but.objects;
          stack = a.under;
          queue = a.but.queue;
          callback = a.but.callback;
          answer = a.but.answer;
        })))) tt)

-- the end of a block
left_sound : (f : Frame) (p : Point) (below : List Frame) (h : ℕ) (m : World) (kss : List (List ℕ)) → At f p below h m → (j : ℕ) → length kss ≡ suc j
    → IsWell (λ i. i < m.count) (record (formals_of f) { names = λ i. names_in f.tasks f.environment (suc i) }) j p
    → IsSound (leaves_block h kss (frame_at f p) below m)
left_sound f p below h m [] a j e w = fail_sound h cause.BadCode m a.but
left_sound f p below h m (ks ∷ kss) a j e w =
    release_sound release_at.Leave ks (with_stack h (record (frame_at f p) { blocks = kss } ∷ below) m)
    (stack_sound h (record (frame_at f p) { blocks = kss } ∷ below) m a.but (
      record {
        current = a.current;
        environment = w.environment;
        result = w.result;
        olds = w.olds;
        values = w.values;
        tasks = w.tasks;
        staged = subst (λ t. IsStageSound t (record (frame_at f p) { blocks = kss })) (sym a.runs) (let left = w.left in omega (arith, left, e));
        formals = own_kept (record (formals_of f) { names = λ i. names_in f.tasks f.environment (suc i) }) p.environment p.tasks w.formals;
      },
      a.under,
    ))

pub effect_sound : (most : ℕ) (s : System) (h : ℕ) (a : Act) (f : Frame) (p : Point) (below : List Frame) (m : World) → At f p below h m
    → DoesWell (λ j. j < m.count) (formals_of f) h (length f.blocks) a p
    → IsSound (effect most s h a (frame_at f p) below m)
effect_sound most s h (Prints text) f p below m a w =
    put_sound h (record (m.handlers h) { output = (m.handlers h).output ++ text }) m a.but.others
    (record {
      objects = a.but.objects;
      stack = subst (Every (IsFrameSound (λ j. j < m.count) h)) (sym a.stack)
          (same_frame (λ j. j < m.count) h f p a.current a.runs w, a.under);
      queue = a.but.queue;
      callback = a.but.callback;
      answer = a.but.answer;
    })
effect_sound most s h Until f p below m a w = stays_sound f p below h m a w
effect_sound most s h Creates f p below m a w = stays_sound f p below h m a w
effect_sound most s h Starts f p below m a w = stays_sound f p below h m a w
effect_sound most s h (CreatesHandler class procedure us t passing) f p below m a w =
    if_sound (nat_lt m.count most) _ _ (λ e. created_sound f p below h m class procedure us t passing a w.1 w.0)
    (λ e. fail_sound h cause.TooManyHandlers m a.but)
effect_sound most s h (Enters c r x us gives) f p below m a w =
    let v = w.2 in
    enters_sound s h r (routine_named s r.class x) (Called c) (record (frame_at f p) { stage = InCall gives } ∷ below) [] (values_of us) m a.but w.0 (
      record {
        current = a.current;
        environment = v.environment;
        result = v.result;
        olds = v.olds;
        values = v.values;
        tasks = v.tasks;
        staged = v.left;
        formals = own_kept (formals_of f) p.environment p.tasks v.formals;
      },
      a.under,
    )
    (values_known (λ j. j < m.count) us w.1)
effect_sound most s h (Requests r x us gives passing) f p below m a w = request_sound f p below h m r x us gives passing a w.2 w.1
effect_sound most s h (Refuses k) f p below m a w = clause_sound s f p below h m (verdict_on (frame_at f p) k) a w.0 w.1
effect_sound most s h Opens f p below m a w =
    stack_sound h (record (frame_at f p) { stage = ReservesBlock } ∷ below) m a.but (
      record {
        current = a.current;
        environment = w.0.environment;
        result = w.0.result;
        olds = w.0.olds;
        values = w.0.values;
        tasks = w.0.tasks;
        staged = (w.0.left, w.1);
        formals = own_kept (record (formals_of f) { names = names_in p.tasks p.environment }) p.environment p.tasks w.0.formals;
      },
      a.under,
    )
effect_sound most s h Leaves f p below m a w = left_sound f p below h m f.blocks a w.0 w.1 w.2
effect_sound most s h Exits f p below m a w = exits_sound s h (frame_at f p) below m a.but w.1.result a.under
effect_sound most s h (Fails why) f p below m a w = fail_sound h why m a.but
