-- How the frames and requests of a handler change in its turn.
use Rattle.std.proofs.Common.{ℕ, ◌≡◌, ◌≢◌, ◌⊎◌, ◌<◌, ◌==◌, ◌&&◌, ◌||◌, not, Bool, true, false, List, [], ◌∷◌, ◌++◌, Option, Some, None, refl, sym, ap, subst, ◌∙◌, inl, arith}
use Rattle.std.specs.Prelude.{is_some, length, nat_lt}
use Rattle.std.specs.Option.{option_and_then, option_map}
use Rattle.sc_tree.specs.Plain as tree
use Rattle.sc_tree.specs.Plain.{System, Clause, FeatureKind}
use Rattle.sc_class.specs.Tables.Features.{DeclaredFeature}
use Rattle.sc_rules.specs.declared.entity_types.entity_type.EntityType.{EntityType}
use Rattle.sc_rules.specs.Types.{declared_type}
use Rattle.sc_lockpass.specs.Rights.{held}
use Rattle.sc_lockpass.specs.wait_conditions.Reservations.{mark_of, reserve_fails}
use Rattle.sc_lockpass.specs.declared.wait_conditions.condition.EntryVerdict.{EntryVerdict}
use Rattle.sc_lockpass.specs.declared.wait_conditions.condition.EntryVerdict.TheVariants as verdict
use Rattle.sc_lockpass.specs.declared.wait_conditions.session.Release.TheVariants as release_at
use Rattle.sc_model.specs.declared.cause.Cause.{Cause}
use Rattle.sc_model.specs.declared.cause.Cause.TheVariants as cause
use Rattle.sc_model.specs.Answers.{finish}
use Rattle.sc_model.specs.Asking.{asks, awaits_if, created, is_callback, passes_or_releases, posts_creation, request, request_by, send, with_handler}
use Rattle.sc_model.specs.Entries.{enters, enters_bound, entry, reserves_if}
use Rattle.sc_model.specs.Environments.{Binding, binding_named, formals_bound}
use Rattle.sc_model.specs.Exits.{exits, handed, handed_as, is_unset, is_unset_value, is_untested, leaves_block, leaves_to}
use Rattle.sc_model.specs.Failures.{fails_with}
use Rattle.sc_model.specs.Handlers.{Answer, Called, Calls, Errand, Failed, Frame, Handler, InCall, Makes, Origin, Refused, Reply, Request, Requested, Reserves, ReservesBlock, World, frame_at, put, with_stack}
use Rattle.sc_model.specs.Invariants.{meets_invariant}
use Rattle.sc_model.specs.Limits.{max_frames, max_queue}
use Rattle.sc_model.specs.Objects.{Object, fresh_object, object_numbered}
use Rattle.sc_model.specs.Preconditions.{correctness_fails, counted_refusal, false_clause, is_creation, object_meets, refuses, verdict_on}
use Rattle.sc_model.specs.Routines.{Routine, routine_named, routine_of, version_of}
use Rattle.sc_model.specs.Sessions.{release, standing_in}
use Rattle.sc_model.specs.Steps.{Act, Calling, Creates, CreatesHandler, Enters, Exits, Fails, Leaves, Opens, Point, Prints, Refuses, Requests, Starts, Until}
use Rattle.sc_model.specs.Takes.{released_if, replies, takes, takes_answer, takes_creation, takes_errand, takes_kind, takes_next, takes_version, with_new_object}
use Rattle.sc_model.specs.Tasks.{Declare, Do, Forget, In, Task, ensures, keeps_olds, requires, tasks_of}
use Rattle.sc_model.specs.Olds.{olds_of_clauses}
use Rattle.sc_model.specs.Turns.{effect}
use Rattle.sc_model.specs.Values.{Attached, Operand, Reference, Value, operand, values_of}
use Rattle.sc_machine_laws.specs.states.Places.{called_name}
use Rattle.sc_machine_laws.specs.settlements.Entries.{HasStarted}
use Rattle.sc_machine_laws.specs.Starting.{IsVerdict}
use Rattle.sc_refines_world.specs.Moving as moving
use Rattle.sc_refines_world.specs.Moving.{Acts, AsksForNone, ComesTo, FramesMove, GoesOn, IsTaken, RequestsStay, call, end, fall, go_on, is_plain, refuse, return, stay, take_callback, take_next}
use Rattle.sc_refines_world.proofs.StayingRequests.{Alike, alike_again, alike_same, alike_to, counted_like, rest_same, rest_alike, put_own, put_like, release_like, finish_like, passes_like, send_like, new_like, stack_own, rest_put, rest_stack, fails_falls, either, IsHanded, handed_same}

-- Where the move of the frame, which stands on these, has come to, what has started is what had, or it is the verdict's.
abbrev pub Starting : System → World → ℕ → Frame → List Frame → Type 0
Starting s w h f below = (a : Act) (p : Point) → Acts s w h f a p → is_plain a ≡ true → HasStarted p.tasks →
    HasStarted f.tasks ⊎ ((p : Point) × IsVerdict s w h f below p)

-- It asks no one but another handler.
abbrev pub AsksAnother : System → World → ℕ → Frame → Type 0
AsksAnother s w h f = (r : Reference) (x : List ℕ) (us : List Operand) (t : Option EntityType) (b : Bool) (p : Point) → Acts s w h f (Requests r x us t b) p → h ≢ r.handler

module _ (most : ℕ) (s : System) (h : ℕ) (w : World) (lives : (w.handlers h).failure ≡ None) where
  abbrev T : World → Type 0
  T v = FramesMove s w h (w.handlers h) (v.handlers h)

  -- what stood at the handler stands there yet
  abbrev K : World → Type 0
  K v = RequestsStay (w.handlers h) (v.handlers h)

  pub fails_move : (why : Cause) (taken : List Request) (v : World) → T (fails_with h why taken v)
  fails_move why taken v = fall (fails_falls h (w.handlers h) lives why taken v)

  -- ---- a request is taken

  module _ (r : Request) (below : List Frame) (v : World) (stack_is : (v.handlers h).stack ≡ below)
      (made : (y : Handler) → y.queue ≡ (v.handlers h).queue → y.callback ≡ (v.handlers h).callback → y.failure ≡ (v.handlers h).failure → IsTaken s r below y.stack →
      FramesMove s w h (w.handlers h) y) where
    -- it is done at once
    done_move : AsksForNone s r → (a : Answer) (u : World) → Alike (v.handlers h) (u.handlers h) → T (finish r a u)
    done_move none a u same =
        let z = alike_again same (finish_like h r a u) in
        made ((finish r a u).handlers h) z.queue z.callback z.failure (moving.IsTaken.done none (z.stack ∙ stack_is))

    enters_move : (x : List ℕ) → called_name r.errand ≡ Some x → (o : Option Routine) → routine_named s r.target.class x ≡ o → (u : World) →
        Alike (v.handlers h) (u.handlers h) → T (enters s h r.target o (Requested r) below (r ∷ []) r.actuals u)
    enters_move x name None is u same = fails_move cause.BadCode (r ∷ []) u
    enters_move x name (Some q) is u same = bound (formals_bound s q.text.formals 0 q.text.formals r.actuals) refl
      where
        begun : (bs : List Binding) → formals_bound s q.text.formals 0 q.text.formals r.actuals ≡ Some bs → T (with_stack h (entry r.target q (Requested r) bs ∷ below) u)
        begun bs are =
            let y : Handler = record (u.handlers h) { stack = entry r.target q (Requested r) bs ∷ below } in
            made ((put h y u).handlers h) (ap (λ (z : Handler). z.queue) (put_own h y u) ∙ same.queue) (ap (λ (z : Handler). z.callback) (put_own h y u) ∙ same.callback)
            (ap (λ (z : Handler). z.failure) (put_own h y u) ∙ same.failure)
            (moving.IsTaken.begun {f = entry r.target q (Requested r) bs} (stack_own h (entry r.target q (Requested r) bs ∷ below) u)
            (record { origin_is = refl; tasks_are = refl }) name (record { current_is = refl; is_version = is; has_actuals = are }))

        bound : (b : Option (List Binding)) → formals_bound s q.text.formals 0 q.text.formals r.actuals ≡ b →
            T (enters_bound h r.target q (Requested r) below (r ∷ []) b u)
        bound None e = fails_move cause.BadCode (r ∷ []) u
        bound (Some bs) e = either T (nat_lt (length below) max_frames) _ _ (begun bs e) (fails_move cause.StackFull (r ∷ []) u)

    replies_move : AsksForNone s r → (t : Option EntityType) (b : Option Binding) → T (replies h r t b v)
    replies_move none (Some t) (Some b) =
        either T (is_unset_value b.value t) _ _ (fails_move cause.UnsetEntity (r ∷ []) v) (done_move none (Reply (Some b.value)) v (alike_same (v.handlers h)))
    replies_move none (Some t) None = fails_move cause.BadCode (r ∷ []) v
    replies_move none None b = fails_move cause.BadCode (r ∷ []) v

    version_moves : (x : List ℕ) → r.errand ≡ Calls x → (o : Option Object) (f : Option DeclaredFeature) → version_of s r.target.class x ≡ f →
        T (takes_version s h r x below o f v)
    version_moves x asks (Some o) (Some f) is = by f.feature.kind refl
      where
        by : (k : FeatureKind) → f.feature.kind ≡ k → T (takes_kind s h r x below o f k v)
        by (tree.Attribute d) kind = replies_move (moving.AsksForNone.attribute asks is kind) (declared_type s [] d) (binding_named x o.attributes)
        by (tree.Routine c) kind = enters_move x (ap called_name asks) (routine_of s f) (ap (option_and_then (routine_of s)) is) v (alike_same (v.handlers h))
    version_moves x asks (Some o) None is = fails_move cause.BadCode (r ∷ []) v
    version_moves x asks None f is = fails_move cause.BadCode (r ∷ []) v

    takes_moves : T (takes s h r below v)
    takes_moves = by r.errand refl
      where
        new : World
        new = with_new_object s h r.target.class v

        created_like : Alike (v.handlers h) (new.handlers h)
        created_like = put_like h h (record (v.handlers h) { objects = (v.handlers h).objects ++ fresh_object s r.target.class ∷ [] }) v
            (record { stack = refl; queue = refl; callback = refl; failure = refl })

        creation : (k : Option (List ℕ)) → r.errand ≡ Makes k → T (takes_creation s h r k below new)
        creation (Some x) asks = enters_move x (ap called_name asks) (routine_named s r.target.class x) refl new created_like
        creation None asks = either T (meets_invariant s (fresh_object s r.target.class)) _ _ (done_move (moving.AsksForNone.object asks) (Reply None) new created_like)
            (fails_move cause.Invariant (r ∷ []) new)

        by : (c : Errand) → r.errand ≡ c → T (takes_errand s h r c below v)
        by (Makes k) asks = creation k asks
        by (Calls x) asks = either T (r.target.handler == h) _ _
            (version_moves x asks (object_numbered r.target.number (v.handlers h).objects) (version_of s r.target.class x) refl) (fails_move cause.ForeignObject (r ∷ []) v)

  pub next_moves : (rs : List Request) → (w.handlers h).stack ≡ [] → (w.handlers h).queue ≡ rs → T (takes_next s h rs w)
  next_moves [] at e = stay refl (rest_same (w.handlers h))
  next_moves (r ∷ rs) at e =
      let x : Handler = record (w.handlers h) { queue = rs } in
      let own : (put h x w).handlers h ≡ x = put_own h x w in
      takes_moves r [] (put h x w) (ap (λ (y : Handler). y.stack) own ∙ at)
      (λ y queue callback failure taken. take_next at (e ∙ ap (λ qs. r ∷ qs) (sym (queue ∙ ap (λ (y : Handler). y.queue) own)))
      (callback ∙ ap (λ (y : Handler). y.callback) own) (failure ∙ ap (λ (y : Handler). y.failure) own) taken)

  -- ---- the topmost frame goes on

  module _ (f : Frame) (below : List Frame) (at : (w.handlers h).stack ≡ f ∷ below) where
    -- it does, with the same left to do
    pub same_left : (g : Frame) → IsHanded f g → ComesTo s w h f below g
    same_left g z = record {
      current_stays = z.current;
      routine_stays = z.routine;
      origin_stays = z.origin;
      goes_on = moving.GoesOn.stood z.text z.environment z.tasks;
      starts_by_verdict = λ some started. inl (subst HasStarted z.tasks started);
    }

    pub callback_moves : (r : Request) → (w.handlers h).callback ≡ Some r → T (takes s h r (f ∷ below) (put h (record (w.handlers h) { callback = None }) w))
    callback_moves r e =
        let x : Handler = record (w.handlers h) { callback = None } in
        let own : (put h x w).handlers h ≡ x = put_own h x w in
        takes_moves r (f ∷ below) (put h x w) (ap (λ (y : Handler). y.stack) own ∙ at)
        (λ y queue callback failure taken. take_callback e (callback ∙ ap (λ (y : Handler). y.callback) own) (queue ∙ ap (λ (y : Handler). y.queue) own)
        (failure ∙ ap (λ (y : Handler). y.failure) own) (subst (λ st. IsTaken s r st y.stack) (sym at) taken))

    pub answer_moves : (a : Answer) (k : ℕ) (t : Option EntityType) (c : Bool) → T (takes_answer h a k t c f below w)
    answer_moves Failed k t c = fails_move cause.SupplierFailed [] w
    answer_moves Refused k t c = fails_move cause.Precondition [] w
    answer_moves (Reply v) k t c = by c
      where
        x : Handler
        x = record (w.handlers h) { stack = handed_as t v f ∷ below; answer = None }

        stack_is : ((put h x w).handlers h).stack ≡ handed_as t v f ∷ below
        stack_is = ap (λ (y : Handler). y.stack) (put_own h x w)

        rest : K (put h x w)
        rest = rest_put h (w.handlers h) x w (record { queue_stays = refl; callback_stays = refl; failure_stays = refl })

        by : (b : Bool) → T (released_if b k (put h x w))
        by true =
            let a = release_like h release_at.Creation (k ∷ []) (put h x w) in
            go_on at (a.stack ∙ stack_is) (same_left (handed_as t v f) (handed_same t v f)) (rest_alike rest a)
        by false = go_on at stack_is (same_left (handed_as t v f) (handed_same t v f)) rest

    pub reserve_moves : (b : Bool) (ks : List ℕ) (g : Frame) → ComesTo s w h f below g → T (reserves_if b h ks g below w)
    reserve_moves false ks g c = stay refl (rest_same (w.handlers h))
    reserve_moves true ks g c =
        either T (reserve_fails (standing_in w) w.rights ks) _ _ (fails_move cause.SupplierFailed [] w)
        (go_on at (stack_own h (g ∷ below) w) c (rest_stack h (g ∷ below) w (rest_same (w.handlers h))))

    -- ---- a visible step

    module _ (starting : Starting s w h f below) (another : AsksAnother s w h f) (here : h < w.count) (p : Point) where
      abbrev moved : World
      moved = put h (record (w.handlers h) { objects = p.objects; stack = frame_at f p ∷ below }) w

      moved_stack : (moved.handlers h).stack ≡ frame_at f p ∷ below
      moved_stack = ap (λ (y : Handler). y.stack) (put_own h (record (w.handlers h) { objects = p.objects; stack = frame_at f p ∷ below }) w)

      moved_rest : K moved
      moved_rest = rest_put h (w.handlers h) (record (w.handlers h) { objects = p.objects; stack = frame_at f p ∷ below }) w
          (record { queue_stays = refl; callback_stays = refl; failure_stays = refl })

      at_point : (a : Act) → Acts s w h f a p → is_plain a ≡ true → (g : Frame) → IsHanded (frame_at f p) g → ComesTo s w h f below g
      at_point a move plain g z = record {
        current_stays = z.current;
        routine_stays = z.routine;
        origin_stays = z.origin;
        goes_on = moving.GoesOn.moved move plain z.text z.environment z.tasks;
        starts_by_verdict = λ some started. starting a p move plain (subst HasStarted z.tasks started);
      }

      awaits_same : (b : Bool) (k : ℕ) (t : Option EntityType) (c : Bool) (g : Frame) → IsHanded (frame_at f p) g → IsHanded (frame_at f p) (awaits_if b k t c g)
      awaits_same true k t c g z =
          record { tasks = z.tasks; current = z.current; routine = z.routine; origin = z.origin; text = z.text; environment = z.environment }
      awaits_same false k t c g z = z

      there : IsHanded (frame_at f p) (frame_at f p)
      there = record { tasks = refl; current = refl; routine = refl; origin = refl; text = refl; environment = refl }

      enters_call : (me : Reference) (x : List ℕ) (us : List Operand) (t : Option EntityType) (c : Calling) → Acts s w h f (Enters c me x us t) p → (o : Option Routine) →
          routine_named s me.class x ≡ o → (g : Frame) → ComesTo s w h f below g → T (enters s h me o (Called c) (g ∷ below) [] (values_of us) moved)
      enters_call me x us t c move None is g z = fails_move cause.BadCode [] moved
      enters_call me x us t c move (Some q) is g z = bound (formals_bound s q.text.formals 0 q.text.formals (values_of us)) refl
        where
          bound : (b : Option (List Binding)) → formals_bound s q.text.formals 0 q.text.formals (values_of us) ≡ b → T (enters_bound h me q (Called c) (g ∷ below) [] b moved)
          bound None e = fails_move cause.BadCode [] moved
          bound (Some bs) e = either T (nat_lt (length (g ∷ below)) max_frames) _ _
              (call at (stack_own h (entry me q (Called c) bs ∷ g ∷ below) moved) z (record {
                object = me;
                name = x;
                actuals = us;
                gives = t;
                point = p;
                does = move;
                begins = record { origin_is = refl; tasks_are = refl };
                is_entered = record { current_is = refl; is_version = is; has_actuals = e };
              }) (rest_stack h (entry me q (Called c) bs ∷ g ∷ below) moved moved_rest))
              (fails_move cause.StackFull [] moved)

      asks_moves : (r : Reference) (x : List ℕ) (us : List Operand) (t : Option EntityType) (b waiting : Bool) → h ≢ r.handler →
          ComesTo s w h f below (awaits_if waiting r.handler t false (frame_at f p)) → T (asks h r x us t b waiting (frame_at f p) below moved)
      asks_moves r x us t b waiting ne z =
          let q : Request = request_by h r (Calls x) us waiting b moved in
          let g : Frame = awaits_if waiting r.handler t false (frame_at f p) in
          let asking : World = with_stack h (g ∷ below) moved in
          let sent : World = send (is_callback h r.handler moved) r.handler q asking in
          let a = alike_again (send_like h (is_callback h r.handler moved) r.handler q asking ne) (passes_like h b r.handler sent) in
          go_on at (a.stack ∙ stack_own h (g ∷ below) moved) z (rest_alike (rest_stack h (g ∷ below) moved moved_rest) a)

      request_moves : (r : Reference) (x : List ℕ) (us : List Operand) (t : Option EntityType) (b : Bool) → Acts s w h f (Requests r x us t b) p →
          T (request h r x us t b (frame_at f p) below moved)
      request_moves r x us t b move =
          let waiting : Bool = b || is_some t || is_callback h r.handler moved in
          either T (not (held moved.rights h r.handler)) _ _ (fails_move cause.NotHeld [] moved)
          (either T (is_some (moved.handlers r.handler).failure) _ _ (fails_move cause.SupplierFailed [] moved)
          (either T (not (is_callback h r.handler moved) && not (nat_lt (length (moved.handlers r.handler).queue) max_queue)) _ _ (fails_move cause.QueueFull [] moved)
          (asks_moves r x us t b waiting (another r x us t b p move)
          (at_point (Requests r x us t b) move refl (awaits_if waiting r.handler t false (frame_at f p)) (awaits_same waiting r.handler t false (frame_at f p) there)))))

      created_moves : (a : Act) → Acts s w h f a p → is_plain a ≡ true → (r : Reference) → h ≢ r.handler → (k : Option (List ℕ)) (us : List Operand) (t : EntityType) (b : Bool) →
          T (created h r k us t b (frame_at f p) below moved)
      created_moves a move plain r ne k us t b = by b
        where
          new : World
          new = with_handler r.handler h moved

          made : Frame
          made = record (frame_at f p) { values = operand (Attached r) t ∷ p.values }

          g : Frame
          g = awaits_if b r.handler None true made

          posting : World
          posting = with_stack h (g ∷ below) new

          posted : World
          posted = posts_creation h r k us t b (frame_at f p) below new

          sent : Alike (posting.handlers h) (posted.handlers h)
          sent = send_like h false r.handler (request_by h r (Makes k) us b b new) posting ne

          stack_is : (posted.handlers h).stack ≡ g ∷ below
          stack_is = sent.stack ∙ stack_own h (g ∷ below) new

          rest : K posted
          rest = rest_alike (rest_stack h (g ∷ below) new (rest_alike moved_rest (new_like h r.handler moved ne))) sent

          z : ComesTo s w h f below g
          z = at_point a move plain g (awaits_same b r.handler None true made
              (record { tasks = refl; current = refl; routine = refl; origin = refl; text = refl; environment = refl }))

          by : (c : Bool) → T (passes_or_releases c h r.handler posted)
          by true = let a = passes_like h true r.handler posted in go_on at (a.stack ∙ stack_is) z (rest_alike rest a)
          by false = let a = release_like h release_at.Creation (r.handler ∷ []) posted in go_on at (a.stack ∙ stack_is) z (rest_alike rest a)

      -- a precondition that is to be tried again isn't started
      refuses_moves : (k : Clause) → Acts s w h f (Refuses k) p → verdict_on (frame_at f p) k ≡ verdict.Refuse → (r : Request) → f.origin ≡ Requested r →
          T (refuses s h r (frame_at f p) below moved)
      refuses_moves k move refused r e =
          let x : Handler = record (moved.handlers h) { stack = below } in
          let y : Handler = counted_refusal r.is_waited x in
          let counted = counted_like r.is_waited x in
          let u : World = release release_at.Refusal f.reserved (put h y moved) in
          let a = alike_again (alike_to y ((put h y moved).handlers h) (put_own h y moved))
          (alike_again (release_like h release_at.Refusal f.reserved (put h y moved)) (finish_like h r Refused u)) in
          either T (is_creation r.errand && not (object_meets s (object_numbered f.current.number (moved.handlers h).objects))) _ _ (fails_move cause.Invariant [] moved)
          (refuse at e move refused (a.stack ∙ counted.stack) (record {
            queue_stays = a.queue ∙ counted.queue ∙ moved_rest.queue_stays;
            callback_stays = a.callback ∙ counted.callback ∙ moved_rest.callback_stays;
            failure_stays = a.failure ∙ counted.failure ∙ moved_rest.failure_stays;
          }))

      waits_again_so : (k : Clause) → Acts s w h f (Refuses k) p → verdict_on (frame_at f p) k ≡ verdict.Wait → (g : Frame) → g.tasks ≡ tasks_of f.routine →
          g.current ≡ f.current → g.routine ≡ f.routine → g.origin ≡ f.origin → g.text ≡ p.text → g.environment ≡ p.environment → ComesTo s w h f below g
      waits_again_so k move is g left current routine origin text environment = record {
        current_stays = current;
        routine_stays = routine;
        origin_stays = origin;
        goes_on = moving.GoesOn.again move is text environment left;
        starts_by_verdict = λ some z. absurd (unstarted f.routine.require refl some (subst HasStarted left z));
      }
        where
          unstarted : (ks : List Clause) → f.routine.require ≡ ks → (f.routine.require ≡ [] → ⊥) → HasStarted (tasks_of f.routine) → ⊥
          unstarted [] e some z = some e
          unstarted (k ∷ ks) e some z = never (subst (λ ks. HasStarted ((requires ks ++ keeps_olds (olds_of_clauses f.routine.ensure)) ++ behind)) e z)
            where
              behind : List Task
              behind = In f.routine.text ∷ Declare f.routine.locals ∷ Do f.routine.body ∷ Forget (length f.routine.text.formals) ∷ In f.routine.contract ∷ ensures 0 f.routine.ensure

              never : HasStarted ((requires (k ∷ ks) ++ keeps_olds (olds_of_clauses f.routine.ensure)) ++ behind) → ⊥
              never z = let no : true ≡ false = z.0 in cc

      clause_moves : (k : Clause) → Acts s w h f (Refuses k) p → (d : EntryVerdict) → verdict_on (frame_at f p) k ≡ d → T (false_clause d s h (frame_at f p) below moved)
      clause_moves k move verdict.Start is = fails_move cause.BadCode [] moved
      clause_moves k move verdict.Wait is =
          let g : Frame = record (frame_at f p) { stage = Reserves; tasks = tasks_of f.routine; values = []; reserved = []; mark = mark_of (λ k. (moved.handlers k).sessions) f.reserved } in
          let a = release_like h release_at.FalseWaitCondition f.reserved (with_stack h (g ∷ below) moved) in
          go_on at (a.stack ∙ stack_own h (g ∷ below) moved) (waits_again_so k move is g refl refl refl refl refl refl) (rest_alike (rest_stack h (g ∷ below) moved moved_rest) a)
      clause_moves k move verdict.Refuse is = by f.origin refl
        where
          by : (c : Origin) → f.origin ≡ c → T (correctness_fails s h c (frame_at f p) below moved)
          by (Called c) e = fails_move cause.Precondition [] moved
          by (Requested r) e = refuses_moves k move is r e

      exits_moves : Acts s w h f Exits p → T (exits s h (frame_at f p) below moved)
      exits_moves move =
          either T (is_unset p.result) _ _ (fails_move cause.UnsetEntity [] moved)
          (either T (is_untested f.origin || object_meets s (object_numbered f.current.number (moved.handlers h).objects)) _ _ (by f.origin refl) (fails_move cause.Invariant [] moved))
        where
          v : Option Value
          v = option_map (λ (u : Operand). u.value) p.result

          by : (c : Origin) → f.origin ≡ c → T (leaves_to h c f.reserved v below moved)
          by (Called c) e =
              let a = release_like h release_at.Exit f.reserved (with_stack h (handed v below) moved) in
              return at e move (a.stack ∙ stack_own h (handed v below) moved) (rest_alike (rest_stack h (handed v below) moved moved_rest) a)
          by (Requested r) e =
              let u : World = release release_at.Exit f.reserved (with_stack h below moved) in
              let a = alike_again (release_like h release_at.Exit f.reserved (with_stack h below moved)) (finish_like h r (Reply v) u) in
              end at e move (a.stack ∙ stack_own h below moved) (rest_alike (rest_stack h below moved moved_rest) a)

      block_moves : Acts s w h f Leaves p → (kss : List (List ℕ)) → T (leaves_block h kss (frame_at f p) below moved)
      block_moves move [] = fails_move cause.BadCode [] moved
      block_moves move (ks ∷ kss) =
          let g : Frame = record (frame_at f p) { blocks = kss } in
          let a = release_like h release_at.Leave ks (with_stack h (g ∷ below) moved) in
          go_on at (a.stack ∙ stack_own h (g ∷ below) moved)
          (at_point Leaves move refl g (record { tasks = refl; current = refl; routine = refl; origin = refl; text = refl; environment = refl }))
          (rest_alike (rest_stack h (g ∷ below) moved moved_rest) a)

      goes_there : (a : Act) → Acts s w h f a p → is_plain a ≡ true → T moved
      goes_there a move plain = go_on at moved_stack (at_point a move plain (frame_at f p) there) moved_rest

      pub act_moves : (a : Act) → Acts s w h f a p → T (effect most s h a (frame_at f p) below moved)
      act_moves (Prints text) move =
          let x : Handler = record (moved.handlers h) { output = (moved.handlers h).output ++ text } in
          go_on at (ap (λ (y : Handler). y.stack) (put_own h x moved) ∙ moved_stack) (at_point (Prints text) move refl (frame_at f p) there)
          (rest_put h (w.handlers h) x moved (record { queue_stays = moved_rest.queue_stays; callback_stays = moved_rest.callback_stays; failure_stays = moved_rest.failure_stays }))
      act_moves Until move = goes_there Until move refl
      act_moves Creates move = goes_there Creates move refl
      act_moves Starts move = goes_there Starts move refl
      act_moves (CreatesHandler class k us t b) move =
          either T (nat_lt w.count most) _ _
          (created_moves (CreatesHandler class k us t b) move refl (record { handler = w.count; number = 1; class = class }) (λ e. omega (arith, e, here)) k us t b)
          (fails_move cause.TooManyHandlers [] moved)
      act_moves (Enters c me x us t) move =
          let g : Frame = record (frame_at f p) { stage = InCall t } in
          enters_call me x us t c move (routine_named s me.class x) refl g
          (at_point (Enters c me x us t) move refl g (record { tasks = refl; current = refl; routine = refl; origin = refl; text = refl; environment = refl }))
      act_moves (Requests r x us t b) move = request_moves r x us t b move
      act_moves (Refuses k) move = clause_moves k move (verdict_on (frame_at f p) k) refl
      act_moves Opens move =
          let g : Frame = record (frame_at f p) { stage = ReservesBlock } in
          go_on at (stack_own h (g ∷ below) moved)
          (at_point Opens move refl g (record { tasks = refl; current = refl; routine = refl; origin = refl; text = refl; environment = refl }))
          (rest_stack h (g ∷ below) moved moved_rest)
      act_moves Leaves move = block_moves move f.blocks
      act_moves Exits move = exits_moves move
      act_moves (Fails why) move = fails_move why [] moved
