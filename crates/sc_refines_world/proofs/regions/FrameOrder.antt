-- The frames of each handler stand in order, at the opening and after each turn.
use Rattle.std.proofs.Common.{◌≡◌, ◌⊎◌, inl, inr, ◌==◌, ◌&&◌, ◌||◌, ◌<◌, ◌≤◌, not, ℕ, Bool, true, false, List, [], ◌∷◌, ◌++◌, Option, Some, None, length, refl, sym, subst, arith}
use Rattle.std.proofs.lemmas.Bool.{cases_eq, cases_lt}
use Rattle.std.specs.Prelude.{is_some, nat_lt, if◌then◌else◌}
use Rattle.std.specs.Option.{option_map, option_map_or}
use Rattle.sc_tree.specs.Plain as tree
use Rattle.sc_tree.specs.Plain.{System, FeatureKind}
use Rattle.sc_class.specs.ClassNames.{number_of}
use Rattle.sc_class.specs.Tables.Features.{DeclaredFeature}
use Rattle.sc_rules.specs.declared.entity_types.entity_type.EntityType.{EntityType}
use Rattle.sc_rules.specs.Types.{declared_type}
use Rattle.sc_lockpass.specs.Rights.{held}
use Rattle.sc_lockpass.specs.wait_conditions.Reservations.{mark_of, reserve_fails}
use Rattle.sc_lockpass.specs.declared.wait_conditions.condition.EntryVerdict.{EntryVerdict}
use Rattle.sc_lockpass.specs.declared.wait_conditions.condition.EntryVerdict.TheVariants as verdict
use Rattle.sc_lockpass.specs.declared.wait_conditions.session.Release.{Release}
use Rattle.sc_lockpass.specs.declared.wait_conditions.session.Release.TheVariants as release_at
use Rattle.sc_model.specs.declared.cause.Cause.{Cause}
use Rattle.sc_model.specs.declared.cause.Cause.TheVariants as cause
use Rattle.sc_model.specs.Limits.{max_frames, max_queue}
use Rattle.sc_model.specs.Values.{Reference, Value, Attached, Operand, operand, values_of}
use Rattle.sc_model.specs.Environments.{Binding, binding_named, formals_bound, separate_formals}
use Rattle.sc_model.specs.Objects.{Object, object_numbered, fresh_object}
use Rattle.sc_model.specs.Invariants.{meets_invariant}
use Rattle.sc_model.specs.Routines.{Routine, version_of, routine_named, routine_of}
use Rattle.sc_model.specs.Tasks.{tasks_of}
use Rattle.sc_model.specs.Runs.{root_request}
use Rattle.sc_model.specs.Steps.{Act, Prints, Until, Creates, CreatesHandler, Enters, Requests, Starts, Refuses, Opens, Leaves, Exits, Fails, Step, Goes, Does}
use Rattle.sc_model.specs.Moves.{moves}
use Rattle.sc_model.specs.Handlers.{Errand, Calls, Makes, Request, Answer, Reply, Failed, Refused, Origin, Called, Requested, Stage, Runs, Reserves, ReservesBlock, InCall, Awaits, Frame, Handler, World, new_handler, put, with_stack, point_of, frame_at}
use Rattle.sc_model.specs.Sessions.{standing_in, release}
use Rattle.sc_model.specs.Answers.{finish}
use Rattle.sc_model.specs.Failures.{fail, fails_with}
use Rattle.sc_model.specs.Entries.{stage_with, entry, enters_bound, enters, reserves_if, may_reserve, entry_needs, block_needs}
use Rattle.sc_model.specs.Asking.{send, awaits_if, request_by, is_callback, request, with_handler, passes_or_releases, creates_handler}
use Rattle.sc_model.specs.Preconditions.{verdict_on, is_creation, object_meets, counted_refusal, refuses, correctness_fails, false_clause}
use Rattle.sc_model.specs.Exits.{is_unset, is_unset_value, is_untested, handed, handed_as, handed_at, leaves_to, exits, leaves_block}
use Rattle.sc_model.specs.Takes.{replies, takes_kind, takes_version, takes_creation, with_new_object, takes_errand, takes_next, released_if, takes_answer}
use Rattle.sc_model.specs.Turns.{turn, turn_with, goes_on, settles, effect, waits}
use Rattle.sc_refines_world.specs.regions.Order.{IsAwaiting, StandsOver, TakesNone, AreInOrder, OpensInOrder, TurnsKeepOrder}
use Rattle.sc_refines_world.proofs.regions.Alike.{IsAlike, alike_then, own, fails_alike, release_alike, passes_alike, send_alike, finish_alike, counted_alike}
use Rattle.sc_refines_world.proofs.regions.Halves.{by_test}
use Rattle.sc_refines_world.proofs.regions.Others.{idle_turn, turn_leads}

-- ---- frames

handed_order : (gives : Option EntityType) (v : Option Value) (f : Frame) (below : List Frame) → StandsOver f.origin below → AreInOrder below →
    AreInOrder (handed_as gives v f ∷ below)
handed_order (Some t) (Some v) f below over order = (over, tt, order)
handed_order (Some t) None f below over order = (over, tt, order)
handed_order None v f below over order = (over, tt, order)

handed_by : (stage : Stage) (v : Option Value) (f : Frame) (below : List Frame) → AreInOrder (f ∷ below) → AreInOrder (handed_at stage v f ∷ below)
handed_by Runs v f below order = order
handed_by Reserves v f below order = order
handed_by ReservesBlock v f below order = order
handed_by (InCall gives) v f below order = handed_order gives v f below order.0 order.2
handed_by (Awaits k gives b) v f below order = order

handed_each : (v : Option Value) (fs : List Frame) → AreInOrder fs → AreInOrder (handed v fs)
handed_each v [] order = tt
handed_each v (f ∷ below) order = handed_by f.stage v f below order

awaits_order : (b : Bool) (k : ℕ) (gives : Option EntityType) (f : Frame) (below : List Frame) → AreInOrder (f ∷ below) → AreInOrder (awaits_if b k gives false f ∷ below)
awaits_order false k gives f below order = order
awaits_order true k gives f below order = (order.0, tt, order.2)

creator_order : (b : Bool) (k : ℕ) (us : List Operand) (f : Frame) (below : List Frame) → AreInOrder (f ∷ below) →
    AreInOrder (awaits_if b k None true (record f { values = us }) ∷ below)
creator_order false k us f below order = order
creator_order true k us f below order = (order.0, refl, order.2)

entry_order : (me : Reference) (r : Routine) (o : Origin) (bs : List Binding) (fs : List Frame) → StandsOver o fs → AreInOrder fs → AreInOrder (entry me r o bs ∷ fs)
entry_order me r o bs fs over order = (over, by (separate_formals bs), order)
  where
    by : (vs : List Value) → TakesNone (stage_with vs)
    by [] = tt
    by (v ∷ vs) = tt

-- ---- worlds

module _ (h : ℕ) where
  abbrev Ordered : World → Type 0
  Ordered w = AreInOrder (w.handlers h).stack

  order_alike : (x y : Handler) → IsAlike x y → AreInOrder x.stack → AreInOrder y.stack
  order_alike x y a order = subst AreInOrder (sym a.stack) order

  put_ordered : (x : Handler) (w : World) → AreInOrder x.stack → Ordered (put h x w)
  put_ordered x w order = subst (λ (y : Handler). AreInOrder y.stack) (sym (own h x w)) order

  fails_ordered : (why : Cause) (taken : List Request) (w : World) → Ordered (fails_with h why taken w)
  fails_ordered why taken w = subst AreInOrder (sym (fails_alike h why taken w).stack) tt

  fail_ordered : (why : Cause) (w : World) → Ordered (fail h why w)
  fail_ordered why w = fails_ordered why [] w

  stack_ordered : (fs : List Frame) (w : World) → AreInOrder fs → Ordered (with_stack h fs w)
  stack_ordered fs w order = put_ordered (record (w.handlers h) { stack = fs }) w order

  released_ordered : (how : Release) (ks : List ℕ) (w : World) → Ordered w → Ordered (release how ks w)
  released_ordered how ks w order = order_alike (w.handlers h) _ (release_alike how ks w h) order

  finished_ordered : (r : Request) (a : Answer) (w : World) → Ordered w → Ordered (finish r a w)
  finished_ordered r a w order = order_alike (w.handlers h) _ (finish_alike r a w h) order

  -- ---- entries

  bound_ordered : (me : Reference) (r : Routine) (o : Origin) (fs : List Frame) (taken : List Request) (bound : Option (List Binding)) (w : World) →
      StandsOver o fs → AreInOrder fs → Ordered (enters_bound h me r o fs taken bound w)
  bound_ordered me r o fs taken None w over order = fails_ordered cause.BadCode taken w
  bound_ordered me r o fs taken (Some bs) w over order =
      by_test Ordered (nat_lt (length fs) max_frames) _ (fails_with h cause.StackFull taken w)
      (λ e. stack_ordered (entry me r o bs ∷ fs) w (entry_order me r o bs fs over order)) (λ e. fails_ordered cause.StackFull taken w)

  enters_ordered : (s : System) (me : Reference) (r : Option Routine) (o : Origin) (fs : List Frame) (taken : List Request) (vs : List Value) (w : World) →
      StandsOver o fs → AreInOrder fs → Ordered (enters s h me r o fs taken vs w)
  enters_ordered s me None o fs taken vs w over order = fails_ordered cause.BadCode taken w
  enters_ordered s me (Some r) o fs taken vs w over order = bound_ordered me r o fs taken (formals_bound s r.text.formals 0 r.text.formals vs) w over order

  reserves_ordered : (b : Bool) (ks : List ℕ) (f : Frame) (below : List Frame) (w : World) → Ordered w → AreInOrder (f ∷ below) → Ordered (reserves_if b h ks f below w)
  reserves_ordered false ks f below w given order = given
  reserves_ordered true ks f below w given order =
      by_test Ordered (reserve_fails (standing_in w) w.rights ks) (fail h cause.SupplierFailed w) _ (λ e. fail_ordered cause.SupplierFailed w)
      (λ e. stack_ordered (f ∷ below) w order)

  -- ---- requests and creations

  request_ordered : (r : Reference) (x : List ℕ) (us : List Operand) (gives : Option EntityType) (passing : Bool) (f : Frame) (below : List Frame) (w : World) →
      AreInOrder (f ∷ below) → Ordered (request h r x us gives passing f below w)
  request_ordered r x us gives passing f below w order =
      let called = is_callback h r.handler w in
      let waits = passing || is_some gives || called in
      let w1 = with_stack h (awaits_if waits r.handler gives false f ∷ below) w in
      let q = request_by h r (Calls x) us waits passing w in
      by_test Ordered (not (held w.rights h r.handler)) (fail h cause.NotHeld w) _ (λ e. fail_ordered cause.NotHeld w)
      (λ e. by_test Ordered (is_some (w.handlers r.handler).failure) (fail h cause.SupplierFailed w) _ (λ e. fail_ordered cause.SupplierFailed w)
      (λ e. by_test Ordered (not called && not (nat_lt (length (w.handlers r.handler).queue) max_queue)) (fail h cause.QueueFull w) _ (λ e. fail_ordered cause.QueueFull w)
      (λ e. order_alike (w1.handlers h) _ (alike_then (send_alike called r.handler q w1 h) (passes_alike passing h r.handler (send called r.handler q w1) h))
      (stack_ordered (awaits_if waits r.handler gives false f ∷ below) w (awaits_order waits r.handler gives f below order)))))

  released_alike : (b : Bool) (k : ℕ) (w : World) → IsAlike (w.handlers h) ((passes_or_releases b h k w).handlers h)
  released_alike true k w = passes_alike true h k w h
  released_alike false k w = release_alike release_at.Creation (k ∷ []) w h

  creates_ordered : (most class : ℕ) (procedure : Option (List ℕ)) (us : List Operand) (t : EntityType) (passing : Bool) (f : Frame) (below : List Frame) (w : World) →
      AreInOrder (f ∷ below) → Ordered (creates_handler most h class procedure us t passing f below w)
  creates_ordered most class procedure us t passing f below w order =
      let k = w.count in
      let r : Reference = record { handler = k; number = 1; class = class } in
      let vs = operand (Attached r) t ∷ f.values in
      let w1 = with_handler k h w in
      let fs = awaits_if passing k None true (record f { values = vs }) ∷ below in
      let w2 = with_stack h fs w1 in
      let q = request_by h r (Makes procedure) us passing passing w1 in
      by_test Ordered (nat_lt k most) _ (fail h cause.TooManyHandlers w)
      (λ e. order_alike (w2.handlers h) _ (alike_then (send_alike false k q w2 h) (released_alike passing k (send false k q w2)))
      (stack_ordered fs w1 (creator_order passing k vs f below order)))
      (λ e. fail_ordered cause.TooManyHandlers w)

  -- ---- clauses that are false, and ends

  refuses_ordered : (s : System) (r : Request) (f : Frame) (below : List Frame) (w : World) → AreInOrder below → Ordered (refuses s h r f below w)
  refuses_ordered s r f below w order =
      let y = record (w.handlers h) { stack = below } in
      let w1 = put h (counted_refusal r.is_waited y) w in
      by_test Ordered (is_creation r.errand && not (object_meets s (object_numbered f.current.number (w.handlers h).objects))) (fail h cause.Invariant w) _
      (λ e. fail_ordered cause.Invariant w)
      (λ e. finished_ordered r Refused (release release_at.Refusal f.reserved w1)
      (released_ordered release_at.Refusal f.reserved w1
      (put_ordered (counted_refusal r.is_waited y) w (order_alike y (counted_refusal r.is_waited y) (counted_alike r.is_waited y) order))))

  correctness_ordered : (s : System) (o : Origin) (f : Frame) (below : List Frame) (w : World) → AreInOrder below → Ordered (correctness_fails s h o f below w)
  correctness_ordered s (Called c) f below w order = fail_ordered cause.Precondition w
  correctness_ordered s (Requested r) f below w order = refuses_ordered s r f below w order

  clause_ordered : (v : EntryVerdict) (s : System) (f : Frame) (below : List Frame) (w : World) → AreInOrder (f ∷ below) → Ordered (false_clause v s h f below w)
  clause_ordered verdict.Wait s f below w order =
      let g = record f { stage = Reserves; tasks = tasks_of f.routine; values = []; reserved = []; mark = mark_of (λ k. (w.handlers k).sessions) f.reserved } in
      released_ordered release_at.FalseWaitCondition f.reserved (with_stack h (g ∷ below) w) (stack_ordered (g ∷ below) w (order.0, tt, order.2))
  clause_ordered verdict.Refuse s f below w order = correctness_ordered s f.origin f below w order.2
  clause_ordered verdict.Start s f below w order = fail_ordered cause.BadCode w

  left_ordered : (o : Origin) (ks : List ℕ) (v : Option Value) (below : List Frame) (w : World) → AreInOrder below → Ordered (leaves_to h o ks v below w)
  left_ordered (Called c) ks v below w order =
      released_ordered release_at.Exit ks (with_stack h (handed v below) w) (stack_ordered (handed v below) w (handed_each v below order))
  left_ordered (Requested r) ks v below w order =
      finished_ordered r (Reply v) (release release_at.Exit ks (with_stack h below w))
      (released_ordered release_at.Exit ks (with_stack h below w) (stack_ordered below w order))

  exits_ordered : (s : System) (f : Frame) (below : List Frame) (w : World) → AreInOrder below → Ordered (exits s h f below w)
  exits_ordered s f below w order =
      by_test Ordered (is_unset f.result) (fail h cause.UnsetEntity w) _ (λ e. fail_ordered cause.UnsetEntity w)
      (λ e. by_test Ordered (is_untested f.origin || object_meets s (object_numbered f.current.number (w.handlers h).objects)) _ (fail h cause.Invariant w)
      (λ e. left_ordered f.origin f.reserved (option_map (λ (u : Operand). u.value) f.result) below w order) (λ e. fail_ordered cause.Invariant w))

  block_ordered : (blocks : List (List ℕ)) (f : Frame) (below : List Frame) (w : World) → AreInOrder (f ∷ below) → Ordered (leaves_block h blocks f below w)
  block_ordered [] f below w order = fail_ordered cause.BadCode w
  block_ordered (ks ∷ kss) f below w order =
      released_ordered release_at.Leave ks (with_stack h (record f { blocks = kss } ∷ below) w) (stack_ordered (record f { blocks = kss } ∷ below) w order)

  -- ---- requests are taken

  module _ (s : System) (r : Request) (fs : List Frame) (over : StandsOver (Requested r) fs) (order : AreInOrder fs) where
    replies_ordered : (w : World) (t : Option EntityType) (b : Option Binding) → Ordered w → Ordered (replies h r t b w)
    replies_ordered w (Some t) (Some b) given =
        by_test Ordered (is_unset_value b.value t) (fails_with h cause.UnsetEntity (r ∷ []) w) (finish r (Reply (Some b.value)) w)
        (λ e. fails_ordered cause.UnsetEntity (r ∷ []) w) (λ e. finished_ordered r (Reply (Some b.value)) w given)
    replies_ordered w (Some t) None given = fails_ordered cause.BadCode (r ∷ []) w
    replies_ordered w None b given = fails_ordered cause.BadCode (r ∷ []) w

    kind_ordered : (w : World) (name : List ℕ) (o : Object) (f : DeclaredFeature) (k : FeatureKind) → Ordered w → Ordered (takes_kind s h r name fs o f k w)
    kind_ordered w name o f (tree.Attribute d) given = replies_ordered w (declared_type s [] d) (binding_named name o.attributes) given
    kind_ordered w name o f (tree.Routine c) given = enters_ordered s r.target (routine_of s f) (Requested r) fs (r ∷ []) r.actuals w over order

    version_ordered : (w : World) (name : List ℕ) (o : Option Object) (f : Option DeclaredFeature) → Ordered w → Ordered (takes_version s h r name fs o f w)
    version_ordered w name (Some o) (Some f) given = kind_ordered w name o f f.feature.kind given
    version_ordered w name (Some o) None given = fails_ordered cause.BadCode (r ∷ []) w
    version_ordered w name None f given = fails_ordered cause.BadCode (r ∷ []) w

    creation_ordered : (w : World) (k : Option (List ℕ)) → Ordered w → Ordered (takes_creation s h r k fs w)
    creation_ordered w (Some name) given = enters_ordered s r.target (routine_named s r.target.class name) (Requested r) fs (r ∷ []) r.actuals w over order
    creation_ordered w None given =
        by_test Ordered (meets_invariant s (fresh_object s r.target.class)) (finish r (Reply None) w) (fails_with h cause.Invariant (r ∷ []) w)
        (λ e. finished_ordered r (Reply None) w given) (λ e. fails_ordered cause.Invariant (r ∷ []) w)

    takes_ordered : (w : World) (e : Errand) → Ordered w → Ordered (takes_errand s h r e fs w)
    takes_ordered w (Makes k) given =
        creation_ordered (with_new_object s h r.target.class w) k
        (put_ordered (record (w.handlers h) { objects = (w.handlers h).objects ++ fresh_object s r.target.class ∷ [] }) w given)
    takes_ordered w (Calls name) given =
        by_test Ordered (r.target.handler == h) _ (fails_with h cause.ForeignObject (r ∷ []) w)
        (λ e. version_ordered w name (object_numbered r.target.number (w.handlers h).objects) (version_of s r.target.class name) given)
        (λ e. fails_ordered cause.ForeignObject (r ∷ []) w)

  -- ---- turns

  act_ordered : (most : ℕ) (s : System) (a : Act) (f : Frame) (below : List Frame) (w : World) → Ordered w → AreInOrder (f ∷ below) → Ordered (effect most s h a f below w)
  act_ordered most s (Prints text) f below w given order = put_ordered (record (w.handlers h) { output = (w.handlers h).output ++ text }) w given
  act_ordered most s Until f below w given order = given
  act_ordered most s Creates f below w given order = given
  act_ordered most s Starts f below w given order = given
  act_ordered most s (CreatesHandler class procedure us t passing) f below w given order = creates_ordered most class procedure us t passing f below w order
  act_ordered most s (Enters c me x us gives) f below w given order =
      enters_ordered s me (routine_named s me.class x) (Called c) (record f { stage = InCall gives } ∷ below) [] (values_of us) w tt (order.0, tt, order.2)
  act_ordered most s (Requests r x us gives passing) f below w given order = request_ordered r x us gives passing f below w order
  act_ordered most s (Refuses k) f below w given order = clause_ordered (verdict_on f k) s f below w order
  act_ordered most s Opens f below w given order = stack_ordered (record f { stage = ReservesBlock } ∷ below) w (order.0, tt, order.2)
  act_ordered most s Leaves f below w given order = block_ordered f.blocks f below w order
  act_ordered most s Exits f below w given order = exits_ordered s f below w order.2
  act_ordered most s (Fails why) f below w given order = fail_ordered why w

  step_ordered : (most : ℕ) (s : System) (st : Step) (f : Frame) (below : List Frame) (w : World) → Ordered w → AreInOrder (f ∷ below) → Ordered (settles most s h st f below w)
  step_ordered most s (Goes p) f below w given order = given
  step_ordered most s (Does a p) f below w given order =
      let z = record (w.handlers h) { objects = p.objects; stack = frame_at f p ∷ below } in
      act_ordered most s a (frame_at f p) below (put h z w) (put_ordered z w order) order

  answer_ordered : (a : Answer) (k : ℕ) (gives : Option EntityType) (b : Bool) (f : Frame) (below : List Frame) (w : World) → AreInOrder (f ∷ below) →
      Ordered (takes_answer h a k gives b f below w)
  answer_ordered (Reply v) k gives b f below w order = by b
    where
      went : Ordered (put h (record (w.handlers h) { stack = handed_as gives v f ∷ below; answer = None }) w)
      went = put_ordered (record (w.handlers h) { stack = handed_as gives v f ∷ below; answer = None }) w (handed_order gives v f below order.0 order.2)

      by : (c : Bool) → Ordered (released_if c k (put h (record (w.handlers h) { stack = handed_as gives v f ∷ below; answer = None }) w))
      by false = went
      by true = released_ordered release_at.Creation (k ∷ []) (put h (record (w.handlers h) { stack = handed_as gives v f ∷ below; answer = None }) w) went
  answer_ordered Failed k gives b f below w order = fail_ordered cause.SupplierFailed w
  answer_ordered Refused k gives b f below w order = fail_ordered cause.Precondition w

  waits_ordered : (s : System) (callback : Option Request) (a : Option Answer) (k : ℕ) (gives : Option EntityType) (b : Bool) (f : Frame) (below : List Frame) (w : World) →
      Ordered w → AreInOrder (f ∷ below) → IsAwaiting f.stage → Ordered (waits s h callback a k gives b f below w)
  waits_ordered s (Some r) a k gives b f below w given order is =
      takes_ordered s r (f ∷ below) is order (put h (record (w.handlers h) { callback = None }) w) r.errand (put_ordered (record (w.handlers h) { callback = None }) w given)
  waits_ordered s None (Some a) k gives b f below w given order is = answer_ordered a k gives b f below w order
  waits_ordered s None None k gives b f below w given order is = given

  goes_ordered : (most : ℕ) (s : System) (stage : Stage) (f : Frame) (below : List Frame) (w : World) → f.stage ≡ stage → Ordered w → AreInOrder (f ∷ below) →
      Ordered (goes_on most s h stage f below w)
  goes_ordered most s Runs f below w is given order = step_ordered most s (moves s f.current (point_of f (w.handlers h).objects)) f below w given order
  goes_ordered most s Reserves f below w is given order =
      reserves_ordered (may_reserve (entry_needs h f w) f.mark w) (entry_needs h f w) (record f { stage = Runs; reserved = entry_needs h f w }) below w given (order.0, tt, order.2)
  goes_ordered most s ReservesBlock f below w is given order =
      reserves_ordered (may_reserve (block_needs h f w) [] w) (block_needs h f w) (record f { stage = Runs; blocks = block_needs h f w ∷ f.blocks }) below w given (order.0, tt, order.2)
  goes_ordered most s (InCall gives) f below w is given order = fail_ordered cause.BadCode w
  goes_ordered most s (Awaits k gives b) f below w is given order =
      waits_ordered s (w.handlers h).callback (w.handlers h).answer k gives b f below w given order (subst IsAwaiting (sym is) tt)

  next_ordered : (s : System) (rs : List Request) (w : World) → Ordered w → Ordered (takes_next s h rs w)
  next_ordered s [] w given = given
  next_ordered s (r ∷ rs) w given =
      takes_ordered s r [] tt tt (put h (record (w.handlers h) { queue = rs }) w) r.errand (put_ordered (record (w.handlers h) { queue = rs }) w given)

  with_ordered : (most : ℕ) (s : System) (why : Option Cause) (stack : List Frame) (w : World) → (w.handlers h).stack ≡ stack → Ordered w →
      Ordered (turn_with most s h why stack w)
  with_ordered most s (Some why) stack w is given = given
  with_ordered most s None [] w is given = next_ordered s (w.handlers h).queue w given
  with_ordered most s None (f ∷ below) w is given = goes_ordered most s f.stage f below w refl given (subst AreInOrder is given)

  turn_ordered : (most : ℕ) (s : System) (w : World) → Ordered w → Ordered (turn most s h w)
  turn_ordered most s w given =
      by_test Ordered (nat_lt h w.count) (turn_with most s h (w.handlers h).failure (w.handlers h).stack w) w
      (λ e. with_ordered most s (w.handlers h).failure (w.handlers h).stack w refl given) (λ e. given)

-- ---- each handler

-- Frames stand in order after each turn.
pub turns_keep_order : TurnsKeepOrder
turns_keep_order most s h w each k less = by (cases_lt k w.count) (cases_eq k h)
  where
    leads : (k < w.count) → (k ≡ h → ⊥) → IsAlike (w.handlers k) ((turn most s h w).handlers k)
    leads old apart = (turn_leads most s h w).others k old apart

    mine : k < w.count → k ≡ h → AreInOrder ((turn most s h w).handlers k).stack
    mine old is =
        subst (λ (j : ℕ). AreInOrder ((turn most s h w).handlers j).stack) (sym is)
        (turn_ordered h most s w (subst (λ (j : ℕ). AreInOrder (w.handlers j).stack) is (each k old)))

    -- a handler that was created in the turn
    made : w.count ≤ k → (h < w.count) ⊎ (w.count ≤ h) → AreInOrder ((turn most s h w).handlers k).stack
    made few (inl there) = subst AreInOrder (sym ((turn_leads most s h w).created there k few less).stack) tt
    made few (inr beyond) = absurd (omega (arith, few, subst (λ (v : World). k < v.count) (idle_turn most s h w beyond) less))

    by : (k < w.count) ⊎ (w.count ≤ k) → (k ≡ h) ⊎ (k ≡ h → ⊥) → AreInOrder ((turn most s h w).handlers k).stack
    by (inl old) (inl is) = mine old is
    by (inl old) (inr apart) = subst AreInOrder (sym (leads old apart).stack) (each k old)
    by (inr few) is = made few (cases_lt h w.count)

-- Frames stand in order at the opening: there are none.
pub openings_are_in_order : OpensInOrder
openings_are_in_order s root k less = by (nat_lt k 1)
  where
    by : (b : Bool) →
        AreInOrder (if b then record new_handler { queue = root_request (option_map_or (λ k. k) (number_of s root.class) 0) root.procedure ∷ [] } else new_handler).stack
    by true = tt
    by false = tt
