-- Each effect of a turn keeps the handlers of the machine sound.
use Rattle.std.proofs.Common.{arith, drop, ◌≡◌, ℕ, ◌<◌, ◌==◌, ◌||◌, Bool, true, false, List, [], ◌∷◌, ◌++◌, Option, Some, None, length, refl, sym, ap, ◌∙◌, subst}
use Rattle.std.specs.Prelude.{if◌then◌else◌, nat_lt, bytes_eq}
use Rattle.std.specs.Option.{option_map}
use Rattle.sc_tree.specs.Plain as tree
use Rattle.sc_tree.specs.Plain.{System, Expr, Clause, FeatureKind}
use Rattle.sc_class.specs.Tables.Features.{DeclaredFeature}
use Rattle.sc_rules.specs.Types.{declared_type}
use Rattle.sc_rules.specs.declared.entity_types.entity_type.EntityType.{EntityType}
use Rattle.sc_lockpass.specs.Passing.{Passed}
use Rattle.sc_lockpass.specs.declared.wait_conditions.session.Release.TheVariants as release_at
use Rattle.sc_class.specs.declared.identity.ClassId.{ClassId}
use Rattle.sc_class.specs.declared.identity.ClassId.TheVariants as class
use Rattle.sc_model.specs.declared.cause.Cause.{Cause}
use Rattle.sc_model.specs.declared.cause.Cause.TheVariants as cause
use Rattle.sc_model.specs.Values.{Reference, Value, Operand, default_of}
use Rattle.sc_model.specs.Environments.{Binding, binding_named, formals_bound, separate_formals, block_values}
use Rattle.sc_machine_laws.proofs.states.links.BlockNames.{none_tidy}
use Rattle.sc_model.specs.Objects.{Object, object_numbered, fresh_object}
use Rattle.sc_model.specs.Invariants.{meets_invariant}
use Rattle.sc_model.specs.Olds.{olds_of_clauses}
use Rattle.sc_model.specs.Routines as routines
use Rattle.sc_model.specs.Routines.{version_of, routine_named, routine_of}
use Rattle.sc_model.specs.Limits.{max_frames}
use Rattle.sc_model.specs.Tasks.{Task, In, Declare, Do, Forget, requires, keeps_olds, ensures, tasks_of}
use Rattle.sc_model.specs.Handlers.{Errand, Calls, Makes, Request, Answer, Reply, Failed, Refused, Origin, Called, Requested, Stage, Runs, Reserves, ReservesBlock, InCall, Awaits, Frame, Handler, World, put, with_stack}
use Rattle.sc_model.specs.Sessions as sessions
use Rattle.sc_model.specs.Answers.{answered, answer_to, return_rights, finish}
use Rattle.sc_model.specs.Failures.{fails_with}
use Rattle.sc_model.specs.Entries.{stage_with, result_of, entry, enters, enters_bound}
use Rattle.sc_model.specs.Exits.{is_unset, is_unset_value, is_untested, handed_as, handed_at, handed, leaves_to, exits}
use Rattle.sc_model.specs.Preconditions.{object_meets}
use Rattle.sc_model.specs.Asking.{placed, send}
use Rattle.sc_model.specs.Takes.{replies, takes_kind, takes_version, takes_creation, with_new_object, takes_errand, released_if, takes_answer}
use Rattle.sc_machine_laws.proofs.states.links.Looks.{m_put-own}
use Rattle.sc_machine_laws.proofs.states.links.Points.{AreKept, IsNoFormal, Known, Every, OperandKnown, BindingKnown, ObjectKnown, IfSome, leaves, IsPhased}
use Rattle.sc_machine_laws.proofs.states.links.KnownValues.{every_append, every_find, formals_known, fresh_known, object_known}
use Rattle.sc_machine_laws.proofs.states.links.LightTasks.{AreLight, light_leaves, light_phased}
use Rattle.sc_machine_laws.proofs.states.links.KeptFormals.{formals_kept, drop_all}
use Rattle.sc_machine_laws.proofs.states.links.Sound.{formals_of, tasks_deep, IsStageSound, IsFrameSound, IsRequestSound, IsAnswerSound, IsHandlerSound, IsSound, put_sound, IsSoundBut, sound_but, stack_sound, answered_sound, release_sound, fails_sound, fail_sound, AreFresh, fresh_rest}

pub if_sound : (b : Bool) (x y : World) → (b ≡ true → IsSound x) → (b ≡ false → IsSound y) → IsSound (if b then x else y)
if_sound true x y f g = f refl
if_sound false x y f g = g refl

no : {A : Type 0} → false ≡ true → A
no e = cc

-- ---- a routine is entered

keeps_light : (es : List Expr) → AreLight (keeps_olds es)
keeps_light [] = tt
keeps_light (e ∷ es) = (refl, refl, (refl, refl, keeps_light es))

pub tasks_fresh : (r : routines.Routine) → AreFresh (tasks_of r)
tasks_fresh r = by r.require
  where
    by : (ks : List Clause) → AreFresh (requires ks ++ keeps_olds (olds_of_clauses r.ensure) ++ In r.text ∷ Declare r.locals ∷ Do r.body ∷ Forget
        (length r.text.formals) ∷ In r.contract ∷ ensures 0 r.ensure)
    by [] =
        let rest : List Task = In r.text ∷ Declare r.locals ∷ Do r.body ∷ Forget (length r.text.formals) ∷ In r.contract ∷ ensures 0 r.ensure in
        let olds : List Task = keeps_olds (olds_of_clauses r.ensure) in (
          light_phased olds rest (keeps_light (olds_of_clauses r.ensure)) (fresh_rest r).0,
          light_leaves olds rest (keeps_light (olds_of_clauses r.ensure)) ∙ (fresh_rest r).1,
        )
    by (k ∷ ks) =
        let rest : List Task = In r.text ∷ Declare r.locals ∷ Do r.body ∷ Forget (length r.text.formals) ∷ In r.contract ∷ ensures 0 r.ensure in
        let olds : List Task = keeps_olds (olds_of_clauses r.ensure) in
        let left : leaves (olds ++ rest) ≡ 0 = light_leaves olds rest (keeps_light (olds_of_clauses r.ensure)) ∙ (fresh_rest r).1 in
        (((λ e. no e), (λ e. left), light_phased olds rest (keeps_light (olds_of_clauses r.ensure)) (fresh_rest r).0), left)

default_known : (K : ℕ → Type 0) (c : ClassId) → Known K (default_of c)
default_known K class.Integer = tt
default_known K class.Boolean = tt
default_known K class.Any = tt
default_known K class.None = tt
default_known K (class.Declared k) = tt

result_known : (K : ℕ → Type 0) (o : Option (Option EntityType)) → IfSome (OperandKnown K) (result_of o)
result_known K None = tt
result_known K (Some None) = tt
result_known K (Some (Some t)) = default_known K t.class

pub entry_sound : (K : ℕ → Type 0) (h : ℕ) (me : Reference) (r : routines.Routine) (o : Origin) (bs : List Binding) → me.handler ≡ h
    → Every (BindingKnown K) bs → length bs ≡ length r.text.formals → block_values bs ≡ [] → IsFrameSound K h (entry me r o bs)
entry_sound K h me r o bs same known room none = record {
  current = same;
  environment = known;
  result = result_known K r.text.result;
  olds = tt;
  values = tt;
  tasks = (tasks_fresh r).0;
  staged = by (separate_formals bs);
  formals = record {
    same = refl;
    room = omega (arith, room);
    rest = subst (λ n. Every IsNoFormal (drop n bs)) room (subst (Every IsNoFormal) (sym (drop_all bs)) tt);
    deep = tasks_deep r;
    named = λ i. refl;
    tidy = none_tidy (tasks_of r) bs none;
  };
}
  where
    by : (vs : List Value) → IsStageSound (stage_with vs) (entry me r o bs)
    by [] = (tasks_fresh r).1
    by (v ∷ vs) = ((tasks_fresh r).1, refl, refl)

pub enters_sound : (s : System) (h : ℕ) (me : Reference) (o : Option routines.Routine) (origin : Origin) (below : List Frame) (taken : List Request)
    (vs : List Value) (m : World)
    → IsSoundBut h m → me.handler ≡ h → Every (IsFrameSound (λ j. j < m.count) h) below → Every (Known (λ j. j < m.count)) vs
    → IsSound (enters s h me o origin below taken vs m)
enters_sound s h me None origin below taken vs m b same under known = fails_sound h cause.BadCode taken m b.others b.objects
enters_sound s h me (Some r) origin below taken vs m b same under known = by (formals_bound s r.text.formals 0 r.text.formals vs)
    (formals_known (λ j. j < m.count) s r.text.formals 0 r.text.formals vs known) (formals_kept s r.text.formals 0 r.text.formals vs)
  where
    by : (o : Option (List Binding)) → IfSome (Every (BindingKnown (λ j. j < m.count))) o
        → IfSome (λ bs. (length bs ≡ length r.text.formals) × (block_values bs ≡ [])) o
        → IsSound (enters_bound h me r origin below taken o m)
    by None is room = fails_sound h cause.BadCode taken m b.others b.objects
    by (Some bs) is room = if_sound (nat_lt (length below) max_frames) _ _
        (λ e. stack_sound h (entry me r origin bs ∷ below) m b (entry_sound (λ j. j < m.count) h me r origin bs same is room.0 room.1, under))
        (λ e. fails_sound h cause.StackFull taken m b.others b.objects)

-- ---- the end of a request, and exits

pub finish_sound : (q : Request) (a : Answer) (m : World) → IsSound m → IsAnswerSound (λ j. j < m.count) a → IsSound (finish q a m)
finish_sound q a m s is = by q.is_waited q.poster q.passed
  where
    returned : (p : Option Passed) → IsSound (return_rights p m)
    returned None = s
    returned (Some p) = s

    by : (w : Bool) (o : Option ℕ) (p : Option Passed) → IsSound (answer_to w o a (return_rights p m))
    by false o p = returned p
    by true None p = returned p
    by true (Some k) None = put_sound k (answered a (m.handlers k)) m (λ j ne. s j) (answered_sound (λ j. j < m.count) k a (m.handlers k) is (s k))
    by true (Some k) (Some p) = put_sound k (answered a (m.handlers k)) (return_rights (Some p) m)
        (λ j ne. s j) (answered_sound (λ j. j < m.count) k a (m.handlers k) is (s k))

pub handed_as_sound : (K : ℕ → Type 0) (h : ℕ) (gives : Option EntityType) (v : Option Value) (f : Frame) → f.current.handler ≡ h
    → Every (BindingKnown K) f.environment → IfSome (OperandKnown K) f.result → Every (OperandKnown K) f.olds → Every (OperandKnown K) f.values
    → IsPhased f.tasks → leaves f.tasks ≡ length f.blocks → AreKept (formals_of f) f.environment f.tasks → IfSome (Known K) v
    → IsFrameSound K h (handed_as gives v f)
handed_as_sound K h (Some t) (Some u) f current environment result olds values tasks left formals is = record {
  current = current;
  environment = environment;
  result = result;
  olds = olds;
  values = (is, values);
  tasks = tasks;
  staged = left;
  formals = formals;
}
handed_as_sound K h (Some t) None f current environment result olds values tasks left formals is = record
    { current = current; environment = environment; result = result; olds = olds; values = values; tasks = tasks; staged = left; formals = formals }
handed_as_sound K h None (Some u) f current environment result olds values tasks left formals is = record
    { current = current; environment = environment; result = result; olds = olds; values = values; tasks = tasks; staged = left; formals = formals }
handed_as_sound K h None None f current environment result olds values tasks left formals is = record
    { current = current; environment = environment; result = result; olds = olds; values = values; tasks = tasks; staged = left; formals = formals }

handed_sound : (K : ℕ → Type 0) (h : ℕ) (v : Option Value) (st : List Frame) → IfSome (Known K) v → Every (IsFrameSound K h) st
    → Every (IsFrameSound K h) (handed v st)
handed_sound K h v [] is all = tt
handed_sound K h v (f ∷ st) is all = (by f.stage all.0.staged all.0, all.1)
  where
    by : (t : Stage) → IsStageSound t f → IsFrameSound K h f → IsFrameSound K h (handed_at t v f)
    by (InCall gives) left s = handed_as_sound K h gives v f s.current s.environment s.result s.olds s.values s.tasks left s.formals is
    by Runs left s = s
    by Reserves left s = s
    by ReservesBlock left s = s
    by (Awaits k gives b) left s = s

pub exits_sound : (s : System) (h : ℕ) (f : Frame) (below : List Frame) (m : World) → IsSoundBut h m
    → IfSome (OperandKnown (λ j. j < m.count)) f.result → Every (IsFrameSound (λ j. j < m.count) h) below → IsSound (exits s h f below m)
exits_sound s h f below m b known under =
    if_sound (is_unset f.result) _ _ (λ e. fail_sound h cause.UnsetEntity m b)
    (λ e. if_sound (is_untested f.origin || object_meets s (object_numbered f.current.number (m.handlers h).objects)) _ _ (λ e'. by f.origin)
    (λ e'. fail_sound h cause.Invariant m b))
  where
    value : (o : Option Operand) → IfSome (OperandKnown (λ j. j < m.count)) o
        → IfSome (Known (λ j. j < m.count)) (option_map (λ (u : Operand). u.value) o)
    value None is = tt
    value (Some u) is = is

    by : (o : Origin) → IsSound (leaves_to h o f.reserved (option_map (λ (u : Operand). u.value) f.result) below m)
    by (Called c) = release_sound release_at.Exit f.reserved (with_stack h (handed (option_map (λ (u : Operand). u.value) f.result) below) m)
        (stack_sound h (handed (option_map (λ (u : Operand). u.value) f.result) below) m b
        (handed_sound (λ j. j < m.count) h (option_map (λ (u : Operand). u.value) f.result) below (value f.result known) under))
    by (Requested q) = finish_sound q (Reply (option_map (λ (u : Operand). u.value) f.result))
        (sessions.release release_at.Exit f.reserved (with_stack h below m))
        (release_sound release_at.Exit f.reserved (with_stack h below m) (stack_sound h below m b under)) (value f.result known)

-- ---- a request is sent

pub sent_sound : (c : Bool) (k : ℕ) (q : Request) (m : World) → IsSound m → IsRequestSound (λ j. j < m.count) k q → IsSound (send c k q m)
sent_sound c k q m s is = put_sound k (placed c q (m.handlers k)) m (λ j ne. s j) (by c (s k))
  where
    by : (c : Bool) → IsHandlerSound (λ j. j < m.count) k (m.handlers k) → IsHandlerSound (λ j. j < m.count) k (placed c q (m.handlers k))
    by true x = record { objects = x.objects; stack = x.stack; queue = x.queue; callback = is; answer = x.answer }
    by false x = record {
      objects = x.objects;
      stack = x.stack;
      queue = every_append (IsRequestSound (λ j. j < m.count) k) (m.handlers k).queue (q ∷ []) x.queue (is, tt);
      callback = x.callback;
      answer = x.answer;
    }

-- ---- a request is taken

taken_replies : (h : ℕ) (q : Request) (t : Option EntityType) (b : Option Binding) (m : World) → IsSound m
    → IfSome (BindingKnown (λ j. j < m.count)) b → IsSound (replies h q t b m)
taken_replies h q (Some t) (Some b) m s is = if_sound (is_unset_value b.value t) _ _
    (λ e. fails_sound h cause.UnsetEntity (q ∷ []) m (λ k ne. s k) (s h).objects) (λ e. finish_sound q (Reply (Some b.value)) m s is)
taken_replies h q (Some t) None m s is = fails_sound h cause.BadCode (q ∷ []) m (λ k ne. s k) (s h).objects
taken_replies h q None (Some b) m s is = fails_sound h cause.BadCode (q ∷ []) m (λ k ne. s k) (s h).objects
taken_replies h q None None m s is = fails_sound h cause.BadCode (q ∷ []) m (λ k ne. s k) (s h).objects

pub takes_sound : (s : System) (h : ℕ) (q : Request) (e : Errand) (below : List Frame) (m : World) → IsSound m → (m.handlers h).stack ≡ below
    → IsRequestSound (λ j. j < m.count) h q → IsSound (takes_errand s h q e below m)
takes_sound s h q e below m sound at is = by e
  where
    fails : (m : World) → IsSound m → (why : Cause) → IsSound (fails_with h why (q ∷ []) m)
    fails m sound why = fails_sound h why (q ∷ []) m (λ k ne. sound k) (sound h).objects

    kind : (x : List ℕ) (o : Object) (f : DeclaredFeature) (k : FeatureKind) → ObjectKnown (λ j. j < m.count) o
        → IsSound (takes_kind s h q x below o f k m)
    kind x o f (tree.Attribute d) known = taken_replies h q (declared_type s [] d) (binding_named x o.attributes) m sound
        (every_find (BindingKnown (λ j. j < m.count)) (λ (b : Binding). bytes_eq b.name x) o.attributes known)
    kind x o f (tree.Routine c) known = enters_sound s h q.target (routine_of s f) (Requested q) below
        (q ∷ []) q.actuals m (sound_but h m sound) is.target (subst (Every (IsFrameSound (λ j. j < m.count) h)) at (sound h).stack) is.actuals

    version : (x : List ℕ) (o : Option Object) (f : Option DeclaredFeature) → IfSome (ObjectKnown (λ j. j < m.count)) o
        → IsSound (takes_version s h q x below o f m)
    version x (Some o) (Some f) known = kind x o f f.feature.kind known
    version x (Some o) None known = fails m sound cause.BadCode
    version x None (Some f) known = fails m sound cause.BadCode
    version x None None known = fails m sound cause.BadCode

    with_object : (class : ℕ) → IsSound (with_new_object s h class m)
    with_object class =
        let x = sound h in
        put_sound h (record (m.handlers h) { objects = (m.handlers h).objects ++ fresh_object s class ∷ [] }) m (λ k ne. sound k)
        (record {
          objects = every_append (ObjectKnown (λ j. j < m.count)) (m.handlers h).objects (fresh_object s class ∷ []) x.objects
              (fresh_known (λ j. j < m.count) s class, tt);
          stack = x.stack;
          queue = x.queue;
          callback = x.callback;
          answer = x.answer;
        })

    creation : (k : Option (List ℕ)) (n : World) → n ≡ with_new_object s h q.target.class m → n.count ≡ m.count → IsSound n
        → IsSound (takes_creation s h q k below n)
    creation (Some x) n e c new =
        let at' : (n.handlers h).stack ≡ below = ap (λ (i : World). (i.handlers h).stack) e
        ∙ ap (λ (i : Handler). i.stack) (m_put-own h (record
        (m.handlers h) { objects = (m.handlers h).objects ++ fresh_object s q.target.class ∷ [] }) m) ∙ at in
        enters_sound s h q.target (routine_named s q.target.class x) (Requested q) below (q ∷ []) q.actuals n (sound_but h n new) is.target
        (subst (Every (IsFrameSound (λ j. j < n.count) h)) at' (new h).stack)
        (subst (λ i. Every (Known (λ j. j < i)) q.actuals) (sym c) is.actuals)
    creation None n e c new = if_sound (meets_invariant s (fresh_object s q.target.class)) _ _ (λ e. finish_sound q (Reply None) n new tt)
        (λ e. fails n new cause.Invariant)

    by : (e : Errand) → IsSound (takes_errand s h q e below m)
    by (Makes k) = creation k (with_new_object s h q.target.class m) refl refl (with_object q.target.class)
    by (Calls x) = if_sound (q.target.handler == h) _ _
        (λ e. version x (object_numbered q.target.number (m.handlers h).objects) (version_of s q.target.class x)
        (object_known (λ j. j < m.count) q.target.number (m.handlers h).objects (sound h).objects))
        (λ e. fails m sound cause.ForeignObject)

-- ---- an answer is taken

pub answer_sound : (h : ℕ) (a : Answer) (k : ℕ) (gives : Option EntityType) (c : Bool) (f : Frame) (below : List Frame) (m : World) → IsSound m
    → (m.handlers h).stack ≡ f ∷ below → f.stage ≡ Awaits k gives c → IsAnswerSound (λ j. j < m.count) a
    → IsSound (takes_answer h a k gives c f below m)
answer_sound h Failed k gives c f below m s at staged is = fail_sound h cause.SupplierFailed m (sound_but h m s)
answer_sound h Refused k gives c f below m s at staged is = fail_sound h cause.Precondition m (sound_but h m s)
answer_sound h (Reply v) k gives c f below m s at staged is = by c
  where
    on : IsSound (put h (record (m.handlers h) { stack = handed_as gives v f ∷ below; answer = None }) m)
    on =
        let x = s h in
        let frames = subst (Every (IsFrameSound (λ j. j < m.count) h)) at (s h).stack in
        let g = frames.0 in
        put_sound h (record (m.handlers h) { stack = handed_as gives v f ∷ below; answer = None }) m (λ j ne. s j)
        (record {
          objects = x.objects;
          stack = (
            handed_as_sound (λ j. j < m.count) h gives v f g.current g.environment g.result g.olds g.values g.tasks
                (subst (λ t. IsStageSound t f) staged g.staged) g.formals is,
            frames.1,
          );
          queue = x.queue;
          callback = x.callback;
          answer = tt;
        })

    by : (c : Bool) → IsSound (released_if c k (put h (record (m.handlers h) { stack = handed_as gives v f ∷ below; answer = None }) m))
    by false = on
    by true = release_sound release_at.Creation (k ∷ []) (put h (record (m.handlers h) { stack = handed_as gives v f ∷ below; answer = None }) m) on
