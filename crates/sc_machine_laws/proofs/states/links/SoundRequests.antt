-- A request, and the creation of a handler, keep the handlers of the machine sound.
use Rattle.std.proofs.Common.{◌≡◌, ◌≢◌, ℕ, ◌+◌, ◌<◌, ◌==◌, ◌&&◌, ◌||◌, not, Bool, true, false, List, [], ◌∷◌, Option, Some, None, length, refl, sym, ap, subst, arith}
use Rattle.std.specs.Prelude.{if◌then◌else◌, nat_lt, is_some}
use Rattle.std.proofs.lemmas.Bool.{ne_eqb}
use Rattle.sc_rules.specs.declared.entity_types.entity_type.EntityType.{EntityType}
use Rattle.sc_lockpass.specs.Rights.{held}
use Rattle.sc_lockpass.specs.declared.wait_conditions.session.Release.TheVariants as release_at
use Rattle.sc_model.specs.declared.cause.Cause.TheVariants as cause
use Rattle.sc_model.specs.Values.{Reference, Value, Integer, Boolean, Void, Attached, Operand, operand}
use Rattle.sc_model.specs.Environments.{Binding}
use Rattle.sc_model.specs.Limits.{max_queue}
use Rattle.sc_model.specs.Steps.{Point}
use Rattle.sc_model.specs.Handlers.{Calls, Makes, Request, Answer, Reply, Failed, Refused, Runs, Frame, Handler, World, frame_at, new_handler, with_stack}
use Rattle.sc_model.specs.Asking.{passes, awaits_if, request_by, is_callback, asks, request, with_handler, posts_creation, created}
use Rattle.sc_machine_laws.proofs.states.links.Points.{Known, Every, OperandKnown, BindingKnown, ObjectKnown, IfSome, IsWell}
use Rattle.sc_machine_laws.proofs.states.links.KnownValues.{every_map, values_known}
use Rattle.sc_machine_laws.proofs.states.links.Sound.{formals_of, own_kept, IsStageSound, IsFrameSound, IsRequestSound, IsAnswerSound, IsHandlerSound, IsSound, new_sound, IsSoundBut, stack_sound, whole_sound, release_sound, fail_sound}
use Rattle.sc_machine_laws.proofs.states.links.Effects.{if_sound, sent_sound}

-- ---- more handlers

value_more : (K L : ℕ → Type 0) → ((k : ℕ) → K k → L k) → (v : Value) → Known K v → Known L v
value_more K L f (Attached r) is = f r.handler is
value_more K L f (Integer z) is = tt
value_more K L f (Boolean b) is = tt
value_more K L f Void is = tt

some_more : {X : Type 0} (P Q : X → Type 0) → ((x : X) → P x → Q x) → (o : Option X) → IfSome P o → IfSome Q o
some_more P Q f None is = tt
some_more P Q f (Some x) is = f x is

module _ (K L : ℕ → Type 0) (f : (k : ℕ) → K k → L k) where
  operands_more : (us : List Operand) → Every (OperandKnown K) us → Every (OperandKnown L) us
  operands_more us is = every_map (OperandKnown K) (OperandKnown L) (λ u i. value_more K L f u.value i) us is

  bindings_more : (bs : List Binding) → Every (BindingKnown K) bs → Every (BindingKnown L) bs
  bindings_more bs is = every_map (BindingKnown K) (BindingKnown L) (λ b i. value_more K L f b.value i) bs is

  frame_more : (h : ℕ) (g : Frame) → IsFrameSound K h g → IsFrameSound L h g
  frame_more h g s = record {
    current = s.current;
    environment = bindings_more g.environment s.environment;
    result = some_more (OperandKnown K) (OperandKnown L) (λ u i. value_more K L f u.value i) g.result s.result;
    olds = operands_more g.olds s.olds;
    values = operands_more g.values s.values;
    tasks = s.tasks;
    staged = s.staged;
    formals = s.formals;
  }

  request_more : (h : ℕ) (q : Request) → IsRequestSound K h q → IsRequestSound L h q
  request_more h q s = record { target = s.target; actuals = every_map (Known K) (Known L) (value_more K L f) q.actuals s.actuals }

  answer_more : (a : Answer) → IsAnswerSound K a → IsAnswerSound L a
  answer_more (Reply v) is = some_more (Known K) (Known L) (value_more K L f) v is
  answer_more Failed is = tt
  answer_more Refused is = tt

  handler_more : (h : ℕ) (x : Handler) → IsHandlerSound K h x → IsHandlerSound L h x
  handler_more h x s = record {
    objects = every_map (ObjectKnown K) (ObjectKnown L) (λ o i. bindings_more o.attributes i) x.objects s.objects;
    stack = every_map (IsFrameSound K h) (IsFrameSound L h) (frame_more h) x.stack s.stack;
    queue = every_map (IsRequestSound K h) (IsRequestSound L h) (request_more h) x.queue s.queue;
    callback = some_more (IsRequestSound K h) (IsRequestSound L h) (request_more h) x.callback s.callback;
    answer = some_more (IsAnswerSound K) (IsAnswerSound L) answer_more x.answer s.answer;
  }

-- ---- a visible step

-- the topmost frame of h has come to this point
pub record At (f : Frame) (p : Point) (below : List Frame) (h : ℕ) (m : World) : Type 0 where
  pub but : IsSoundBut h m
  pub stack : (m.handlers h).stack ≡ frame_at f p ∷ below
  pub under : Every (IsFrameSound (λ j. j < m.count) h) below
  pub current : f.current.handler ≡ h
  pub runs : f.stage ≡ Runs
  pub here : h < m.count

pub same_frame : (K : ℕ → Type 0) (h : ℕ) (f : Frame) (p : Point) → f.current.handler ≡ h → f.stage ≡ Runs → IsWell K (formals_of f) (length f.blocks) p
    → IsFrameSound K h (frame_at f p)
same_frame K h f p current runs w = record {
  current = current;
  environment = w.environment;
  result = w.result;
  olds = w.olds;
  values = w.values;
  tasks = w.tasks;
  staged = subst (λ t. IsStageSound t (frame_at f p)) (sym runs) w.left;
  formals = own_kept (formals_of f) p.environment p.tasks w.formals;
}

pub stays_sound : (f : Frame) (p : Point) (below : List Frame) (h : ℕ) (m : World) → At f p below h m
    → IsWell (λ j. j < m.count) (formals_of f) (length f.blocks) p → IsSound m
stays_sound f p below h m a w = whole_sound h (frame_at f p ∷ below) m a.but a.stack (same_frame (λ j. j < m.count) h f p a.current a.runs w, a.under)

-- a request
pub request_sound : (f : Frame) (p : Point) (below : List Frame) (h : ℕ) (m : World) (r : Reference) (x : List ℕ) (us : List Operand)
    (gives : Option EntityType) (passing : Bool)
    → At f p below h m → IsWell (λ j. j < m.count) (formals_of f) (length f.blocks) p → Every (OperandKnown (λ j. j < m.count)) us
    → IsSound (request h r x us gives passing (frame_at f p) below m)
request_sound f p below h m r x us gives passing a w known =
    if_sound (not (held m.rights h r.handler)) _ _ (λ e. fail_sound h cause.NotHeld m a.but)
    (λ e. if_sound (is_some (m.handlers r.handler).failure) _ _ (λ e'. fail_sound h cause.SupplierFailed m a.but)
    (λ e'. if_sound (not (is_callback h r.handler m) && not (nat_lt (length (m.handlers r.handler).queue) max_queue)) _ _
    (λ e''. fail_sound h cause.QueueFull m a.but)
    (λ e''. asked (passing || is_some gives || is_callback h r.handler m))))
  where
    awaiting : (b : Bool) → IsFrameSound (λ j. j < m.count) h (awaits_if b r.handler gives false (frame_at f p))
    awaiting false = same_frame (λ j. j < m.count) h f p a.current a.runs w
    awaiting true = record {
      current = a.current;
      environment = w.environment;
      result = w.result;
      olds = w.olds;
      values = w.values;
      tasks = w.tasks;
      staged = w.left;
      formals = own_kept (formals_of f) p.environment p.tasks w.formals;
    }

    passed : (c : Bool) (n : World) → IsSound n → IsSound (passes c h r.handler n)
    passed false n s = s
    passed true n s = s

    asked : (b : Bool) → IsSound (asks h r x us gives passing b (frame_at f p) below m)
    asked b = passed passing _ (sent_sound (is_callback h r.handler m) r.handler (request_by h r (Calls x) us b passing m)
        (with_stack h (awaits_if b r.handler gives false (frame_at f p) ∷ below) m)
        (stack_sound h (awaits_if b r.handler gives false (frame_at f p) ∷ below) m a.but (awaiting b, a.under))
        (record { target = refl; actuals = values_known (λ j. j < m.count) us known }))

-- the creation of a handler
pub created_sound : (f : Frame) (p : Point) (below : List Frame) (h : ℕ) (m : World) (class : ℕ) (procedure : Option (List ℕ)) (us : List Operand)
    (t : EntityType) (passing : Bool)
    → At f p below h m → IsWell (λ j. j < m.count) (formals_of f) (length f.blocks) p → Every (OperandKnown (λ j. j < m.count)) us
    → IsSound (created h (record { handler = m.count; number = 1; class = class }) procedure us t passing (frame_at f p) below m)
created_sound f p below h m class procedure us t passing a w known = by passing
  where
    more : (k : ℕ) → k < m.count → k < m.count + 1
    more k lt = omega (arith, lt)

    but : IsSoundBut h (with_handler m.count h m)
    but =
        let here = a.here in
        let same : (with_handler m.count h m).handlers h ≡ m.handlers h = ap (λ (b : Bool). if b then new_handler else m.handlers h)
        (ne_eqb h m.count (λ e. omega (arith, here, e))) in
        record {
          others = λ k ne. other k ne (k == m.count);
          objects = subst (λ (x : Handler). Every (ObjectKnown (λ j. j < m.count + 1)) x.objects) (sym same)
              (every_map (ObjectKnown (λ j. j < m.count)) (ObjectKnown (λ j. j < m.count + 1))
              (λ o i. bindings_more (λ j. j < m.count) (λ j. j < m.count + 1) more o.attributes i) (m.handlers h).objects a.but.objects);
          queue = subst (λ (x : Handler). Every (IsRequestSound (λ j. j < m.count + 1) h) x.queue) (sym same)
              (every_map (IsRequestSound (λ j. j < m.count) h) (IsRequestSound (λ j. j < m.count + 1) h)
              (request_more (λ j. j < m.count) (λ j. j < m.count + 1) more h) (m.handlers h).queue a.but.queue);
          callback = subst (λ (x : Handler). IfSome (IsRequestSound (λ j. j < m.count + 1) h) x.callback) (sym same)
              (some_more (IsRequestSound (λ j. j < m.count) h) (IsRequestSound (λ j. j < m.count + 1) h)
              (request_more (λ j. j < m.count) (λ j. j < m.count + 1) more h) (m.handlers h).callback a.but.callback);
          answer = subst (λ (x : Handler). IfSome (IsAnswerSound (λ j. j < m.count + 1)) x.answer) (sym same)
              (some_more (IsAnswerSound (λ j. j < m.count)) (IsAnswerSound (λ j. j < m.count + 1))
              (answer_more (λ j. j < m.count) (λ j. j < m.count + 1) more) (m.handlers h).answer a.but.answer);
        }
      where
        other : (k : ℕ) → k ≢ h → (b : Bool) → IsHandlerSound (λ j. j < m.count + 1) k (if b then new_handler else m.handlers k)
        other k ne true = new_sound (λ j. j < m.count + 1) k
        other k ne false = handler_more (λ j. j < m.count) (λ j. j < m.count + 1) more k (m.handlers k) (a.but.others k ne)

    under : Every (IsFrameSound (λ j. j < m.count + 1) h) below
    under = every_map (IsFrameSound (λ j. j < m.count) h) (IsFrameSound (λ j. j < m.count + 1) h)
        (frame_more (λ j. j < m.count) (λ j. j < m.count + 1) more h) below a.under

    actuals : Every (OperandKnown (λ j. j < m.count + 1)) us
    actuals = operands_more (λ j. j < m.count) (λ j. j < m.count + 1) more us known

    frame : IsFrameSound (λ j. j < m.count + 1) h (frame_at f p)
    frame = frame_more (λ j. j < m.count) (λ j. j < m.count + 1) more h (frame_at f p) (same_frame (λ j. j < m.count) h f p a.current a.runs w)

    awaiting : (b : Bool) → IsFrameSound (λ j. j < m.count + 1) h
        (awaits_if b m.count None true (record (frame_at f p)
        { values = operand (Attached (record { handler = m.count; number = 1; class = class })) t ∷ p.values }))
    awaiting false = record {
      current = frame.current;
      environment = frame.environment;
      result = frame.result;
      olds = frame.olds;
      values = (omega arith, frame.values);
      tasks = frame.tasks;
      staged = subst (λ l. IsStageSound l (record (frame_at f p)
          { values = operand (Attached (record { handler = m.count; number = 1; class = class })) t ∷ p.values })) (sym a.runs) w.left;
      formals = frame.formals;
    }
    awaiting true = record {
      current = frame.current;
      environment = frame.environment;
      result = frame.result;
      olds = frame.olds;
      values = (omega arith, frame.values);
      tasks = frame.tasks;
      staged = w.left;
      formals = frame.formals;
    }

    posted : (b : Bool) → IsSound (posts_creation h (record { handler = m.count; number = 1; class = class }) procedure us t b (frame_at f p) below
        (with_handler m.count h m))
    posted b =
        let r : Reference = record { handler = m.count; number = 1; class = class } in
        let g : Frame = awaits_if b m.count None true (record (frame_at f p) { values = operand (Attached r) t ∷ p.values }) in
        sent_sound false m.count (request_by h r (Makes procedure) us b b (with_handler m.count h m))
        (with_stack h (g ∷ below) (with_handler m.count h m))
        (stack_sound h (g ∷ below) (with_handler m.count h m) but (awaiting b, under))
        (record { target = refl; actuals = values_known (λ j. j < m.count + 1) us actuals })

    by : (b : Bool) → IsSound (created h (record { handler = m.count; number = 1; class = class }) procedure us t b (frame_at f p) below m)
    by true = posted true
    by false = release_sound release_at.Creation (m.count ∷ [])
        (posts_creation h (record { handler = m.count; number = 1; class = class }) procedure us t false (frame_at f p) below
        (with_handler m.count h m)) (posted false)
