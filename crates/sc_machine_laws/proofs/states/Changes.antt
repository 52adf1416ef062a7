-- What changes of a state leave: where what is there stays there, each value of a handler that is as before still fits, and so do the
-- frames and requests of one that has changed.
use Rattle.std.specs.Prelude.{◌==◌, if◌then◌else◌, slice_get}
use Rattle.std.proofs.Common.{◌++◌, ◌-◌, ◌<◌, Bool, List, None, Option, Some, [], ap, false, refl, subst, sym, true, ℕ, ◌∙◌, ◌≡◌}
use Rattle.std.proofs.lemmas.Bool.{eq-eqb, eqb-true}
use Rattle.sc_tree.specs.Plain.{System}
use Rattle.sc_rules.specs.declared.entity_types.entity_type.EntityType.{EntityType}
use Rattle.sc_rules.specs.Names.{RoutineName}
use Rattle.sc_model.specs.Environments.{Binding, handler_named}
use Rattle.sc_model.specs.Failures.{requests_at}
use Rattle.sc_model.specs.Fits.{Fits}
use Rattle.sc_model.specs.Handlers.{Frame, Handler, Reply, Request, World, point_of, put}
use Rattle.sc_model.specs.Objects.{Object, object_numbered}
use Rattle.sc_model.specs.Routines.{Routine}
use Rattle.sc_model.specs.Steps.{Point}
use Rattle.sc_model.specs.Values.{Operand, Reference, Value}
use Rattle.sc_machine_laws.specs.states.Fitting.{FrameFits, HandlerFits, IsThere, Linked, ObjectFits, ReplyFits, RequestFits, ValueIsThere, WorldFits, coming_to, is_due, is_made}
use Rattle.sc_machine_laws.specs.states.Points as point
use Rattle.sc_machine_laws.specs.states.Points.{Agrees, Each, IsAmong, PointFits, listed}
use Rattle.sc_machine_laws.specs.states.Typed.{Known}
use Rattle.sc_machine_laws.proofs.states.Lists.{each_more}

-- The frames and the requests stay, and each reply is one of before.
pub record RestStays (x y : Handler) : Type 0 where
  pub stack : y.stack ≡ x.stack
  pub requests : requests_at y ≡ requests_at x
  pub replies : (r : Option Value) → y.answer ≡ Some (Reply r) → x.answer ≡ Some (Reply r)

pub rest_same : (x : Handler) → RestStays x x
rest_same x = record { stack = refl; requests = refl; replies = λ r e. e }

-- no reply has come
abbrev pub HasNoReply : Handler → Type 0
HasNoReply x = (v : Option Value) → x.answer ≡ Some (Reply v) → ⊥

-- A routine's point fits whatever the objects of its handler are.
pub at_objects : (s : System) (pure : RoutineName → Bool) (r : Routine) (h : ℕ) (coming : List EntityType) (p : Point) (objects : List Object) → PointFits s pure r h coming p →
    PointFits s pure r h coming (record p { objects = objects })
at_objects s pure r h coming p objects f = record {
  text_is = f.text_is;
  known = f.known;
  agrees = by f.known f.agrees;
  is_typed = f.is_typed;
  scope_stands = f.scope_stands;
  names_fit = f.names_fit;
  result_fits = f.result_fits;
  olds_fit = f.olds_fit;
  values_fit = f.values_fit;
}
  where
    by : (x : Known) → Agrees p coming x → Agrees (record p { objects = objects }) coming x
    by _ point.here = point.here
    by _ (point.held e i j) = point.held e i j
    by _ (point.denied e i j) = point.denied e i j

module _ (w v : World) (there : (r : Reference) → IsThere w r → IsThere v r) where
  pub value_led : (x : Value) → ValueIsThere w x → ValueIsThere v x
  value_led x f r e = there r (f r e)

  pub values_led : (xs : List Value) → Each (ValueIsThere w) xs → Each (ValueIsThere v) xs
  values_led xs e = each_more (ValueIsThere w) (ValueIsThere v) value_led xs e

  pub bindings_led : (bs : List Binding) → Each (λ (b : Binding). ValueIsThere w b.value) bs → Each (λ (b : Binding). ValueIsThere v b.value) bs
  bindings_led bs e = each_more (λ (b : Binding). ValueIsThere w b.value) (λ (b : Binding). ValueIsThere v b.value) (λ b. value_led b.value) bs e

  pub operands_led : (us : List Operand) → Each (λ (u : Operand). ValueIsThere w u.value) us → Each (λ (u : Operand). ValueIsThere v u.value) us
  operands_led us e = each_more (λ (u : Operand). ValueIsThere w u.value) (λ (u : Operand). ValueIsThere v u.value) (λ u. value_led u.value) us e

  module _ (s : System) (pure : RoutineName → Bool) (h : ℕ) where
    object_led : (o : Object) → ObjectFits s w h o → ObjectFits s v h o
    object_led o f = record { attributes_fit = f.attributes_fit; are_there = bindings_led o.attributes f.are_there }

    pub objects_led : (objects : List Object) → Each (ObjectFits s w h) objects → Each (ObjectFits s v h) objects
    objects_led objects e = each_more (ObjectFits s w h) (ObjectFits s v h) object_led objects e

    request_led : (r : Request) → RequestFits s w h r → RequestFits s v h r
    request_led r e = record {
      is_here = e.is_here;
      is_of_class = e.is_of_class;
      is_known = e.is_known;
      made_by_routine = e.made_by_routine;
      target_is_there = there r.target e.target_is_there;
      actuals_fit = e.actuals_fit;
      actuals_are_there = values_led r.actuals e.actuals_are_there;
    }

    pub requests_led : (rs : List Request) → Each (RequestFits s w h) rs → Each (RequestFits s v h) rs
    requests_led rs e = each_more (RequestFits s w h) (RequestFits s v h) request_led rs e

    -- what is among the objects stays among them
    module _ (among : (o : Reference) → IsAmong (w.handlers h).objects o → IsAmong (v.handlers h).objects o) where
      pub frame_led : (f : Frame) → FrameFits s pure w h f → FrameFits s pure v h f
      frame_led f e = record {
        is_own = e.is_own;
        is_there = among f.current e.is_there;
        is_version = e.is_version;
        point_fits = at_objects s pure f.routine h (coming_to f.stage) (point_of f (w.handlers h).objects) (v.handlers h).objects e.point_fits;
        names_are_there = bindings_led f.environment e.names_are_there;
        values_are_there = operands_led (f.values ++ f.olds ++ listed f.result) e.values_are_there;
      }

      pub frames_led : (fs : List Frame) → Each (FrameFits s pure w h) fs → Each (FrameFits s pure v h) fs
      frames_led fs e = each_more (FrameFits s pure w h) (FrameFits s pure v h) frame_led fs e

    -- a reply still fits where the frames stay
    pub reply_led : (v.handlers h).stack ≡ (w.handlers h).stack → (x : Option Value) → ReplyFits s w h x → ReplyFits s v h x
    reply_led i x q = record {
      frame = q.frame;
      below = q.below;
      supplier = q.supplier;
      takes = q.takes;
      is_creation = q.is_creation;
      stack_is = i ∙ q.stack_is;
      stage_is = q.stage_is;
      fits = λ t e. of_value t (q.fits t e);
    }
      where
        of_value : (t : EntityType) → (y : Value) × (x ≡ Some y) × Fits s h (handler_named q.frame.environment) y t × ValueIsThere w y →
            (y : Value) × (x ≡ Some y) × Fits s h (handler_named q.frame.environment) y t × ValueIsThere v y
        of_value t (y, i, j, k) = (y, i, j, value_led y k)

    -- The values of a handler still fit where its objects, frames, requests and answers stay.
    pub handler_led : (v.handlers h).objects ≡ (w.handlers h).objects → RestStays (w.handlers h) (v.handlers h) → HandlerFits s pure w h → HandlerFits s pure v h
    handler_led i z e = record {
      objects_fit = subst (Each (ObjectFits s v h)) (sym i) (objects_led (w.handlers h).objects e.objects_fit);
      frames_fit = subst (Each (FrameFits s pure v h)) (sym z.stack) (frames_led (λ o a. subst (λ os. IsAmong os o) (sym i) a) (w.handlers h).stack e.frames_fit);
      frames_are_linked = subst (Linked s h) (sym z.stack) e.frames_are_linked;
      requests_fit = subst (Each (RequestFits s v h)) (sym z.requests) (requests_led (requests_at (w.handlers h)) e.requests_fit);
      answer_fits = λ x a. reply_led z.stack x (e.answer_fits x (z.replies x a));
    }

-- ---- a handler becomes another

-- where an object is, there are some
pub some_among : (objects : List Object) (o : Reference) → IsAmong objects o → objects ≡ [] → ⊥
some_among objects o z i = by (o.number == 0) (subst (λ os. object_numbered o.number os ≡ Some z.object) i z.is_there)
  where
    by : (b : Bool) → (if b then None else slice_get [] (o.number - 1)) ≡ Some z.object → ⊥
    by true e = cc
    by false e = cc

pub itself : (h : ℕ) → (h == h) ≡ true
itself h = eq-eqb h h refl

module _ (w : World) (h : ℕ) (x : Handler) where
  pub put_at : (put h x w).handlers h ≡ x
  put_at = ap (λ b. if b then x else w.handlers h) (itself h)

  pub put_beside : (k : ℕ) → (k == h) ≡ false → (put h x w).handlers k ≡ w.handlers k
  put_beside k e = ap (λ b. if b then x else w.handlers k) e

  -- What is there stays there, where each object of the handler does, and what is due there is so afterwards.
  pub there_put : ((o : Reference) → IsAmong (w.handlers h).objects o → IsAmong x.objects o) →
      ((r : Reference) → r.handler ≡ h → (w.handlers h).objects ≡ [] → IsThere w r → IsThere (put h x w) r) → (r : Reference) → IsThere w r → IsThere (put h x w) r
  there_put among due r (is_made {o} l i c) = by (r.handler == h) refl
    where
      by : (b : Bool) → (r.handler == h) ≡ b → IsThere (put h x w) r
      by true e =
          let z = among r (record { object = o; is_there = subst (λ k. object_numbered r.number (w.handlers k).objects ≡ Some o) (eqb-true r.handler h e) i; of_class = c }) in
          is_made {o = z.object} l (ap (λ b. object_numbered r.number (if b then x else w.handlers r.handler).objects) e ∙ z.is_there) z.of_class
      by false e = is_made {o = o} l (ap (λ b. object_numbered r.number (if b then x else w.handlers r.handler).objects) e ∙ i) c
  there_put among due r (is_due {q} {qs} {x = y} l i j k m n) = by (r.handler == h) refl
    where
      by : (b : Bool) → (r.handler == h) ≡ b → IsThere (put h x w) r
      by true e = let z : r.handler ≡ h = eqb-true r.handler h e in due r z (subst (λ k. (w.handlers k).objects ≡ []) z i) (is_due {q = q} {qs = qs} {x = y} l i j k m n)
      by false e = is_due {q = q} {qs = qs} {x = y} l (ap (λ b. (if b then x else w.handlers r.handler).objects) e ∙ i) (ap (λ b. (if b then x else w.handlers r.handler).queue) e ∙ j) k m n

  -- each of the handler's objects is there
  pub among_put : h < w.count → (o : Reference) → o.handler ≡ h → IsAmong x.objects o → IsThere (put h x w) o
  among_put l o i z = is_made {o = z.object} (subst (λ k. k < w.count) (sym i) l)
      (subst (λ k. object_numbered o.number ((put h x w).handlers k).objects ≡ Some z.object) (sym i)
      (subst (λ (y : Handler). object_numbered o.number y.objects ≡ Some z.object) (sym put_at) z.is_there)) z.of_class

  module _ (s : System) (pure : RoutineName → Bool) (there : (r : Reference) → IsThere w r → IsThere (put h x w) r) where
    -- each other handler fits as before
    pub beside_fits : (k : ℕ) → (k == h) ≡ false → HandlerFits s pure w k → HandlerFits s pure (put h x w) k
    beside_fits k e f = handler_led w (put h x w) there s pure k (ap (λ (y : Handler). y.objects) (put_beside k e))
        (subst (RestStays (w.handlers k)) (sym (put_beside k e)) (rest_same (w.handlers k))) f

    -- The world fits where the new handler does.
    pub put_fits : ((k : ℕ) → k < w.count → (k == h) ≡ false → HandlerFits s pure w k) → Each (ObjectFits s (put h x w) h) x.objects → Each (FrameFits s pure (put h x w) h) x.stack →
        Linked s h x.stack → Each (RequestFits s (put h x w) h) (requests_at x) → ((v : Option Value) → x.answer ≡ Some (Reply v) → ReplyFits s (put h x w) h v) → WorldFits s pure (put h x w)
    put_fits others objects frames linked requests answers k l = by (k == h) refl
      where
        own : HandlerFits s pure (put h x w) h
        own = record {
          objects_fit = subst (λ (y : Handler). Each (ObjectFits s (put h x w) h) y.objects) (sym put_at) objects;
          frames_fit = subst (λ (y : Handler). Each (FrameFits s pure (put h x w) h) y.stack) (sym put_at) frames;
          frames_are_linked = subst (λ (y : Handler). Linked s h y.stack) (sym put_at) linked;
          requests_fit = subst (λ (y : Handler). Each (RequestFits s (put h x w) h) (requests_at y)) (sym put_at) requests;
          answer_fits = λ v a. answers v (sym (ap (λ (y : Handler). y.answer) put_at) ∙ a);
        }

        by : (b : Bool) → (k == h) ≡ b → HandlerFits s pure (put h x w) k
        by true e = subst (HandlerFits s pure (put h x w)) (sym (eqb-true k h e)) own
        by false e = beside_fits k e (others k l e)
