-- After the move of the topmost frame its handler is settled: all fits, but for the values that are still to come onto that frame.
use Rattle.std.specs.Prelude.{◌==◌}
use Rattle.std.proofs.Common.{◌++◌, ◌<◌, Bool, List, Option, [], ap, false, refl, subst, sym, ℕ, ◌∙◌, ◌∷◌, ◌≡◌}
use Rattle.sc_tree.specs.Plain.{System}
use Rattle.sc_rules.specs.declared.entity_types.entity_type.EntityType.{EntityType}
use Rattle.sc_rules.specs.Names.{RoutineName}
use Rattle.sc_model.specs.Environments.{Binding}
use Rattle.sc_model.specs.Failures.{fail, requests_at}
use Rattle.sc_model.specs.Handlers.{Awaits, Frame, Handler, Runs, World, frame_at, point_of, put}
use Rattle.sc_model.specs.Moves.{moves}
use Rattle.sc_model.specs.Objects.{Object}
use Rattle.sc_model.specs.Steps.{Act, Does, Point}
use Rattle.sc_model.specs.Values.{Attached, Operand, Reference}
use Rattle.sc_model.specs.declared.cause.Cause.{Cause}
use Rattle.sc_machine_laws.specs.states.Fitting.{FrameFits, HandlerFits, IsThere, Linked, ObjectFits, RequestFits, ValueIsThere, WorldFits}
use Rattle.sc_machine_laws.specs.states.Points.{AttributesFit, Each, IsAmong, PointFits, StoreFits, listed}
use Rattle.sc_machine_laws.specs.states.ValueSteps.{BindingsDo, StandsSo}
use Rattle.sc_machine_laws.proofs.states.Remains.{failed_fits}
use Rattle.sc_machine_laws.proofs.states.Changes.{among_put, at_objects, beside_fits, frames_led, put_at, requests_led, some_among, there_put}
use Rattle.sc_machine_laws.proofs.states.MovedValues.{moves_stay, stays_after}
use Rattle.sc_machine_laws.proofs.states.Lists.{each_append, each_before, each_behind, each_more}
use Rattle.sc_machine_laws.proofs.states.OperatorReferences.{ActStays, HoldsOfOwn, Stays, StepStays}
use Rattle.sc_machine_laws.proofs.states.Settled.{Settled, TopFits, no_reply_to, relinked, requests_as}

every : {A : Type 0} (P : A → Type 0) → ((x : A) → P x) → (xs : List A) → Each P xs
every P f [] = tt
every P f (x ∷ xs) = (f x, every P f xs)

module _ (s : System) (pure : RoutineName → Bool) (w : World) (h : ℕ) (f : Frame) (below : List Frame) (fits : WorldFits s pure w) (l : h < w.count) (is : (w.handlers h).stack ≡ f ∷ below)
    (a : Act) (p : Point) (move : moves s f.current (point_of f (w.handlers h).objects) ≡ Does a p) where
  -- the handler after the move
  abbrev pub moved : Handler
  moved = record (w.handlers h) { objects = p.objects; stack = frame_at f p ∷ below }

  -- and the world
  abbrev pub after : World
  after = put h moved w

  frames : Each (FrameFits s pure w h) (f ∷ below)
  frames = subst (Each (FrameFits s pure w h)) is (fits h l).frames_fit

  -- each object stays
  free_own : HoldsOfOwn (λ v. Unit {0}) f.current
  free_own = record { of_integer = λ z. tt; of_boolean = λ b. tt; of_void = tt; of_current = tt }

  free_stays : Stays (λ v. Unit {0}) (w.handlers h).objects (point_of f (w.handlers h).objects)
  free_stays = record {
    values = record {
      objects_do = every (λ (o : Object). BindingsDo (λ v. Unit {0}) o.attributes) (λ o. every (λ (b : Binding). Unit {0}) (λ b. tt) o.attributes) (w.handlers h).objects;
      names_do = every (λ (b : Binding). Unit {0}) (λ b. tt) f.environment;
      result_does = every (λ (u : Operand). Unit {0}) (λ u. tt) (listed f.result);
      olds_do = every (λ (u : Operand). Unit {0}) (λ u. tt) f.olds;
      values_do = every (λ (u : Operand). Unit {0}) (λ u. tt) f.values;
    };
    there = λ o z. z;
  }

  grows : (o : Reference) → IsAmong (w.handlers h).objects o → IsAmong p.objects o
  grows = (stays_after (λ v. Unit {0}) f.current free_own (w.handlers h).objects a p
      (subst (StepStays (λ v. Unit {0}) f.current free_own (w.handlers h).objects) move (moves_stay (λ v. Unit {0}) f.current free_own (w.handlers h).objects s (point_of f (w.handlers h).objects) free_stays)
      (λ o i z. tt))).there

  -- what is there is there after the move
  pub there_after : (r : Reference) → IsThere w r → IsThere after r
  there_after = there_put w h moved grows (λ r i none z. absurd (some_among (w.handlers h).objects f.current frames.0.is_there none))

  pub own_after : HoldsOfOwn (ValueIsThere after) f.current
  own_after = record {
    of_integer = λ z r e. cc;
    of_boolean = λ b r e. cc;
    of_void = λ r e. cc;
    of_current = λ r e. subst (IsThere after) (same r e) (among_put w h moved l f.current frames.0.is_own (grows f.current frames.0.is_there));
  }
    where
      same : (r : Reference) → Attached f.current ≡ Attached r → f.current ≡ r
      same r e = cc

  values_now : Stays (ValueIsThere after) (w.handlers h).objects (point_of f (w.handlers h).objects)
  values_now = record {
    values = record {
      objects_do = each_more (ObjectFits s w h) (λ (o : Object). BindingsDo (ValueIsThere after) o.attributes) (λ o z. bindings o.attributes z.are_there) (w.handlers h).objects (fits h l).objects_fit;
      names_do = bindings f.environment frames.0.names_are_there;
      result_does = operands (listed f.result) (each_behind (λ (u : Operand). ValueIsThere w u.value) (f.values ++ f.olds) (listed f.result) frames.0.values_are_there);
      olds_do = operands f.olds (each_behind (λ (u : Operand). ValueIsThere w u.value) f.values f.olds front);
      values_do = operands f.values (each_before (λ (u : Operand). ValueIsThere w u.value) f.values f.olds front);
    };
    there = λ o z. z;
  }
    where
      bindings : (bs : List Binding) → Each (λ (b : Binding). ValueIsThere w b.value) bs → BindingsDo (ValueIsThere after) bs
      bindings bs e = each_more (λ (b : Binding). ValueIsThere w b.value) (λ (b : Binding). ValueIsThere after b.value) (λ b z r i. there_after r (z r i)) bs e

      operands : (us : List Operand) → Each (λ (u : Operand). ValueIsThere w u.value) us → Each (λ (u : Operand). ValueIsThere after u.value) us
      operands us e = each_more (λ (u : Operand). ValueIsThere w u.value) (λ (u : Operand). ValueIsThere after u.value) (λ u z r i. there_after r (z r i)) us e

      front : Each (λ (u : Operand). ValueIsThere w u.value) (f.values ++ f.olds)
      front = each_before (λ (u : Operand). ValueIsThere w u.value) (f.values ++ f.olds) (listed f.result) frames.0.values_are_there

  -- each value at the point, and of the act, leads to what is there
  pub led : ActStays (ValueIsThere after) f.current own_after (w.handlers h).objects a p
  led = subst (StepStays (ValueIsThere after) f.current own_after (w.handlers h).objects) move
      (moves_stay (ValueIsThere after) f.current own_after (w.handlers h).objects s (point_of f (w.handlers h).objects) values_now)
      (λ o i z r e. subst (IsThere after) (same o r e) (among_put w h moved l o (i ∙ frames.0.is_own) z))
    where
      same : (o r : Reference) → Attached o ≡ Attached r → o ≡ r
      same o r e = cc

  point_led : Stays (ValueIsThere after) (w.handlers h).objects p
  point_led = stays_after (ValueIsThere after) f.current own_after (w.handlers h).objects a p led

  -- the objects fit
  objects_after : StoreFits s f.current p.objects → Each (ObjectFits s after h) (after.handlers h).objects
  objects_after store = subst (λ (y : Handler). Each (ObjectFits s after h) y.objects) (sym (put_at w h moved))
      (both p.objects (subst (λ k. Each (AttributesFit s k) p.objects) frames.0.is_own store.fit) point_led.values.objects_do)
    where
      both : (objects : List Object) → Each (AttributesFit s h) objects → Each (λ (o : Object). BindingsDo (ValueIsThere after) o.attributes) objects → Each (ObjectFits s after h) objects
      both [] e i = tt
      both (o ∷ objects) e i = (record { attributes_fit = e.0; are_there = i.0 }, both objects e.1 i.1)

  beside : (k : ℕ) → k < w.count → (k == h) ≡ false → HandlerFits s pure after k
  beside k m e = beside_fits w h moved s pure there_after k e (fits k m)

  -- The handler fails after the move.
  pub fails_after : (why : Cause) → StoreFits s f.current p.objects → WorldFits s pure (fail h why after)
  fails_after why store = failed_fits s pure after h why [] f.current
      (subst (λ (y : Handler). IsAmong y.objects f.current) (sym (put_at w h moved)) store.current) (λ m. objects_after store) beside

  -- It is settled.
  pub settled_after : f.stage ≡ Runs → (coming : List EntityType) → StandsSo s pure f.routine f.current coming p → Settled s pure after h coming (frame_at f p) below
  settled_after runs coming stands = record {
    is_one = l;
    others_fit = beside;
    objects_fit = objects_after stands.1;
    stack_is = ap (λ (y : Handler). y.stack) (put_at w h moved);
    top_fits = top;
    below_fit = frames_led w after there_after s pure h (λ o z. subst (λ (y : Handler). IsAmong y.objects o) (sym (put_at w h moved)) (grows o z)) below frames.1;
    are_linked = relinked s h f (frame_at f p) below refl refl (subst (Linked s h) is (fits h l).frames_are_linked);
    requests_fit = subst (Each (RequestFits s after h)) (sym (ap requests_at (put_at w h moved) ∙ requests_as (w.handlers h) f (frame_at f p) below refl is))
        (requests_led w after there_after s pure h (requests_at (w.handlers h)) (fits h l).requests_fit);
    has_no_reply = λ v e. no_reply_to s w h f below is (λ k t c i. awaits_not k t c (sym runs ∙ i)) (fits h l).answer_fits v (sym (ap (λ (y : Handler). y.answer) (put_at w h moved)) ∙ e);
  }
    where
      awaits_not : (k : ℕ) (t : Option EntityType) (c : Bool) → Runs ≡ Awaits k t c → ⊥
      awaits_not k t c e = cc

      top : TopFits s pure after h coming (frame_at f p)
      top = record {
        is_own = frames.0.is_own;
        is_there = subst (λ (y : Handler). IsAmong y.objects f.current) (sym (put_at w h moved)) stands.1.current;
        is_version = frames.0.is_version;
        point_fits = at_objects s pure f.routine h coming p (after.handlers h).objects (subst (λ k. PointFits s pure f.routine k coming p) frames.0.is_own stands.0);
        names_are_there = point_led.values.names_do;
        values_are_there = each_append (λ (u : Operand). ValueIsThere after u.value) (p.values ++ p.olds) (listed p.result)
            (each_append (λ (u : Operand). ValueIsThere after u.value) p.values p.olds point_led.values.values_do point_led.values.olds_do) point_led.values.result_does;
      }
