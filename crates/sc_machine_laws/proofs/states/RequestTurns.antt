-- A turn in which a routine asks another handler keeps each value fitting.
use Rattle.std.specs.Prelude.{if◌then◌else◌, is_some, length, nat_lt}
use Rattle.std.proofs.Common.{◌&&◌, ◌||◌, Bool, List, None, Option, Some, [], ap, false, not, refl, subst, sym, true, ℕ, ◌∙◌, ◌∷◌, ◌≡◌}
use Rattle.sc_tree.specs.Plain.{System}
use Rattle.sc_rules.specs.declared.entity_types.entity_type.EntityType.{EntityType}
use Rattle.sc_rules.specs.Names.{RoutineName}
use Rattle.sc_lockpass.specs.Passing.{pass}
use Rattle.sc_lockpass.specs.Rights.{held}
use Rattle.sc_model.specs.Asking.{asks, awaits_if, is_callback, passes, request, request_by, send}
use Rattle.sc_model.specs.Environments.{handler_named}
use Rattle.sc_model.specs.Failures.{fail}
use Rattle.sc_model.specs.Handlers.{Awaits, Calls, Frame, Runs, World, frame_at, point_of, put, with_stack}
use Rattle.sc_model.specs.Limits.{max_queue}
use Rattle.sc_model.specs.Moves.{moves}
use Rattle.sc_model.specs.Steps as act
use Rattle.sc_model.specs.Steps.{Act, Does, Point}
use Rattle.sc_model.specs.Turns.{effect}
use Rattle.sc_model.specs.Values.{Operand, Reference}
use Rattle.sc_model.specs.declared.cause.Cause.TheVariants as cause
use Rattle.sc_machine_laws.specs.states.Fitting.{FrameFits, IsThere, RequestFits, ValueIsThere, WorldFits, coming_to}
use Rattle.sc_machine_laws.specs.states.Points.{Each, listed}
use Rattle.sc_machine_laws.specs.states.ValueSteps.{ActFits, CallFits, OperandsDo, StepFits}
use Rattle.sc_machine_laws.specs.states.Values.{ActsKeepIt, is_request}
use Rattle.sc_machine_laws.proofs.states.CallTurns.{values_led_of}
use Rattle.sc_machine_laws.proofs.states.Remains.{rights_keep_it}
use Rattle.sc_machine_laws.proofs.states.Changes.{requests_led}
use Rattle.sc_machine_laws.proofs.states.Frames.{running_frames_move}
use Rattle.sc_machine_laws.proofs.states.ValuePosts.{call_actuals, call_known, class_there, send_fits, there_below, there_sent}
use Rattle.sc_machine_laws.proofs.states.Settled.{Settled, settled_fails, settled_objects, settled_requests, settled_top, there_stays}
use Rattle.sc_machine_laws.proofs.states.Lists.{not_true}
use Rattle.sc_machine_laws.proofs.states.MovedHandlers.{led, settled_after}

-- without a wait nothing is given
none_given : (a c : Bool) (o : Option EntityType) → (a || is_some o || c) ≡ false → o ≡ None
none_given true c None e = refl
none_given true true (Some t) e = cc
none_given true false (Some t) e = cc
none_given false c None e = refl
none_given false true (Some t) e = cc
none_given false false (Some t) e = cc

pub passes_fit : (s : System) (pure : RoutineName → Bool) (w : World) (b : Bool) (h k : ℕ) → WorldFits s pure w → WorldFits s pure (passes b h k w)
passes_fit s pure w true h k f = rights_keep_it s pure w (pass h k w.rights) f
passes_fit s pure w false h k f = f

module _ (s : System) (pure : RoutineName → Bool) (w : World) (h : ℕ) (gives : Option EntityType) (f : Frame) (below : List Frame) (z : Settled s pure w h (listed gives) f below) (runs : f.stage ≡ Runs)
    (r : Reference) (x : List ℕ) (us : List Operand) (call : CallFits s h (handler_named f.environment) r x us gives) (there : IsThere w r) (led : OperandsDo (ValueIsThere w) us) where
  -- the frame waits, or goes on
  waits_fit : (waits : Bool) → (waits ≡ false → gives ≡ None) → WorldFits s pure (with_stack h (awaits_if waits r.handler gives false f ∷ below) w)
  waits_fit true e = settled_top s pure w h (listed gives) f below z (Awaits r.handler gives false) f.reserved f.blocks f.mark refl
  waits_fit false e = settled_top s pure w h (listed gives) f below z f.stage f.reserved f.blocks f.mark (ap coming_to runs ∙ ap listed (sym (e refl)))

  asked : (passing waits : Bool) → (waits ≡ false → gives ≡ None) → WorldFits s pure (asks h r x us gives passing waits f below w)
  asked passing waits e = passes_fit s pure (send (is_callback h r.handler w) r.handler (request_by h r (Calls x) us waits passing w) (with_stack h (awaits_if waits r.handler gives false f ∷ below) w)) passing h r.handler
      (send_fits (with_stack h (awaits_if waits r.handler gives false f ∷ below) w) r.handler (request_by h r (Calls x) us waits passing w) s pure (is_callback h r.handler w) (waits_fit waits e) (there_below w r there) fits)
    where
      there_u : (o : Reference) → IsThere w o → IsThere (with_stack h (awaits_if waits r.handler gives false f ∷ below) w) o
      there_u = there_stays w h (record (w.handlers h) { stack = awaits_if waits r.handler gives false f ∷ below }) (record { objects = refl; queue = λ i. refl })

      now : RequestFits s w r.handler (request_by h r (Calls x) us waits passing w)
      now = record {
        is_here = refl;
        is_of_class = class_there s w (settled_objects s pure w h (listed gives) f below z) (settled_requests s pure w h (listed gives) f below z) r there;
        is_known = call_known s h (handler_named f.environment) r x us gives call;
        made_by_routine = λ y v e i. cc;
        target_is_there = there;
        actuals_fit = call_actuals s h (handler_named f.environment) r x us gives call;
        actuals_are_there = values_led_of w us led;
      }

      fits : RequestFits s (send (is_callback h r.handler w) r.handler (request_by h r (Calls x) us waits passing w) (with_stack h (awaits_if waits r.handler gives false f ∷ below) w)) r.handler
          (request_by h r (Calls x) us waits passing w)
      fits = (requests_led w (send (is_callback h r.handler w) r.handler (request_by h r (Calls x) us waits passing w) (with_stack h (awaits_if waits r.handler gives false f ∷ below) w))
          (λ o i. there_sent (with_stack h (awaits_if waits r.handler gives false f ∷ below) w) r.handler (request_by h r (Calls x) us waits passing w) (is_callback h r.handler w) o (there_u o i))
          s pure r.handler (request_by h r (Calls x) us waits passing w ∷ []) (now, tt)).0

  -- The request is made, or its handler fails.
  pub request_made : (passing : Bool) → WorldFits s pure (request h r x us gives passing f below w)
  request_made passing = by_held (not (held w.rights h r.handler))
    where
      by_room : (b : Bool) → WorldFits s pure (if b then fail h cause.QueueFull w else asks h r x us gives passing (passing || is_some gives || is_callback h r.handler w) f below w)
      by_room true = settled_fails s pure w h (listed gives) f below z cause.QueueFull []
      by_room false = asked passing (passing || is_some gives || is_callback h r.handler w) (none_given passing (is_callback h r.handler w) gives)

      by_failure : (b : Bool) → WorldFits s pure (if b then fail h cause.SupplierFailed w
          else if not (is_callback h r.handler w) && not (nat_lt (length (w.handlers r.handler).queue) max_queue) then fail h cause.QueueFull w
          else asks h r x us gives passing (passing || is_some gives || is_callback h r.handler w) f below w)
      by_failure true = settled_fails s pure w h (listed gives) f below z cause.SupplierFailed []
      by_failure false = by_room (not (is_callback h r.handler w) && not (nat_lt (length (w.handlers r.handler).queue) max_queue))

      by_held : (b : Bool) → WorldFits s pure (if b then fail h cause.NotHeld w
          else if is_some (w.handlers r.handler).failure then fail h cause.SupplierFailed w
          else if not (is_callback h r.handler w) && not (nat_lt (length (w.handlers r.handler).queue) max_queue) then fail h cause.QueueFull w
          else asks h r x us gives passing (passing || is_some gives || is_callback h r.handler w) f below w)
      by_held true = settled_fails s pure w h (listed gives) f below z cause.NotHeld []
      by_held false = by_failure (is_some (w.handlers r.handler).failure)

pub requests_keep_it : ActsKeepIt is_request
requests_keep_it s root pure faultless well tells most w fits h l f below is runs a p move such =
    by a move such (subst (StepFits s pure f.routine f.current) move (running_frames_move s root pure faultless well tells w fits h l f below is runs))
  where
    own : f.current.handler ≡ h
    own = (subst (Each (FrameFits s pure w h)) is (fits h l).frames_fit).0.is_own

    by : (a : Act) → moves s f.current (point_of f (w.handlers h).objects) ≡ Does a p → is_request a ≡ true → ActFits s pure f.routine f.current a p →
        WorldFits s pure (effect most s h a (frame_at f p) below (put h (record (w.handlers h) { objects = p.objects; stack = frame_at f p ∷ below }) w))
    by (act.Requests o x us gives passing) m such (call, stands, named) =
        let after = led s pure w h f below fits l is (act.Requests o x us gives passing) p m in
        request_made s pure (put h (record (w.handlers h) { objects = p.objects; stack = frame_at f p ∷ below }) w) h gives (frame_at f p) below
        (settled_after s pure w h f below fits l is (act.Requests o x us gives passing) p m runs (listed gives) stands) runs o x us
        (subst (λ k. CallFits s k (handler_named p.environment) o x us gives) own call) (after.2 o refl) after.1 passing
    by (act.Prints text) m such g = absurd (not_true such)
    by act.Until m such g = absurd (not_true such)
    by act.Creates m such g = absurd (not_true such)
    by act.Starts m such g = absurd (not_true such)
    by act.Opens m such g = absurd (not_true such)
    by act.Leaves m such g = absurd (not_true such)
    by (act.Fails why) m such g = absurd (not_true such)
    by (act.CreatesHandler k x us t b) m such g = absurd (not_true such)
    by (act.Enters c o x us t) m such g = absurd (not_true such)
    by (act.Refuses k) m such g = absurd (not_true such)
    by act.Exits m such g = absurd (not_true such)
