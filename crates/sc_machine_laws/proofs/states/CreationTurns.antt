-- A turn in which a routine creates a handler keeps each value fitting.
use Rattle.std.specs.Option.{option_and_then}
use Rattle.std.specs.Prelude.{◌==◌, if◌then◌else◌, is_some, length, nat_lt}
use Rattle.std.proofs.Common.{◌++◌, ◌<◌, Bool, List, None, Option, Some, [], ap, arith, false, refl, subst, sym, true, ℕ, ◌∙◌, ◌∷◌, ◌≡◌}
use Rattle.std.proofs.lemmas.Bool.{eqb-false, eqb-true, ne_eqb}
use Rattle.sc_tree.specs.Plain.{System}
use Rattle.sc_class.specs.Tables.Features.{DeclaredFeature}
use Rattle.sc_rules.specs.declared.entity_types.entity_type.EntityType.{EntityType}
use Rattle.sc_rules.specs.Names.{RoutineName}
use Rattle.sc_lockpass.specs.declared.wait_conditions.session.Release.TheVariants as release_at
use Rattle.sc_model.specs.Asking.{awaits_if, created, creates_handler, passes_or_releases, placed, posts_creation, request_by, send, with_handler}
use Rattle.sc_model.specs.Environments.{handler_named}
use Rattle.sc_model.specs.Failures.{fail, request_of, requests_at}
use Rattle.sc_model.specs.Fits.{Fits}
use Rattle.sc_model.specs.Handlers.{Frame, Handler, Makes, Reply, Request, Runs, World, frame_at, new_handler, point_of, put, with_stack}
use Rattle.sc_model.specs.Moves.{moves}
use Rattle.sc_model.specs.Objects.{object_numbered}
use Rattle.sc_model.specs.Routines.{version_of}
use Rattle.sc_model.specs.Steps as act
use Rattle.sc_model.specs.Steps.{Act, Does, Point}
use Rattle.sc_model.specs.Turns.{effect}
use Rattle.sc_model.specs.Values.{Attached, Operand, Reference, Value, operand, values_of}
use Rattle.sc_model.specs.declared.cause.Cause.TheVariants as cause
use Rattle.sc_machine_laws.specs.states.Fitting.{ActualsFit, FrameFits, HandlerFits, IsThere, Linked, ObjectFits, RequestFits, ValueIsThere, WorldFits, coming_to, empty, is_due, is_made, no_more}
use Rattle.sc_machine_laws.specs.states.Places.{formals_if_any, is_routine, of_actuals}
use Rattle.sc_machine_laws.specs.states.Points.{Each, IsAmong, PointFits, listed}
use Rattle.sc_machine_laws.specs.states.ValueSteps.{ActFits, CreationFits, OperandsDo, StepFits}
use Rattle.sc_machine_laws.specs.states.Values.{ActsKeepIt, is_new_handler}
use Rattle.sc_machine_laws.proofs.states.CallTurns.{values_led_of}
use Rattle.sc_machine_laws.proofs.states.Remains.{ObjectsStay, handler_carried, objects_same, releases_keep_it}
use Rattle.sc_machine_laws.proofs.states.Changes.{RestStays, at_objects, bindings_led, frames_led, handler_led, itself, objects_led, operands_led, put_at, requests_led, rest_same, values_led}
use Rattle.sc_machine_laws.proofs.states.Frames.{running_frames_move}
use Rattle.sc_machine_laws.proofs.states.ValueArrivals.{arrived}
use Rattle.sc_machine_laws.proofs.states.Lists.{not_true, same_some}
use Rattle.sc_machine_laws.proofs.states.ValuePosts.{call_actuals, call_known}
use Rattle.sc_machine_laws.proofs.states.RequestTurns.{passes_fit}
use Rattle.sc_machine_laws.proofs.states.Settled.{Settled, relinked, requests_as, settled_fails, settled_stack}
use Rattle.sc_machine_laws.proofs.states.MovedHandlers.{led, settled_after}

-- Where each handler is as in another world, all fits as there.
like : (s : System) (pure : RoutineName → Bool) (w v : World) → v.count ≡ w.count → ((k : ℕ) → v.handlers k ≡ w.handlers k) → WorldFits s pure w → WorldFits s pure v
like s pure w v count same fits k l =
    handler_carried w v count (λ j. subst (ObjectsStay (w.handlers j)) (sym (same j)) (objects_same (w.handlers j))) s pure k
    (subst (RestStays (w.handlers k)) (sym (same k)) (rest_same (w.handlers k))) (fits k (subst (λ n. k < n) count l))

not_self : (a b : ℕ) → a < b → (a == b) ≡ false
not_self a b l = ne_eqb a b (λ q. omega (arith, l, q))

-- A handler that is settled stays so where what is there stays there, and each handler of before is as it was.
settled_led : (s : System) (pure : RoutineName → Bool) (w v : World) (h : ℕ) (coming : List EntityType) (f : Frame) (below : List Frame) → ((r : Reference) → IsThere w r → IsThere v r) →
    h < v.count → v.handlers h ≡ w.handlers h → ((k : ℕ) → k < v.count → (k == h) ≡ false → HandlerFits s pure v k) → Settled s pure w h coming f below → Settled s pure v h coming f below
settled_led s pure w v h coming f below there l same others z = record {
  is_one = l;
  others_fit = others;
  objects_fit = subst (λ (y : Handler). Each (ObjectFits s v h) y.objects) (sym same) (objects_led w v there s pure h (w.handlers h).objects z.objects_fit);
  stack_is = ap (λ (y : Handler). y.stack) same ∙ z.stack_is;
  top_fits = record {
    is_own = z.top_fits.is_own;
    is_there = among f.current z.top_fits.is_there;
    is_version = z.top_fits.is_version;
    point_fits = at_objects s pure f.routine h coming (point_of f (w.handlers h).objects) (v.handlers h).objects z.top_fits.point_fits;
    names_are_there = bindings_led w v there f.environment z.top_fits.names_are_there;
    values_are_there = operands_led w v there (f.values ++ f.olds ++ listed f.result) z.top_fits.values_are_there;
  };
  below_fit = frames_led w v there s pure h among below z.below_fit;
  are_linked = z.are_linked;
  requests_fit = subst (λ (y : Handler). Each (RequestFits s v h) (requests_at y)) (sym same) (requests_led w v there s pure h (requests_at (w.handlers h)) z.requests_fit);
  has_no_reply = λ x a. z.has_no_reply x (sym (ap (λ (y : Handler). y.answer) same) ∙ a);
}
  where
    among : (o : Reference) → IsAmong (w.handlers h).objects o → IsAmong (v.handlers h).objects o
    among o a = subst (λ (y : Handler). IsAmong y.objects o) (sym same) a

module _ (s : System) (pure : RoutineName → Bool) (w : World) (h : ℕ) (t : EntityType) (f : Frame) (below : List Frame) (z : Settled s pure w h (t ∷ []) f below) (runs : f.stage ≡ Runs)
    (c : ℕ) (less : c < length s.classes) (procedure : Option (List ℕ)) (us : List Operand) (creation : CreationFits s h (handler_named f.environment) c procedure us) (us_led : OperandsDo (ValueIsThere w) us)
    (seen : (j : ℕ) → Fits s h (handler_named f.environment) (Attached (record { handler = j; number = 1; class = c })) t) (passing : Bool) where
  -- the object of the new handler
  abbrev new : Reference
  new = record { handler = w.count; number = 1; class = c }

  -- the world with the new handler, and its request
  abbrev one_more : World
  one_more = with_handler w.count h w

  abbrev making : Request
  making = request_by h (record { handler = w.count; number = 1; class = c }) (Makes procedure) us passing passing (with_handler w.count h w)

  abbrev posted : World
  posted = send false w.count (request_by h (record { handler = w.count; number = 1; class = c }) (Makes procedure) us passing passing (with_handler w.count h w)) (with_handler w.count h w)

  -- its handlers
  posted_new : posted.handlers w.count ≡ record new_handler { queue = making ∷ [] }
  posted_new = put_at one_more w.count (placed false making (one_more.handlers w.count)) ∙ ap (placed false making) (ap (λ b. if b then new_handler else w.handlers w.count) (itself w.count))

  posted_beside : (k : ℕ) → (k == w.count) ≡ false → posted.handlers k ≡ w.handlers k
  posted_beside k e = ap (λ b. if b then placed false making (one_more.handlers w.count) else one_more.handlers k) e ∙ ap (λ b. if b then new_handler else w.handlers k) e

  not_new : (k : ℕ) → k < w.count → (k == w.count) ≡ false
  not_new k l = not_self k w.count l

  there_posted : (r : Reference) → IsThere w r → IsThere posted r
  there_posted r (is_made {o} l i e) = is_made {o = o} (omega (arith, l)) (subst (λ (y : Handler). object_numbered r.number y.objects ≡ Some o) (sym (posted_beside r.handler (not_new r.handler l))) i) e
  there_posted r (is_due {q} {qs} {x} l i j k m n) = is_due {q = q} {qs = qs} {x = x} (omega (arith, l)) (ap (λ (y : Handler). y.objects) (posted_beside r.handler (not_new r.handler l)) ∙ i)
      (ap (λ (y : Handler). y.queue) (posted_beside r.handler (not_new r.handler l)) ∙ j) k m n

  new_there : IsThere posted new
  new_there = is_due {q = making} {qs = []} {x = procedure} (omega arith) (ap (λ (y : Handler). y.objects) posted_new) (ap (λ (y : Handler). y.queue) posted_new) refl refl refl

  -- the request fits
  making_known : (o : Option (List ℕ)) → CreationFits s h (handler_named f.environment) c o us → (x : List ℕ) → o ≡ Some x → is_some (version_of s c x) ≡ true
  making_known None g x e = cc
  making_known (Some y) g x e = call_known s h (handler_named f.environment) (record { handler = w.count; number = 1; class = c }) y us None (g w.count).0 x e

  same_made : {a b : Option (List ℕ)} → Makes a ≡ Makes b → a ≡ b
  same_made e = cc

  making_routine : (o : Option (List ℕ)) → CreationFits s h (handler_named f.environment) c o us → (x : List ℕ) (v : DeclaredFeature) → o ≡ Some x → version_of s c x ≡ Some v →
      is_routine v.feature.kind ≡ true
  making_routine None g x v e i = cc
  making_routine (Some y) g x v e i = subst (λ (u : DeclaredFeature). is_routine u.feature.kind ≡ true)
      (same_some (sym (g w.count).0.is_version ∙ ap (version_of s c) (same_some e) ∙ i)) (g w.count).1

  making_actuals : (o : Option (List ℕ)) → CreationFits s h (handler_named f.environment) c o us →
      ActualsFit s w.count (formals_if_any (option_and_then (version_of s c) o)) (of_actuals (values_of us)) (formals_if_any (option_and_then (version_of s c) o)) (values_of us)
  making_actuals None g = subst (λ us. ActualsFit s w.count [] (of_actuals (values_of us)) [] (values_of us)) (sym g) no_more
  making_actuals (Some y) g = call_actuals s h (handler_named f.environment) (record { handler = w.count; number = 1; class = c }) y us None (g w.count).0

  making_fits : RequestFits s posted w.count making
  making_fits = record {
    is_here = refl;
    is_of_class = less;
    is_known = making_known procedure creation;
    made_by_routine = λ x v e i. making_routine procedure creation x v (same_made e) i;
    target_is_there = new_there;
    actuals_fit = making_actuals procedure creation;
    actuals_are_there = values_led w posted there_posted (values_of us) (values_led_of w us us_led);
  }

  -- so does the new handler
  new_fits : HandlerFits s pure posted w.count
  new_fits = record {
    objects_fit = subst (λ (y : Handler). Each (ObjectFits s posted w.count) y.objects) (sym posted_new) tt;
    frames_fit = subst (λ (y : Handler). Each (FrameFits s pure posted w.count) y.stack) (sym posted_new) tt;
    frames_are_linked = subst (λ (y : Handler). Linked s w.count y.stack) (sym posted_new) empty;
    requests_fit = subst (λ (y : Handler). Each (RequestFits s posted w.count) (requests_at y)) (sym posted_new) (making_fits, tt);
    answer_fits = λ v a. absurd (none v (sym (ap (λ (y : Handler). y.answer) posted_new) ∙ a));
  }
    where
      none : (v : Option Value) → None ≡ Some (Reply v) → ⊥
      none v e = cc

  posted_settled : Settled s pure posted h (t ∷ []) f below
  posted_settled = settled_led s pure w posted h (t ∷ []) f below there_posted (let l = z.is_one in omega (arith, l)) (posted_beside h (not_new h z.is_one)) others z
    where
      others : (k : ℕ) → k < posted.count → (k == h) ≡ false → HandlerFits s pure posted k
      others k l e = by (k == w.count) refl
        where
          one_before : (k == w.count) ≡ false → k < w.count
          one_before i = let n = eqb-false k w.count i in omega (arith, l, n)

          by : (b : Bool) → (k == w.count) ≡ b → HandlerFits s pure posted k
          by true i = subst (HandlerFits s pure posted) (sym (eqb-true k w.count i)) new_fits
          by false i = handler_led w posted there_posted s pure k (ap (λ (y : Handler). y.objects) (posted_beside k i))
              (subst (RestStays (w.handlers k)) (sym (posted_beside k i)) (rest_same (w.handlers k))) (z.others_fit k (one_before i) e)

  -- the frame has the reference, and waits or goes on
  abbrev holding : Frame
  holding = record f { values = operand (Attached (record { handler = w.count; number = 1; class = c })) t ∷ f.values }

  holding_fits : (b : Bool) → FrameFits s pure posted h (awaits_if b w.count None true holding)
  holding_fits b = by b
    where
      at_point : PointFits s pure f.routine h [] (point_of holding (posted.handlers h).objects)
      at_point = arrived s pure f.routine h t (point_of f (posted.handlers h).objects) (Attached new) posted_settled.top_fits.point_fits (seen w.count)

      led : ValueIsThere posted (Attached new)
      led r e = subst (IsThere posted) (same r e) new_there
        where
          same : (r : Reference) → Attached new ≡ Attached r → new ≡ r
          same r e = cc

      by : (b : Bool) → FrameFits s pure posted h (awaits_if b w.count None true holding)
      by true = record {
        is_own = posted_settled.top_fits.is_own;
        is_there = posted_settled.top_fits.is_there;
        is_version = posted_settled.top_fits.is_version;
        point_fits = at_point;
        names_are_there = posted_settled.top_fits.names_are_there;
        values_are_there = (led, posted_settled.top_fits.values_are_there);
      }
      by false = record {
        is_own = posted_settled.top_fits.is_own;
        is_there = posted_settled.top_fits.is_there;
        is_version = posted_settled.top_fits.is_version;
        point_fits = subst (λ ts. PointFits s pure f.routine h ts (point_of holding (posted.handlers h).objects)) (sym (ap coming_to runs)) at_point;
        names_are_there = posted_settled.top_fits.names_are_there;
        values_are_there = (led, posted_settled.top_fits.values_are_there);
      }

  awaits_origin : (b : Bool) → (awaits_if b w.count None true holding).origin ≡ f.origin
  awaits_origin true = refl
  awaits_origin false = refl

  awaits_routine : (b : Bool) → (awaits_if b w.count None true holding).routine ≡ f.routine
  awaits_routine true = refl
  awaits_routine false = refl

  -- all fits where the frame changes after the post
  changed : WorldFits s pure (with_stack h (awaits_if passing w.count None true holding ∷ below) posted)
  changed = settled_stack s pure posted h (t ∷ []) f below posted_settled (awaits_if passing w.count None true holding ∷ below) (holding_fits passing, posted_settled.below_fit)
      (relinked s h f (awaits_if passing w.count None true holding) below (awaits_origin passing) (awaits_routine passing) posted_settled.are_linked)
      (subst (Each (RequestFits s posted h)) (sym (requests_as (posted.handlers h) f (awaits_if passing w.count None true holding) below (ap request_of (awaits_origin passing)) posted_settled.stack_is))
      posted_settled.requests_fit)

  -- and so it does where it changes before
  abbrev stack : List Frame
  stack = awaits_if passing w.count None true (record f { values = operand (Attached (record { handler = w.count; number = 1; class = c })) t ∷ f.values }) ∷ below

  same_handlers : (k : ℕ) → (posts_creation h (record { handler = w.count; number = 1; class = c }) procedure us t passing f below (with_handler w.count h w)).handlers k ≡ (with_stack h stack posted).handlers k
  same_handlers k = by_new (k == w.count) (k == h) refl refl
    where
      h_old : (h == w.count) ≡ false
      h_old = not_new h z.is_one

      -- the new handler is not the creator
      apart : (w.count == h) ≡ false
      apart = let l = z.is_one in ne_eqb w.count h (λ q. omega (arith, l, q))

      by_new : (b d : Bool) → (k == w.count) ≡ b → (k == h) ≡ d →
          (send false w.count making (with_stack h stack one_more)).handlers k ≡ (with_stack h stack posted).handlers k
      by_new true d e i =
          let same : k ≡ w.count = eqb-true k w.count e in
          let other : (k == h) ≡ false = subst (λ j. (j == h) ≡ false) (sym same) apart in
          ap (λ b. if b then placed false making ((with_stack h stack one_more).handlers w.count) else (with_stack h stack one_more).handlers k) e
          ∙ ap (placed false making) (ap (λ b. if b then record (one_more.handlers h) { stack = stack } else one_more.handlers w.count) apart)
          ∙ sym (ap (λ b. if b then placed false making (one_more.handlers w.count) else one_more.handlers k) e)
          ∙ sym (ap (λ b. if b then record (posted.handlers h) { stack = stack } else posted.handlers k) other)
      by_new false true e i =
          ap (λ b. if b then placed false making ((with_stack h stack one_more).handlers w.count) else (with_stack h stack one_more).handlers k) e
          ∙ ap (λ b. if b then record (one_more.handlers h) { stack = stack } else one_more.handlers k) i
          ∙ sym (ap (λ (y : Handler). record y { stack = stack }) (ap (λ b. if b then placed false making (one_more.handlers w.count) else one_more.handlers h) h_old))
          ∙ sym (ap (λ b. if b then record (posted.handlers h) { stack = stack } else posted.handlers k) i)
      by_new false false e i =
          ap (λ b. if b then placed false making ((with_stack h stack one_more).handlers w.count) else (with_stack h stack one_more).handlers k) e
          ∙ ap (λ b. if b then record (one_more.handlers h) { stack = stack } else one_more.handlers k) i
          ∙ sym (ap (λ b. if b then placed false making (one_more.handlers w.count) else one_more.handlers k) e)
          ∙ sym (ap (λ b. if b then record (posted.handlers h) { stack = stack } else posted.handlers k) i)

  pub created_fits : WorldFits s pure (created h (record { handler = w.count; number = 1; class = c }) procedure us t passing f below w)
  created_fits = by passing (like s pure (with_stack h stack posted) (posts_creation h (record { handler = w.count; number = 1; class = c }) procedure us t passing f below (with_handler w.count h w)) refl same_handlers changed)
    where
      by : (b : Bool) → WorldFits s pure (posts_creation h (record { handler = w.count; number = 1; class = c }) procedure us t passing f below (with_handler w.count h w)) →
          WorldFits s pure (passes_or_releases b h w.count (posts_creation h (record { handler = w.count; number = 1; class = c }) procedure us t passing f below (with_handler w.count h w)))
      by true g = passes_fit s pure (posts_creation h (record { handler = w.count; number = 1; class = c }) procedure us t passing f below (with_handler w.count h w)) true h w.count g
      by false g = releases_keep_it s pure (posts_creation h (record { handler = w.count; number = 1; class = c }) procedure us t passing f below (with_handler w.count h w)) release_at.Creation (w.count ∷ []) g

  -- The handler is created, or the creator fails.
  pub creation_made : (most : ℕ) → WorldFits s pure (creates_handler most h c procedure us t passing f below w)
  creation_made most = by (nat_lt w.count most)
    where
      by : (b : Bool) → WorldFits s pure (if b then created h (record { handler = w.count; number = 1; class = c }) procedure us t passing f below w else fail h cause.TooManyHandlers w)
      by true = created_fits
      by false = settled_fails s pure w h (t ∷ []) f below z cause.TooManyHandlers []

pub creations_keep_it : ActsKeepIt is_new_handler
creations_keep_it s root pure faultless well tells most w fits h l f below is runs a p move such =
    by a move such (subst (StepFits s pure f.routine f.current) move (running_frames_move s root pure faultless well tells w fits h l f below is runs))
  where
    own : f.current.handler ≡ h
    own = (subst (Each (FrameFits s pure w h)) is (fits h l).frames_fit).0.is_own

    by : (a : Act) → moves s f.current (point_of f (w.handlers h).objects) ≡ Does a p → is_new_handler a ≡ true → ActFits s pure f.routine f.current a p →
        WorldFits s pure (effect most s h a (frame_at f p) below (put h (record (w.handlers h) { objects = p.objects; stack = frame_at f p ∷ below }) w))
    by (act.CreatesHandler k x us t passing) m such (less, creation, seen, stands) =
        creation_made s pure (put h (record (w.handlers h) { objects = p.objects; stack = frame_at f p ∷ below }) w) h t (frame_at f p) below
        (settled_after s pure w h f below fits l is (act.CreatesHandler k x us t passing) p m runs (t ∷ []) stands) runs k less x us
        (subst (λ j. CreationFits s j (handler_named p.environment) k x us) own creation) (led s pure w h f below fits l is (act.CreatesHandler k x us t passing) p m).1
        (λ j. subst (λ i. Fits s i (handler_named p.environment) (Attached (record { handler = j; number = 1; class = k })) t) own (seen j)) passing most
    by (act.Prints text) m such g = absurd (not_true such)
    by act.Until m such g = absurd (not_true such)
    by act.Creates m such g = absurd (not_true such)
    by act.Starts m such g = absurd (not_true such)
    by act.Opens m such g = absurd (not_true such)
    by act.Leaves m such g = absurd (not_true such)
    by (act.Fails why) m such g = absurd (not_true such)
    by (act.Enters c o x us t) m such g = absurd (not_true such)
    by (act.Requests o x us t b) m such g = absurd (not_true such)
    by (act.Refuses k) m such g = absurd (not_true such)
    by act.Exits m such g = absurd (not_true such)
