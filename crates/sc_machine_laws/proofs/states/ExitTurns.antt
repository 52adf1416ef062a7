-- A turn in which a routine exits keeps each value fitting, where whoever waits for it takes its result.
use Rattle.std.specs.Option.{option_map}
use Rattle.std.specs.Prelude.{◌==◌, if◌then◌else◌}
use Rattle.std.proofs.Common.{◌&&◌, ◌++◌, ◌||◌, Bool, List, Option, Some, [], ap, false, refl, subst, sym, true, ℕ, ◌∙◌, ◌∷◌, ◌≡◌}
use Rattle.std.proofs.lemmas.Bool.{eqb-true}
use Rattle.sc_tree.specs.Plain.{System}
use Rattle.sc_rules.specs.declared.entity_types.entity_type.EntityType.{EntityType}
use Rattle.sc_rules.specs.Names.{RoutineName}
use Rattle.sc_lockpass.specs.Rights.{is_among}
use Rattle.sc_lockpass.specs.wait_conditions.Reservations.{ends_session}
use Rattle.sc_lockpass.specs.declared.wait_conditions.session.Release.TheVariants as release_at
use Rattle.sc_model.specs.Exits.{exits, handed, handed_as, handed_at, is_unset, is_untested, leaves_to}
use Rattle.sc_model.specs.Failures.{fail, request_of}
use Rattle.sc_model.specs.Handlers.{Awaits, Called, Frame, Handler, Origin, Request, Requested, Runs, World, frame_at, put, with_stack}
use Rattle.sc_model.specs.Objects.{object_numbered}
use Rattle.sc_model.specs.Preconditions.{object_meets}
use Rattle.sc_model.specs.Sessions.{release, session_ended}
use Rattle.sc_model.specs.Steps as act
use Rattle.sc_model.specs.Steps.{Does, Point}
use Rattle.sc_model.specs.Values.{Operand, Reference, Value}
use Rattle.sc_model.specs.declared.cause.Cause.TheVariants as cause
use Rattle.sc_machine_laws.specs.states.Fitting.{FrameFits, IsAwaited, IsThere, Linked, ReplyFits, RequestFits, TakesResult, ValueIsThere, WorldFits, alone, called, coming_to}
use Rattle.sc_machine_laws.specs.states.Places.{result_of_request}
use Rattle.sc_machine_laws.specs.states.Points.{Each, ResultFits, listed}
use Rattle.sc_machine_laws.specs.states.ValueSteps.{StepFits}
use Rattle.sc_machine_laws.specs.states.Values.{ExitsKeepIt}
use Rattle.sc_machine_laws.proofs.states.RequestEnds.{ReplyComes, reply_ends}
use Rattle.sc_machine_laws.proofs.states.Remains.{ObjectsStay, releases_keep_it, session_objects, there_carried}
use Rattle.sc_machine_laws.proofs.states.Changes.{operands_led, put_beside}
use Rattle.sc_machine_laws.proofs.states.Frames.{running_frames_move}
use Rattle.sc_machine_laws.proofs.states.ValueArrivals.{Comes, given_value, handed_fits, handed_origin, handed_routine}
use Rattle.sc_machine_laws.proofs.states.Lists.{each_behind}
use Rattle.sc_machine_laws.proofs.states.Refusals.{linked_below, requests_below}
use Rattle.sc_machine_laws.proofs.states.Settled.{Settled, put_stays, relinked, requests_as, settled_fails, settled_stack}
use Rattle.sc_machine_laws.proofs.states.MovedHandlers.{settled_after}

-- The routine that a request began gives what it asks for.
pub requested_result : (s : System) (h : ℕ) (f : Frame) (below : List Frame) (r : Request) → Linked s h (f ∷ below) → f.origin ≡ Requested r → f.routine.text.result ≡ result_of_request s r
requested_result s h f below r (alone {r = q} e y z) i = y ∙ ap (result_of_request s) (same (sym e ∙ i))
  where
    same : Requested q ≡ Requested r → q ≡ r
    same e = cc
requested_result s h f _ r (called {c} o e y z) i = absurd (never (sym o ∙ i))
  where
    never : Called c ≡ Requested r → ⊥
    never e = cc

-- the end of a session changes nothing else
ended_failure : (b : Bool) (x : Handler) → (session_ended b x).failure ≡ x.failure
ended_failure true x = refl
ended_failure false x = refl

ended_answer : (b : Bool) (x : Handler) → (session_ended b x).answer ≡ x.answer
ended_answer true x = refl
ended_answer false x = refl

ended_stack : (b : Bool) (x : Handler) → (session_ended b x).stack ≡ x.stack
ended_stack true x = refl
ended_stack false x = refl

-- a field that the change of a handler leaves is as before
pub put_leaves : {A : Type 0} (w : World) (h : ℕ) (x : Handler) (field : Handler → A) → field x ≡ field (w.handlers h) → (k : ℕ) → field ((put h x w).handlers k) ≡ field (w.handlers k)
put_leaves w h x field e k = by (k == h) refl
  where
    by : (b : Bool) → (k == h) ≡ b → field ((put h x w).handlers k) ≡ field (w.handlers k)
    by true i = ap (λ b. field (if b then x else w.handlers k)) i ∙ e ∙ ap (λ j. field (w.handlers j)) (sym (eqb-true k h i))
    by false i = ap (λ b. field (if b then x else w.handlers k)) i

-- where the topmost frame runs, its handler waits for nothing
runs_so : (s : System) (w : World) (h : ℕ) (f : Frame) (below : List Frame) (result : Option (Option EntityType)) → (w.handlers h).stack ≡ f ∷ below → f.stage ≡ Runs → TakesResult s w h h result → ⊥
runs_so s w h f below result is runs t = never t.supplier t.takes t.is_creation (sym runs ∙ ap (λ (y : Frame). y.stage) (top (sym is ∙ t.stack_is)) ∙ t.stage_is)
  where
    top : {f g : Frame} {fs gs : List Frame} → f ∷ fs ≡ g ∷ gs → f ≡ g
    top e = cc

    never : (k : ℕ) (t : Option EntityType) (c : Bool) → Runs ≡ Awaits k t c → ⊥
    never k t c e = cc

module _ (s : System) (pure : RoutineName → Bool) (w : World) (h : ℕ) (f : Frame) (below : List Frame) (z : Settled s pure w h [] f below) (runs : f.stage ≡ Runs)
    (awaited : (r : Request) → f.origin ≡ Requested r → IsAwaited s w h r f.routine.text.result) where
  -- what the routine gives
  abbrev given : Option Value
  given = option_map (λ (u : Operand). u.value) f.result

  -- the world where the routine has gone
  abbrev gone : World
  gone = release release_at.Exit f.reserved (with_stack h below w)

  result_fits : ResultFits s h f.routine.text.result f.result
  result_fits = z.top_fits.point_fits.result_fits

  result_there : Each (λ (u : Operand). ValueIsThere w u.value) (listed f.result)
  result_there = each_behind (λ (u : Operand). ValueIsThere w u.value) (f.values ++ f.olds) (listed f.result) z.top_fits.values_are_there

  -- ---- to a caller on the own handler

  to_caller : (c : Origin) (fs : List Frame) → f.origin ≡ c → ((r : Request) → c ≡ Requested r → ⊥) → is_unset f.result ≡ false → Linked s h (f ∷ fs) → Each (FrameFits s pure w h) fs →
      (w.handlers h).stack ≡ f ∷ fs → WorldFits s pure (release release_at.Exit f.reserved (with_stack h (handed (option_map (λ (u : Operand). u.value) f.result) fs) w))
  to_caller c fs i no_request set (alone {r} j q y) frames is = absurd (no_request r (sym i ∙ j))
  to_caller c _ i no_request set (called {g} {below = rest} {t} q j y k) frames is =
      subst (λ y. WorldFits s pure (release release_at.Exit f.reserved (with_stack h (y ∷ rest) w))) (sym (ap (λ x. handed_at x (option_map (λ (u : Operand). u.value) f.result) g) j))
      (releases_keep_it s pure (with_stack h (handed_as t (option_map (λ (u : Operand). u.value) f.result) g ∷ rest) w) release_at.Exit f.reserved
      (settled_stack s pure w h [] f below z (handed_as t (option_map (λ (u : Operand). u.value) f.result) g ∷ rest)
      (handed_fits s pure w h g t (option_map (λ (u : Operand). u.value) f.result) frames.0 (ap coming_to j) comes, frames.1)
      (relinked s h g (handed_as t (option_map (λ (u : Operand). u.value) f.result) g) rest (handed_origin g t (option_map (λ (u : Operand). u.value) f.result))
      (handed_routine g t (option_map (λ (u : Operand). u.value) f.result)) k)
      (subst (Each (RequestFits s w h))
      (sym (requests_as (record (w.handlers h) { stack = g ∷ rest }) g (handed_as t (option_map (λ (u : Operand). u.value) f.result) g) rest
      (ap request_of (handed_origin g t (option_map (λ (u : Operand). u.value) f.result))) refl))
      (requests_below (RequestFits s w h) (w.handlers h) f (g ∷ rest) is z.requests_fit))))
    where
      comes : Comes s w h g t (option_map (λ (u : Operand). u.value) f.result)
      comes = given_value s h h g.environment (ValueIsThere w) f.routine.text.result f.result t result_fits set y result_there

  -- ---- to the poster of the request

  there_gone : (r : Reference) → IsThere w r → IsThere gone r
  there_gone = there_carried w gone refl stays
    where
      stays : (k : ℕ) → ObjectsStay (w.handlers k) (gone.handlers k)
      stays k = session_objects (ends_session release_at.Exit && is_among k f.reserved) (w.handlers k) ((with_stack h below w).handlers k)
          (put_stays w h (record (w.handlers h) { stack = below }) (record { objects = refl; queue = λ i. refl }) k)

  -- who waits is as before
  failure_gone : (p : ℕ) → (gone.handlers p).failure ≡ (w.handlers p).failure
  failure_gone p = ended_failure (ends_session release_at.Exit && is_among p f.reserved) ((with_stack h below w).handlers p)
      ∙ put_leaves w h (record (w.handlers h) { stack = below }) (λ (y : Handler). y.failure) refl p

  answer_gone : (p : ℕ) → (gone.handlers p).answer ≡ (w.handlers p).answer
  answer_gone p = ended_answer (ends_session release_at.Exit && is_among p f.reserved) ((with_stack h below w).handlers p)
      ∙ put_leaves w h (record (w.handlers h) { stack = below }) (λ (y : Handler). y.answer) refl p

  stack_gone : (p : ℕ) → (p == h) ≡ false → (gone.handlers p).stack ≡ (w.handlers p).stack
  stack_gone p e = ended_stack (ends_session release_at.Exit && is_among p f.reserved) ((with_stack h below w).handlers p)
      ∙ ap (λ (y : Handler). y.stack) (put_beside w h (record (w.handlers h) { stack = below }) p e)

  reply_comes : (r : Request) → f.origin ≡ Requested r → is_unset f.result ≡ false → (p : ℕ) → r.is_waited ≡ true → r.poster ≡ Some p →
      ReplyComes s gone p (option_map (λ (u : Operand). u.value) f.result)
  reply_comes r i set p waited poster l fa an = of_taker (awaited r i p l waited poster (sym (failure_gone p) ∙ fa) (sym (answer_gone p) ∙ an))
    where
      of_taker : TakesResult s w p h f.routine.text.result → ReplyFits s gone p (option_map (λ (u : Operand). u.value) f.result)
      of_taker t = by (p == h) refl
        where
          by : (b : Bool) → (p == h) ≡ b → ReplyFits s gone p (option_map (λ (u : Operand). u.value) f.result)
          by true e = absurd (runs_so s w h f below f.routine.text.result z.stack_is runs (subst (λ k. TakesResult s w k h f.routine.text.result) (eqb-true p h e) t))
          by false e = record {
            frame = t.frame;
            below = t.below;
            supplier = t.supplier;
            takes = t.takes;
            is_creation = t.is_creation;
            stack_is = stack_gone p e ∙ t.stack_is;
            stage_is = t.stage_is;
            fits = given_value s h p t.frame.environment (ValueIsThere gone) f.routine.text.result f.result t.takes result_fits set t.gives (operands_led w gone there_gone (listed f.result) result_there);
          }

  leaves_fit : (o : Origin) → f.origin ≡ o → is_unset f.result ≡ false → WorldFits s pure (leaves_to h o f.reserved (option_map (λ (u : Operand). u.value) f.result) below w)
  leaves_fit (Called c) i set = to_caller (Called c) below i (λ r e. cc) set z.are_linked z.below_fit z.stack_is
  leaves_fit (Requested r) i set = reply_ends s pure gone r (option_map (λ (u : Operand). u.value) f.result)
      (releases_keep_it s pure (with_stack h below w) release_at.Exit f.reserved
      (settled_stack s pure w h [] f below z below z.below_fit (linked_below s h f below z.are_linked) (requests_below (RequestFits s w h) (w.handlers h) f below z.stack_is z.requests_fit)))
      (reply_comes r i set)

  pub exits_fit : WorldFits s pure (exits s h f below w)
  exits_fit = by (is_unset f.result) refl
    where
      of_test : (b : Bool) → is_unset f.result ≡ false →
          WorldFits s pure (if b then leaves_to h f.origin f.reserved (option_map (λ (u : Operand). u.value) f.result) below w else fail h cause.Invariant w)
      of_test true set = leaves_fit f.origin refl set
      of_test false set = settled_fails s pure w h [] f below z cause.Invariant []

      by : (b : Bool) → is_unset f.result ≡ b → WorldFits s pure (if b then fail h cause.UnsetEntity w
          else if is_untested f.origin || object_meets s (object_numbered f.current.number (w.handlers h).objects)
          then leaves_to h f.origin f.reserved (option_map (λ (u : Operand). u.value) f.result) below w else fail h cause.Invariant w)
      by true e = settled_fails s pure w h [] f below z cause.UnsetEntity []
      by false e = of_test (is_untested f.origin || object_meets s (object_numbered f.current.number (w.handlers h).objects)) e

pub exits_keep_it : ExitsKeepIt
exits_keep_it s root pure faultless well tells most w fits h l f below is runs p move awaited =
    exits_fit s pure (put h (record (w.handlers h) { objects = p.objects; stack = frame_at f p ∷ below }) w) h (frame_at f p) below
    (settled_after s pure w h f below fits l is act.Exits p move runs [] (subst (StepFits s pure f.routine f.current) move (running_frames_move s root pure faultless well tells w fits h l f below is runs)))
    runs awaited_after
  where
    linked : Linked s h (f ∷ below)
    linked = subst (Linked s h) is (fits h l).frames_are_linked

    -- who waits is as before the move
    awaited_after : (r : Request) → f.origin ≡ Requested r → IsAwaited s (put h (record (w.handlers h) { objects = p.objects; stack = frame_at f p ∷ below }) w) h r f.routine.text.result
    awaited_after r i k m waited poster fa an =
        of_taker (subst (TakesResult s w k h) (sym (requested_result s h f below r linked i)) (awaited r i k m waited poster (sym (put_leaves w h (record (w.handlers h) { objects = p.objects; stack = frame_at f p ∷ below }) (λ (y : Handler). y.failure) refl k) ∙ fa)
        (sym (put_leaves w h (record (w.handlers h) { objects = p.objects; stack = frame_at f p ∷ below }) (λ (y : Handler). y.answer) refl k) ∙ an)))
      where
        of_taker : TakesResult s w k h f.routine.text.result → TakesResult s (put h (record (w.handlers h) { objects = p.objects; stack = frame_at f p ∷ below }) w) k h f.routine.text.result
        of_taker t = by (k == h) refl
          where
            by : (b : Bool) → (k == h) ≡ b → TakesResult s (put h (record (w.handlers h) { objects = p.objects; stack = frame_at f p ∷ below }) w) k h f.routine.text.result
            by true e = absurd (runs_so s w h f below f.routine.text.result is runs (subst (λ k. TakesResult s w k h f.routine.text.result) (eqb-true k h e) t))
            by false e = record {
              frame = t.frame;
              below = t.below;
              supplier = t.supplier;
              takes = t.takes;
              is_creation = t.is_creation;
              stack_is = ap (λ (y : Handler). y.stack) (put_beside w h (record (w.handlers h) { objects = p.objects; stack = frame_at f p ∷ below }) k e) ∙ t.stack_is;
              stage_is = t.stage_is;
              gives = t.gives;
            }
