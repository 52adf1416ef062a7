-- A turn in which the precondition of an entry is false keeps each value fitting.
use Rattle.std.specs.List.{flat_map}
use Rattle.std.specs.Prelude.{if◌then◌else◌}
use Rattle.std.proofs.Common.{◌&&◌, ◌++◌, Bool, List, [], false, not, refl, subst, sym, true, ℕ, ◌∷◌, ◌≡◌}
use Rattle.sc_tree.specs.Plain.{System}
use Rattle.sc_class.specs.ClassNames.{Root}
use Rattle.sc_class.specs.Faults.ClassRules.{IsFaultless}
use Rattle.sc_rules.specs.Names.{RoutineName, formals_known}
use Rattle.sc_rules.specs.Purity.{IsPurity}
use Rattle.sc_rules.specs.SystemRules.{WellFormed}
use Rattle.sc_lockpass.specs.wait_conditions.Reservations.{mark_of}
use Rattle.sc_lockpass.specs.declared.wait_conditions.condition.EntryVerdict.{EntryVerdict}
use Rattle.sc_lockpass.specs.declared.wait_conditions.condition.EntryVerdict.TheVariants as verdict
use Rattle.sc_lockpass.specs.declared.wait_conditions.mark.Marked.{Marked}
use Rattle.sc_lockpass.specs.declared.wait_conditions.session.Release.TheVariants as release_at
use Rattle.sc_model.specs.Answers.{finish}
use Rattle.sc_model.specs.Environments.{scope_of}
use Rattle.sc_model.specs.Failures.{fail, request_of, requests_at, to_list}
use Rattle.sc_model.specs.Handlers.{Called, Frame, Handler, Origin, Refused, Request, Requested, Reserves, World, frame_at, point_of, put, with_stack}
use Rattle.sc_model.specs.Moves.{moves}
use Rattle.sc_model.specs.Objects.{object_numbered}
use Rattle.sc_model.specs.Preconditions.{correctness_fails, counted_refusal, false_clause, is_creation, object_meets, refuses, verdict_on, waits_again}
use Rattle.sc_model.specs.Sessions.{release}
use Rattle.sc_model.specs.Steps as act
use Rattle.sc_model.specs.Steps.{Act, Does, Point}
use Rattle.sc_model.specs.Tasks.{tasks_of}
use Rattle.sc_model.specs.Turns.{effect}
use Rattle.sc_model.specs.Values.{Operand}
use Rattle.sc_model.specs.declared.cause.Cause.TheVariants as cause
use Rattle.sc_machine_laws.specs.states.Fitting.{FrameFits, Linked, RequestFits, ValueIsThere, WorldFits, alone, called}
use Rattle.sc_machine_laws.specs.states.Points as point
use Rattle.sc_machine_laws.specs.states.Points.{Each, PointFits, listed, types_of}
use Rattle.sc_machine_laws.specs.states.ValueSteps.{ActFits, StepFits}
use Rattle.sc_machine_laws.specs.states.Typed.{IsAtEntry, IsTyped, at}
use Rattle.sc_machine_laws.specs.states.Values.{ActsKeepIt, is_refusal}
use Rattle.sc_machine_laws.proofs.states.RequestEnds.{refusal_ends}
use Rattle.sc_machine_laws.proofs.states.Remains.{releases_keep_it}
use Rattle.sc_machine_laws.proofs.states.Entry.{begins_typed}
use Rattle.sc_machine_laws.proofs.states.Frames.{running_frames_move}
use Rattle.sc_machine_laws.proofs.states.Lists.{each_append, each_before, each_behind, not_true}
use Rattle.sc_machine_laws.proofs.states.Settled.{Settled, relinked, replaced, requests_as, settled_fails, settled_stack}
use Rattle.sc_machine_laws.proofs.states.MovedHandlers.{settled_after}

-- the frames below are linked
pub linked_below : (s : System) (h : ℕ) (f : Frame) (below : List Frame) → Linked s h (f ∷ below) → Linked s h below
linked_below s h f below (alone e y z) = z
linked_below s h f _ (called o e y z) = z

-- the requests that stay when the topmost frame goes
pub requests_below : (P : Request → Type 0) (x : Handler) (f : Frame) (below : List Frame) → x.stack ≡ f ∷ below → Each P (requests_at x) → Each P (requests_at (record x { stack = below }))
requests_below P x f below is e = each_append P (x.queue ++ to_list x.callback) (flat_map (λ (f : Frame). request_of f.origin) below)
    (each_before P (x.queue ++ to_list x.callback) (flat_map (λ (f : Frame). request_of f.origin) x.stack) e)
    (each_behind P (request_of f.origin) (flat_map (λ (f : Frame). request_of f.origin) below)
    (subst (λ fs. Each P (flat_map (λ (f : Frame). request_of f.origin) fs)) is (each_behind P (x.queue ++ to_list x.callback) (flat_map (λ (f : Frame). request_of f.origin) x.stack) e)))

module _ (s : System) (root : Root) (pure : RoutineName → Bool) (faultless : IsFaultless s root) (well : WellFormed s) (tells : IsPurity s pure)
    (w : World) (h : ℕ) (f : Frame) (below : List Frame) (z : Settled s pure w h [] f below) where
  -- The entry begins anew.
  again_fits : IsAtEntry s f.routine f.text (scope_of f.environment) (types_of f.olds) → (mark : List Marked) →
      FrameFits s pure w h (record f { stage = Reserves; tasks = tasks_of f.routine; values = []; reserved = []; mark = mark })
  again_fits (of_contract, formals, no_olds) mark = record {
    is_own = z.top_fits.is_own;
    is_there = z.top_fits.is_there;
    is_version = z.top_fits.is_version;
    point_fits = record {
      text_is = z.top_fits.point_fits.text_is;
      known = at f.text (scope_of f.environment) (types_of f.olds) [];
      agrees = point.here;
      is_typed = subst (λ t. IsTyped s pure f.routine (tasks_of f.routine) (at t (scope_of f.environment) (types_of f.olds) [])) (sym of_contract)
          (subst (λ n. IsTyped s pure f.routine (tasks_of f.routine) (at f.routine.contract n (types_of f.olds) [])) (sym formals)
          (subst (λ os. IsTyped s pure f.routine (tasks_of f.routine) (at f.routine.contract (formals_known s f.routine.text.formals) os [])) (sym no_olds)
          (begins_typed s root pure faultless well tells f.routine f.current z.top_fits.is_version)));
      scope_stands = z.top_fits.point_fits.scope_stands;
      names_fit = z.top_fits.point_fits.names_fit;
      result_fits = z.top_fits.point_fits.result_fits;
      olds_fit = z.top_fits.point_fits.olds_fit;
      values_fit = tt;
    };
    names_are_there = z.top_fits.names_are_there;
    values_are_there = each_append (λ (u : Operand). ValueIsThere w u.value) f.olds (listed f.result)
        (each_behind (λ (u : Operand). ValueIsThere w u.value) f.values f.olds (each_before (λ (u : Operand). ValueIsThere w u.value) (f.values ++ f.olds) (listed f.result) z.top_fits.values_are_there))
        (each_behind (λ (u : Operand). ValueIsThere w u.value) (f.values ++ f.olds) (listed f.result) z.top_fits.values_are_there);
  }

  waits_fit : IsAtEntry s f.routine f.text (scope_of f.environment) (types_of f.olds) → WorldFits s pure (waits_again h f below w)
  waits_fit entry = again (mark_of (λ k. (w.handlers k).sessions) f.reserved)
    where
      again : (mark : List Marked) → WorldFits s pure (release release_at.FalseWaitCondition f.reserved
          (with_stack h (record f { stage = Reserves; tasks = tasks_of f.routine; values = []; reserved = []; mark = mark } ∷ below) w))
      again mark = releases_keep_it s pure (with_stack h (record f { stage = Reserves; tasks = tasks_of f.routine; values = []; reserved = []; mark = mark } ∷ below) w) release_at.FalseWaitCondition f.reserved
          (settled_stack s pure w h [] f below z (record f { stage = Reserves; tasks = tasks_of f.routine; values = []; reserved = []; mark = mark } ∷ below) (again_fits entry mark, z.below_fit)
          (relinked s h f (record f { stage = Reserves; tasks = tasks_of f.routine; values = []; reserved = []; mark = mark }) below refl refl z.are_linked)
          (subst (Each (RequestFits s w h)) (sym (requests_as (w.handlers h) f (record f { stage = Reserves; tasks = tasks_of f.routine; values = []; reserved = []; mark = mark }) below refl z.stack_is)) z.requests_fit))

  -- Its request is refused, or its handler fails.
  refuses_fit : (r : Request) → WorldFits s pure (refuses s h r f below w)
  refuses_fit r = by (is_creation r.errand && not (object_meets s (object_numbered f.current.number (w.handlers h).objects)))
    where
      gone : (b : Bool) → WorldFits s pure (put h (counted_refusal b (record (w.handlers h) { stack = below })) w)
      gone true = replaced s pure w h (record (w.handlers h) { stack = below }) (record { objects = refl; queue = λ i. refl }) z.others_fit z.objects_fit z.below_fit (linked_below s h f below z.are_linked)
          (requests_below (RequestFits s w h) (w.handlers h) f below z.stack_is z.requests_fit) (λ v e. absurd (z.has_no_reply v e))
      gone false = replaced s pure w h (counted_refusal false (record (w.handlers h) { stack = below })) (record { objects = refl; queue = λ i. refl }) z.others_fit z.objects_fit z.below_fit
          (linked_below s h f below z.are_linked) (requests_below (RequestFits s w h) (w.handlers h) f below z.stack_is z.requests_fit) (λ v e. absurd (z.has_no_reply v e))

      by : (b : Bool) → WorldFits s pure (if b then fail h cause.Invariant w
          else finish r Refused (release release_at.Refusal f.reserved (put h (counted_refusal r.is_waited (record (w.handlers h) { stack = below })) w)))
      by true = settled_fails s pure w h [] f below z cause.Invariant []
      by false = refusal_ends s pure (release release_at.Refusal f.reserved (put h (counted_refusal r.is_waited (record (w.handlers h) { stack = below })) w)) r
          (releases_keep_it s pure (put h (counted_refusal r.is_waited (record (w.handlers h) { stack = below })) w) release_at.Refusal f.reserved (gone r.is_waited))

  pub false_clause_fits : IsAtEntry s f.routine f.text (scope_of f.environment) (types_of f.olds) → (v : EntryVerdict) → WorldFits s pure (false_clause v s h f below w)
  false_clause_fits entry verdict.Wait = waits_fit entry
  false_clause_fits entry verdict.Start = settled_fails s pure w h [] f below z cause.BadCode []
  false_clause_fits entry verdict.Refuse = of_origin f.origin
    where
      of_origin : (o : Origin) → WorldFits s pure (correctness_fails s h o f below w)
      of_origin (Called c) = settled_fails s pure w h [] f below z cause.Precondition []
      of_origin (Requested r) = refuses_fit r

pub refusals_keep_it : ActsKeepIt is_refusal
refusals_keep_it s root pure faultless well tells most w fits h l f below is runs a p move such =
    by a move such (subst (StepFits s pure f.routine f.current) move (running_frames_move s root pure faultless well tells w fits h l f below is runs))
  where
    by : (a : Act) → moves s f.current (point_of f (w.handlers h).objects) ≡ Does a p → is_refusal a ≡ true → ActFits s pure f.routine f.current a p →
        WorldFits s pure (effect most s h a (frame_at f p) below (put h (record (w.handlers h) { objects = p.objects; stack = frame_at f p ∷ below }) w))
    by (act.Refuses k) m such (entry, stands) =
        false_clause_fits s root pure faultless well tells (put h (record (w.handlers h) { objects = p.objects; stack = frame_at f p ∷ below }) w) h (frame_at f p) below
        (settled_after s pure w h f below fits l is (act.Refuses k) p m runs [] stands) entry (verdict_on (frame_at f p) k)
    by (act.Enters c o x us t) m such g = absurd (not_true such)
    by (act.Prints text) m such g = absurd (not_true such)
    by act.Until m such g = absurd (not_true such)
    by act.Creates m such g = absurd (not_true such)
    by act.Starts m such g = absurd (not_true such)
    by act.Opens m such g = absurd (not_true such)
    by act.Leaves m such g = absurd (not_true such)
    by (act.Fails why) m such g = absurd (not_true such)
    by (act.CreatesHandler k x us t b) m such g = absurd (not_true such)
    by (act.Requests o x us t b) m such g = absurd (not_true such)
    by act.Exits m such g = absurd (not_true such)
