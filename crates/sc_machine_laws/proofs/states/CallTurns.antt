-- A turn in which a routine calls one of its own handler keeps each value fitting.
use Rattle.std.specs.Option.{option_and_then, option_map}
use Rattle.std.proofs.Common.{Bool, List, None, Option, Some, [], refl, subst, sym, true, ℕ, ◌∙◌, ◌∷◌, ◌≡◌}
use Rattle.sc_tree.specs.Plain.{DeclaredType, FeatureKind, System}
use Rattle.sc_class.specs.ClassNames.{Root}
use Rattle.sc_class.specs.Faults.ClassRules.{IsFaultless}
use Rattle.sc_rules.specs.declared.entity_types.entity_type.EntityType.{EntityType}
use Rattle.sc_rules.specs.Names.{RoutineName}
use Rattle.sc_rules.specs.Purity.{IsPurity}
use Rattle.sc_rules.specs.SystemRules.{WellFormed}
use Rattle.sc_rules.specs.Types.{declared_type}
use Rattle.sc_model.specs.Entries.{enters}
use Rattle.sc_model.specs.Environments.{Binding, handler_named}
use Rattle.sc_model.specs.Failures.{requests_at}
use Rattle.sc_model.specs.Handlers.{Called, Frame, InCall, World, frame_at, point_of, put}
use Rattle.sc_model.specs.Moves.{moves}
use Rattle.sc_model.specs.Routines.{routine_named, routine_of}
use Rattle.sc_model.specs.Steps as act
use Rattle.sc_model.specs.Steps.{Act, Calling, Does, Point}
use Rattle.sc_model.specs.Turns.{effect}
use Rattle.sc_model.specs.Values.{Operand, Reference, values_of}
use Rattle.sc_machine_laws.specs.states.Fitting.{FrameFits, Gives, RequestFits, ValueIsThere, WorldFits, called}
use Rattle.sc_machine_laws.specs.states.Places.{is_routine}
use Rattle.sc_machine_laws.specs.states.Points.{Each, IsAmong, listed}
use Rattle.sc_machine_laws.specs.states.ValueSteps.{ActFits, EntryFits, GivesFit, KindFits, OperandsDo, StepFits, a_routine, an_attribute}
use Rattle.sc_machine_laws.specs.states.Values.{ActsKeepIt, is_entry}
use Rattle.sc_machine_laws.proofs.states.Changes.{put_at}
use Rattle.sc_machine_laws.proofs.states.EnteredStacks.{feature_entered}
use Rattle.sc_machine_laws.proofs.states.Frames.{running_frames_move}
use Rattle.sc_machine_laws.proofs.states.Settled.{Settled, relinked, requests_as, staged}
use Rattle.sc_machine_laws.proofs.states.Lists.{not_true}
use Rattle.sc_machine_laws.proofs.states.MovedHandlers.{led, settled_after}

-- what is given fits what the caller waits for
pub gives_led : (s : System) (h k : ℕ) (cs : List Binding) (d : Option DeclaredType) (t : Option EntityType) → GivesFit s k (handler_named cs) h d t → Gives s h (option_map (declared_type s []) d) k cs t
gives_led s h k cs None None f = tt
gives_led s h k cs None (Some t) f = absurd f
gives_led s h k cs (Some d) None f = absurd f
gives_led s h k cs (Some d) (Some t) (g, e, i, j) = subst (λ o. Gives s h (Some o) k cs (Some t)) (sym e) j

-- values of operands that lead to what is there do
pub values_led_of : (w : World) (us : List Operand) → OperandsDo (ValueIsThere w) us → Each (ValueIsThere w) (values_of us)
values_led_of w [] e = tt
values_led_of w (u ∷ us) e = (e.0, values_led_of w us e.1)

module _ (s : System) (root : Root) (pure : RoutineName → Bool) (faultless : IsFaultless s root) (well : WellFormed s) (tells : IsPurity s pure)
    (w : World) (h : ℕ) (gives : Option EntityType) (f : Frame) (below : List Frame) (z : Settled s pure w h (listed gives) f below) where
  -- the caller
  abbrev caller : Frame
  caller = record f { stage = InCall gives }

  under_fit : Each (FrameFits s pure w h) (record f { stage = InCall gives } ∷ below)
  under_fit = (staged s pure w h (listed gives) f z.top_fits (InCall gives) f.reserved f.blocks f.mark refl, z.below_fit)

  -- A routine of the object is entered.
  pub enters_fit : (c : Calling) (o : Reference) (x : List ℕ) (us : List Operand) → o.handler ≡ h → IsAmong (w.handlers h).objects o → OperandsDo (ValueIsThere w) us →
      EntryFits s h (handler_named f.environment) o x us gives →
      WorldFits s pure (enters s h o (routine_named s o.class x) (Called c) (record f { stage = InCall gives } ∷ below) [] (values_of us) w)
  enters_fit c o x us own among there (call, is_one) =
      subst (λ y. WorldFits s pure (enters s h o (option_and_then (routine_of s) y) (Called c) (record f { stage = InCall gives } ∷ below) [] (values_of us) w)) (sym call.is_version)
      (by call.version.feature.kind refl call.fits is_one)
    where
      requests : Each (RequestFits s w h) (requests_at (record (w.handlers h) { stack = record f { stage = InCall gives } ∷ below }))
      requests = subst (Each (RequestFits s w h)) (sym (requests_as (w.handlers h) f (record f { stage = InCall gives }) below refl z.stack_is)) z.requests_fit

      by : (kind : FeatureKind) → call.version.feature.kind ≡ kind → KindFits s h (handler_named f.environment) o.handler us gives kind → is_routine kind ≡ true →
          WorldFits s pure (enters s h o (routine_of s call.version) (Called c) (record f { stage = InCall gives } ∷ below) [] (values_of us) w)
      by _ e (an_attribute i j) r = cc
      by _ e (a_routine {version} actuals given) r =
          feature_entered s root pure faultless well tells w h o own among z.others_fit z.objects_fit z.has_no_reply (Called c) (record f { stage = InCall gives } ∷ below) under_fit requests [] (values_of us)
          (values_led_of w us there) x call.version version call.is_version e actuals
          (λ r bs i. called {g = record f { stage = InCall gives }} {below = below} {c = c} {t = gives} refl refl
          (subst (λ t. Gives s h t h f.environment gives) (sym i) (gives_led s h h f.environment version.result_type gives (subst (λ k. GivesFit s h (handler_named f.environment) k version.result_type gives) own given)))
          (relinked s h f (record f { stage = InCall gives }) below refl refl z.are_linked))
          (routine_of s call.version) refl

pub entries_keep_it : ActsKeepIt is_entry
entries_keep_it s root pure faultless well tells most w fits h l f below is runs a p move such =
    by a move such (subst (StepFits s pure f.routine f.current) move (running_frames_move s root pure faultless well tells w fits h l f below is runs))
  where
    own : f.current.handler ≡ h
    own = (subst (Each (FrameFits s pure w h)) is (fits h l).frames_fit).0.is_own

    by : (a : Act) → moves s f.current (point_of f (w.handlers h).objects) ≡ Does a p → is_entry a ≡ true → ActFits s pure f.routine f.current a p →
        WorldFits s pure (effect most s h a (frame_at f p) below (put h (record (w.handlers h) { objects = p.objects; stack = frame_at f p ∷ below }) w))
    by (act.Enters c o x us gives) m such (i, among, call, stands) =
        enters_fit s root pure faultless well tells (put h (record (w.handlers h) { objects = p.objects; stack = frame_at f p ∷ below }) w) h gives (frame_at f p) below
        (settled_after s pure w h f below fits l is (act.Enters c o x us gives) p m runs (listed gives) stands) c o x us (i ∙ own)
        (subst (λ y. IsAmong y.objects o) (sym (put_at w h (record (w.handlers h) { objects = p.objects; stack = frame_at f p ∷ below }))) among)
        (led s pure w h f below fits l is (act.Enters c o x us gives) p m).1
        (subst (λ k. EntryFits s k (handler_named p.environment) o x us gives) own call)
    by (act.Prints text) m such g = absurd (not_true such)
    by act.Until m such g = absurd (not_true such)
    by act.Creates m such g = absurd (not_true such)
    by act.Starts m such g = absurd (not_true such)
    by act.Opens m such g = absurd (not_true such)
    by act.Leaves m such g = absurd (not_true such)
    by (act.Fails why) m such g = absurd (not_true such)
    by (act.CreatesHandler k x us t b) m such g = absurd (not_true such)
    by (act.Requests o x us t b) m such g = absurd (not_true such)
    by (act.Refuses k) m such g = absurd (not_true such)
    by act.Exits m such g = absurd (not_true such)
