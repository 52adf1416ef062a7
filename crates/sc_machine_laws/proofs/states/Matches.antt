-- What a request asks for fits what its poster takes.
use Rattle.std.specs.Option.{option_and_then}
use Rattle.std.proofs.Common.{List, None, Option, Some, subst, sym, ℕ, ◌≡◌}
use Rattle.sc_tree.specs.Plain.{FeatureKind, System}
use Rattle.sc_rules.specs.declared.entity_types.entity_type.EntityType.{EntityType}
use Rattle.sc_model.specs.Environments.{Binding, handler_named}
use Rattle.sc_model.specs.Handlers.{point_of}
use Rattle.sc_model.specs.Moves.{moves}
use Rattle.sc_model.specs.Routines.{version_of}
use Rattle.sc_model.specs.Values.{Operand, Reference}
use Rattle.sc_machine_laws.specs.states.Fitting.{FrameFits, Gives}
use Rattle.sc_machine_laws.specs.states.Places.{result_if_any, result_of_kind}
use Rattle.sc_machine_laws.specs.states.Points.{Each}
use Rattle.sc_machine_laws.specs.states.ValueSteps.{CallFits, CreationFits, KindFits, StepFits, a_routine, an_attribute}
use Rattle.sc_machine_laws.specs.states.Values.{RequestsAreMatched}
use Rattle.sc_machine_laws.proofs.states.CallTurns.{gives_led}
use Rattle.sc_machine_laws.proofs.states.Frames.{running_frames_move}

module _ (s : System) (h k : ℕ) (cs : List Binding) where
  kind_gives : (us : List Operand) (gives : Option EntityType) (kind : FeatureKind) → KindFits s h (handler_named cs) k us gives kind → Gives s k (result_of_kind s kind) h cs gives
  kind_gives us gives _ (a_routine {version} f g) = gives_led s k h cs version.result_type gives g
  kind_gives us gives _ (an_attribute {d} e g) = gives_led s k h cs (Some d) gives g

-- what a call gives, by the version of its target's class
call_gives : (s : System) (h : ℕ) (cs : List Binding) (o : Reference) (x : List ℕ) (us : List Operand) (gives : Option EntityType) → CallFits s h (handler_named cs) o x us gives →
    Gives s o.handler (result_if_any s (version_of s o.class x)) h cs gives
call_gives s h cs o x us gives c =
    subst (λ f. Gives s o.handler (result_if_any s f) h cs gives) (sym c.is_version) (kind_gives s h o.handler cs us gives c.version.feature.kind c.fits)

-- a creation gives nothing
creation_gives : (s : System) (h k : ℕ) (cs : List Binding) (c : ℕ) (procedure : Option (List ℕ)) (us : List Operand) → CreationFits s h (handler_named cs) c procedure us →
    Gives s k (result_if_any s (option_and_then (version_of s c) procedure)) h cs None
creation_gives s h k cs c None us f = tt
creation_gives s h k cs c (Some x) us f = call_gives s h cs (record { handler = k; number = 1; class = c }) x us None (f k).0

pub requests_are_matched : RequestsAreMatched
requests_are_matched s root pure faultless well tells w fits h l f below is runs p = (
  λ o x us gives passes e.
      subst (λ k. Gives s o.handler (result_if_any s (version_of s o.class x)) k p.environment gives) own
      (call_gives s f.current.handler p.environment o x us gives (subst (StepFits s pure f.routine f.current) e move).0),
  λ c procedure us t passes e k.
      subst (λ j. Gives s k (result_if_any s (option_and_then (version_of s c) procedure)) j p.environment None) own
      (creation_gives s f.current.handler k p.environment c procedure us (subst (StepFits s pure f.routine f.current) e move).1),
)
  where
    own : f.current.handler ≡ h
    own = (subst (Each (FrameFits s pure w h)) is (fits h l).frames_fit).0.is_own

    move : StepFits s pure f.routine f.current (moves s f.current (point_of f (w.handlers h).objects))
    move = running_frames_move s root pure faultless well tells w fits h l f below is runs
