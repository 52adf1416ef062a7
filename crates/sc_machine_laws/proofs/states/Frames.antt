-- What a frame of a fitting world does in a turn where it runs.
use Rattle.std.specs.Prelude.{◌==◌, if◌then◌else◌, slice_get}
use Rattle.std.proofs.Common.{◌++◌, ◌-◌, Bool, List, None, Some, [], false, subst, sym, true, ℕ, ◌∷◌, ◌≡◌}
use Rattle.sc_tree.specs.Plain.{System}
use Rattle.sc_rules.specs.Names.{RoutineName}
use Rattle.sc_model.specs.Environments.{Binding}
use Rattle.sc_model.specs.Handlers.{Frame, World, point_of}
use Rattle.sc_model.specs.Objects.{Object, object_numbered}
use Rattle.sc_model.specs.Values.{Operand, Reference, Value}
use Rattle.sc_machine_laws.specs.states.Fitting.{FrameFits, IsThere, ObjectFits, ValueIsThere, coming_to, is_due, is_made}
use Rattle.sc_machine_laws.specs.states.Points.{AttributesFit, Each, IsAmong, PointFits, StoreFits, listed}
use Rattle.sc_machine_laws.specs.states.ValueSteps.{BindingsDo, IsThereIfOwn, OperandsDo, ValuesDo, StepFits}
use Rattle.sc_machine_laws.specs.states.Values.{NoMoveIsExcluded, RunningFramesMove}
use Rattle.sc_machine_laws.proofs.states.Lists.{each_before, each_behind, each_more}
use Rattle.sc_machine_laws.proofs.states.Moves.{moves_fit}

module _ (s : System) (pure : RoutineName → Bool) (w : World) (h : ℕ) where
  -- an object of the handler of a frame is there, since Current is
  pub among : (me : Reference) → IsAmong (w.handlers h).objects me → (o : Reference) → IsThere w o → o.handler ≡ h → IsAmong (w.handlers h).objects o
  among me z o (is_made {o = x} l i c) e = record { object = x; is_there = subst (λ k. object_numbered o.number (w.handlers k).objects ≡ Some x) e i; of_class = c }
  among me z o (is_due l i j k m n) e = absurd (nothing_there z (subst (λ k. (w.handlers k).objects ≡ []) e i))
    where
      nothing_there : IsAmong (w.handlers h).objects me → (w.handlers h).objects ≡ [] → ⊥
      nothing_there z i = by (me.number == 0) (subst (λ os. object_numbered me.number os ≡ Some z.object) i z.is_there)
        where
          by : (b : Bool) → (if b then None else slice_get [] (me.number - 1)) ≡ Some z.object → ⊥
          by true e = cc
          by false e = cc

  pub value_among : (me : Reference) → IsAmong (w.handlers h).objects me → (v : Value) → ValueIsThere w v → IsThereIfOwn h (w.handlers h).objects v
  value_among me z v f o e i = among me z o (f o e) i

  module _ (f : Frame) (fits : FrameFits s pure w h f) (objects_fit : Each (ObjectFits s w h) (w.handlers h).objects) where
    attributes_fit : (objects : List Object) → Each (ObjectFits s w h) objects → Each (AttributesFit s h) objects
    attributes_fit [] e = tt
    attributes_fit (o ∷ objects) e = (e.0.attributes_fit, attributes_fit objects e.1)

    attributes_there : (objects : List Object) → Each (ObjectFits s w h) objects → Each (λ (o : Object). BindingsDo (IsThereIfOwn h (w.handlers h).objects) o.attributes) objects
    attributes_there [] e = tt
    attributes_there (o ∷ objects) e = (
      each_more (λ (b : Binding). ValueIsThere w b.value) (λ (b : Binding). IsThereIfOwn h (w.handlers h).objects b.value) (λ b. value_among f.current fits.is_there b.value) o.attributes e.0.are_there,
      attributes_there objects e.1,
    )

    pub store_fits : StoreFits s f.current (w.handlers h).objects
    store_fits = record {
      fit = subst (λ k. Each (AttributesFit s k) (w.handlers h).objects) (sym fits.is_own) (attributes_fit (w.handlers h).objects objects_fit);
      current = fits.is_there;
    }

    operands_there : (us : List Operand) → Each (λ (u : Operand). ValueIsThere w u.value) us → OperandsDo (IsThereIfOwn h (w.handlers h).objects) us
    operands_there us e = each_more (λ (u : Operand). ValueIsThere w u.value) (λ (u : Operand). IsThereIfOwn h (w.handlers h).objects u.value) (λ u. value_among f.current fits.is_there u.value) us e

    pub values_there : ValuesDo (IsThereIfOwn h (w.handlers h).objects) (point_of f (w.handlers h).objects)
    values_there =
        let behind = each_before (λ (u : Operand). ValueIsThere w u.value) (f.values ++ f.olds) (listed f.result) fits.values_are_there in
        record {
          objects_do = attributes_there (w.handlers h).objects objects_fit;
          names_do = each_more (λ (b : Binding). ValueIsThere w b.value) (λ (b : Binding). IsThereIfOwn h (w.handlers h).objects b.value) (λ b. value_among f.current fits.is_there b.value) f.environment fits.names_are_there;
          result_does = operands_there (listed f.result) (each_behind (λ (u : Operand). ValueIsThere w u.value) (f.values ++ f.olds) (listed f.result) fits.values_are_there);
          olds_do = operands_there f.olds (each_behind (λ (u : Operand). ValueIsThere w u.value) f.values f.olds behind);
          values_do = operands_there f.values (each_before (λ (u : Operand). ValueIsThere w u.value) f.values f.olds behind);
        }

pub running_frames_move : RunningFramesMove
running_frames_move s root pure faultless well tells w fits h l f below i r =
    moves_fit s root pure faultless well tells f.routine f.current frame.is_version (point_of f (w.handlers h).objects) (
      subst (λ k. PointFits s pure f.routine k [] (point_of f (w.handlers h).objects)) (sym frame.is_own)
          (subst (λ g. PointFits s pure f.routine h (coming_to g) (point_of f (w.handlers h).objects)) r frame.point_fits),
      store_fits s pure w h f frame (fits h l).objects_fit,
    )
    (subst (λ k. ValuesDo (IsThereIfOwn k (w.handlers h).objects) (point_of f (w.handlers h).objects)) (sym frame.is_own) (values_there s pure w h f frame (fits h l).objects_fit))
  where
    frame : FrameFits s pure w h f
    frame = (subst (Each (FrameFits s pure w h)) i (fits h l).frames_fit).0

pub no_move_is_excluded : NoMoveIsExcluded
no_move_is_excluded s root pure faultless well tells w fits h l f below i r why p e =
    (subst (StepFits s pure f.routine f.current) e (running_frames_move s root pure faultless well tells w fits h l f below i r)).0
