-- The exit of a routine, after its postcondition, and the end of a separate block.
use Rattle.std.specs.Prelude.{ℕ, Bool, true, false, ◌||◌, List, [], ◌∷◌, Option, Some, None, if◌then◌else◌}
use Rattle.std.specs.Option.{option_map}
use Rattle.sc_tree.specs.Plain.{System}
use Rattle.sc_rules.specs.declared.entity_types.entity_type.EntityType.{EntityType}
use Rattle.sc_lockpass.specs.declared.wait_conditions.session.Release.TheVariants as release_at
use Rattle.sc_model.specs.declared.cause.Cause.TheVariants as cause
use Rattle.sc_model.specs.Values.{Value, Void, Operand, operand}
use Rattle.sc_model.specs.Objects.{object_numbered}
use Rattle.sc_model.specs.Steps.{Unqualified, Qualified, Creation}
use Rattle.sc_model.specs.Handlers.{Reply, Origin, Called, Requested, Stage, Runs, InCall, Frame, World, with_stack}
use Rattle.sc_model.specs.Sessions.{release}
use Rattle.sc_model.specs.Answers.{finish}
use Rattle.sc_model.specs.Failures.{fail}
use Rattle.sc_model.specs.Preconditions.{object_meets}

-- ---- what is tested

-- a value of an attached type that is still Void
abbrev pub is_unset_value : Value → EntityType → Bool
is_unset_value Void t = t.attached
is_unset_value v t = false

abbrev pub is_unset : Option Operand → Bool
is_unset None = false
is_unset (Some u) = is_unset_value u.value u.type

-- an unqualified call leaves the invariant alone (ECMA-367, 8.9.16)
abbrev pub is_untested : Origin → Bool
is_untested (Called Unqualified) = true
is_untested (Called Qualified) = false
is_untested (Called Creation) = false
is_untested (Requested r) = false

-- ---- where the result goes

abbrev pub handed_as : Option EntityType → Option Value → Frame → Frame
handed_as (Some t) (Some v) f = record f { stage = Runs; values = operand v t ∷ f.values }
handed_as gives v f = record f { stage = Runs }

abbrev pub handed_at : Stage → Option Value → Frame → Frame
handed_at (InCall gives) v f = handed_as gives v f
handed_at stage v f = f

-- the frame below goes on, with the value, if there is one
abbrev pub handed : Option Value → List Frame → List Frame
handed v [] = []
handed v (f ∷ below) = handed_at f.stage v f ∷ below

-- What the entry newly reserved is released, and the result goes to the caller, or to the request's poster.
abbrev pub leaves_to : ℕ → Origin → List ℕ → Option Value → List Frame → World → World
leaves_to h (Called c) reserved v below w = release release_at.Exit reserved (with_stack h (handed v below) w)
leaves_to h (Requested r) reserved v below w =
    finish r (Reply v) (release release_at.Exit reserved (with_stack h below w))

abbrev pub exits : System → ℕ → Frame → List Frame → World → World
exits s h f below w =
    if is_unset f.result then fail h cause.UnsetEntity w
    else if is_untested f.origin || object_meets s (object_numbered f.current.number (w.handlers h).objects)
    then leaves_to h f.origin f.reserved (option_map (λ (u : Operand). u.value) f.result) below w
    else fail h cause.Invariant w

-- ---- separate blocks

-- what the block newly reserved is released
abbrev pub leaves_block : ℕ → List (List ℕ) → Frame → List Frame → World → World
leaves_block h [] f below w = fail h cause.BadCode w
leaves_block h (ks ∷ kss) f below w = release release_at.Leave ks (with_stack h (record f { blocks = kss } ∷ below) w)
