-- What the end of a routine makes of a store, and what it asks.
use Rattle.std.specs.Prelude.{ℕ, Bool, true, false, ◌||◌, ◌&&◌, List, [], ◌∷◌, Option, Some, None, length, nat_lt, if◌then◌else◌}
use Rattle.std.specs.Option.{option_map_or}
use Rattle.sc_model.specs.declared.cause.Cause.TheVariants as cause
use Rattle.sc_code.specs.declared.operation.DefaultValue.{DefaultValue}
use Rattle.sc_code.specs.declared.program.Image.{Image}
use Rattle.sc_code.specs.declared.program.RoutineCode.{RoutineCode}
use Rattle.sc_region.specs.declared.frame.Origin.{Origin}
use Rattle.sc_region.specs.declared.frame.Origin.TheVariants as origin
use Rattle.sc_region.specs.declared.frame.Stage.{Stage}
use Rattle.sc_region.specs.declared.frame.Stage.TheVariants as stage
use Rattle.sc_region.specs.declared.job.Want.{Want}
use Rattle.sc_region.specs.declared.job.Want.TheVariants as want
use Rattle.sc_region.specs.declared.value.Reference.{Reference}
use Rattle.sc_region.specs.declared.value.Value.{Value}
use Rattle.sc_region.specs.declared.value.Value.TheVariants as value
use Rattle.sc_region.specs.Classes.{routine_at, object_meets}
use Rattle.sc_region.specs.Objects.{object_numbered}
use Rattle.sc_region.specs.Frames.{PlainActivation, top_current, top_activation}
use Rattle.sc_region.specs.Stores.{PlainStore, failed, left}
use Rattle.sc_region.specs.Calls.{on_top}

-- ---- what is tested

abbrev pub is_void : Option Value → Bool
is_void (Some value.Void) = true
is_void (Some (value.Integer z)) = false
is_void (Some (value.Boolean b)) = false
is_void (Some (value.Attached r)) = false
is_void None = false

-- the routine is a function of an attached type
abbrev pub gives_attached : Option RoutineCode → Bool
gives_attached None = false
gives_attached (Some r) = option_map_or (λ (d : DefaultValue × Bool). d.1) r.result false

-- the Result is of an attached type, and still Void
abbrev pub is_unset : Image → PlainActivation → Bool
is_unset p a = is_void a.result && gives_attached (routine_at p a.routine)

-- an unqualified call leaves the invariant alone (ECMA-367, 8.9.16)
abbrev pub is_untested : Origin → Bool
is_untested origin.Unqualified = true
is_untested origin.Qualified = false
is_untested origin.Creation = false
is_untested origin.Requested = false
is_untested origin.RequestedCreation = false

-- ---- where the Result goes

abbrev pub handed_value : Value → PlainActivation → PlainActivation
handed_value v a =
    if nat_lt (length a.operands.values) a.operands.depth
    then record a { operands = record a.operands { values = v ∷ a.operands.values } } else a

abbrev pub handed_as : Bool → Option Value → PlainActivation → PlainActivation
handed_as true (Some v) a = handed_value v a
handed_as true None a = a
handed_as false v a = a

abbrev pub handed_at : Stage → Option Value → PlainActivation → PlainActivation
handed_at (stage.InCall gives) v a = handed_as gives v (record a { stage = stage.Runs })
handed_at stage.Runs v a = a
handed_at stage.Reserves v a = a
handed_at stage.ReservesBlock v a = a
handed_at (stage.Awaits k gives is_creation) v a = a

-- a routine that is in a call goes on, with the value, where the call gives one and there is one
abbrev pub handed : Option Value → PlainActivation → PlainActivation
handed v a = handed_at a.stage v a

-- the topmost frame goes; what called it goes on
abbrev pub returned : Origin → Option Value → PlainStore → PlainStore
returned origin.Unqualified v x = on_top (handed v) (left x)
returned origin.Qualified v x = on_top (handed v) (left x)
returned origin.Creation v x = on_top (handed v) (left x)
returned origin.Requested v x = left x
returned origin.RequestedCreation v x = left x

-- The routine ends on this object.
abbrev pub exited_at : Option Reference → Option PlainActivation → PlainStore → PlainStore
exited_at (Some me) (Some a) x =
    if is_unset x.program a then failed cause.UnsetEntity x
    else if is_untested a.origin || object_meets x.program (object_numbered me.number x.objects)
    then returned a.origin a.result x
    else failed cause.Invariant x
exited_at (Some me) None x = x
exited_at None a x = x

abbrev pub exited : PlainStore → PlainStore
exited x = exited_at (top_current x.frames) (top_activation x.frames) x

-- ---- what is asked

abbrev pub asks_releasing : List ℕ → Want
asks_releasing [] = want.Continue
asks_releasing (k ∷ ks) = want.Release (record { items = k ∷ ks })

-- what the entry newly reserved is released, and a request ends with the Result
abbrev pub asks_returning : Origin → Option Value → List ℕ → Want
asks_returning origin.Unqualified v ks = asks_releasing ks
asks_returning origin.Qualified v ks = asks_releasing ks
asks_returning origin.Creation v ks = asks_releasing ks
asks_returning origin.Requested v ks = want.Done v (record { items = ks }) false
asks_returning origin.RequestedCreation v ks = want.Done v (record { items = ks }) false

-- what the end of the routine wants, unless it fails
abbrev pub asks_exiting : Option PlainActivation → Want
asks_exiting None = want.Continue
asks_exiting (Some a) = asks_returning a.origin a.result a.reserved
