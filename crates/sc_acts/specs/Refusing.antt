-- What a clause of a precondition that is false makes of a store, and what it asks.
use Rattle.std.specs.Prelude.{ℕ, Bool, true, false, List, [], Option, Some, None, slice_get, if◌then◌else◌}
use Rattle.std.specs.List.{list_any}
use Rattle.sc_lockpass.specs.Rights.{is_among}
use Rattle.sc_model.specs.declared.cause.Cause.TheVariants as cause
use Rattle.sc_region.specs.declared.frame.Origin.{Origin}
use Rattle.sc_region.specs.declared.frame.Origin.TheVariants as origin
use Rattle.sc_region.specs.declared.frame.Stage.TheVariants as stage
use Rattle.sc_region.specs.declared.job.Want.{Want}
use Rattle.sc_region.specs.declared.job.Want.TheVariants as want
use Rattle.sc_region.specs.declared.value.Reference.{Reference}
use Rattle.sc_region.specs.declared.value.Value.{Value}
use Rattle.sc_region.specs.declared.value.Value.TheVariants as value
use Rattle.sc_region.specs.Classes.{object_meets}
use Rattle.sc_region.specs.Objects.{object_numbered}
use Rattle.sc_region.specs.Frames.{PlainActivation, top_current, top_activation}
use Rattle.sc_region.specs.Stores.{PlainStore, failed, left}
use Rattle.sc_acts.specs.Tables.{formals_at}
use Rattle.sc_region.specs.Calls.{on_top}

-- ---- the verdict

-- an object of one of these handlers
abbrev pub lies_on_any : List ℕ → Option Value → Bool
lies_on_any ks (Some (value.Attached r)) = is_among r.handler ks
lies_on_any ks (Some (value.Integer z)) = false
lies_on_any ks (Some (value.Boolean b)) = false
lies_on_any ks (Some value.Void) = false
lies_on_any ks None = false

-- the formal of this slot lies on a handler that the entry newly reserved
abbrev pub is_reserved : PlainActivation → ℕ → Bool
is_reserved a slot = lies_on_any a.reserved (slice_get a.slots slot)

-- a clause that names the formals of these slots is waited for
abbrev pub is_waited_for : PlainActivation → List ℕ → Bool
is_waited_for a slots = list_any (λ slot. is_reserved a slot) slots

-- ---- what comes of it

-- the entry begins anew with its reserve step
abbrev pub waiting : PlainActivation → PlainActivation
waiting a = record a { stage = stage.Reserves; place = 0; operands = record a.operands { values = [] }; reserved = [] }

-- An own call fails, and a request is refused; if it was to create an object, that stays, so it must meet its
-- invariant.
abbrev pub refused_as : Origin → Reference → PlainStore → PlainStore
refused_as origin.Unqualified me x = failed cause.Precondition x
refused_as origin.Qualified me x = failed cause.Precondition x
refused_as origin.Creation me x = failed cause.Precondition x
refused_as origin.Requested me x = left x
refused_as origin.RequestedCreation me x =
    if object_meets x.program (object_numbered me.number x.objects) then left x else failed cause.Invariant x

abbrev pub refused_at : List ℕ → Option Reference → Option PlainActivation → PlainStore → PlainStore
refused_at slots (Some me) (Some a) x = if is_waited_for a slots then on_top waiting x else refused_as a.origin me x
refused_at slots (Some me) None x = x
refused_at slots None a x = x

-- the clause names the formals of the list of the number
abbrev pub refused : ℕ → PlainStore → PlainStore
refused k x = refused_at (formals_at x.program k) (top_current x.frames) (top_activation x.frames) x

-- what it asks, unless the routine fails
abbrev pub asks_refusing : List ℕ → Option PlainActivation → Want
asks_refusing slots None = want.Continue
asks_refusing slots (Some a) =
    if is_waited_for a slots then want.Wait (record { items = a.reserved })
    else want.Done None (record { items = a.reserved }) true
