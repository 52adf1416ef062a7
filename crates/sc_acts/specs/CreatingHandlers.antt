-- What the creation of a handler makes of its creator's store, and what it asks.
use Rattle.std.specs.Prelude.{ℕ, ◌&&◌, Bool, true, false, Option, Some, None, if◌then◌else◌}
use Rattle.sc_model.specs.declared.cause.Cause.TheVariants as cause
use Rattle.sc_region.specs.declared.job.Want.{Want}
use Rattle.sc_region.specs.declared.job.Want.TheVariants as want
use Rattle.sc_region.specs.declared.value.Reference.{Reference}
use Rattle.sc_region.specs.Frames.{PlainActivation, top_activation}
use Rattle.sc_region.specs.Stores.{PlainStore, failed}
use Rattle.sc_acts.specs.Creating.{has_room, with_reference}
use Rattle.sc_region.specs.Calls.{last_values, on_top, past}
use Rattle.sc_acts.specs.declared.act.RemoteCreation.{RemoteCreation}
use Rattle.sc_acts.specs.Requesting.{awaiting_if}
use Rattle.sc_acts.specs.Operands.{has_actuals}

-- ---- the creation

-- of an object of the class, by this procedure, with this number of actuals
abbrev pub creation_with : ℕ → Option ℕ → ℕ → Bool → RemoteCreation
creation_with class procedure n passes = record { class = class; procedure = procedure; count = n; passes = passes }

-- The routine has the operands of the creation, and room for the reference in their place.
abbrev pub may_create : ℕ → PlainActivation → Bool
may_create n a = has_actuals n a && has_room n a

abbrev pub creation_by : RemoteCreation → PlainActivation → Want
creation_by c a =
    want.Create c.class c.procedure (record { items = last_values c.count a.operands.values }) c.passes

-- what the creation asks, where its operands are there
abbrev pub creation_of : RemoteCreation → PlainActivation → Option Want
creation_of c a = if may_create c.count a then Some (creation_by c a) else None

-- the creation that the topmost routine wants
abbrev pub creation_in : RemoteCreation → Option PlainActivation → Option Want
creation_in c None = None
creation_in c (Some a) = creation_of c a

-- ---- what it makes of the store

-- the first object of the handler that is made, which has the creator's number until the handler's own is known
abbrev pub first_object : ℕ → ℕ → Reference
first_object h class = record { handler = h; number = 1; class = class }

-- The operands are gone, and the reference comes in their place. With lock passing the creator waits.
abbrev pub creating : Reference → RemoteCreation → PlainActivation → PlainActivation
creating r c a = awaiting_if c.passes r.handler false true (with_reference r (past c.count a))

abbrev pub created_as : Option Want → Reference → RemoteCreation → PlainStore → PlainStore
created_as None r c x = failed cause.BadCode x
created_as (Some w) r c x = on_top (creating r c) x

-- A handler is created by the one of this number.
abbrev pub handler_created : ℕ → RemoteCreation → PlainStore → PlainStore
handler_created h c x = created_as (creation_in c (top_activation x.frames)) (first_object h c.class) c x

-- ---- what it asks

abbrev pub asks_created : Option Want → Want
asks_created None = want.Fail cause.BadCode
asks_created (Some w) = w

abbrev pub asks_creating : RemoteCreation → Option PlainActivation → Want
asks_creating c o = asks_created (creation_in c o)
