-- What a call on an object of another handler makes of a store, and what it asks.
use Rattle.std.specs.Prelude.{ℕ, Bool, true, false, ◌||◌, Option, Some, None, if◌then◌else◌}
use Rattle.sc_model.specs.declared.cause.Cause.TheVariants as cause
use Rattle.sc_region.specs.declared.frame.Stage.TheVariants as stage
use Rattle.sc_region.specs.declared.job.Errand.TheVariants as errand
use Rattle.sc_region.specs.declared.job.Request.{Request}
use Rattle.sc_region.specs.declared.job.Want.{Want}
use Rattle.sc_region.specs.declared.job.Want.TheVariants as want
use Rattle.sc_region.specs.declared.value.Reference.{Reference}
use Rattle.sc_region.specs.Frames.{PlainActivation, top_activation}
use Rattle.sc_region.specs.Stores.{PlainStore, failed}
use Rattle.sc_acts.specs.Creating.{without_last}
use Rattle.sc_region.specs.Calls.{last_values, on_top, past}
use Rattle.sc_acts.specs.declared.act.RemoteCall.{RemoteCall}
use Rattle.sc_acts.specs.Operands.{has_call}

-- a call of the feature of this name, with this number of actuals, that has a value or passes locks, if it does
abbrev pub call_of : Reference → ℕ → ℕ → Bool → Bool → RemoteCall
call_of r name n gives passes = record { object = r; name = name; count = n; gives = gives; passes = passes }

-- A query is waited for, and a call that passes locks.
abbrev pub is_waited : RemoteCall → Bool
is_waited c = c.passes || c.gives

-- The routine waits for the answer of this supplier, if it does.
abbrev pub awaiting_if : Bool → ℕ → Bool → Bool → PlainActivation → PlainActivation
awaiting_if false k gives is_creation a = a
awaiting_if true k gives is_creation a = record a { stage = stage.Awaits k gives is_creation }

-- ---- the request

abbrev pub request_by : ℕ → RemoteCall → PlainActivation → Request
request_by h c a = record {
  poster = Some h;
  target = c.object;
  errand = errand.Calls c.name;
  actuals = record { items = last_values c.count a.operands.values };
  is_waited = is_waited c;
}

-- the request of this handler that the call is, where its operands are there
abbrev pub request_of : ℕ → RemoteCall → PlainActivation → Option Request
request_of h c a = if has_call c.count a then Some (request_by h c a) else None

-- the request of the topmost routine
abbrev pub request_in : ℕ → RemoteCall → Option PlainActivation → Option Request
request_in h c None = None
request_in h c (Some a) = request_of h c a

-- ---- what it makes of the store

-- The actuals are gone, and the target.
abbrev pub sending : RemoteCall → PlainActivation → PlainActivation
sending c a = awaiting_if (is_waited c) c.object.handler c.gives false (without_last (past c.count a))

abbrev pub sent : Option Request → RemoteCall → PlainStore → PlainStore
sent None c x = failed cause.BadCode x
sent (Some r) c x = on_top (sending c) x

abbrev pub requested : ℕ → RemoteCall → PlainStore → PlainStore
requested h c x = sent (request_in h c (top_activation x.frames)) c x

-- ---- what it asks

abbrev pub asks_sent : Request → Bool → Want
asks_sent r passes = if r.is_waited then want.Ask r passes else want.Post r

abbrev pub asks_sending : Option Request → Bool → Want
asks_sending None passes = want.Fail cause.BadCode
asks_sending (Some r) passes = asks_sent r passes

abbrev pub asks_requesting : ℕ → RemoteCall → Option PlainActivation → Want
asks_requesting h c o = asks_sending (request_in h c o) c.passes
