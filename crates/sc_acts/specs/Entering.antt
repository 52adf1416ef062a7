-- What a call of a routine makes of a store, and what it asks.
use Rattle.std.specs.Prelude.{◌≡◌, ◌≤◌, ℕ, ◌+◌, Bool, true, false, not, ◌&&◌, List, [], ◌∷◌, Option, Some, None, length, nat_lt, take, slice_get, if◌then◌else◌}
use Rattle.std.specs.List.{filter_map}
use Rattle.sc_model.specs.declared.cause.Cause.TheVariants as cause
use Rattle.sc_code.specs.declared.program.Image.{Image}
use Rattle.sc_code.specs.declared.program.RoutineCode.{RoutineCode}
use Rattle.sc_code.specs.declared.program.FeatureCode.{FeatureCode}
use Rattle.sc_code.specs.declared.program.FeatureCode.TheVariants as version
use Rattle.sc_region.specs.declared.frame.Origin.{Origin}
use Rattle.sc_region.specs.declared.frame.Origin.TheVariants as origin
use Rattle.sc_region.specs.declared.frame.Stage.{Stage}
use Rattle.sc_region.specs.declared.job.Want.{Want}
use Rattle.sc_region.specs.declared.job.Want.TheVariants as want
use Rattle.sc_region.specs.declared.value.Reference.{Reference}
use Rattle.sc_region.specs.declared.value.Value.{Value}
use Rattle.sc_region.specs.declared.value.Value.TheVariants as value
use Rattle.sc_region.specs.Classes.{routine_at}
use Rattle.sc_region.specs.Calls.{in_call, last_values, on_top}
use Rattle.sc_region.specs.Frames.{PlainActivation, top_activation}
use Rattle.sc_region.specs.OperandList.{operands_onto}
use Rattle.sc_region.specs.Stores.{PlainStore, failed, entered}
use Rattle.sc_acts.specs.declared.act.Calling.{Calling}
use Rattle.sc_acts.specs.declared.act.Calling.TheVariants as calling
use Rattle.sc_acts.specs.Tables.{version_in}

-- ---- operands

-- There are this number of operands, and a call takes as many: a routine has at most 16 formals, and a target is
-- below the actuals.
abbrev pub has_operands : ℕ → PlainActivation → Bool
has_operands n a = nat_lt n 18 && not (nat_lt (length a.operands.values) n)

-- how many operands a call with this number of actuals takes
abbrev pub operands_of : Calling → ℕ → ℕ
operands_of calling.Unqualified n = n
operands_of calling.Qualified n = n + 1

abbrev pub origin_of : Calling → Origin
origin_of calling.Unqualified = origin.Unqualified
origin_of calling.Qualified = origin.Qualified

-- ---- the caller

-- it is again what it was before the call
abbrev pub resumed : List Value → ℕ → Stage → PlainActivation → PlainActivation
resumed us place s a =
    record a { place = place; stage = s; operands = record a.operands { values = operands_onto us a.operands.values } }

-- The routine is at this place in this stage, and these are its last `n` operands; there is room for as many as
-- there are.
pub record StandsSo (n : ℕ) (us : List Value) (place : ℕ) (s : Stage) (a : PlainActivation) : Type 0 where
  pub at_place : a.place ≡ place
  pub in_stage : a.stage ≡ s
  pub last : us ≡ last_values n a.operands.values
  pub many : n ≤ length a.operands.values
  pub room : length a.operands.values ≤ a.operands.depth

-- The topmost routine is at this place, in this stage, with these operands.
abbrev pub Calls : ℕ → List Value → ℕ → Stage → Option PlainActivation → Type 0
Calls n us place s None = ⊥
Calls n us place s (Some a) = StandsSo n us place s a

-- No topmost routine has this number of operands.
abbrev pub CallsNone : ℕ → Option PlainActivation → Type 0
CallsNone n None = Unit {0}
CallsNone n (Some a) = has_operands n a ≡ false

-- The topmost routine has this number of operands.
abbrev pub Has : ℕ → Option PlainActivation → Type 0
Has n None = ⊥
Has n (Some a) = has_operands n a ≡ true

-- It has those of such a call.
abbrev pub HasCall : Calling → ℕ → Option PlainActivation → Type 0
HasCall c n None = ⊥
HasCall c n (Some a) = nat_lt n 17 && has_operands (operands_of c n) a ≡ true

-- It doesn't have the operands of such a call.
abbrev pub CallsNot : Calling → ℕ → Option PlainActivation → Type 0
CallsNot c n None = Unit {0}
CallsNot c n (Some a) = nat_lt n 17 && has_operands (operands_of c n) a ≡ false

-- ---- the routine

abbrev pub routine_in : Option FeatureCode → Option ℕ
routine_in (Some (version.Routine n)) = Some n
routine_in (Some (version.Attribute n)) = None
routine_in None = None

-- the routine of the number is entered, if one is given
abbrev pub entered_if : Option ℕ → Reference → Origin → List Value → PlainStore → PlainStore
entered_if (Some n) me o us x = entered me n o us x
entered_if None me o us x = failed cause.BadCode x

abbrev pub called_at : Calling → Reference → ℕ → ℕ → Bool → Option PlainActivation → PlainStore → PlainStore
called_at c me name n gives None x = failed cause.BadCode x
called_at c me name n gives (Some a) x =
    if nat_lt n 17 && has_operands (operands_of c n) a
    then entered_if (routine_in (version_in x.program me.class name)) me (origin_of c) (last_values n a.operands.values)
    (on_top (in_call (operands_of c n) gives) x)
    else failed cause.BadCode x

-- The routine of the name is called on the object, with the last `n` operands as actuals.
abbrev pub called : Calling → Reference → ℕ → ℕ → Bool → PlainStore → PlainStore
called c me name n gives x = called_at c me name n gives (top_activation x.frames) x

-- ---- what is asked

abbrev pub handler_of : Option Value → Option ℕ
handler_of (Some (value.Attached r)) = Some r.handler
handler_of (Some (value.Integer z)) = None
handler_of (Some (value.Boolean b)) = None
handler_of (Some value.Void) = None
handler_of None = None

-- the handlers of the values in these slots, at most 16
abbrev pub handlers_in : List Value → List ℕ → List ℕ
handlers_in slots ks = take 16 (filter_map (λ k. handler_of (slice_get slots k)) ks)

abbrev pub asks_reserving : List ℕ → List Value → Want
asks_reserving [] slots = want.Continue
asks_reserving (k ∷ ks) slots = want.Reserve (record { items = handlers_in slots (k ∷ ks) })

abbrev pub asks_with : List Value → Option RoutineCode → Want
asks_with slots None = want.Continue
asks_with slots (Some r) = asks_reserving r.separate_formals.items slots

-- a routine that begins wants its reserve step, if it has attached separate formals
abbrev pub asks_beginning : Image → Option PlainActivation → Want
asks_beginning p None = want.Continue
asks_beginning p (Some a) = asks_with a.slots (routine_at p a.routine)
