-- What the beginning of a separate block makes of a store, and what it asks.
use Rattle.std.specs.Prelude.{ℕ, suc, ◌+◌, ◌&&◌, not, Bool, List, [], ◌∷◌, Option, Some, None, length, nat_lt, slice_set, if◌then◌else◌}
use Rattle.std.specs.List.{filter_map}
use Rattle.sc_model.specs.declared.cause.Cause.TheVariants as cause
use Rattle.sc_region.specs.declared.frame.Stage.TheVariants as stage
use Rattle.sc_region.specs.declared.job.Want.{Want}
use Rattle.sc_region.specs.declared.job.Want.TheVariants as want
use Rattle.sc_region.specs.declared.value.Value.{Value}
use Rattle.sc_region.specs.Frames.{PlainActivation, top_activation}
use Rattle.sc_region.specs.Stores.{PlainStore, failed}
use Rattle.sc_region.specs.Calls.{last_values, on_top, past}
use Rattle.sc_acts.specs.Entering.{handler_of}
use Rattle.sc_acts.specs.Operands.{has_actuals}

-- ---- the heads of a block

-- There are this number of operands, and of slots from this one on.
abbrev pub may_open : ℕ → ℕ → PlainActivation → Bool
may_open first n a = has_actuals n a && not (nat_lt (length a.slots) (first + n))

-- the values of the heads, the last operands, if there are as many
abbrev pub heads_of : ℕ → ℕ → PlainActivation → Option (List Value)
heads_of first n a = if may_open first n a then Some (last_values n a.operands.values) else None

-- the values of the heads of the topmost routine's block
abbrev pub heads_in : ℕ → ℕ → Option PlainActivation → Option (List Value)
heads_in first n None = None
heads_in first n (Some a) = heads_of first n a

-- ---- a block begins

-- the values go into the slots, from this one on
abbrev pub written : ℕ → List Value → List Value → List Value
written k [] slots = slots
written k (v ∷ vs) slots = written (suc k) vs (slice_set slots k v)

-- The heads go into slots, and the reserve step comes next.
abbrev pub opening : ℕ → List Value → PlainActivation → PlainActivation
opening first us a = record (past (length us) a) { slots = written first us a.slots; stage = stage.ReservesBlock }

abbrev pub opened_with : ℕ → Option (List Value) → PlainStore → PlainStore
opened_with first None x = failed cause.BadCode x
opened_with first (Some us) x = on_top (opening first us) x

-- A block begins: its heads are the last `n` operands and go into the slots from this one on.
abbrev pub opened : ℕ → ℕ → PlainStore → PlainStore
opened first n x = opened_with first (heads_in first n (top_activation x.frames)) x

-- the handlers of these values
abbrev pub handlers_of : List Value → List ℕ
handlers_of vs = filter_map (λ v. handler_of (Some v)) vs

abbrev pub asks_opened : Option (List Value) → Want
asks_opened None = want.Fail cause.BadCode
asks_opened (Some us) = want.Reserve (record { items = handlers_of us })

abbrev pub asks_opening : ℕ → ℕ → Option PlainActivation → Want
asks_opening first n o = asks_opened (heads_in first n o)
