-- What the creation of an object of the same handler does to a store.
use Rattle.std.specs.Prelude.{ℕ, Bool, true, false, ◌&&◌, List, ◌∷◌, Option, Some, None, drop, length, nat_lt, if◌then◌else◌}
use Rattle.sc_model.specs.declared.cause.Cause.TheVariants as cause
use Rattle.sc_region.specs.declared.value.Reference.{Reference}
use Rattle.sc_region.specs.declared.value.Value.{Value}
use Rattle.sc_region.specs.declared.value.Value.TheVariants as value
use Rattle.sc_region.specs.Frames.{PlainActivation, top_activation}
use Rattle.sc_region.specs.Stores.{PlainStore, failed, made, made_for}
use Rattle.sc_region.specs.Calls.{in_call, last_values, on_top, past}
use Rattle.sc_acts.specs.Entering.{has_operands, routine_in}
use Rattle.sc_acts.specs.Tables.{version_in}

-- one more operand, the reference
abbrev pub with_reference : Reference → PlainActivation → PlainActivation
with_reference r a = record a { operands = record a.operands { values = value.Attached r ∷ a.operands.values } }

-- the last operand is gone
abbrev pub without_last : PlainActivation → PlainActivation
without_last a = record a { operands = record a.operands { values = drop 1 a.operands.values } }

-- There is room for one more operand after `n` are removed.
abbrev pub has_room : ℕ → PlainActivation → Bool
has_room n a = nat_lt (length (drop n a.operands.values)) a.operands.depth

abbrev pub has_room_in : ℕ → Option PlainActivation → Bool
has_room_in n None = true
has_room_in n (Some a) = has_room n a

-- ---- without a procedure

-- `n` operands are removed, and the reference takes their place
abbrev pub given : ℕ → Reference → PlainStore → PlainStore
given n r x =
    if has_room_in n (top_activation x.frames) then on_top (with_reference r) (on_top (past n) x)
    else failed cause.BadCode x

-- An object is created of the class of the reference, which is to name it.
abbrev pub created : Reference → ℕ → PlainStore → PlainStore
created r n x = given n r (made r.class x)

-- ---- by a procedure

abbrev pub made_if : Option ℕ → Reference → List Value → PlainStore → PlainStore
made_if (Some routine) r us x = made_for r.handler r.class routine us x
made_if None r us x = failed cause.BadCode x

abbrev pub created_at : Reference → ℕ → ℕ → Option PlainActivation → PlainStore → PlainStore
created_at r name n None x = failed cause.BadCode x
created_at r name n (Some a) x =
    if has_room n a && has_operands n a
    then made_if (routine_in (version_in x.program r.class name)) r (last_values n a.operands.values)
    (on_top (with_reference r) (on_top (in_call n false) x))
    else failed cause.BadCode x

-- the object is created, and the procedure of the name is called on it, with the last `n` operands as actuals
abbrev pub created_by : Reference → ℕ → ℕ → PlainStore → PlainStore
created_by r name n x = created_at r name n (top_activation x.frames) x
