-- What answers, granted reservations and handlers that were made make of a store.
use Rattle.std.specs.Prelude.{ℕ, List, [], ◌∷◌, ◌++◌, Option, Some, None}
use Rattle.std.specs.Option.{option_map}
use Rattle.sc_model.specs.declared.cause.Cause.TheVariants as cause
use Rattle.sc_region.specs.declared.frame.Stage.{Stage}
use Rattle.sc_region.specs.declared.frame.Stage.TheVariants as stage
use Rattle.sc_region.specs.declared.value.Value.{Value}
use Rattle.sc_region.specs.declared.value.Value.TheVariants as value
use Rattle.sc_region.specs.Frames.{PlainActivation, top_activation}
use Rattle.sc_region.specs.Stores.{PlainStore, failed}
use Rattle.sc_acts.specs.Exiting.{handed_as}
use Rattle.sc_region.specs.Calls.{on_top}

-- the stage of the topmost routine, if there is one
abbrev pub top_stage : PlainStore → Option Stage
top_stage x = option_map (λ (a : PlainActivation). a.stage) (top_activation x.frames)

abbrev pub runs : PlainActivation → PlainActivation
runs a = record a { stage = stage.Runs }

-- ---- an answer

-- A routine that waits goes on, with the value, where it is given one. One that goes on takes the end of a callback
-- that it posted as a command.
abbrev pub replied_in : Option Stage → Option Value → PlainStore → PlainStore
replied_in (Some (stage.Awaits k gives is_creation)) v x = on_top (λ a. handed_as gives v (runs a)) x
replied_in (Some stage.Runs) v x = x
replied_in (Some stage.Reserves) v x = failed cause.BadCode x
replied_in (Some stage.ReservesBlock) v x = failed cause.BadCode x
replied_in (Some (stage.InCall gives)) v x = failed cause.BadCode x
replied_in None v x = failed cause.BadCode x

abbrev pub replied : Option Value → PlainStore → PlainStore
replied v x = replied_in (top_stage x) v x

-- ---- a reserve step

-- the entry has newly reserved these handlers
abbrev pub entry_granted : List ℕ → PlainActivation → PlainActivation
entry_granted ks a = record a { stage = stage.Runs; reserved = ks }

-- a separate block has
abbrev pub block_granted : List ℕ → PlainActivation → PlainActivation
block_granted ks a = record a { stage = stage.Runs; blocks = a.blocks ++ ks ∷ [] }

abbrev pub granted_in : Option Stage → List ℕ → PlainStore → PlainStore
granted_in (Some stage.Reserves) ks x = on_top (entry_granted ks) x
granted_in (Some stage.ReservesBlock) ks x = on_top (block_granted ks) x
granted_in (Some stage.Runs) ks x = failed cause.BadCode x
granted_in (Some (stage.InCall gives)) ks x = failed cause.BadCode x
granted_in (Some (stage.Awaits k gives is_creation)) ks x = failed cause.BadCode x
granted_in None ks x = failed cause.BadCode x

abbrev pub granted : List ℕ → PlainStore → PlainStore
granted ks x = granted_in (top_stage x) ks x

-- ---- a handler that was made

abbrev pub told_value : ℕ → Value → Value
told_value k (value.Attached r) = value.Attached (record r { handler = k })
told_value k (value.Integer z) = value.Integer z
told_value k (value.Boolean b) = value.Boolean b
told_value k value.Void = value.Void

abbrev pub told_values : ℕ → List Value → List Value
told_values k [] = []
told_values k (v ∷ vs) = told_value k v ∷ vs

-- The last operand refers to an object of this handler.
abbrev pub told_on : ℕ → PlainActivation → PlainActivation
told_on k a = record a { operands = record a.operands { values = told_values k a.operands.values } }

abbrev pub told : ℕ → PlainStore → PlainStore
told k x = on_top (told_on k) x
