-- What the end of a separate block makes of a store, and what it asks.
use Rattle.std.specs.Prelude.{ℕ, ◌-◌, List, Option, Some, None, length, slice_get, take}
use Rattle.sc_model.specs.declared.cause.Cause.TheVariants as cause
use Rattle.sc_region.specs.declared.job.Want.{Want}
use Rattle.sc_region.specs.declared.job.Want.TheVariants as want
use Rattle.sc_region.specs.Frames.{PlainActivation, top_activation}
use Rattle.sc_region.specs.Stores.{PlainStore, failed}
use Rattle.sc_region.specs.Calls.{on_top, past}

-- what the innermost of the open blocks newly reserved, if there is one
abbrev pub innermost : List (List ℕ) → Option (List ℕ)
innermost blocks = slice_get blocks (length blocks - 1)

-- the innermost block of the topmost routine
abbrev pub innermost_in : Option PlainActivation → Option (List ℕ)
innermost_in None = None
innermost_in (Some a) = innermost a.blocks

-- the innermost block is open no more
abbrev pub closing : PlainActivation → PlainActivation
closing a = record (past 0 a) { blocks = take (length a.blocks - 1) a.blocks }

abbrev pub left_with : Option (List ℕ) → PlainStore → PlainStore
left_with None x = failed cause.BadCode x
left_with (Some ks) x = on_top closing x

-- The innermost block ends.
abbrev pub block_left : PlainStore → PlainStore
block_left x = left_with (innermost_in (top_activation x.frames)) x

abbrev pub asks_left : Option (List ℕ) → Want
asks_left None = want.Fail cause.BadCode
asks_left (Some ks) = want.Release (record { items = ks })

abbrev pub asks_leaving : Option PlainActivation → Want
asks_leaving o = asks_left (innermost_in o)
