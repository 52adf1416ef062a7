-- What an entry of the log tells, with what all entries have in common beside it.
use Rattle.std.specs.Prelude.{ℕ, ◌+◌, ◌<◌, ◌≤◌, List, drop, get_or, length}
use Rattle.sc_region.specs.declared.value.Value.{Value}
use Rattle.sc_handler.specs.declared.logged.Beside.{Beside}
use Rattle.sc_handler.specs.declared.logged.LogEntry.{LogEntry}
use Rattle.sc_handler.specs.declared.packed.PackedJob.TheVariants.{Go}
use Rattle.sc_handler.specs.declared.packed.PackedWant.TheVariants.{Continue}
use Rattle.sc_handler.specs.declared.packed.PackedSettlement.{PackedSettlement}
use Rattle.sc_handler.specs.declared.settlement.Settlement.{Settlement}
use Rattle.sc_handler.specs.Packed.{unpacked, values_in, values_in_job, values_in_want}

-- a packed settlement in the place of one that isn't there
abbrev pub no_settlement : PackedSettlement
no_settlement = record { handler = 0; turns = 0; job = Go; want = Continue }

-- the one of the number that it has
abbrev pub packed_in : List PackedSettlement → LogEntry → PackedSettlement
packed_in ps e = get_or ps e.packed no_settlement

-- its values lie from its place on
abbrev pub settlement_in : List PackedSettlement → List Value → LogEntry → Settlement
settlement_in ps vs e = unpacked (packed_in ps e) (drop e.first_value vs)

abbrev pub settlement_beside : Beside → LogEntry → Settlement
settlement_beside all e = settlement_in all.packed.now all.values.now e

-- What it tells is there, with so many values in all, and its job and its want have at most 16 each.
pub record IsWithin (ps : List PackedSettlement) (count : ℕ) (e : LogEntry) : Type 0 where
  pub packed : e.packed < length ps
  pub values : e.first_value + values_in (packed_in ps e) ≤ count
  pub job_values : values_in_job (packed_in ps e).job ≤ 16
  pub want_values : values_in_want (packed_in ps e).want ≤ 16
