-- The settlements that a log has, and the room in it.
use Rattle.std.specs.Prelude.{ℕ, ◌+◌, ◌*◌, ◌^◌, ◌≤◌, List, map, vec_len, vec_capacity}
use Rattle.sc_region.specs.declared.job.Job.{Job}
use Rattle.sc_region.specs.declared.job.Want.{Want}
use Rattle.sc_handler.specs.declared.logged.Log as coded
use Rattle.sc_handler.specs.declared.settlement.Settlement.{Settlement}
use Rattle.sc_handler.specs.Entries.{settlement_in}

-- what the log has of this number of turns of a handler that was out with the job, the last of which wants this
abbrev pub settlement : ℕ → Job → ℕ → Want → Settlement
settlement h j turns w = record { handler = h; job = j; turns = turns; want = w }

abbrev pub settlements_of : coded.Log → List Settlement
settlements_of l = map (settlement_in l.packed.items l.values.items) l.entries.items

-- There is room for this number of settlements, whatever they are, and a number of 32 bits for each place in it.
pub record HasPlaces (n : ℕ) (l : coded.Log) : Type 0 where
  pub entries : vec_len l.entries + n ≤ vec_capacity l.entries
  pub packed : vec_len l.packed + n ≤ vec_capacity l.packed
  pub values : vec_len l.values + 32 * n ≤ vec_capacity l.values
  pub packed_numbers : vec_len l.packed + n ≤ 2 ^ 32
  pub value_numbers : vec_len l.values + 32 * n ≤ 2 ^ 32
