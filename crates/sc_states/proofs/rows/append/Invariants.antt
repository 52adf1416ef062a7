use Rattle.std.proofs.Common.{◌≡◌, ◌++◌, take, vec_capacity}
use Rattle.sc_states.proofs.rows.append.Given as goal

abbrev pub invariant-loop-value : goal.invariant-loop-value
invariant-loop-value g l = record {
  items : l.flat.items ≡ l.fn.flat.items ++ take l.value-index l.row;
  capacity : vec_capacity l.flat ≡ vec_capacity l.fn.flat;
}
