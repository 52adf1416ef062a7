use Rattle.std.proofs.Common.{◌≡◌, take}
use Rattle.sc_states.specs.RowViews.{rows_of}
use Rattle.sc_search.specs.Waiting.{column}
use Rattle.sc_search.proofs.waiting.column.Given as goal

-- those before are there
abbrev pub invariant-loop-number : goal.invariant-loop-number
invariant-loop-number l = l.states.items ≡ column l.kind l.handler (take l.number (rows_of l.statuses))
