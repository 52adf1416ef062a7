use Rattle.std.proofs.Common.{◌≡◌, ◌≤◌, ◌<◌, ℕ, List, Some, length, slice_get}
use Rattle.sc_model.specs.declared.status.Status.{Status}
use Rattle.sc_states.specs.RowViews.{rows_of}
use Rattle.sc_search.proofs.waiting.most_handlers.Given as goal

-- none of those before has more
abbrev pub invariant-loop-number : goal.invariant-loop-number
invariant-loop-number l = (i : ℕ) (row : List Status) → slice_get (rows_of l.statuses) i ≡ Some row → i < l.number → length row ≤ l.most
