use Rattle.std.proofs.Common.{◌≡◌, ◌<◌, ℕ, None, IfSome}
use Rattle.sc_states.specs.RowViews.{rows_of}
use Rattle.sc_search.specs.Waiting.{IsLed, IsLeft}
use Rattle.sc_search.proofs.waiting.first_waiting.Given as goal

-- of the handlers before, one is left in the state, or none is
abbrev pub invariant-loop-handler : goal.invariant-loop-handler
invariant-loop-handler l = record {
  some : IfSome l.first (λ number. (h : ℕ) × IsLeft l.edges (rows_of l.statuses) h number);
  none : l.first ≡ None → (h number : ℕ) → h < l.handler → IsLed l.edges (rows_of l.statuses) h number;
}
