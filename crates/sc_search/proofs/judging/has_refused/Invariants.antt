use Rattle.std.proofs.Common.{◌≡◌, ◌<◌, ℕ}
use Rattle.sc_request.specs.Cores.{state_of}
use Rattle.sc_search.proofs.judging.has_refused.Given as goal

-- none of those before has refused one
abbrev pub invariant-loop-handler : goal.invariant-loop-handler
invariant-loop-handler l = (h : ℕ) → h < l.handler → ((state_of l.core).handlers h).refused ≡ 0
