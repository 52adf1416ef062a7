use Rattle.std.proofs.Common.{◌≡◌, ◌++◌, Bor, ℕ, map}
use Rattle.sc_states.proofs.states.push_reversed.Given as goal

abbrev pub invariant-loop-handler : goal.invariant-loop-handler
invariant-loop-handler l = l.turns.items ≡ l.fn.turns.items ++ map (λ (handler : Bor ℕ). handler.now) l.yielded
