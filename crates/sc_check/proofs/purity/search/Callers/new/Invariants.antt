use Rattle.std.proofs.Common.{◌≡◌, ℕ, [], length}
use Rattle.sc_check.specs.purity.Internal.Callers.{callers_in}
use Rattle.sc_check.proofs.purity.search.Callers.new.Given as goal

abbrev pub invariant-loop-number : goal.invariant-loop-number
invariant-loop-number l = (length l.lists.items ≡ l._number) × ((k : ℕ) → callers_in l.lists.items k ≡ [])
