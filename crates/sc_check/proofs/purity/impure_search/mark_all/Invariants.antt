use Rattle.std.proofs.Common.{ℕ, take}
use Rattle.std.specs.Prelude.{Contains}
use Rattle.sc_class.specs.Internal.Search.{IsSeen, Grows}
use Rattle.sc_check.proofs.purity.impure_search.mark_all.Given as goal

-- those so far are found
abbrev pub invariant-loop-number : goal.invariant-loop-number
invariant-loop-number l =
    Grows (Contains l.numbers) l.initial.search.impure.items l.initial.search.todo.items l.search.impure.items l.search.todo.items ×
    ((k : ℕ) → Contains (take l.number-index l.numbers) k → IsSeen l.search.impure.items k)
