use Rattle.std.proofs.Common.{◌≡◌, ◌<◌, ℕ, false, get_or, true}
use Rattle.sc_search.proofs.waiting.first_without.Given as goal

-- at none of those before
abbrev pub invariant-loop-number : goal.invariant-loop-number
invariant-loop-number l = (n : ℕ) → n < l.number → get_or l.waiting n false ≡ true → get_or l.moves n false ≡ true
