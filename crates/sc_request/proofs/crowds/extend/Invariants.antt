use Rattle.std.proofs.Common.{◌≡◌, ◌+◌, ◌-◌, ℕ, vec_len}
use Rattle.sc_lockpass.specs.Tables.{is_member}
use Rattle.sc_request.specs.Crowds.{crowd_at}
use Rattle.sc_request.proofs.crowds.extend.Given as goal

abbrev pub invariant-loop-crowds : goal.invariant-loop-crowds
invariant-loop-crowds l = (b k : ℕ) → is_member (crowd_at l.crowds.items b) k ≡ is_member (crowd_at l.initial.crowds.items b) k

abbrev pub decreases-loop-crowds : goal.decreases-loop-crowds
decreases-loop-crowds l = l.last + 1 - vec_len l.crowds
