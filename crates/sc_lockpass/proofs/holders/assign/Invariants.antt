use Rattle.std.proofs.Common.{◌≡◌, ℕ, take, if◌then◌else◌}
use Rattle.sc_lockpass.specs.Rights.{is_among}
use Rattle.sc_lockpass.specs.Tables.{holder_at}
use Rattle.sc_lockpass.proofs.holders.assign.Given as goal

abbrev pub invariant-loop-handler : goal.invariant-loop-handler
invariant-loop-handler l =
    (j : ℕ) → holder_at l.holders j ≡ (if is_among j (take l.handler-index l.handlers) then l.holder else holder_at l.initial.holders j)
