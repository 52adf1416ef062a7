use Rattle.std.proofs.Common.{◌≡◌, ◌<◌, ℕ, slice_get}
use Rattle.sc_lockpass.specs.Tables.{rights_of}
use Rattle.sc_request.specs.Keeping.{holders_in}
use Rattle.sc_request.proofs.kept_core.KeptCore.has_same_rights.Given as goal

abbrev pub invariant-loop-handler : goal.invariant-loop-handler
invariant-loop-handler l =
    (k : ℕ) → k < l.handler →
    holders_in (slice_get l.self.holders.items k) ≡ record { queue = (rights_of l.rights).queue k; top = (rights_of l.rights).top k }
