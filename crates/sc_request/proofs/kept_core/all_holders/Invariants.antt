use Rattle.std.proofs.Common.{◌≡◌, ◌<◌, ℕ, vec_len}
use Rattle.std.specs.Prelude.{slice_get}
use Rattle.sc_lockpass.specs.Tables.{rights_of}
use Rattle.sc_request.specs.Keeping.{holders_in}
use Rattle.sc_request.proofs.kept_core.all_holders.Given as goal

abbrev pub invariant-loop-handler : goal.invariant-loop-handler
invariant-loop-handler l = record {
  count : vec_len l.holders ≡ l.handler;
  held : (k : ℕ) → k < l.handler →
      holders_in (slice_get l.holders.items k) ≡ record { queue = (rights_of l.rights).queue k; top = (rights_of l.rights).top k };
}
