use Rattle.std.proofs.Common.{◌≡◌, ℕ, None, take, if◌then◌else◌}
use Rattle.sc_lockpass.specs.Rights.{is_among}
use Rattle.sc_lockpass.specs.Tables.{rights_of}
use Rattle.sc_request.proofs.sessions.release_each.Given as goal

abbrev pub invariant-loop-handler : goal.invariant-loop-handler
invariant-loop-handler l = record {
  queue : (k : ℕ) → (rights_of l.rights).queue k ≡ (if is_among k (take l.handler-index l.handlers) then None else (rights_of l.initial.rights).queue k);
  top : (k : ℕ) → (rights_of l.rights).top k ≡ (rights_of l.initial.rights).top k;
  version : l.rights.version ≡ l.initial.rights.version;
}
