use Rattle.std.proofs.Common.{◌≡◌, take}
use Rattle.std.specs.List.{list_any}
use Rattle.sc_serve.specs.Answer.{has_failed, is_unfinished}
use Rattle.sc_serve.proofs.serve.exit_of.Given as goal

-- what the handlers before have
abbrev pub invariant-loop-status : goal.invariant-loop-status
invariant-loop-status l =
    record {
      failed : l.have_failed ≡ list_any has_failed (take l.status-index l.statuses);
      unfinished : l.are_unfinished ≡ list_any is_unfinished (take l.status-index l.statuses);
    }
