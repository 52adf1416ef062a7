use Rattle.std.proofs.Common.{◌≡◌, ◌++◌}
use Rattle.sc_handler.proofs.reading.copy_postings.Given as goal

abbrev pub invariant-loop-posting : goal.invariant-loop-posting
invariant-loop-posting l = record {
  can_next : goal.iterator-loop-posting.can_next l.left;
  is_finite : goal.iterator-loop-posting.is_finite l.left;
  whole : l.copy ++ l.left ≡ l.fn.postings;
}
