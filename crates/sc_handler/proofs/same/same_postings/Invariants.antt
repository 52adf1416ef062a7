use Rattle.sc_handler.specs.InMemory.{posting_of}
use Rattle.sc_handler.proofs.SameLists.{AreAsAlike}
use Rattle.sc_handler.proofs.same.same_postings.Given as goal

abbrev pub invariant-loop-posting : goal.invariant-loop-posting
invariant-loop-posting l = record {
  can_next : goal.iterator-loop-posting.can_next l.left;
  is_finite : goal.iterator-loop-posting.is_finite l.left;
  alike : AreAsAlike posting_of l.left l.right l.a l.b;
}
