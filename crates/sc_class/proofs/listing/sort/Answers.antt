use Rattle.std.proofs.Common.{◌≡◌, rules}
use Rattle.std.specs.Ordering.{is_lt}
use Rattle.std.proofs.lemmas.Fn.{always_returns_same}
use Rattle.sc_class.specs.Faults.FaultList.{comes_before}
use Rattle.sc_class.proofs.ListingLemmas.{in_ranks}
use Rattle.sc_class.proofs.listing.sort.Goals as goal

pub returns-clause-sorted : goal.returns-clause-sorted
returns-clause-sorted c = c.sort_unstable_by.ensures.sorted comes_before in_ranks (always_returns_same _ (λ a r. is_lt r ≡ comes_before a.0.now a.1.0.now) _ (λ a r f' k. search rules))
