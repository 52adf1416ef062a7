use Rattle.std.proofs.Common.{sym}
use Rattle.sc_tree.specs.View.{class_of}
use Rattle.sc_test_cases.proofs.listing.is_chosen.Goals as goal

-- the letters' case doesn't matter
pub returns-in_ok-name-in-Some : goal.returns-in_ok-name-in-Some
unfolding class_of
returns-in_ok-name-in-Some c =
    rw (c.in-Some.is, sym c.in_ok-name-in-Some.ensures.ok, sym c.as_str.ensures.value, sym c.as_str-in-Some.ensures.value) c.eq.ensures
