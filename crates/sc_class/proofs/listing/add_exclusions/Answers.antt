use Rattle.sc_class.specs.Internal.Listing.{left_out_fault}
use Rattle.sc_class.proofs.PlaceLists.{pushed_more, pushed_all}
use Rattle.sc_class.proofs.listing.add_exclusions.Goals as goal

pub loop-exclusion-preserved : goal.loop-exclusion-preserved
loop-exclusion-preserved c =
    pushed_more left_out_fault c.args.exclusions.now c.loop-exclusion.exclusion-index _ c.args.faults.now.items c.loop-exclusion.faults.items c.push.new.self.items c.loop-exclusion-test.true c.loop-exclusion.invariant
    c.in_ok-push.ensures.items

pub returns : goal.returns
returns c = pushed_all left_out_fault c.args.exclusions.now c.loop-exclusion.exclusion-index c.args.faults.now.items c.loop-exclusion.faults.items c.loop-exclusion-test.false c.loop-exclusion.invariant
