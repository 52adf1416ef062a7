use Rattle.sc_region.specs.Objects.{object_numbered}
use Rattle.sc_acts.proofs.InvariantTests.{meets_is}
use Rattle.sc_acts.proofs.exiting.meets.Goals as goal

pub returns : goal.returns
returns c = meets_is c.args.store.now.program (object_numbered c.args.object c.args.store.now.objects) c.test_invariant.result c.test_invariant.ensures
