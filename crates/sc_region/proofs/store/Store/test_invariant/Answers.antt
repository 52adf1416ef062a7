use Rattle.std.proofs.Common.{ap, ◌∙◌}
use Rattle.sc_region.specs.Objects.{object_numbered}
use Rattle.sc_region.specs.Classes.{object_meets}
use Rattle.sc_region.specs.Stores.{PlainStore}
use Rattle.sc_region.proofs.InvariantTests.{test_tells}
use Rattle.sc_region.proofs.store.Store.test_invariant.Goals as goal

pub returns : goal.returns
returns c =
    let store = c.args.self.now in
    test_tells store.program (object_numbered c.args.number store.objects) c.object_meets.result
    (c.object_meets.ensures ∙ ap (λ (x : PlainStore). object_meets x.program (object_numbered c.args.number x.objects)) c.self.view_is)
