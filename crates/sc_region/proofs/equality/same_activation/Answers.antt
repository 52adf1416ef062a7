use Rattle.sc_region.proofs.Sameness.{same_routine}
use Rattle.sc_region.proofs.equality.same_activation.Goals as goal

pub returns-then-same_place : goal.returns-then-same_place
returns-then-same_place c =
    same_routine c.same_contents.result c.args.activation.now c.args.other.now (c.same_place.ensures.0 c.if-same_place.true) c.same_contents.ensures
