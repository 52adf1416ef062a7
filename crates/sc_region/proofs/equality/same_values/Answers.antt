use Rattle.std.proofs.lemmas.Slice.Eq.{slice_eq-Decides}
use Rattle.sc_region.proofs.Sameness.{value_decides}
use Rattle.sc_region.proofs.equality.same_values.Goals as goal

pub returns : goal.returns
returns c = slice_eq-Decides value_decides c.args.values.now c.args.others.now c.eq.result c.eq.ensures
