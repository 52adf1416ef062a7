use Rattle.std.proofs.lemmas.Slice.Eq.{slice_eq-Decides}
use Rattle.sc_region.proofs.Sameness.{reference_decides}
use Rattle.sc_region.proofs.equality.same_references.Goals as goal

pub returns : goal.returns
returns c = slice_eq-Decides reference_decides c.args.references.now c.args.others.now c.eq.result c.eq.ensures
