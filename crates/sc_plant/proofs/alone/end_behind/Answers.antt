use Rattle.sc_plant.proofs.CutRuns.{whole_ends}
use Rattle.sc_plant.proofs.alone.end_behind.Goals as goal

pub returns-then-made-eq0-clause-ends : goal.returns-then-made-eq0-clause-ends
returns-then-made-eq0-clause-ends g c = whole_ends c.args.bounds c.over_at.new.left.regions.items c.over_at.result c.over_at.ensures.same
