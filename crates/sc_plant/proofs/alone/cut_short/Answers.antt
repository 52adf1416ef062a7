use Rattle.std.proofs.Common.{ap, arith}
use Rattle.sc_plant.proofs.CutRuns.{cut_ends}
use Rattle.sc_plant.proofs.alone.cut_short.Goals as goal

-- the turns that were made are those after which the run ends
pub returns-then-are_past-clause-ends : goal.returns-then-are_past-clause-ends
returns-then-are_past-clause-ends c =
    cut_ends c.args.bounds c.in-Some.made c.args.left.now.regions.items c.over_at.new.left.regions.items c.are_past.result c.over_at.result
    (omega (arith, c.if-made-limit.false)) c.if-are_past.true c.are_past.ensures (ap (λ v. v.items) c.over_at.ensures.regions) c.over_at.ensures.same
