use Rattle.std.proofs.Common.{arith}
use Rattle.sc_class.proofs.CycleLemmas.{number_in_range}
use Rattle.sc_class.proofs.faults.cycles.Search.see_parent.Goals as goal

pub see-requires : goal.see-requires
see-requires c = let l = number_in_range c.args.hierarchy.now.system.now c.as_str.result.now c.number.result c.in-Some.number c.number.ensures c.in-Some.is in omega (arith, l, c.requires)
