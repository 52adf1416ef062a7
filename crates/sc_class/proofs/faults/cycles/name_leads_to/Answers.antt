use Rattle.sc_tree.specs.View.{parent_of, system_of}
use Rattle.sc_class.proofs.CycleLemmas.{number_in_range, not_from_below}
use Rattle.sc_class.proofs.Decisions.{holds_not}
use Rattle.sc_class.proofs.faults.cycles.name_leads_to.Goals as goal

pub leads_to-requires : goal.leads_to-requires
leads_to-requires c = number_in_range c.args.hierarchy.now.system.now c.as_str.result.now c.number.result c.in-Some.start c.number.ensures c.in-Some.is

pub returns-then-rank : goal.returns-then-rank
returns-then-rank c =
    holds_not (not_from_below (system_of c.args.hierarchy.now.system.now) c.args.ranks.now c.requires c.as_str.result.now (parent_of c.args.parent.now) c.number.result c.args.number c.in-Some.start c.rank.result c.rank-in-Some.result c.as_str.ensures.value c.number.ensures c.in-Some.is
    c.rank.ensures c.rank-in-Some.ensures c.if-rank.true)
