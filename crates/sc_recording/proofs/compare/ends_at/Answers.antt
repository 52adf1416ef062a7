use Rattle.std.proofs.Common.{◌∙◌, sym}
use Rattle.sc_recording.proofs.Comparisons.{got_some, ends_yes, ends_no, ends_other}
use Rattle.sc_recording.proofs.compare.ends_at.Goals as goal

pub returns-then-handler-clause-yes : goal.returns-then-handler-clause-yes
returns-then-handler-clause-yes c = λ yes.
    ends_yes c.args.regions.now c.args.handler c.args.count c.in-Some.region.now
    (got_some c.args.regions.now c.args.handler c.get.result c.in-Some.region c.get.ensures.lookup c.in-Some.is)
    (sym c.handler.ensures ∙ c.if-handler.true) c.log.ensures.entries c.len.result c.len.ensures yes

pub returns-then-handler-clause-no : goal.returns-then-handler-clause-no
returns-then-handler-clause-no c = λ no ends.
    ends_no c.args.regions.now c.args.handler c.args.count c.in-Some.region.now
    (got_some c.args.regions.now c.args.handler c.get.result c.in-Some.region c.get.ensures.lookup c.in-Some.is)
    c.log.ensures.entries c.len.result c.len.ensures no ends

pub returns-else-handler-clause-no : goal.returns-else-handler-clause-no
returns-else-handler-clause-no c = λ no ends.
    ends_other c.args.regions.now c.args.handler c.args.count c.in-Some.region.now
    (got_some c.args.regions.now c.args.handler c.get.result c.in-Some.region c.get.ensures.lookup c.in-Some.is)
    c.handler.result c.handler.ensures c.if-handler.false ends
