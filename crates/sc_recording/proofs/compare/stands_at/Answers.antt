use Rattle.std.proofs.Common.{slice_get}
use Rattle.sc_handler.specs.Logged.{settlements_of}
use Rattle.sc_recording.proofs.Comparisons.{got_some, no_at, yes_at}
use Rattle.sc_recording.proofs.compare.stands_at.Goals as goal

pub returns-clause-yes : goal.returns-clause-yes
returns-clause-yes c = λ e there yes.
    yes_at c.args.regions.now c.args.handler c.args.place e c.in-Some.region.now
    (got_some c.args.regions.now c.args.handler c.get.result c.in-Some.region c.get.ensures.lookup c.in-Some.is)
    c.log.ensures.entries (slice_get (settlements_of c.args.settlements.now) c.args.at) (c.agrees_at.ensures.0 yes) there

pub returns-clause-no : goal.returns-clause-no
returns-clause-no c = λ e there no st.
    no_at c.args.regions.now c.args.handler c.args.place e c.in-Some.region.now
    (got_some c.args.regions.now c.args.handler c.get.result c.in-Some.region c.get.ensures.lookup c.in-Some.is)
    c.log.ensures.entries (slice_get (settlements_of c.args.settlements.now) c.args.at) there c.agrees_at.result c.agrees_at.ensures.1 no st
