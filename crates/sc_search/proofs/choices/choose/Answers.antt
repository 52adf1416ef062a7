use Rattle.std.proofs.Common.{arith}
use Rattle.sc_search.proofs.LoadedStates.{row_few}
use Rattle.sc_search.proofs.choices.choose.Goals as goal

pub overflow_cast-handler : goal.overflow_cast-handler
overflow_cast-handler c =
    let x = c.args.progress.now in
    let few =
    row_few c.args.subject.program.now.image c.args.subject.version c.args.subject.aim x.store x.turns c.args.number c.statuses-handler-end.result.now
    c.requires.reached.stored c.requires.reached.reached c.requires.there c.statuses-handler-end.ensures in
    omega (arith, few, c.loop-handler-test.true)
