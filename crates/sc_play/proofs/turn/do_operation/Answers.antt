use Rattle.sc_play.proofs.FurtherTurns.{comes_so}
use Rattle.sc_play.proofs.turn.do_operation.Goals as goal

pub returns-in-Comes-clause-comes : goal.returns-in-Comes-clause-comes
returns-in-Comes-clause-comes c = comes_so c.act_on.result c.args.operation c.in-Comes.act c.in-Comes.is
