use Rattle.sc_handler.proofs.SameValues.{same_values}
use Rattle.sc_handler.proofs.same.same_actuals.Goals as goal

pub returns : goal.returns
returns c = same_values c.eq.result c.args.a.now.actuals c.args.b.now.actuals _ _ c.actuals.ensures.actuals c.actuals-2.ensures.actuals c.eq.ensures
