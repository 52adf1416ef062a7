use Rattle.sc_handler.proofs.SameValues.{same_lists}
use Rattle.sc_handler.proofs.agreement.have_same_values.Goals as goal

pub returns : goal.returns
returns c = same_lists c.eq.result c.args.a.now c.args.b.now c.eq.ensures
