use Rattle.sc_acts.proofs.Slices.{copied_at}
use Rattle.sc_interp.proofs.hopping.operation_at.Goals as goal

pub returns : goal.returns
returns c = copied_at c.deref.result.now c.args.code.now.operations.items c.args.place c.get.result c.copied.result c.get.ensures.lookup c.deref.ensures.value c.copied.ensures
