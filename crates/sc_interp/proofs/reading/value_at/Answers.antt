use Rattle.std.proofs.Common.{refl}
use Rattle.sc_acts.proofs.Slices.{copied_at}
use Rattle.sc_interp.proofs.reading.value_at.Goals as goal

pub returns : goal.returns
returns c = copied_at c.args.slots.now c.args.slots.now c.args.slot c.get.result c.copied.result c.get.ensures.lookup refl c.copied.ensures
