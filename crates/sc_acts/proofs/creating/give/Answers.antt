use Rattle.std.proofs.Common.{◌∙◌, sym}
use Rattle.sc_acts.proofs.Creations.{past_room}
use Rattle.sc_acts.proofs.creating.give.Goals as goal

pub add-requires : goal.add-requires
add-requires c = past_room c.args.count c.args.store.now c.pass.new.store (sym c.has_room.ensures ∙ c.if-has_room.true) c.pass.ensures
