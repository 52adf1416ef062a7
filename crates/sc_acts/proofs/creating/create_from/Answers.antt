use Rattle.std.proofs.Common.{false, ◌∙◌}
use Rattle.sc_acts.proofs.Creations.{call_room, dropped}
use Rattle.sc_acts.proofs.LastOperands.{resumed_store, room_again}
use Rattle.sc_acts.proofs.creating.create_from.Goals as goal

pub add-requires : goal.add-requires
add-requires c = call_room c.args.count false c.args.store.now c.suspend.new.store c.requires.room c.suspend.ensures

pub resume-requires : goal.resume-requires
resume-requires c =
    let k = c.args.caller.now in
    room_again c.args.count false k.values.items k.place k.stage c.args.store.now c.drop_last.new.store c.requires.stands
    (dropped c.args.count false c.args.reference c.args.store.now c.suspend.new.store c.make_object_with.new.self c.drop_last.new.store c.suspend.ensures (c.in-Err.ensures.err ∙ c.add.ensures) c.drop_last.ensures)

pub returns-in-Err-clause-err : goal.returns-in-Err-clause-err
returns-in-Err-clause-err c =
    let k = c.args.caller.now in
    resumed_store c.args.count false k.values.items k.place k.stage c.args.store.now c.drop_last.new.store c.resume.new.store c.requires.stands
    (dropped c.args.count false c.args.reference c.args.store.now c.suspend.new.store c.make_object_with.new.self c.drop_last.new.store c.suspend.ensures (c.in-Err.ensures.err ∙ c.add.ensures) c.drop_last.ensures) c.resume.ensures
