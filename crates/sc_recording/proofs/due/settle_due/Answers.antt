use Rattle.std.proofs.Common.{ap, sym, ◌∙◌}
use Rattle.sc_request.specs.Cores.{center_of}
use Rattle.sc_request.specs.Logs.{Center}
use Rattle.sc_world.proofs.Runs.{ok-holds}
use Rattle.sc_recording.proofs.Dues.{is_out, none_here, picked_here, put_none, put_state, same_none, settled_due, settled_none}
use Rattle.sc_recording.proofs.due.settle_due.Goals as goal

pub returns-then-is_err-clause-none : goal.returns-then-is_err-clause-none
returns-then-is_err-clause-none c =
    put_none c.args.handler c.args.core.now c.make_room.new.self (c.make_room.ensures.center ∙ c.put_back.ensures.center) c.requires.none

pub returns-then-is_err-clause-stays : goal.returns-then-is_err-clause-stays
returns-then-is_err-clause-stays c = record {
  state = put_state c.args.handler c.args.core.now c.make_room.new.self (c.make_room.ensures.center ∙ c.put_back.ensures.center) c.requires.none;
  log = c.make_room.ensures.log ∙ c.put_back.ensures.log;
}

pub settle_out-requires-clause-out : goal.settle_out-requires-clause-out
settle_out-requires-clause-out c =
    is_out c.args.handler c.make_room.new.self c.pick_at.new.self
    (picked_here c.args.handler c.make_room.new.self c.pick_at.new.self (sym c.if-pick_at.true ∙ c.pick_at.ensures.picked) c.pick_at.ensures.center)

pub settle_out-requires-clause-room : goal.settle_out-requires-clause-room
settle_out-requires-clause-room c = c.pick_at.ensures.room 0 (ok-holds c.make_room.result _ (sym c.is_err.ensures.value ∙ c.if-is_err.false) c.make_room.ensures.room)

pub returns-then-pick_at-clause-settled : goal.returns-then-pick_at-clause-settled
returns-then-pick_at-clause-settled c =
    let back = c.make_room.ensures.center ∙ c.put_back.ensures.center in
    let goes = picked_here c.args.handler c.make_room.new.self c.pick_at.new.self (sym c.if-pick_at.true ∙ c.pick_at.ensures.picked) c.pick_at.ensures.center in
    settled_due c.args.handler c.args.turns c.args.want.now c.args.core.now c.make_room.new.self c.pick_at.new.self c.settle_out.new.core goes.0
    (c.pick_at.ensures.below c.if-pick_at.true) (put_state c.args.handler c.args.core.now c.make_room.new.self back c.requires.none)
    (c.make_room.ensures.log ∙ c.put_back.ensures.log) goes.1 goes.2 c.pick_at.ensures.log c.settle_out.ensures.settled

pub returns-then-pick_at-clause-none : goal.returns-then-pick_at-clause-none
returns-then-pick_at-clause-none c =
    let back = c.make_room.ensures.center ∙ c.put_back.ensures.center in
    let goes = picked_here c.args.handler c.make_room.new.self c.pick_at.new.self (sym c.if-pick_at.true ∙ c.pick_at.ensures.picked) c.pick_at.ensures.center in
    settled_none c.args.handler c.args.turns c.args.want.now c.make_room.new.self c.pick_at.new.self c.settle_out.new.core goes.0
    (put_none c.args.handler c.args.core.now c.make_room.new.self back c.requires.none) goes.2 c.settle_out.ensures.settled

pub returns-else-pick_at-clause-stays : goal.returns-else-pick_at-clause-stays
returns-else-pick_at-clause-stays c =
    let same = none_here c.args.handler c.make_room.new.self c.pick_at.new.self (sym c.if-pick_at.false ∙ c.pick_at.ensures.picked) c.pick_at.ensures.center in
    record {
      state = ap (λ (x : Center). x.state) same
          ∙ put_state c.args.handler c.args.core.now c.make_room.new.self (c.make_room.ensures.center ∙ c.put_back.ensures.center) c.requires.none;
      log = c.pick_at.ensures.log ∙ c.make_room.ensures.log ∙ c.put_back.ensures.log;
    }

pub returns-else-pick_at-clause-none : goal.returns-else-pick_at-clause-none
returns-else-pick_at-clause-none c =
    let same = none_here c.args.handler c.make_room.new.self c.pick_at.new.self (sym c.if-pick_at.false ∙ c.pick_at.ensures.picked) c.pick_at.ensures.center in
    same_none (center_of c.make_room.new.self) (center_of c.pick_at.new.self) same
    (put_none c.args.handler c.args.core.now c.make_room.new.self (c.make_room.ensures.center ∙ c.put_back.ensures.center) c.requires.none)
