use Rattle.std.proofs.Common.{ap, sym, ◌∙◌}
use Rattle.sc_region.specs.declared.job.Job.{Job}
use Rattle.sc_request.specs.Candidates.{is_granting}
use Rattle.sc_request.specs.Cores.{center_of}
use Rattle.sc_request.specs.Logs.{Center}
use Rattle.sc_recording.proofs.Dues.{goes_none, goes_state, has_job, its_job, none_next, picked_next, same_none, undone_none}
use Rattle.sc_recording.proofs.PuttingBack.{put_back_state}
use Rattle.sc_recording.proofs.due.pick_due.Goals as goal

pub returns-in_err-make_room-clause-none : goal.returns-in_err-make_room-clause-none
returns-in_err-make_room-clause-none c = same_none (center_of c.args.core.now) (center_of c.make_room.new.self) c.make_room.ensures.center c.requires.none

pub returns-in_default-clause-none : goal.returns-in_default-clause-none
returns-in_default-clause-none c =
    same_none (center_of c.args.core.now) (center_of c.pick.new.self)
    (none_next c.make_room.new.self c.pick.new.self c.in_default.ensures.handler c.pick.ensures.center ∙ c.make_room.ensures.center) c.requires.none

pub unreachable-requires : goal.unreachable-requires
unreachable-requires c =
    has_job c.in-Some.handler c.make_room.new.self c.pick.new.self
    (picked_next c.in-Some.handler c.make_room.new.self c.pick.new.self c.in-Some.ensures.handler c.pick.ensures.center) c.in_default-job_out.ensures

pub returns-then-is_granting-clause-stays : goal.returns-then-is_granting-clause-stays
returns-then-is_granting-clause-stays c =
    let goes = picked_next c.in-Some.handler c.make_room.new.self c.pick.new.self c.in-Some.ensures.handler c.pick.ensures.center in
    record {
      state = put_back_state c.in-Some.handler c.make_room.new.self c.pick.new.self c.put_back.new.self goes c.put_back.ensures.center
          ∙ ap (λ (x : Center). x.state) c.make_room.ensures.center;
      log = c.put_back.ensures.log ∙ c.pick.ensures.log ∙ c.make_room.ensures.log;
    }

pub returns-then-is_granting-clause-none : goal.returns-then-is_granting-clause-none
returns-then-is_granting-clause-none c =
    let goes = picked_next c.in-Some.handler c.make_room.new.self c.pick.new.self c.in-Some.ensures.handler c.pick.ensures.center in
    undone_none c.in-Some.handler c.make_room.new.self c.pick.new.self c.put_back.new.self goes c.put_back.ensures.center
    (same_none (center_of c.args.core.now) (center_of c.make_room.new.self) c.make_room.ensures.center c.requires.none)

pub returns-clause-stays : goal.returns-clause-stays
returns-clause-stays c =
    let goes = picked_next c.in-Some.handler c.make_room.new.self c.pick.new.self c.in-Some.ensures.handler c.pick.ensures.center in
    let own = its_job c.in-Some.handler c.make_room.new.self c.pick.new.self goes c.in-Some-job_out.job.now (sym c.in-Some-job_out.ensures) in
    let frees = ap (λ (j : Job). is_granting j) (own ∙ sym c.write_job.ensures) ∙ sym c.is_granting.ensures ∙ c.if-is_granting.false in
    record {
      state = goes_state c.in-Some.handler c.make_room.new.self c.pick.new.self goes frees ∙ ap (λ (x : Center). x.state) c.make_room.ensures.center;
      log = c.pick.ensures.log ∙ c.make_room.ensures.log;
    }

pub returns-clause-none : goal.returns-clause-none
returns-clause-none c =
    let goes = picked_next c.in-Some.handler c.make_room.new.self c.pick.new.self c.in-Some.ensures.handler c.pick.ensures.center in
    let own = its_job c.in-Some.handler c.make_room.new.self c.pick.new.self goes c.in-Some-job_out.job.now (sym c.in-Some-job_out.ensures) in
    let frees = ap (λ (j : Job). is_granting j) (own ∙ sym c.write_job.ensures) ∙ sym c.is_granting.ensures ∙ c.if-is_granting.false in
    goes_none c.in-Some.handler c.make_room.new.self c.pick.new.self goes frees
    (same_none (center_of c.args.core.now) (center_of c.make_room.new.self) c.make_room.ensures.center c.requires.none)
