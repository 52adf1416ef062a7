use Rattle.std.proofs.Common.{ℕ, ap, ◌∙◌}
use Rattle.std.specs.Option.{option_map}
use Rattle.sc_region.specs.declared.job.Job.{Job}
use Rattle.sc_request.specs.Logs.{Center, next, picks}
use Rattle.sc_world.proofs.Outs.{on-err}
use Rattle.sc_plant.proofs.alone.pick_with_room.Goals as goal

pub returns-in_err-make_room-clause-err : goal.returns-in_err-make_room-clause-err
returns-in_err-make_room-clause-err c = on-err c.from_residual.result _ c.make_room.ensures.center

pub returns-in_err-reserve-clause-err : goal.returns-in_err-reserve-clause-err
returns-in_err-reserve-clause-err c = on-err c.from_residual-in_err-reserve.result _ c.make_room.ensures.center

pub returns-clause-handler : goal.returns-clause-handler
returns-clause-handler c =
    c.pick.ensures.handler ∙ ap (λ (x : Center). option_map (λ (p : ℕ × Job). p.0) (next x)) c.make_room.ensures.center

pub returns-clause-center : goal.returns-clause-center
returns-clause-center c = c.pick.ensures.center ∙ ap (λ (x : Center). picks (next x) x) c.make_room.ensures.center

pub returns-clause-log : goal.returns-clause-log
returns-clause-log c = c.pick.ensures.log ∙ c.make_room.ensures.log

pub returns-clause-room : goal.returns-clause-room
returns-clause-room c = c.pick.ensures.room 0 c.in_ok-make_room.ensures.room

pub returns-clause-version : goal.returns-clause-version
returns-clause-version c = c.pick.ensures.version ∙ c.make_room.ensures.version
