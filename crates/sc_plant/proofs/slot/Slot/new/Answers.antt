use Rattle.std.proofs.Math.Logic.{∥∥₁_map}
use Rattle.sc_play.specs.Regions.{new_region}
use Rattle.sc_handler.specs.Logged.{settlements_of}
use Rattle.sc_worklog.specs.Replaying.{AreMade}
use Rattle.sc_worklog.proofs.ReplayedTurns.{turns_replay}
use Rattle.sc_plant.proofs.slot.Slot.new.Goals as goal

pub with_log-requires-clause-replays : goal.with_log-requires-clause-replays
with_log-requires-clause-replays g c =
    let x = c.args.region in
    let es = settlements_of c.args.log in
    ∥∥₁_map c.requires.made (λ (made : AreMade es (new_region x.store.program x.handler) x). (turns_replay x.store.program x.handler es x made).0)
