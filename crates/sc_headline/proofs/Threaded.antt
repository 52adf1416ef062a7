-- What a run on threads leaves is what the machine reports.
use Rattle.std.proofs.Common.{◌≡◌, ◌∙◌, ℕ, List, ap, subst}
use Rattle.std.specs.List.{flat_map}
use Rattle.std.proofs.Math.Logic.{∥∥₁_map}
use Rattle.sc_lockpass.specs.declared.version.Version.TheVariants.{Two}
use Rattle.sc_model.specs.declared.status.Status.{Status}
use Rattle.sc_request.specs.Cores.{log_of}
use Rattle.sc_world.specs.Worlds.{opened}
use Rattle.sc_world.proofs.Runs.{made-run}
use Rattle.sc_world.specs.Reports.{report, statuses}
use Rattle.sc_plant.specs.Left.{RunsAreOneThreads, world_of}
use Rattle.sc_recording.specs.Recorded.{turns_of}
use Rattle.sc_driver.specs.Execution.{IsThreadRun, line_turns}
use Rattle.sc_driver.proofs.Threads.{thread_run, turns_of_lines}
use Rattle.sc_headline.specs.Headline.{IsMachineRun, ReplaysAreTheMachines}
use Rattle.sc_headline.specs.ThreadsHeadline.{ThreadsReportAsMachine}

pub threads_reported : ReplaysAreTheMachines → RunsAreOneThreads → ThreadsReportAsMachine
threads_reported replays one_thread text root p limit left loaded run =
    let es = log_of left.core in
    let lines = left.lines.items in
    let told : List ℕ = report (world_of left) in
    let stand : List Status = statuses (world_of left) in
    let turns : flat_map line_turns lines ≡ turns_of es = ap (λ ls. flat_map line_turns ls) run.left_is.lines ∙ turns_of_lines es in
    ∥∥₁_map (thread_run one_thread p limit left run)
    (λ (ran : IsThreadRun p limit lines told stand).
    subst (λ (hs : List ℕ). IsMachineRun text root Two hs told stand) turns
    (replays text root p Two lines told stand loaded (record {
      world = ran.world;
      runs = made-run (flat_map line_turns lines) (opened p Two) ran.world ran.makes;
      leaves = ran.leaves;
    })))
