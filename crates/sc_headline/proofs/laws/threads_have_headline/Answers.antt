use Rattle.std.proofs.Math.Logic.{∥∥₁_map}
use Rattle.sc_lockpass.specs.declared.version.Version.TheVariants.{Two}
use Rattle.sc_request.specs.Cores.{log_of}
use Rattle.sc_world.specs.Worlds.{opened}
use Rattle.sc_world.proofs.Runs.{made-run}
use Rattle.sc_recording.specs.Recorded.{turns_of}
use Rattle.sc_headline.proofs.laws.threads_have_headline.Goals as goal

pub returns : goal.returns
returns c = λ text root p limit left loaded run.
    let hs = turns_of (log_of left.core) in
    ∥∥₁_map (c.runs_are_one_threads.ensures p limit left run)
    (λ w. record {
      world = w.0;
      makes = w.1;
      ends = w.2;
      reached = c.headline.ensures text root p Two hs w.0 loaded (made-run hs (opened p Two) w.0 w.1);
    })
