use Rattle.std.proofs.Common.{◌∷◌, [], refl}
use Rattle.sc_lockpass.specs.Versions.{most_handlers}
use Rattle.sc_world.specs.Views.{world_in}
use Rattle.sc_search.proofs.progress.Progress.turn.Goals as goal

pub returns-clause-reached : goal.returns-clause-reached
returns-clause-reached c = record {
  reached = c.requires.reached.reached;
  stored = c.requires.reached.stored;
  of = c.runs_stay_of_their_program.ensures c.args.subject.program.now.image (most_handlers c.args.subject.version) (c.args.handler ∷ []) (world_in c.args.self.now.world)
      (world_in c.turn.new.self) c.requires.reached.of (world_in c.turn.new.self, c.in_ok-turned.ensures.ok, refl);
}
