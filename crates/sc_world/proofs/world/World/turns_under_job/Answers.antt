use Rattle.sc_world.specs.Views.{world_in}
use Rattle.sc_world.proofs.TriedTurns.{job_tried}
use Rattle.sc_world.proofs.world.World.turns_under_job.Goals as goal

pub invariant_of-self : goal.invariant_of-self
invariant_of-self c = record {
  tried = job_tried c.args.limit c.args.handler (world_in c.args.self.now.configuration) (world_in c.turns_under_job.new.self) c.turns_under_job.result
      c.args.self.now.tried c.turns_under_job.ensures.ok c.turns_under_job.ensures.err;
}
