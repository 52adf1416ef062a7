use Rattle.std.proofs.Common.{take}
use Rattle.sc_world.specs.Turning.{Runs}
use Rattle.sc_world.specs.Views.{world_of}
use Rattle.sc_world.specs.Worlds.{opened}
use Rattle.sc_search.specs.Found.{RunsUnmet}
use Rattle.sc_search.proofs.replay.play_until_met.Given as goal

-- the turns that were made lead there, and nowhere before it is met; and those that were to be made lead there, too
abbrev pub invariant-loop-handler : goal.invariant-loop-handler
invariant-loop-handler l = record {
  made : RunsUnmet l.subject.aim l.made.items (opened l.subject.program.now.image l.subject.version) (world_of l.world);
  all : Runs (take l.handler-index l.turns) (opened l.subject.program.now.image l.subject.version) (world_of l.world);
}
