use Rattle.std.proofs.Common.{◌≡◌, take}
use Rattle.sc_world.specs.Views.{world_in}
use Rattle.sc_search.specs.Stops.{HasReached}
use Rattle.sc_search.specs.Stored.{IsAlikeAfter, order_after}
use Rattle.sc_search.specs.Views.{orders_of}
use Rattle.sc_search.proofs.progress.Progress.go.Given as goal

-- the turns so far lead to the world
abbrev pub invariant-loop-handler : goal.invariant-loop-handler
invariant-loop-handler l = record {
  store : l.self.store ≡ l.fn.self.store;
  edges : l.self.edges ≡ l.fn.self.edges;
  reached : HasReached l.subject.program.now.image l.subject.version l.subject.aim l.self;
  after : IsAlikeAfter l.subject.program.now.image l.subject.version (order_after (orders_of l.fn.self) l.way.parent (take l.handler-index l.way.turns.now)) (world_in l.self.world);
}
