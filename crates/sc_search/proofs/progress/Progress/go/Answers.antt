use Rattle.std.proofs.Common.{◌+◌, ◌∙◌, get_or, take}
use Rattle.std.proofs.lemmas.List.{take_more}
use Rattle.sc_world.specs.Views.{world_in}
use Rattle.sc_search.specs.Stored.{order_after}
use Rattle.sc_search.specs.Views.{orders_of}
use Rattle.sc_search.proofs.Loaded.{after_turn}
use Rattle.sc_search.proofs.Orders.{order_more}
use Rattle.sc_search.proofs.progress.Progress.go.Goals as goal

pub loop-handler-preserved : goal.loop-handler-preserved
loop-handler-preserved c =
    let os = orders_of c.args.self.now in
    let from = c.args.way.parent in
    let hs = c.args.way.turns.now in
    let i = c.loop-handler.handler-index in
    record {
      store = c.turn.ensures.store ∙ c.loop-handler.invariant.store;
      edges = c.turn.ensures.edges ∙ c.loop-handler.invariant.edges;
      reached = c.in_ok-turn.ensures.reached;
      after = after_turn c.openings_are_of_their_program.ensures c.runs_stay_of_their_program.ensures c.args.subject.program.now.image c.args.subject.version
          c.kept_alike_turn_alike.ensures (order_after os from (take i hs)) (order_after os from (take (i + 1) hs)) (get_or hs i 0) (world_in c.loop-handler.self.world)
          (world_in c.turn.new.self.world) (order_more os from (take i hs) (take (i + 1) hs) (get_or hs i 0) (take_more hs i 0 c.loop-handler-test.true))
          c.loop-handler.invariant.reached.of c.loop-handler.invariant.after c.in_ok-turn.ensures.turn;
    }
