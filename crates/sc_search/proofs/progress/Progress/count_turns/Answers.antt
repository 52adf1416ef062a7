use Rattle.std.proofs.Common.{◌≤◌, ◌+◌, length, arith}
use Rattle.sc_world.specs.Views.{world_in}
use Rattle.sc_search.specs.Views.{orders_of, states_of, statuses_of}
use Rattle.sc_search.proofs.LoadedStates.{reached_after}
use Rattle.sc_search.proofs.progress.Progress.count_turns.Goals as goal

pub returns-clause-reached : goal.returns-clause-reached
returns-clause-reached c =
    let x = c.args.self.now in
    let way = c.args.way.turns.now in
    let le : c.saturating_add-self.result ≤ x.turns + length way = omega (arith, c.saturating_add-self.ensures) in
    record {
      reached = reached_after c.args.subject.program.now.image c.args.subject.version c.args.subject.aim (states_of x) (orders_of x) (statuses_of x) x.turns
          c.saturating_add-self.result c.args.way.parent way (world_in x.world) c.requires.leads le c.requires.reached.reached;
      stored = c.requires.reached.stored;
      of = c.requires.reached.of;
    }
