use Rattle.sc_world.specs.Views.{world_in}
use Rattle.sc_search.specs.Views.{orders_of, states_of, statuses_of}
use Rattle.sc_search.proofs.Loaded.{after_order, backed}
use Rattle.sc_search.proofs.progress.Progress.load.Goals as goal

pub load-requires-clause-backed : goal.load-requires-clause-backed
load-requires-clause-backed c =
    let x = c.args.self.now in
    backed c.openings_are_of_their_program.ensures c.runs_stay_of_their_program.ensures c.args.subject.program.now.image c.args.subject.version c.args.subject.aim
    (states_of x) (orders_of x) (statuses_of x) x.turns c.args.number c.openings_are_linked.ensures c.runs_stay_linked.ensures c.requires.reached.reached c.requires.there

pub returns-clause-reached : goal.returns-clause-reached
returns-clause-reached c = record {
  reached = c.requires.reached.reached;
  stored = c.requires.reached.stored;
  of = c.in_ok-load.ensures.of;
}

pub returns-clause-after : goal.returns-clause-after
returns-clause-after c =
    let x = c.args.self.now in
    after_order c.openings_are_of_their_program.ensures c.runs_stay_of_their_program.ensures c.args.subject.program.now.image c.args.subject.version c.args.subject.aim
    (states_of x) (orders_of x) (statuses_of x) x.turns c.args.number (world_in c.load.new.world) c.requires.reached.reached c.in_ok-load.ensures.kept
