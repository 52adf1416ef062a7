use Rattle.sc_search.proofs.LoadedStates.{reached_grown}
use Rattle.sc_search.proofs.Stores.{states_stay}
use Rattle.sc_search.proofs.progress.Progress.number.Goals as goal

pub returns-clause-states : goal.returns-clause-states
returns-clause-states c =
    states_stay c.args.subject.program.now.image c.args.self.now.store c.number.new.self c.in_ok-number.ensures.grows c.requires.reached.stored

pub returns-clause-reached : goal.returns-clause-reached
returns-clause-reached c =
    let x = c.args.self.now in
    record {
      reached = reached_grown c.args.subject.program.now.image c.args.subject.version c.args.subject.aim x.store c.number.new.self x.turns c.in_ok-number.ensures.grows
          c.requires.reached.stored c.requires.reached.reached;
      stored = c.in_ok-number.ensures.grows.stored c.requires.reached.stored;
      of = c.requires.reached.of;
    }
