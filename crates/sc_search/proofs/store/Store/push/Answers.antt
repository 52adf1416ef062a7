use Rattle.std.proofs.Common.{refl}
use Rattle.sc_search.proofs.Stores.{stored_pushed}
use Rattle.sc_search.proofs.store.Store.push.Goals as goal

pub returns-clause-stored : goal.returns-clause-stored
returns-clause-stored c =
    stored_pushed c.args.subject.program.now.image c.args.self.now _ c.args.tuple.now refl refl c.in_ok-push.ensures.tuples c.requires.numbered c.requires.stored
