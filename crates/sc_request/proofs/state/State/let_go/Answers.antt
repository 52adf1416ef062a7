use Rattle.sc_request.proofs.Fallen.{goes}
use Rattle.sc_request.proofs.state.State.let_go.Goals as goal

pub returns-clause-plain : goal.returns-clause-plain
returns-clause-plain c =
    let s = c.args.self.now in
    goes s.count s.handlers.items s.sessions.items c.count_held.new.counts.items s.rights c.release_all.new.self c.args.handler c.count_held.ensures.counted c.release_all.ensures.rights
