use Rattle.sc_request.proofs.Releases.{sessions_ended}
use Rattle.sc_request.proofs.state.State.end_sessions.Goals as goal

pub returns-clause-plain : goal.returns-clause-plain
returns-clause-plain c =
    let s = c.args.self.now in
    sessions_ended s.count s.handlers.items s.sessions.items c.count_each.new.counts.items s.rights c.release_each.new.rights c.args.handlers.now c.count_each.ensures.counted
    (c.release_each.ensures.queue, c.release_each.ensures.top)
