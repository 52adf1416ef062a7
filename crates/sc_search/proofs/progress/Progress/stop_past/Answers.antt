use Rattle.std.proofs.Common.{◌≡◌, ◌∙◌, sym, arith}
use Rattle.sc_search.specs.Views.{orders_of, states_of, statuses_of}
use Rattle.sc_search.proofs.Reasons.{past}
use Rattle.sc_search.proofs.progress.Progress.stop_past.Goals as goal

pub returns-clause-stops : goal.returns-clause-stops
returns-clause-stops c =
    let x = c.args.self.now in
    let same : c.give_up.result.bytes ≡ c.bytes.result = c.give_up.ensures.bytes ∙ sym c.bytes.ensures in
    past c.args.subject.program.now.image c.args.subject.version c.args.subject.aim (states_of x) (orders_of x) (statuses_of x) x.turns c.args.limits
    c.give_up.result c.requires.reached (omega (arith, c.if-bytes-limits.false, same)) c.give_up.ensures.reason c.give_up.ensures.states
