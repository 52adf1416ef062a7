use Rattle.std.proofs.Common.{◌≡◌, ◌∙◌, false, sym, arith, rules}
use Rattle.std.proofs.lemmas.Grind.{common_steps}
use Rattle.sc_search.specs.Views.{met_of, orders_of, statuses_of}
use Rattle.sc_search.proofs.IdleHandlers.{tries_idle}
use Rattle.sc_search.proofs.closing.try_turn.Goals as goal

pub returns-then-not-is_at-clause-tries : goal.returns-then-not-is_at-clause-tries
returns-then-not-is_at-clause-tries c =
    let x = c.args.progress.now in
    let no : c.is_at.result ≡ false = first_of (search rules, grind (arith, common_steps)) in
    tries_idle c.args.subject.program.now.image c.args.subject.version c.args.subject.aim c.args.joined (met_of x) (orders_of x) (statuses_of x) x.turns c.args.number
    c.statuses.result.now c.requires.reached.reached c.requires.there c.statuses.ensures c.args.handler (sym c.is_at.ensures ∙ no)
