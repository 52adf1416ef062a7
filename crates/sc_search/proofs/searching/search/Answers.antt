use Rattle.std.proofs.Common.{◌≡◌, ◌∙◌, false, sym, arith, rules}
use Rattle.std.proofs.lemmas.Grind.{common_steps}
use Rattle.sc_search.proofs.Reasons.{has_stopped}
use Rattle.sc_search.proofs.searching.search.Goals as goal

pub returns-then-not-may_go_on-clause-why : goal.returns-then-not-may_go_on-clause-why
returns-then-not-may_go_on-clause-why g c =
    let p = c.args.program.now.image in
    let over : c.goes_on-may_go_on.result ≡ false = first_of (search rules, grind (arith, common_steps)) in
    c.in_ok-found.ensures.why c.args.limits
    (has_stopped p c.args.version c.args.aim c.args.limits c.in_ok-stop.stop c.in_ok-stop.ensures.stops (sym c.goes_on-may_go_on.ensures ∙ over))
