use Rattle.std.proofs.Common.{ap, sym, ◌∙◌}
use Rattle.sc_request.specs.Logs.{pick_for}
use Rattle.sc_search.proofs.following.comes_next.Goals as goal

pub follows_at_once-requires-clause-due : goal.follows_at_once-requires-clause-due
follows_at_once-requires-clause-due c = ap (pick_for c.args.handler) (sym c.core.ensures.center) ∙ c.in-Some.ensures.due
