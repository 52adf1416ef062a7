use Rattle.std.proofs.Common.{sym, ap, ◌∙◌, length, take}
use Rattle.sc_handler.proofs.Places.{both_lie_there}
use Rattle.sc_handler.proofs.sharing.lie_at.Goals as goal

pub returns-then-same_values-clause-there : goal.returns-then-same_values-clause-there
returns-then-same_values-clause-there c = λ e.
    both_lie_there c.args.all.now c.args.values.now c.args.others.now c.args.place
    (sym c.split_at.ensures.front ∙ c.same_values.ensures.0 c.if-same_values.true)
    (ap (take (length c.args.others.now)) (sym c.split_at.ensures.back) ∙ c.same_values-then-same_values.ensures.0 e)
