use Rattle.std.proofs.Common.{◌+◌, ◌∙◌, sym, ap}
use Rattle.std.specs.Prelude.{◌-◌}
use Rattle.sc_request.specs.Places.{center_at}
use Rattle.sc_request.specs.Logs.{first_with_job, numbers_from}
use Rattle.sc_request.proofs.Rounds.{any_last, number_of, number_found, number_rest}
use Rattle.sc_request.proofs.state.State.first_round.Goals as goal

pub returns-in-Some-clause-found : goal.returns-in-Some-clause-found
returns-in-Some-clause-found c =
    let s = center_at c.args.last c.args.self.now in
    number_found s _ (c.in-Some.ensures.found ∙ ap number_of (any_last (numbers_from (c.args.last + 1) (s.state.count - (c.args.last + 1))) s 0))

pub returns-in-None-clause-found : goal.returns-in-None-clause-found
returns-in-None-clause-found c =
    let s = center_at c.args.last c.args.self.now in
    number_rest s _
    (sym c.in-None.is ∙ c.first_in.ensures.found ∙ ap number_of (any_last (numbers_from (c.args.last + 1) (s.state.count - (c.args.last + 1))) s 0))
    (c.first_in-in-None.ensures.found
    ∙ ap number_of (any_last (numbers_from 0 (c.min.result - 0)) s 0)
    ∙ ap (λ n. number_of (first_with_job (numbers_from 0 (n - 0)) s)) c.min.ensures)
