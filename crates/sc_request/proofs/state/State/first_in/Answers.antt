use Rattle.std.proofs.Common.{◌∙◌, ap, sym, arith}
use Rattle.sc_request.specs.Places.{center_at}
use Rattle.sc_request.proofs.Rounds.{number_of, none_left, none_of, passed_over, some_there}
use Rattle.sc_request.proofs.state.State.first_in.Goals as goal

pub returns-in_err-handler-clause-found : goal.returns-in_err-handler-clause-found
returns-in_err-handler-clause-found c =
    let l = c.loop-turn in
    c.from_residual.ensures
    ∙ sym (ap number_of (l.invariant.first
    ∙ none_left l.candidates.words (center_at 0 c.args.self.now) l.at c.args.to l.invariant.tried (c.next_in.ensures.none c.in_err-handler.was)))

pub returns-then-has_job-clause-found : goal.returns-then-has_job-clause-found
returns-then-has_job-clause-found c =
    let l = c.loop-turn in
    sym (ap number_of l.invariant.first ∙ some_there l.candidates.words (center_at 0 c.args.self.now) l.at c.args.to _ l.invariant.tried c.in_ok-handler.ensures.first
    (sym c.has_job.ensures ∙ c.if-has_job.true))

pub pass_over-requires-clause-idle : goal.pass_over-requires-clause-idle
pass_over-requires-clause-idle c = sym c.has_job.ensures ∙ c.if-has_job.false

pub loop-turn-preserved : goal.loop-turn-preserved
loop-turn-preserved c =
    let l = c.loop-turn in
    let s = center_at 0 c.args.self.now in
    let is = c.in_ok-handler.ensures.first in
    let start = is.start in
    let none = none_of _ s (sym c.has_job.ensures ∙ c.if-has_job.false) in
    record {
      ahead = omega (arith, start, l.invariant.ahead);
      first = l.invariant.first ∙ passed_over l.candidates.words s l.at c.args.to _ l.invariant.tried is none;
      tried = c.pass_over.ensures.candidates;
      crowds = c.pass_over.ensures.crowds;
    }
