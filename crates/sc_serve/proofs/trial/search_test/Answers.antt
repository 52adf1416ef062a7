use Rattle.std.proofs.Common.{◌∙◌, sym}
use Rattle.sc_serve.proofs.trial.search_test.Goals as goal

-- how the test came out by the verdict, with the order that was found
pub returns : goal.returns
returns g c =
    record {
      verdict = c.in_ok-verdict.verdict;
      found = c.in_ok-verdict.ensures.found;
      first = c.in_ok-verdict.ensures.first;
      whole = c.in_ok-verdict.ensures.whole;
      why = rw c.limits_by.ensures at c.in_ok-verdict.ensures.why;
      had_memory = sym c.lacks_memory.ensures ∙ c.if-lacks_memory.false;
      judged = c.outcome_of.ensures;
      kept = c.order_of.ensures;
    }
