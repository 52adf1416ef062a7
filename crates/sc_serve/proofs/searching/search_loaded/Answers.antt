use Rattle.sc_serve.proofs.searching.search_loaded.Goals as goal

-- what is told of the verdict, with the order that was found
pub returns-clause-answer : goal.returns-clause-answer
returns-clause-answer g c =
    record {
      verdict = c.in_ok-verdict.verdict;
      found = c.in_ok-verdict.ensures.found;
      first = rw c.aim_of-aim.ensures at c.in_ok-verdict.ensures.first;
      ends = c.in_ok-verdict.ensures.ends;
      whole = rw c.aim_of-aim.ensures at c.in_ok-verdict.ensures.whole;
      why = rw (c.aim_of-aim.ensures, c.limits_by-limits.ensures) at c.in_ok-verdict.ensures.why;
      memory = rw c.limits_by-limits.ensures at c.in_ok-verdict.ensures.memory;
      told = c.in_ok-text.ensures.text;
      status = c.exit_of-exit.ensures;
      kept = c.recording_of.ensures;
    }
