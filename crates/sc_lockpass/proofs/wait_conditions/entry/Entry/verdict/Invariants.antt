use Rattle.std.proofs.Common.{◌≡◌, drop}
use Rattle.sc_lockpass.specs.wait_conditions.Conditions as conditions
use Rattle.sc_lockpass.proofs.wait_conditions.entry.Entry.verdict.Given as goal

abbrev pub invariant-loop-clause : goal.invariant-loop-clause
invariant-loop-clause l = conditions.verdict (drop l.clause-index l.results) ≡ conditions.verdict l.results
