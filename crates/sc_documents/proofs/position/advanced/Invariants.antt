use Rattle.std.proofs.Common.{◌≤◌, length, ◌+◌, ◌*◌}
use Rattle.sc_documents.specs.Positions as spec
use Rattle.sc_documents.proofs.Steps.{IsCounted}
use Rattle.sc_documents.proofs.position.advanced.Given as goal

abbrev pub invariant-loop-rest : goal.invariant-loop-rest
invariant-loop-rest l = record {
  counted : IsCounted (spec.advanced l.fn.from l.text l.count).line (spec.advanced l.fn.from l.text l.count).character l.line l.character l.left l.rest;
  lines : l.line + length l.rest ≤ l.fn.from.line + length l.text;
  characters : l.character + 2 * length l.rest ≤ l.fn.from.character + 2 * length l.text;
}

abbrev pub decreases-loop-rest : goal.decreases-loop-rest
decreases-loop-rest l = length l.rest
