use Rattle.std.proofs.Common.{ℕ, sym, subst}
use Rattle.sc_audit.specs.Faults.{IsAtFault}
use Rattle.sc_audit.specs.Internal.Steps.{read_of}
use Rattle.sc_audit.proofs.FaultLemmas.{end-fault}
use Rattle.sc_audit.proofs.beginning.Beginning.end.Goals as goal

pub returns : goal.returns
returns c =
    let P : ℕ → Type 0 = λ line. IsAtFault (read_of c.args.self) line in
    subst P (sym c.line.ensures)
    (end-fault c.args.self.version c.args.self.lines.items c.args.self.expected c.requires.limits c.requires.open_end c.in_default.not-Nothing)
