use Rattle.std.proofs.Common.{rules, ◌↔◌, IsTrue, All}
use Rattle.sc_formula.specs.Invariant.{Holds}
use Rattle.sc_formula.specs.Plain.{plain_formula}
use Rattle.sc_formula.proofs.Mapped.{iff_All-map}
use Rattle.sc_formula.proofs.formula.meets.Goals as goal

pub returns : goal.returns
returns c =
    let each : IsTrue c.all.result ↔ All (λ clause. Holds c.args.atoms.now (plain_formula clause)) c.args.clauses.now = search rules in
    iff_All-map (Holds c.args.atoms.now) plain_formula c.args.clauses.now each
