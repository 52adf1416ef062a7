use Rattle.std.proofs.Common.{None, refl}
use Rattle.sc_explain_refusal.specs.declared.diagnosis.Diagnosis.{Diagnosis}
use Rattle.sc_language_server.proofs.RefusalCodes.{no_code}
use Rattle.sc_language_server.specs.declared.findings.Finding.{Finding}
use Rattle.sc_language_server.proofs.findings.push_warning.Goals as goal

pub returns-clause-codes : goal.returns-clause-codes
returns-clause-codes c =
    let said : Diagnosis = record { lines = c.in_ok-lines.lines; related = None; edit = None } in
    let finding : Finding = record { place = c.place_of.result; code = None; diagnosis = said } in
    rw c.in_ok-push.ensures.items (no_code c.args.findings.now.items finding refl)
