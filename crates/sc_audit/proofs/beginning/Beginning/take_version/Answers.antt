use Rattle.std.proofs.Common.{◌≡◌, ◌+◌, ◌-◌, ◌*◌, ◌<◌, ◌≤◌, arith, refl, sym, ap, ◌∙◌}
use Rattle.sc_audit.specs.Records.{version_number}
use Rattle.sc_audit.proofs.StepLemmas.{line-one, version-byte, version-goes, version-misfit}
use Rattle.sc_audit.proofs.beginning.Beginning.take_version.Goals as goal
use Rattle.sc_audit.proofs.beginning.Beginning.take_version.Goals.{in-49, in-50}

pub returns-in_default : goal.returns-in_default
returns-in_default c = (line-one c.args.self.now c.requires.at, version-misfit c.args.self.now c.args.byte c.requires.at (λ e. omega arith) (λ e. omega arith))

pub returns : goal.returns
returns c = version-goes c.args.self.now _ c.args.byte c.requires.kept c.requires.at refl refl refl
    (elim c.match-byte.branch [ in-49 w ↦ version-byte 1 c.match-byte.self c.args.byte (ap (λ v. version_number v) w.self-is) w.in-49.is (omega arith) | in-50 w ↦ version-byte 2 c.match-byte.self c.args.byte (ap (λ v. version_number v) w.self-is) w.in-50.is (omega arith) ])
