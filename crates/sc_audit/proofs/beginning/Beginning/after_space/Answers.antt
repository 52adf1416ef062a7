use Rattle.std.proofs.Common.{◌≡◌, ◌+◌, ◌-◌, ◌*◌, ◌<◌, ◌≤◌, arith, refl, sym, ap, ◌∙◌}
use Rattle.sc_audit.proofs.StepLemmas.{space-goes, space-misfit}
use Rattle.sc_audit.proofs.beginning.Beginning.after_space.Goals as goal
use Rattle.sc_audit.proofs.beginning.Beginning.after_space.Goals.{then-byte-lt-FIRST_DIGIT-via-then-byte-lt-FIRST_DIGIT, then-byte-lt-FIRST_DIGIT-via-else-byte-lt-FIRST_DIGIT+then-byte-gt57}

pub returns-then-byte-lt-FIRST_DIGIT : goal.returns-then-byte-lt-FIRST_DIGIT
returns-then-byte-lt-FIRST_DIGIT c = space-misfit c.args.self.now c.args.handler c.args.byte c.requires.kept c.requires.at
    (λ digit above fits. elim c.then-byte-lt-FIRST_DIGIT.branch [
      | then-byte-lt-FIRST_DIGIT-via-then-byte-lt-FIRST_DIGIT w ↦ omega (arith, digit, above)
      | then-byte-lt-FIRST_DIGIT-via-else-byte-lt-FIRST_DIGIT+then-byte-gt57 w ↦ omega (arith, digit, above)
    ])

pub returns-then-number-self : goal.returns-then-number-self
returns-then-number-self c = space-goes c.args.self.now c.args.handler c.from-number.result c.args.byte c.requires.kept c.requires.at
    (omega arith, omega arith) (omega arith) (omega arith) (omega (arith, c.requires.kept.total))

pub returns-else-number-self : goal.returns-else-number-self
returns-else-number-self c = space-misfit c.args.self.now c.args.handler c.args.byte c.requires.kept c.requires.at
    (λ digit above fits. omega (arith, digit, above, fits, c.requires.kept.total, c.requires.kept.limits.short))
