use Rattle.std.proofs.Common.{◌≡◌, ◌+◌, ◌-◌, ◌*◌, ◌<◌, ◌≤◌, arith, refl, sym, ap, ◌∙◌}
use Rattle.sc_audit.proofs.StepLemmas.{handler-goes, handler-misfit, not-digit}
use Rattle.sc_audit.proofs.beginning.Beginning.after_handler.Goals as goal
use Rattle.sc_audit.proofs.beginning.Beginning.after_handler.Goals.{then-number-eq0-via-then-number-eq0, then-number-eq0-via-else-number-eq0+then-not-is_ascii_digit}

pub returns-then-number-eq0 : goal.returns-then-number-eq0
returns-then-number-eq0 c = handler-misfit c.args.self.now c.args.number c.args.byte c.requires.kept c.requires.at c.if-byte-eq32.false
    (λ digit some fits. elim c.then-number-eq0.branch [
      | then-number-eq0-via-then-number-eq0 w ↦ omega (arith, some)
      | then-number-eq0-via-else-number-eq0+then-not-is_ascii_digit w ↦ not-digit c.args.byte w.if-not-is_ascii_digit.ensures.cases digit
    ])

pub returns-then-number-from : goal.returns-then-number-from
returns-then-number-from c = handler-goes c.args.self.now c.args.number _ c.args.byte c.requires.kept c.requires.at
    c.if-not-is_ascii_digit.ensures.cases (omega arith) (omega arith) (omega arith)

pub returns-else-number-from : goal.returns-else-number-from
returns-else-number-from c = handler-misfit c.args.self.now c.args.number c.args.byte c.requires.kept c.requires.at c.if-byte-eq32.false
    (λ digit some fits. omega (arith, digit, fits))
