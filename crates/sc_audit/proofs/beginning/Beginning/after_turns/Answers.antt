use Rattle.std.proofs.Common.{◌≡◌, ◌+◌, ◌-◌, ◌*◌, ◌<◌, ◌≤◌, arith, refl, sym, ap, ◌∙◌}
use Rattle.sc_audit.proofs.StepLemmas.{not-digit, turns-goes, turns-misfit}
use Rattle.sc_audit.proofs.beginning.Beginning.after_turns.Goals as goal

pub returns-then-not-is_ascii_digit : goal.returns-then-not-is_ascii_digit
returns-then-not-is_ascii_digit c = turns-misfit c.args.self.now c.args.handler c.args.number c.args.byte c.requires.kept c.requires.at c.requires.goes_on
    (λ digit fits. not-digit c.args.byte c.if-not-is_ascii_digit.ensures.cases digit)

pub returns-then-number-self : goal.returns-then-number-self
returns-then-number-self c = turns-goes c.args.self.now c.args.handler c.args.number _ c.args.byte c.requires.kept c.requires.at
    c.if-not-is_ascii_digit.ensures.cases (omega arith) (omega (arith, c.requires.kept.total))

pub returns-else-number-self : goal.returns-else-number-self
returns-else-number-self c = turns-misfit c.args.self.now c.args.handler c.args.number c.args.byte c.requires.kept c.requires.at c.requires.goes_on
    (λ digit fits. omega (arith, digit, fits, c.requires.kept.total, c.requires.kept.limits.short))
