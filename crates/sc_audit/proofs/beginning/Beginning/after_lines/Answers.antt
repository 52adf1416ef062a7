use Rattle.std.proofs.Common.{arith}
use Rattle.sc_audit.proofs.StepLemmas.{lines-goes, lines-misfit, not-digit}
use Rattle.sc_audit.proofs.beginning.Beginning.after_lines.Goals as goal
use Rattle.sc_audit.proofs.beginning.Beginning.after_lines.Goals.{then-not-is_ascii_digit-via-then-not-is_ascii_digit, then-not-is_ascii_digit-via-else-not-is_ascii_digit+then-len-ge-MOST_LINES, then-not-is_ascii_digit-via-else-not-is_ascii_digit+else-len-ge-MOST_LINES+then-self-ge-MOST_TURNS}

pub returns-then-not-is_ascii_digit : goal.returns-then-not-is_ascii_digit
returns-then-not-is_ascii_digit c = lines-misfit c.args.self.now c.args.byte c.requires.kept c.requires.at c.if-byte-eq101.false
    (λ digit room. elim c.then-not-is_ascii_digit.branch [
      | then-not-is_ascii_digit-via-then-not-is_ascii_digit w ↦ not-digit c.args.byte w.if-not-is_ascii_digit.ensures.cases digit
      | then-not-is_ascii_digit-via-else-not-is_ascii_digit+then-len-ge-MOST_LINES w ↦ omega (arith, room.0)
      | then-not-is_ascii_digit-via-else-not-is_ascii_digit+else-len-ge-MOST_LINES+then-self-ge-MOST_TURNS w ↦
          omega (arith, room.1, c.requires.kept.total)
    ])

pub returns : goal.returns
returns c = lines-goes c.args.self.now _ c.args.byte c.requires.kept c.requires.at
    (omega arith, omega (arith, c.requires.kept.total)) c.if-not-is_ascii_digit.ensures.cases c.from-number.ensures
