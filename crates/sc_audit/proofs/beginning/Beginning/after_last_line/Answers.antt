use Rattle.std.proofs.Common.{arith, ℕ, ◌≡◌, ◌+◌, ◌≤◌, ◌∙◌, List, length, get_or, ap, sym, subst}
use Rattle.sc_audit.specs.Records.{last_line}
use Rattle.sc_audit.proofs.StepLemmas.{last-ends, last-misfit, made-line}
use Rattle.sc_audit.proofs.beginning.Beginning.after_last_line.Goals as goal

pub returns-then-line-read : goal.returns-then-line-read
returns-then-line-read c = last-misfit c.args.self.now c.args.read c.args.byte c.requires.kept c.requires.at
    (λ own.
    let line : c.as_slice-line.result.now ≡ last_line (length c.args.self.now.lines.items) =
    c.as_slice-line.ensures.value ∙ made-line c.args.self.now.lines.items _ _ _ c.new-line.ensures c.push_last_line.ensures (omega arith) in
    c.if-line-read.true (ap (λ bs. get_or bs c.args.read 0) line ∙ sym own))

pub returns-else-read-line : goal.returns-else-read-line
returns-else-read-line c =
    let line : c.as_slice-line.result.now ≡ last_line (length c.args.self.now.lines.items) =
    c.as_slice-line.ensures.value ∙ made-line c.args.self.now.lines.items _ _ _ c.new-line.ensures c.push_last_line.ensures (omega arith) in
    let P : List ℕ → Type 0 = λ bs. length bs ≤ c.args.read + 1 in
    last-ends c.args.self.now c.args.read c.args.byte c.requires.kept c.requires.at
    (sym c.if-line-read.false ∙ ap (λ bs. get_or bs c.args.read 0) line) (subst P line c.if-read-line.false)
