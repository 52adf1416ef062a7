use Rattle.std.proofs.Common.{◌≡◌, sym, ◌∙◌, subst, OnOk}
use Rattle.sc_tree.specs.Internal.Printer.{output_of, put_lines}
use Rattle.sc_tree.proofs.PrintingInstructions.{else_lines-some}
use Rattle.sc_tree.proofs.print.Printer.other.Goals as goal

pub returns : goal.returns
returns c =
    subst (λ ls. OnOk c.word_line.result (output_of c.word_line.new.self ≡ put_lines (output_of c.args.self.now) ls))
    (sym (else_lines-some c.args.indent c.args.other.now (sym c.is_empty.ensures ∙ c.if-is_empty.false))) c.word_line.ensures
