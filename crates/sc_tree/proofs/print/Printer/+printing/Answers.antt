use Rattle.std.proofs.Common.{◌≡◌, ap, sym, ◌∙◌, subst, OnOk, arith}
use Rattle.sc_tree.specs.Canonical.Expressions.{expr_parts, actuals_parts}
use Rattle.sc_text.specs.declared.token.Terminal.TheVariants as terminal
use Rattle.std.specs.Prelude.{Ok, Err}
use Rattle.sc_tree.specs.Canonical.Layout.{word}
use Rattle.sc_tree.specs.Internal.Printer.{output_of, put, puts}
use Rattle.sc_tree.specs.View.{expr_of, exprs_of}
use Rattle.sc_tree.proofs.PrintingLines.{expr_parts-call, more_actuals_more, actuals_done}
use Rattle.sc_tree.proofs.print.Printer.+printing.Goals as goal

pub expr-returns-in-Call : goal.expr-returns-in-Call
expr-returns-in-Call t c =
    subst (λ ps. OnOk c.call.result (output_of c.call.new.self ≡ puts (output_of c.args.self.now) ps))
    (expr_parts-call c.in-Call.call ∙ ap (λ e. expr_parts (expr_of e)) (sym c.in-Call.is)) c.call.ensures

pub actuals-loop-actual-preserved : goal.actuals-loop-actual-preserved
actuals-loop-actual-preserved t c =
    more_actuals_more _ c.loop-actual.actual-index c.actual-item.result _ _ _ _ (omega arith) c.actual-item.is c.in_ok-word-2.ensures c.in_ok-expr-2.ensures c.loop-actual.invariant

pub actuals-returns : goal.actuals-returns
actuals-returns t c =
    elim c.word-2.result as (λ r. OnOk r (output_of c.word-2.new.self ≡ put (output_of c.loop-actual.self) (word terminal.CloseParenthesis)) → OnOk r (output_of c.word-2.new.self ≡ puts (output_of c.args.self.now) (actuals_parts (exprs_of c.args.actuals.now)))) [
      | Ok u ↦ λ e. actuals_done c.args.actuals.now c.first-item.result c.loop-actual.actual-index _ _ _ _ _ c.in-len1-up.len_at_least c.first-item.is (omega arith) c.in_ok-word.ensures c.in_ok-expr.ensures c.loop-actual.invariant e
      | Err x ↦ λ e. tt
    ] c.word-2.ensures
