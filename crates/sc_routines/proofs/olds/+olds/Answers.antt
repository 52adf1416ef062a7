use Rattle.std.proofs.Common.{◌≡◌, ◌++◌, OnOk, ap, sym, subst, ◌∙◌}
use Rattle.sc_tree.specs.Plain.{Expr}
use Rattle.sc_tree.specs.View.{expr_of}
use Rattle.sc_tree.proofs.ViewLemmas.{expr_of-call}
use Rattle.sc_model.specs.Olds.{olds_of}
use Rattle.sc_routines.specs.Settings.{operands_of}
use Rattle.sc_routines.proofs.olds.+olds.Goals as goal

pub add_olds-returns-in-Call : goal.add_olds-returns-in-Call
add_olds-returns-in-Call t c =
    subst (λ (x : Expr). OnOk c.add_olds_of_call.result (operands_of c.add_olds_of_call.new.olds.items ≡ operands_of c.args.olds.now.items ++ olds_of x))
    (sym (ap expr_of c.in-Call.is ∙ expr_of-call c.in-Call.call)) c.add_olds_of_call.ensures
