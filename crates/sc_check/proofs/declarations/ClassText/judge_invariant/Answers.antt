use Rattle.sc_typing.specs.Marks.{is_marked}
use Rattle.sc_typing.specs.Views.{routine_in}
use Rattle.sc_class.specs.SystemIn.{system_in}
use Rattle.sc_check.proofs.DeclarationSteps.{invariant_passes}
use Rattle.sc_check.proofs.declarations.ClassText.judge_invariant.Goals as goal

pub returns : goal.returns
returns c =
    invariant_passes (system_in c.args.self.now.tables.now) (is_marked c.args.self.now.purity.now) c.args.self.now.class c.args.clause.now
    c.may_be_formula-is_formula.result c.clause_span.result (routine_in c.context-routine.result) c.judge_clause-judged.result c.judge_form.result
    c.may_be_formula-is_formula.ensures c.clause_span.ensures c.context-routine.ensures c.judge_clause-judged.ensures c.judge_form.ensures
