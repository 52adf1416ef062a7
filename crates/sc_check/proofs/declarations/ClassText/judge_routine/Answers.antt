use Rattle.sc_typing.specs.Marks.{is_marked}
use Rattle.sc_typing.specs.Views.{routine_in}
use Rattle.sc_class.specs.SystemIn.{system_in}
use Rattle.sc_check.proofs.DeclarationSteps.{routine_passes}
use Rattle.sc_check.proofs.declarations.ClassText.judge_routine.Goals as goal

pub returns : goal.returns
returns c =
    routine_passes (system_in c.args.self.now.tables.now) (is_marked c.args.self.now.purity.now) c.args.self.now.class c.args.declared.now (routine_in c.context-routine.result)
    c.deref.result.now c.deref-2.result.now c.deref-3.result.now c.deref-5.result.now c.deref-4.result.now c.deref-7.result.now c.deref-6.result.now
    c.deref.ensures.value c.deref-2.ensures.value c.deref-3.ensures.value
    c.deref-4.ensures.value c.deref-5.ensures.value c.deref-6.ensures.value c.deref-7.ensures.value
    c.in_ok-judge_declarations.ensures c.in_ok-judge_result_type.ensures c.context-routine.ensures c.judge_text.result c.judge_text.ensures
