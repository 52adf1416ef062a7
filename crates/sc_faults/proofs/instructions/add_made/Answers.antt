use Rattle.std.proofs.Common.{List, length, map, ap, sym, ◌∙◌}
use Rattle.sc_tree.specs.declared.expression.Expr.{Expr}
use Rattle.sc_class.specs.SystemIn.{system_in}
use Rattle.sc_typing.specs.Views.{routine_in, entity_of, meaning_in}
use Rattle.sc_faults.proofs.ExpressionSteps.{made_steps}
use Rattle.sc_faults.proofs.instructions.add_made.Goals as goal

pub returns : goal.returns
returns c =
    made_steps (routine_in c.args.routine.now) (map entity_of c.args.names.now) c.args.span c.args.created c.args.call.now c.deref.result.now
    (meaning_in (system_in c.args.routine.now.tables.now) c.creation_meaning-meaning.result) c.len-actuals.result c.judge_created_tag.result
    c.judge_made-judged.result c.add_alone-2.result c.args.faults.now.items c.add_alone.new.faults.items c.add_arguments.new.faults.items
    c.add_alone-2.new.faults.items c.creation_meaning-meaning.ensures c.deref.ensures.value
    (c.len-actuals.ensures ∙ sym c.deref.ensures.len ∙ ap (λ (es : List Expr). length es) c.deref.ensures.value) c.judge_created_tag.ensures
    c.in_ok-add_alone.ensures c.in_ok-add_arguments.ensures c.judge_made-judged.ensures c.add_alone-2.ensures
