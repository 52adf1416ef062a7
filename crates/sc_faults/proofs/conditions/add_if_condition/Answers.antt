use Rattle.std.proofs.Common.{map, List, subst}
use Rattle.sc_tree.specs.View.{expr_of}
use Rattle.sc_rules.specs.declared.position.Context.TheVariants as context
use Rattle.sc_rules.specs.declared.position.Position.TheVariants.{Condition}
use Rattle.sc_rules.specs.JudgingText.{judge_condition}
use Rattle.sc_typing.specs.declared.declarations.names.Entity.{Entity}
use Rattle.sc_typing.specs.Views.{routine_in, entity_of}
use Rattle.sc_typing.specs.Judges.{Passes}
use Rattle.sc_faults.proofs.conditions.add_if_condition.Goals as goal

pub returns : goal.returns
returns c =
    let h = routine_in c.args.routine.now in
    let e = expr_of c.args.condition.now in
    c.add_site.ensures (judge_condition h context.Body Condition (map entity_of c.args.names.now) e)
    (subst (λ (ns : List Entity). Passes (judge_condition h context.Body Condition (map entity_of ns) e) c.judge_if_condition-judged.result)
    c.in_ok-known.ensures.items c.judge_if_condition-judged.ensures.judged)
