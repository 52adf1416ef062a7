use Rattle.std.proofs.Common.{map}
use Rattle.sc_tree.specs.View.{expr_of}
use Rattle.sc_rules.specs.declared.position.Position.TheVariants.{Plain}
use Rattle.sc_rules.specs.JudgingText.{judge_condition}
use Rattle.sc_typing.specs.Views.{routine_in, entity_of}
use Rattle.sc_faults.proofs.conditions.add_condition.Goals as goal

pub returns : goal.returns
returns c =
    c.add_site.ensures (judge_condition (routine_in c.args.routine.now) c.args.context Plain (map entity_of c.args.names.now)
    (expr_of c.args.condition.now)) c.judge_condition-judged.ensures
