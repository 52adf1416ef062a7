use Rattle.std.proofs.Common.{map, ap, ◌∙◌}
use Rattle.sc_tree.specs.View.{expr_of, variable_of}
use Rattle.sc_typing.specs.Views.{entity_of}
use Rattle.sc_routines.specs.Settings.{setting_in}
use Rattle.sc_routines.proofs.Creations.{assigned}
use Rattle.sc_routines.proofs.instructions.assignment.lower_assignment.Goals as goal

pub returns-clause-code : goal.returns-clause-code
returns-clause-code c =
    assigned (setting_in c.args.setting.now) (map entity_of c.args.names.now.items) (map entity_of c.deref.result.now) (variable_of c.args.variable.now)
    c.args.code.now c.lower_expr.new.code c.push_store.new.code c.push_store.new.code (ap (map entity_of) c.deref.ensures.value ∙ c.in_ok-value.ensures.names) (expr_of c.args.value.now)
    c.in_ok-value.ensures.code c.in_ok-push_store.ensures
