use Rattle.std.proofs.Common.{map, refl, ap, ◌∙◌}
use Rattle.sc_tree.specs.View.{declaration_of}
use Rattle.sc_class.specs.SystemIn.{system_in}
use Rattle.sc_typing.specs.Views.{entity_of}
use Rattle.sc_model.specs.Environments.{locals_bound, scope_of}
use Rattle.sc_routines.proofs.Given.{first_left}
use Rattle.sc_routines.proofs.routine.body.lower_body.Goals as goal

pub returns-clause-names : goal.returns-clause-names
returns-clause-names c =
    ap (map entity_of) c.truncate.ensures.items
    ∙ first_left (map entity_of c.args.names.now.items) c.args.names.now.items c.lower_instructions.new.names.items c.len-formals.result refl
    (record {
      more = scope_of (locals_bound (system_in c.args.setting.now.context.tables.now) (map declaration_of c.args.setting.now.context.formals.now) (map declaration_of c.args.locals.now));
      is = c.in_ok-needs.ensures.names ∙ c.in_ok-lower_locals.ensures.names;
    })
    (c.len-formals.ensures ∙ c.args.names.now.ok.0)
