use Rattle.std.proofs.Common.{refl, ◌∙◌}
use Rattle.sc_tree.specs.View.{expr_of}
use Rattle.sc_routines.specs.Settings.{setting_in}
use Rattle.sc_routines.proofs.Given.{forgotten_in}
use Rattle.sc_routines.proofs.setting.Setting.lower_expr.Goals as goal

pub returns-clause-names : goal.returns-clause-names
returns-clause-names c =
    let first = c.args.names.now.items in
    forgotten_in (setting_in c.args.self.now) c.args.olds (expr_of c.args.e.now) first first c.lower_condition.new.names.items c.truncate.new.self.items c.len-count.result refl
    c.in_ok-lowered.ensures.names (c.len-count.ensures ∙ c.args.names.now.ok.0) c.truncate.ensures.items
