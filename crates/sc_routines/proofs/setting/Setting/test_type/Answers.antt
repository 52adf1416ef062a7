use Rattle.std.proofs.Common.{◌∙◌}
use Rattle.sc_tree.specs.View.{type_if_any}
use Rattle.sc_routines.proofs.Contexts.{test_type_here}
use Rattle.sc_routines.proofs.setting.Setting.test_type.Goals as goal

pub returns : goal.returns
returns c = c.test_type.ensures ∙ test_type_here c.args.self.now (type_if_any c.args.declared.now) c.args.tested
