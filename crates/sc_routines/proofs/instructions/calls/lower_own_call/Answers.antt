use Rattle.std.proofs.Common.{[], length, map, refl}
use Rattle.sc_tree.specs.View.{name_of}
use Rattle.sc_tree.specs.Properties.{is_print}
use Rattle.sc_typing.specs.Views.{entity_of}
use Rattle.sc_routines.specs.Settings.{setting_in}
use Rattle.sc_routines.proofs.InstructionCalls.{own_call}
use Rattle.sc_routines.proofs.instructions.calls.lower_own_call.Goals as goal

pub returns-clause-code : goal.returns-clause-code
returns-clause-code c =
    own_call (setting_in c.args.setting.now) (map entity_of c.args.names.now.items) (name_of c.args.name.now).text c.args.actuals.now (length c.args.actuals.now) c.in_ok-lowered.lowered.types.items c.deref.result.now
    c.args.code.now c.lower_actuals.new.code c.push_own_call.new.code [] refl c.in_ok-lowered.ensures.types c.deref.ensures.value
    (is_print (name_of c.args.name.now).text) c.in_ok-lowered.ensures.code c.in_ok-push_own_call.ensures
