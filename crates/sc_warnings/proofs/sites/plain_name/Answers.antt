use Rattle.std.proofs.Common.{◌∙◌}
use Rattle.sc_warnings.proofs.Cases.{call_name}
use Rattle.sc_warnings.proofs.sites.plain_name.Goals as goal

pub returns-in-Call : goal.returns-in-Call
returns-in-Call c = c.plain_call.ensures ∙ call_name c.args.e.now c.in-Call.call c.in-Call.is
