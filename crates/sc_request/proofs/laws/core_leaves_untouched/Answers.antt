use Rattle.sc_request.proofs.Untouched.{leaves_untouched}
use Rattle.sc_request.proofs.laws.core_leaves_untouched.Goals as goal

pub returns : goal.returns
returns c = leaves_untouched
