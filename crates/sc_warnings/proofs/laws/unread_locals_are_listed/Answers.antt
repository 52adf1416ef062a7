use Rattle.sc_warnings.proofs.Listed.{of_system, unread_warned}
use Rattle.sc_warnings.proofs.laws.unread_locals_are_listed.Goals as goal

pub returns : goal.returns
returns c = λ s w u. (of_system w u s, unread_warned s w)
