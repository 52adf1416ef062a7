use Rattle.sc_tree.specs.View.{system_of}
use Rattle.sc_frontend.proofs.TextLemmas.{ok-map}
use Rattle.sc_frontend.proofs.texts.check_parts.Goals as goal

pub returns-clause-listed : goal.returns-clause-listed
returns-clause-listed c = record { system = system_of c.in_ok-system.system; read = c.in_ok-system.ensures.read; whole = c.in_ok-answer.ensures }
