use Rattle.std.proofs.Common.{◌∙◌, ap}
use Rattle.std.specs.Prelude.{is_some}
use Rattle.sc_request.specs.Cores.{center_of}
use Rattle.sc_request.specs.Logs.{next}
use Rattle.sc_request.proofs.Rounds.{some_numbered}
use Rattle.sc_request.proofs.center.Core.has_next.Goals as goal

pub returns-clause-next : goal.returns-clause-next
returns-clause-next c = c.is_some.ensures ∙ ap is_some c.first_round-found.ensures.found ∙ some_numbered (next (center_of c.args.self.now))

pub returns-clause-room : goal.returns-clause-room
returns-clause-room c = λ n r. record { places = r.places; entries = r.entries; packed = r.packed; values = r.values; packed_numbers = r.packed_numbers; value_numbers = r.value_numbers }
