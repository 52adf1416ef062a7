use Rattle.std.proofs.Common.{slice_index}
use Rattle.sc_handler.specs.InMemory.{handler_of}
use Rattle.sc_handler.proofs.ReadAlike.{asked_so, read_so, services_read}
use Rattle.sc_handler.proofs.same.read_alike.Goals as goal

pub returns-then-read_standing_alike : goal.returns-then-read_standing_alike
returns-then-read_standing_alike c =
    let S = slice_index c.args.sessions.now in
    let T = slice_index c.args.their_sessions.now in
    let x = handler_of c.args.a.now in
    let y = handler_of c.args.b.now in
    let own = services_read S c.args.a.now.services in
    let its = services_read T c.args.b.now.services in
    let standing = c.read_standing_alike.ensures.0 c.if-read_standing_alike.true in
    (λ e. read_so S T x y own its standing (c.same_requests.ensures.0 e), λ w. c.same_requests.ensures.1 (asked_so S T x y own its w))
