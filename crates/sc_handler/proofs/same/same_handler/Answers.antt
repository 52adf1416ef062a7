use Rattle.std.proofs.Common.{refl}
use Rattle.sc_handler.specs.InMemory.{handler_of}
use Rattle.sc_handler.proofs.Sames.{asked_same, same_alike}
use Rattle.sc_handler.proofs.same.same_handler.Goals as goal

pub returns-then-same_standing : goal.returns-then-same_standing
returns-then-same_standing c =
    let x = handler_of c.args.a.now in
    let y = handler_of c.args.b.now in
    let standing = c.same_standing.ensures.0 c.if-same_standing.true in
    (λ e. same_alike x y standing (c.same_requests.ensures.0 e) refl, λ w. c.same_requests.ensures.1 (asked_same x y w))
