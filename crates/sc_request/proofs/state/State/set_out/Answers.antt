use Rattle.std.proofs.Common.{◌∙◌, sym, refl, length, arith}
use Rattle.std.proofs.lemmas.Option.{slice_get_read}
use Rattle.std.specs.Prelude.{slice_index}
use Rattle.sc_request.specs.Places.{plain}
use Rattle.sc_request.proofs.Outs.{stands_otherwise, stands_out}
use Rattle.sc_request.proofs.state.State.set_out.Goals as goal

pub returns-else-is_reserving-clause-handlers : goal.returns-else-is_reserving-clause-handlers
returns-else-is_reserving-clause-handlers c = λ x e.
    let s = c.args.self.now in
    let xs = s.handlers.items in
    let h = c.args.handler in
    let y = c.index_mut.result.now in
    let below = c.requires in
    let own = s.handlers.ok.0 in
    let all = s.places in
    let there = slice_get_read xs (length xs) h y refl (omega (arith, below, own, all)) c.index_mut.ensures.value in
    let otherwise = stands_otherwise xs s.sessions.items h y there (sym c.is_reserving.ensures ∙ c.if-is_reserving.false) in
    stands_out xs s.sessions.items h x y c.set_own.new.self (plain s) e there (c.set_own.ensures (slice_index s.sessions.items h) h (plain s) otherwise)
