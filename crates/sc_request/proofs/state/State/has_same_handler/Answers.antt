use Rattle.std.proofs.Common.{◌∙◌, ◌≤◌, length, refl, sym, arith}
use Rattle.std.proofs.lemmas.Option.{slice_get_read}
use Rattle.sc_request.proofs.Sames.{nothing_kept, same_count, same_kept}
use Rattle.sc_request.proofs.state.State.has_same_handler.Goals as goal

pub returns-then-place-ge512 : goal.returns-then-place-ge512
returns-then-place-ge512 c =
    let s = c.args.self.now in
    let t = c.args.other.now in
    let h = c.args.handler in
    let past = c.if-place-ge512.true in
    let all : (length s.handlers.items ≤ h) × (length s.sessions.items ≤ h) =
    (omega (arith, past, s.handlers.ok.0, s.places), omega (arith, past, s.sessions.ok.0, s.counts)) in
    let its_all : (length t.handlers.items ≤ h) × (length t.sessions.items ≤ h) =
    (omega (arith, past, t.handlers.ok.0, t.places), omega (arith, past, t.sessions.ok.0, t.counts)) in
    (λ e. nothing_kept s.handlers.items s.sessions.items h all.0 all.1 ∙ sym (nothing_kept t.handlers.items t.sessions.items h its_all.0 its_all.1), λ w. refl)

pub returns-then-index : goal.returns-then-index
returns-then-index c =
    let s = c.args.self.now in
    let t = c.args.other.now in
    let h = c.args.handler in
    let x = c.index-then-index.result.now in
    let y = c.index-then-index-2.result.now in
    let below = c.if-place-ge512.false in
    let there = slice_get_read s.handlers.items (length s.handlers.items) h x refl (omega (arith, below, s.handlers.ok.0, s.places)) c.index-then-index.ensures in
    let its_there = slice_get_read t.handlers.items (length t.handlers.items) h y refl (omega (arith, below, t.handlers.ok.0, t.places)) c.index-then-index-2.ensures in
    let count = same_count s.sessions.items t.sessions.items h c.index.result.now c.index-2.result.now (omega (arith, below, s.sessions.ok.0, s.counts))
    (omega (arith, below, t.sessions.ok.0, t.counts)) c.index.ensures c.index-2.ensures c.if-index.true in
    same_kept s.handlers.items t.handlers.items s.sessions.items t.sessions.items h x y c.same_handler.result there its_there count c.same_handler.ensures
