use Rattle.std.proofs.Common.{◌≤◌, ◌∙◌, length, sym, arith}
use Rattle.sc_lockpass.proofs.Listings.{most_handlers-le}
use Rattle.sc_request.proofs.Sames.{nothing_kept}
use Rattle.sc_request.specs.Cores.{center_of}
use Rattle.sc_request.proofs.SameStates.{same_state}
use Rattle.sc_request.proofs.laws.same_at_each_is_same_state.Goals as goal

pub returns : goal.returns
returns c =
    let s = c.args.core.now.state in
    let t = c.args.other.now.state in
    let few : s.count ≤ 512 = omega (arith, s.some, most_handlers-le s.rights.version) in
    let its_few : t.count ≤ 512 = omega (arith, t.some, most_handlers-le t.rights.version) in
    let xs : length s.handlers.items ≤ 512 = omega (arith, s.handlers.ok.0, s.places) in
    let ns : length s.sessions.items ≤ 512 = omega (arith, s.sessions.ok.0, s.counts) in
    let ys : length t.handlers.items ≤ 512 = omega (arith, t.handlers.ok.0, t.places) in
    let ms : length t.sessions.items ≤ 512 = omega (arith, t.sessions.ok.0, t.counts) in
    same_state 512 (center_of c.args.core.now) (center_of c.args.other.now) few its_few
    (λ h past. nothing_kept s.handlers.items s.sessions.items h (omega (arith, xs, past)) (omega (arith, ns, past))
    ∙ sym (nothing_kept t.handlers.items t.sessions.items h (omega (arith, ys, past)) (omega (arith, ms, past))))
    (λ h past. c.reach.ensures.queue h (omega (arith, past, c.reach.ensures.most)) ∙ sym (c.reach-2.ensures.queue h (omega (arith, past, c.reach-2.ensures.most))))
    (λ h past. c.reach.ensures.top h (omega (arith, past, c.reach.ensures.most)) ∙ sym (c.reach-2.ensures.top h (omega (arith, past, c.reach-2.ensures.most))))
