use Rattle.std.proofs.Common.{◌≡◌, ◌∙◌, ◌↔◌, IsTrue, List, ℕ, ap, length, refl, subst, arith}
use Rattle.std.proofs.lemmas.Option.{slice_get_read}
use Rattle.std.specs.Prelude.{slice_index}
use Rattle.sc_handler.specs.Canonical.{canon_handler}
use Rattle.sc_handler.specs.InMemory.{handler_of}
use Rattle.sc_request.specs.Parts.{none_ended}
use Rattle.sc_request.proofs.ReadParts.{other_part, same_part}
use Rattle.sc_request.proofs.center.Core.is_part.Goals as goal

pub returns-then-read_alike : goal.returns-then-read_alike
returns-then-read_alike c =
    let s = c.args.self.now in
    let xs = s.state.handlers.items in
    let x = c.index-place.result.now in
    let p = c.args.part.now in
    let own = s.state.handlers.ok.0 in
    let all = s.state.places in
    let e = slice_get_read xs (length xs) c.args.handler x refl (omega (arith, c.requires, own, all)) c.index-place.ensures in
    let same : canon_handler none_ended (handler_of p.handler) ≡ canon_handler (slice_index s.state.sessions.items) (handler_of x) =
    c.read_alike.ensures.0 c.if-read_alike.true ∙ ap (λ (zs : List ℕ). canon_handler (slice_index zs) (handler_of x)) c.deref.ensures.value in
    same_part s.state.count xs s.state.sessions.items s.state.rights c.args.handler c.same_holders.result p x c.holders_of.result e same c.holders_of.ensures c.same_holders.ensures

pub returns-else-read_alike : goal.returns-else-read_alike
returns-else-read_alike c =
    let s = c.args.self.now in
    let xs = s.state.handlers.items in
    let x = c.index-place.result.now in
    let p = c.args.part.now in
    let own = s.state.handlers.ok.0 in
    let all = s.state.places in
    let e = slice_get_read xs (length xs) c.args.handler x refl (omega (arith, c.requires, own, all)) c.index-place.ensures in
    let both = subst
    (λ (zs : List ℕ). IsTrue c.read_alike.result ↔ canon_handler none_ended (handler_of p.handler) ≡ canon_handler (slice_index zs) (handler_of x)) c.deref.ensures.value
    c.read_alike.ensures in
    other_part s.state.count xs s.state.sessions.items s.state.rights c.args.handler c.read_alike.result p x e c.if-read_alike.false both
