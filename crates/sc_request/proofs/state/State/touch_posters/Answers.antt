use Rattle.std.proofs.Common.{length, refl, arith}
use Rattle.std.proofs.lemmas.Option.{slice_get_read}
use Rattle.sc_lockpass.specs.Tables.{is_member}
use Rattle.sc_request.proofs.Posters.{touched_posters}
use Rattle.sc_request.proofs.state.State.touch_posters.Goals as goal

pub returns : goal.returns
returns c = λ k l.
    let s = c.args.self.now in
    let xs = s.handlers.items in
    let h = c.args.handler in
    let x = c.index-place.result.now in
    let there = c.requires in
    let own = s.handlers.ok.0 in
    let all = s.places in
    let e = slice_get_read xs (length xs) h x refl (omega (arith, there, own, all)) c.index-place.ensures in
    touched_posters x xs s.sessions.items h k (is_member c.args.candidates.now.words k) _ _ _ e (c.touch_first.ensures k l) (c.touch_first-2.ensures k l)
    (c.touch_first-3.ensures k l)
