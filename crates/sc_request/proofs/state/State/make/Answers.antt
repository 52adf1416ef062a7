use Rattle.std.proofs.Common.{length, refl, arith}
use Rattle.std.proofs.lemmas.Option.{slice_get_read}
use Rattle.sc_lockpass.proofs.Listings.{most_handlers-le}
use Rattle.sc_request.proofs.Created.{made_is}
use Rattle.sc_request.proofs.ChangedTables.{outs_kept}
use Rattle.sc_request.proofs.state.State.make.Goals as goal

pub returns-clause-plain : goal.returns-clause-plain
returns-clause-plain c =
    let s = c.args.self.now in
    let xs = s.handlers.items in
    let h = c.args.made in
    let x = c.index_mut.result.now in
    let below = c.requires.most in
    let own = s.handlers.ok.0 in
    let all = s.places in
    let most = most_handlers-le s.rights.version in
    let e = slice_get_read xs (length xs) h x refl (omega (arith, below, own, all, most)) c.index_mut.ensures.value in
    made_is s.count xs s.sessions.items s.rights c.give_new.new.rights c.args.holder h x c.renew.new.self e c.renew.ensures.handler c.give_new.ensures.queue c.give_new.ensures.top

pub returns-clause-outs : goal.returns-clause-outs
returns-clause-outs c =
    let s = c.args.self.now in
    let xs = s.handlers.items in
    let h = c.args.made in
    let x = c.index_mut.result.now in
    let below = c.requires.most in
    let own = s.handlers.ok.0 in
    let all = s.places in
    let most = most_handlers-le s.rights.version in
    let e = slice_get_read xs (length xs) h x refl (omega (arith, below, own, all, most)) c.index_mut.ensures.value in
    outs_kept xs h x c.renew.new.self e c.renew.ensures.out
