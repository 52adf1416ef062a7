use Rattle.std.proofs.Common.{◌∙◌, ◌+◌, Bool, Option, ap, arith, length, refl, subst, sym}
use Rattle.std.proofs.lemmas.Option.{slice_get_read}
use Rattle.sc_lockpass.proofs.Listings.{most_handlers-le}
use Rattle.sc_lockpass.specs.Versions.{most_handlers}
use Rattle.sc_lockpass.specs.declared.version.Version.{Version}
use Rattle.sc_handler.specs.declared.handler.Handler as coded
use Rattle.sc_handler.specs.Handlers.{State}
use Rattle.sc_handler.specs.Fits.{fits_turns}
use Rattle.sc_handler.specs.Kinds.{of_kind}
use Rattle.sc_request.specs.Places.{plain}
use Rattle.sc_request.specs.Settling.{asked_in, begun}
use Rattle.sc_request.specs.Tables.{handler_in}
use Rattle.sc_request.specs.Sound.{IsSound}
use Rattle.sc_request.proofs.Sounds.{all_more, begun_is}
use Rattle.sc_request.proofs.state.State.settle.Goals as goal

pub ask_in-requires-clause-sound : goal.ask_in-requires-clause-sound
ask_in-requires-clause-sound c =
    let s = plain c.args.self.now in
    let most = most_handlers-le c.args.self.now.rights.version in
    subst (IsSound 18446744073709551614 9223372036854775808) (sym c.begin.ensures.plain)
    (all_more (18446744073709551612 + 1) 18446744073709551614 (9223372036854775806 + 1) 9223372036854775808 (begun c.args.handler (of_kind c.args.kind.now) s)
    (omega arith) (omega arith)
    (begun_is 18446744073709551612 9223372036854775806 c.args.handler (of_kind c.args.kind.now) s
    (λ k d l. let below = c.requires.granted k d l in omega (arith, below, most)) c.requires.sound))

pub returns-clause-plain : goal.returns-clause-plain
returns-clause-plain c =
    let s = c.args.self.now in
    let xs = s.handlers.items in
    let h = c.args.handler in
    let j = (of_kind c.args.kind.now) in
    let w = c.args.want.now in
    let x = c.index.result.now in
    let there = c.requires.there in
    let most = most_handlers-le s.rights.version in
    let own = s.handlers.ok.0 in
    let all = s.places in
    let e = slice_get_read xs (length xs) h x refl (omega (arith, there, most, own, all)) c.index.ensures in
    let t = plain c.begin.new.self in
    let fits = c.fits_turns-fits.ensures x.entry.items x.mark ∙ ap (λ (o : Option coded.Handler). fits_turns c.args.turns (handler_in o).stage j w) (sym e) in
    let fitting = fits_turns c.args.turns ((plain s).handlers h).stage j w in
    c.ask_in.ensures.plain
    ∙ ap (λ (b : Bool). asked_in b (most_handlers c.begin.new.self.rights.version) h w t) fits
    ∙ ap (λ (v : Version). asked_in fitting (most_handlers v) h w t) c.begin.ensures.version
    ∙ ap (λ (u : State). asked_in fitting (most_handlers s.rights.version) h w u) c.begin.ensures.plain
