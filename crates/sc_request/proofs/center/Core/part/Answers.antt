use Rattle.std.proofs.Common.{◌≡◌, ◌∙◌, List, ℕ, ap, length, refl, sym, arith}
use Rattle.std.proofs.lemmas.Option.{slice_get_read}
use Rattle.std.specs.Prelude.{slice_index, vec_len}
use Rattle.sc_handler.specs.Canonical.{canon_handler}
use Rattle.sc_handler.specs.InMemory.{handler_of}
use Rattle.sc_request.specs.Parts.{none_ended}
use Rattle.sc_request.proofs.ReadParts.{handler_again, kept_part}
use Rattle.sc_request.proofs.SoundParts.{there_sound}
use Rattle.sc_request.proofs.center.Core.part.Goals as goal

pub invariant_of-result : goal.invariant_of-result
invariant_of-result c =
    let s = c.args.self.now in
    let xs = s.state.handlers.items in
    let x = c.index-place.result.now in
    let own = s.state.handlers.ok.0 in
    let all = s.state.places in
    let e = slice_get_read xs (length xs) c.args.handler x refl (omega (arith, c.requires, own, all)) c.index-place.ensures in
    let is : handler_of c.in_ok-read.read ≡ canon_handler (slice_index s.state.sessions.items) (handler_of x) =
    c.in_ok-read.ensures.handler ∙ ap (λ (zs : List ℕ). canon_handler (slice_index zs) (handler_of x)) c.deref.ensures.value in
    record {
      sound = there_sound s.state.sessions.items (vec_len s.log.entries) (vec_len s.log.entries) s.state.count c.settlements_for.result xs c.args.handler x c.in_ok-read.read
          s.sound.within e is c.settlements_for.ensures.refused c.settlements_for.ensures.serves (s.sound.handlers c.args.handler);
      read = ap (canon_handler none_ended) is ∙ handler_again (slice_index s.state.sessions.items) (handler_of x) ∙ sym is;
    }

pub returns : goal.returns
returns c =
    let s = c.args.self.now in
    let xs = s.state.handlers.items in
    let x = c.index-place.result.now in
    let own = s.state.handlers.ok.0 in
    let all = s.state.places in
    let e = slice_get_read xs (length xs) c.args.handler x refl (omega (arith, c.requires, own, all)) c.index-place.ensures in
    let is : handler_of c.in_ok-read.read ≡ canon_handler (slice_index s.state.sessions.items) (handler_of x) =
    c.in_ok-read.ensures.handler ∙ ap (λ (zs : List ℕ). canon_handler (slice_index zs) (handler_of x)) c.deref.ensures.value in
    kept_part s.state.count xs s.state.sessions.items s.state.rights c.args.handler x c.in_ok-read.read c.holders_of.result e is c.holders_of.ensures
