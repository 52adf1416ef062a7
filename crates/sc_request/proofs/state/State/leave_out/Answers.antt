use Rattle.std.proofs.Common.{◌∙◌, ◌&&◌, ℕ, Option, ap, length, not, refl, sym, arith}
use Rattle.std.proofs.lemmas.Bool.{ltb-true}
use Rattle.std.proofs.lemmas.Option.{slice_get_read}
use Rattle.std.specs.Prelude.{is_some}
use Rattle.sc_lockpass.specs.Rights.{held}
use Rattle.sc_lockpass.specs.Tables.{is_member, rights_of}
use Rattle.sc_lockpass.proofs.Listings.{most_handlers-le}
use Rattle.sc_request.specs.declared.handler_set.HandlerSet.{HandlerSet}
use Rattle.sc_request.specs.Crowds.{words_in}
use Rattle.sc_request.specs.Places.{center_at}
use Rattle.sc_request.proofs.Waiters.{is_taken, left_out}
use Rattle.sc_request.proofs.state.State.leave_out.Goals as goal

pub returns-in-Some : goal.returns-in-Some
returns-in-Some c =
    let s = c.args.self.now in
    let n = c.args.needed in
    let few = s.some in
    let most = most_handlers-le s.rights.version in
    let xs = c.args.crowds.now in
    let read = c.in-Some.ensures.lookup in
    let there = slice_get_read xs (length xs) n c.in-Some.crowd.now refl (ltb-true n (length xs) (sym read.0)) read.1 in
    left_out (center_at 0 s) xs n c.args.candidates.now.words c.without_holders-kept_off.result.words c.take_out.new.self.words
    (omega (arith, few, most)) (is_taken ((rights_of s.rights).queue n) (ap (λ (o : Option ℕ). is_some o) (sym c.queue.ensures) ∙ rw c.if-is_none.false at c.is_none.ensures))
    c.requires.candidates c.requires.crowds
    (λ k below. c.without_holders-kept_off.ensures k below
    ∙ ap (λ (o : Option HandlerSet). not (held (rights_of s.rights) k n) && is_member (words_in o) k) (sym there))
    c.take_out.ensures
