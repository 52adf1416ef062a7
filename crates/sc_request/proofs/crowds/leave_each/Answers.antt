use Rattle.std.proofs.Common.{◌+◌, refl, take, add-one}
use Rattle.std.proofs.lemmas.Option.{slice_get-get_or}
use Rattle.sc_request.proofs.Waiters.{among_more, left_one}
use Rattle.sc_request.proofs.crowds.leave_each.Goals as goal

pub loop-at-init : goal.loop-at-init
loop-at-init c = λ b k is. (is, refl)

pub loop-at-preserved : goal.loop-at-preserved
loop-at-preserved c =
    let ks = c.args.reserved.now in
    let i = c.loop-at.at in
    left_one c.args.crowds.now.items c.loop-at.crowds.items c.note.new.crowds.items (take i ks) _ c.args.handler (take (i + 1) ks) c.loop-at.invariant c.note.ensures
    (λ b. rw add-one (among_more ks i _ b (slice_get-get_or ks i 0 c.loop-at-test.true)))
