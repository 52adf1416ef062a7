use Rattle.std.proofs.Common.{length, refl, arith}
use Rattle.std.proofs.lemmas.Option.{slice_get_read}
use Rattle.sc_request.proofs.Waiters.{noted, unnoted}
use Rattle.sc_request.proofs.crowds.note.Goals as goal

pub returns-then-at-len : goal.returns-then-at-len
returns-then-at-len c =
    let xs = c.args.crowds.now.items in
    let n = c.args.needed in
    let x = c.index_mut.result.now in
    let below = c.if-at-len.true in
    let own = c.args.crowds.now.ok.0 in
    let all = c.len.ensures in
    noted xs n c.args.handler c.args.is_waiting x c.set.new.self (slice_get_read xs (length xs) n x refl (omega (arith, below, own, all)) c.index_mut.ensures.value) c.set.ensures

pub returns-else-at-len : goal.returns-else-at-len
returns-else-at-len c =
    let past = c.if-at-len.false in
    let own = c.args.crowds.now.ok.0 in
    let all = c.len.ensures in
    unnoted c.args.crowds.now.items c.args.needed c.args.handler c.args.is_waiting (omega (arith, past, own, all))
