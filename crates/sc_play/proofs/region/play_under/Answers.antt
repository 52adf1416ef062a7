use Rattle.std.proofs.Common.{refl}
use Rattle.sc_play.proofs.FurtherTurns.{stops_going}
use Rattle.sc_play.proofs.JobTurns.{begins_nothing, never_first, plays_behind, plays_from}
use Rattle.sc_play.proofs.region.play_under.Goals as goal

pub returns-then-made-clause-ok : goal.returns-then-made-clause-ok
returns-then-made-clause-ok c =
    plays_behind c.play_on.result c.in_ok-made.made c.args.limit c.args.handler c.args.is_told c.args.job.now c.args.store.now c.first_turn.new.store c.play_on.new.store
    c.first_turn.new.asked c.play_on.new.asked c.if-made.true c.in_ok-made.ensures.ok c.play_on.ensures.ok

pub returns-then-made-clause-err : goal.returns-then-made-clause-err
returns-then-made-clause-err c = never_first c.play_on.result 1 _ refl c.play_on.ensures.none

pub returns-else-made-clause-ok : goal.returns-else-made-clause-ok
returns-else-made-clause-ok c =
    plays_from c.play_on-else-made.result c.in_ok-made.made c.args.limit c.args.handler c.args.is_told c.args.job.now c.args.store.now c.first_turn.new.store c.play_on-else-made.new.store
    c.first_turn.new.asked c.play_on-else-made.new.asked c.if-made.false c.in_ok-made.ensures.ok c.play_on-else-made.ensures.ok

pub returns-else-made-clause-err : goal.returns-else-made-clause-err
returns-else-made-clause-err c =
    stops_going c.play_on-else-made.result c.args.job.now _ _ _ (c.in_ok-made.ensures.going c.if-made.false)
    (begins_nothing c.in_ok-made.made c.args.handler c.args.is_told c.args.job.now c.args.store.now c.first_turn.new.store c.first_turn.new.asked c.if-made.false c.in_ok-made.ensures.ok).0
    c.play_on-else-made.ensures.err
