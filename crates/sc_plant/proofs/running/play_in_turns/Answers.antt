use Rattle.std.proofs.Common.{◌∙◌}
use Rattle.sc_plant.proofs.Locks.{way_of}
use Rattle.sc_plant.proofs.OnWay.{way_run}
use Rattle.sc_plant.proofs.running.play_in_turns.Goals as goal

pub play_all-requires-clause-count : goal.play_all-requires-clause-count
play_all-requires-clause-count g c = λ κs within. c.ended.ensures.count ∙ c.in_ok-next.ensures.on.way.count

pub play_all-requires-clause-version : goal.play_all-requires-clause-version
play_all-requires-clause-version g c = λ κs within. c.ended.ensures.version ∙ c.in_ok-next.ensures.on.way.rights

pub returns-in-Some-ended-clause-ok : goal.returns-in-Some-ended-clause-ok
returns-in-Some-ended-clause-ok g c = λ p is.
    record {
      run = way_run p c.in-Some-ended.made c.ended.new.left
          (c.ended.ensures.on p (way_of g.P.OfProgram.image c.in_ok-next.next p c.in_ok-next.ensures.on is)) c.in-Some-ended.ensures.over;
      ends = c.in-Some-ended.ensures.ends;
    }

pub returns-then-is_over-clause-ok : goal.returns-then-is_over-clause-ok
returns-then-is_over-clause-ok g c = λ p is.
    let way = c.ended.ensures.on p (way_of g.P.OfProgram.image c.in_ok-next.next p c.in_ok-next.ensures.on is) in
    record {
      run = way_run p _ c.play_all.new.left (c.in-Ok.ensures.on p way) (c.in-Ok.ensures.over c.if-is_over.true);
      ends = c.in-Ok.ensures.ends c.if-is_over.true;
    }

pub returns-in_default-play_all-clause-err : goal.returns-in_default-play_all-clause-err
returns-in_default-play_all-clause-err g c = λ p is.
    c.in_default-play_all.ensures.err p (c.ended.ensures.on p (way_of g.P.OfProgram.image c.in_ok-next.next p c.in_ok-next.ensures.on is))

pub loop-preserved : goal.loop-preserved
loop-preserved g c =
    let on = c.in_ok-next.ensures.on in
    record { program = on.program; named = on.named; way = c.in-Ok.ensures.on on.program (c.ended.ensures.on on.program on.way) }
