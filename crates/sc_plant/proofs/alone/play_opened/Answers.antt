use Rattle.std.proofs.Common.{refl}
use Rattle.sc_plant.proofs.OnWay.{way_run}
use Rattle.sc_plant.proofs.alone.play_opened.Goals as goal

pub returns-clause-ok : goal.returns-clause-ok
returns-clause-ok g c = λ p way.
    let is = c.in-Ok.ensures.whole refl in
    record {
      run = way_run p _ c.play_all.new.left (c.in-Ok.ensures.on p way) (c.in-Ok.ensures.over is);
      ends = c.in-Ok.ensures.ends is;
    }

pub returns-clause-order : goal.returns-clause-order
returns-clause-order g c = λ p opens. c.in-Ok.ensures.order p opens
