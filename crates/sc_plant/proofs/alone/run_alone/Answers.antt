use Rattle.sc_plant.proofs.Unbegun.{begun_leaves}
use Rattle.sc_plant.proofs.alone.run_alone.Goals as goal

pub play_opened-requires-clause-count : goal.play_opened-requires-clause-count
play_opened-requires-clause-count g c = λ κs within. c.in-Ok.ensures.on.count

pub play_opened-requires-clause-version : goal.play_opened-requires-clause-version
play_opened-requires-clause-version g c = λ κs within. c.in-Ok.ensures.on.rights

pub returns-clause-ok : goal.returns-clause-ok
returns-clause-ok g c = c.play_opened.ensures.ok c.args.program.now.image c.in-Ok.ensures.on

pub returns-clause-err : goal.returns-clause-err
returns-clause-err g c = c.play_opened.ensures.err c.args.program.now.image c.in-Ok.ensures.on

pub returns-clause-order : goal.returns-clause-order
returns-clause-order g c = c.play_opened.ensures.order c.args.program.now.image c.in-Ok.ensures.order

pub returns-clause-unbegun : goal.returns-clause-unbegun
returns-clause-unbegun g c = begun_leaves _ c.play_opened.result c.play_opened.ensures.left
