use Rattle.sc_plant.proofs.Unbegun.{begun_leaves}
use Rattle.sc_plant.proofs.running.run_open.Goals as goal

pub returns-clause-ok : goal.returns-clause-ok
returns-clause-ok g c = c.play_in_turns.ensures.ok c.args.program.now.image c.requires

pub returns-clause-err : goal.returns-clause-err
returns-clause-err g c = c.play_in_turns.ensures.err c.args.program.now.image c.requires

pub returns-clause-unbegun : goal.returns-clause-unbegun
returns-clause-unbegun g c = begun_leaves _ c.play_in_turns.result c.play_in_turns.ensures.left
