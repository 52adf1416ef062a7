use Rattle.sc_class.proofs.Lines.{known_changed}
use Rattle.sc_class.proofs.class_tables.line.put.Goals as goal

pub returns : goal.returns
returns c = λ x. known_changed c.args.known.now c.insert.new.self c.args.change.now.text.now c.args.change.now.features c.in_ok-insert.ensures.updates x
