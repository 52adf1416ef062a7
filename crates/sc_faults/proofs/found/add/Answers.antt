use Rattle.sc_faults.proofs.Adding.{appended}
use Rattle.sc_faults.proofs.Steps.{passed_added}
use Rattle.sc_faults.proofs.found.add.Goals as goal

pub returns-in-Ok : goal.returns-in-Ok
returns-in-Ok c = λ j p.
    passed_added c.args.judged.now j c.args.operands.now.items c.append.result c.args.faults.now.items c.append.new.self.items c.in-Ok.field-0 c.in-Ok.is p
    (appended c.append.result c.args.faults.now.items c.args.operands.now.items c.append.new.self.items c.append.ensures.items)
