use Rattle.std.proofs.Common.{[], Ok}
use Rattle.sc_faults.proofs.Adding.{nothing_added}
use Rattle.sc_faults.proofs.Steps.{passed_added}
use Rattle.std.proofs.Common.{refl}
use Rattle.sc_faults.proofs.found.add_alone.Goals as goal

pub returns-in-Ok : goal.returns-in-Ok
returns-in-Ok c = λ j p.
    passed_added c.args.judged j [] (Ok c.in-Ok.field-0) c.args.faults.now.items c.args.faults.now.items c.in-Ok.field-0 c.in-Ok.is p
    (nothing_added c.args.faults.now.items c.args.faults.now.items refl)
