use Rattle.std.proofs.Common.{arith}
use Rattle.sc_tree.specs.View.{system_of}
use Rattle.sc_class.proofs.FaultLemmas.{all_found}
use Rattle.sc_class.proofs.faults.features.find_in_rest.Goals as goal

pub returns : goal.returns
returns c =
    all_found (system_of c.args.outline.now.hierarchy.system.now) c.loop-number.done c.loop-number.found c.loop-number.number (omega (arith, c.loop-number-test.false, c.requires.length)) c.loop-number.invariant.3 c.loop-number.invariant.0
