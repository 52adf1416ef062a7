use Rattle.std.proofs.Common.{arith}
use Rattle.sc_arguments.proofs.RootLemmas.{root-split}
use Rattle.sc_arguments.proofs.arguments.root_option.root_of.Goals as goal

-- where two names stand with a dot between, the text is split there, and both are found
pub returns-in_default-clause-complete : goal.returns-in_default-clause-complete
returns-in_default-clause-complete c = λ class procedure names short.
    let split = root-split c.args.text.now class procedure c.split_once.result c.split_once.ensures.cases names in
    absurd (rw c.in_default.is at split)

pub returns-in_default-2-clause-complete : goal.returns-in_default-2-clause-complete
returns-in_default-2-clause-complete c = λ class procedure names short.
    let split = root-split c.args.text.now class procedure c.split_once.result c.split_once.ensures.cases names in
    let parts = rw c.in-Some.is at split in
    rw c.in_default-2.is at (c.in_ok-class.ensures.complete parts.0 (omega (arith, parts.2)))

pub returns-in_default-3-clause-complete : goal.returns-in_default-3-clause-complete
returns-in_default-3-clause-complete c = λ class procedure names short.
    let split = root-split c.args.text.now class procedure c.split_once.result c.split_once.ensures.cases names in
    let parts = rw c.in-Some.is at split in
    rw c.in_default-3.is at (c.in_ok-procedure.ensures.complete parts.1 (omega (arith, parts.3)))
