use Rattle.std.proofs.Common.{ap}
use Rattle.sc_region.specs.Frames.{activation_of}
use Rattle.sc_interp.specs.Standing.{stepped}
use Rattle.sc_interp.proofs.GoingOn.{binary_popped}
use Rattle.sc_interp.proofs.silent.apply_binary.Goals as goal

pub returns-in-Some-clause-hops : goal.returns-in-Some-clause-hops
returns-in-Some-clause-hops c =
    let a = activation_of c.args.activation.now in
    let left = c.pop.new.self in
    binary_popped c.args.count c.args.operator c.in-Some.right (stepped c.apply_to.result) a (record a { operands = left }) (activation_of c.apply_to.new.activation)
    c.in-Some.ensures.some
    (ap (λ d. record a { operands = record { depth = d; values = left.values } }) c.pop.ensures.depth)
    c.apply_to.ensures.passes
