use Rattle.std.proofs.Common.{ap, ◌∙◌}
use Rattle.std.specs.Option.{option_map}
use Rattle.sc_code.specs.Machine.{is_tested}
use Rattle.sc_code.specs.View.{tested_of}
use Rattle.sc_region.specs.Frames.{activation_of}
use Rattle.sc_interp.specs.Values.{value_of, values_of}
use Rattle.sc_interp.proofs.Tests.{test_popped}
use Rattle.sc_interp.proofs.testing.test_by.Goals as goal

pub returns-in-Some-clause-tests : goal.returns-in-Some-clause-tests
returns-in-Some-clause-tests c =
    let a = activation_of c.args.activation.now in
    let left = c.pop.new.self in
    test_popped c.args.program.now.image c.args.me c.args.count c.args.test c.in-Some.value c.is_tested-holds.result c.bind_if.result a (record a { operands = left })
    (activation_of c.bind_if.new.activation) c.in-Some.ensures.some
    (ap (λ d. record a { operands = record { depth = d; values = left.values } }) c.pop.ensures.depth)
    (λ s serves. c.is_tested-holds.ensures s serves
    ∙ ap (λ vs. is_tested s c.args.me.handler (values_of vs) (value_of c.in-Some.value) (option_map tested_of c.args.test.tested)) c.deref.ensures.value)
    c.bind_if.ensures.passes
