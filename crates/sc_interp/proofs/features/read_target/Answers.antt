use Rattle.std.proofs.Common.{ap, sym, ◌∙◌}
use Rattle.std.specs.Option.{option_map}
use Rattle.sc_code.specs.Machine.{read}
use Rattle.sc_region.specs.OperandList.{OperandList}
use Rattle.sc_region.specs.Frames.{activation_of}
use Rattle.sc_interp.specs.Values.{evaluated, value_of}
use Rattle.sc_interp.specs.Standing.{stepped}
use Rattle.sc_interp.proofs.Targets.{drop_more, drop_some, in_place}
use Rattle.sc_interp.proofs.features.read_target.Goals as goal

pub returns-in-Some-clause-calls : goal.returns-in-Some-clause-calls
returns-in-Some-clause-calls c =
    let a = activation_of c.args.activation.now in
    let left = c.pop.new.self in
    let b = activation_of c.replace.new.activation in
    in_place c.args.count c.args.site (read c.args.is_attached (option_map value_of c.args.value)) (evaluated c.read.result) (stepped c.replace.result) a (record a { operands = left }) b c.read.ensures
    (ap (λ d. record a { operands = record { depth = d; values = left.values } }) (c.pop.ensures.depth ∙ ap (λ (o : OperandList). o.depth) c.drop_last.ensures)
    ∙ ap (λ vs. record a { operands = record { depth = a.operands.depth; values = vs } }) (drop_more c.args.site.count a.operands.values c.in-Some._target left.values (ap (λ (o : OperandList). o.values) (sym c.drop_last.ensures) ∙ c.in-Some.ensures.some)))
    c.replace.ensures.passes

pub returns-in-None-clause-calls : goal.returns-in-None-clause-calls
returns-in-None-clause-calls c = absurd (drop_some c.args.site.count (activation_of c.args.activation.now).operands.values c.requires (ap (λ (o : OperandList). o.values) (sym c.drop_last.ensures) ∙ c.in-None.ensures.none.0))
