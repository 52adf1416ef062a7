use Rattle.std.proofs.Common.{◌≡◌, ◌≤◌, length, map, ap, ◌∙◌, arith, vec_len}
use Rattle.sc_class.specs.SystemIn.{system_in, root_in}
use Rattle.sc_model.specs.Environments.{Binding}
use Rattle.sc_lower.specs.AttributeBindings.{binding_of}
use Rattle.sc_lower.proofs.Few.{few_attributes, as_many_codes}
use Rattle.sc_lower.proofs.program.class_code.class_code.Goals as goal

pub formulas-requires : goal.formulas-requires
formulas-requires c =
    let tables = c.args.numbering.now.tables.now in
    let s = system_in tables in
    rw c.deref-3.ensures.value
    (few_attributes s (root_in tables) c.args.class tables.faultless c.requires.there c.in_ok-attributes.attributes.items c.in_ok-attributes.ensures)

pub invariant_of-result : goal.invariant_of-result
invariant_of-result c =
    let tables = c.args.numbering.now.tables.now in
    let s = system_in tables in
    let attributes = c.in_ok-attributes.attributes.items in
    let codes = c.in_ok-attribute_codes.field-0 in
    let many : length codes.items ≡ length attributes =
    as_many_codes codes.items attributes
    (c.in_ok-attribute_codes.ensures ∙ ap (λ bs. map (λ (b : Binding). (b.value, b.type.attached)) (map binding_of bs)) c.deref.ensures.value) in
    let few : length attributes ≤ 256 =
    few_attributes s (root_in tables) c.args.class tables.faultless c.requires.there attributes c.in_ok-attributes.ensures in
    let fits : vec_len codes ≤ 256 = omega (arith, codes.ok.0, many, few) in
    record { few = fits }
