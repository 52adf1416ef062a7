use Rattle.std.proofs.Common.{◌++◌, ◌∷◌, [], List, map, sym, ap, ◌∙◌}
use Rattle.std.specs.List.{range_with_len}
use Rattle.std.specs.declared.alloc.Global.{Global}
use Rattle.std.specs.declared.vec.Vec.{Vec}
use Rattle.std.proofs.lemmas.List.{map-append}
use Rattle.sc_class.specs.SystemIn.{system_in}
use Rattle.sc_model.specs.Environments.{Binding}
use Rattle.sc_lower.specs.declared.program.attributes.Attribute.{Attribute}
use Rattle.sc_lower.specs.AttributeBindings.{binding_of, own_attributes}
use Rattle.sc_lower.proofs.Ranges.{range_more}
use Rattle.sc_lower.proofs.program.attributes.own_attributes.Goals as goal

abbrev bindings_of : Vec Attribute Global → List Binding
bindings_of v = map binding_of v.items

pub loop-class-preserved : goal.loop-class-preserved
loop-class-preserved c =
    let own = own_attributes (system_in c.args.tables.now) in
    ap (map bindings_of) c.in_ok-push.ensures.items
    ∙ map-append bindings_of c.loop-class.own.items (c.in_ok-attributes_declared.field-0 ∷ [])
    ∙ ap (λ xs. xs ++ bindings_of c.in_ok-attributes_declared.field-0 ∷ []) c.loop-class.invariant
    ∙ ap (λ (bs : List Binding). map own (range_with_len 0 c.loop-class.class) ++ bs ∷ []) c.in_ok-attributes_declared.ensures
    ∙ sym (range_more own c.loop-class.class)
