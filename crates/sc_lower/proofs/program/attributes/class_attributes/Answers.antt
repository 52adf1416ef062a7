use Rattle.std.proofs.Common.{◌++◌, ap, map, sym, take, ◌∙◌}
use Rattle.std.proofs.lemmas.List.{map-append, take_all}
use Rattle.std.specs.List.{flat_map}
use Rattle.sc_class.specs.SystemIn.{system_in, root_in}
use Rattle.sc_lower.specs.AttributeBindings.{binding_of, own_attributes}
use Rattle.sc_lower.proofs.InheritedAttributes.{collected, one_more}
use Rattle.sc_lower.proofs.program.attributes.class_attributes.Goals as goal

pub loop-ancestor-preserved : goal.loop-ancestor-preserved
loop-ancestor-preserved c =
    let s = system_in c.args.tables.now in
    let ks = c.ancestors-ancestor-items.result.now in
    ap (map binding_of) c.in_ok-extend_from_slice.ensures.items
    ∙ map-append binding_of c.loop-ancestor.attributes.items c.list_at.result.now
    ∙ ap (λ bs. bs ++ map binding_of c.list_at.result.now) c.loop-ancestor.invariant
    ∙ ap (λ bs. flat_map (own_attributes s) (take c.loop-ancestor.ancestor-index ks) ++ bs) c.list_at.ensures
    ∙ sym (one_more (own_attributes s) ks c.loop-ancestor.ancestor-index c.loop-ancestor-test.true)

pub returns : goal.returns
returns c =
    let tables = c.args.tables.now in
    let s = system_in tables in
    let ks = c.ancestors-ancestor-items.result.now in
    c.loop-ancestor.invariant
    ∙ ap (flat_map (own_attributes s)) (take_all c.loop-ancestor.ancestor-index ks c.loop-ancestor-test.false)
    ∙ collected s (root_in tables) tables.faultless c.args.class c.requires.there ks c.ancestors-ancestor-items.ensures
