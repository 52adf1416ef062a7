use Rattle.std.proofs.Common.{ap, sym, ◌∙◌, subst}
use Rattle.std.specs.Option.{option_and_then}
use Rattle.sc_region.specs.Objects.{attribute_of}
use Rattle.sc_interp.specs.Playing.{IsAttribute}
use Rattle.sc_interp.proofs.Valued.{attribute_seen}
use Rattle.sc_interp.proofs.attributes.attribute_value.Goals as goal

pub returns-in-None : goal.returns-in-None
returns-in-None c =
    let x = c.args.store.now in
    subst (IsAttribute x c.args.object c.args.name)
    (ap (option_and_then (λ n. attribute_of c.args.object n x.objects)) (sym c.attribute_number.ensures ∙ c.in-None.is))
    (attribute_seen x c.args.object c.args.name)

pub returns-in-Some : goal.returns-in-Some
returns-in-Some c =
    let x = c.args.store.now in
    subst (IsAttribute x c.args.object c.args.name)
    (ap (option_and_then (λ n. attribute_of c.args.object n x.objects)) (sym c.attribute_number.ensures ∙ c.in-Some.is) ∙ sym c.read.ensures)
    (attribute_seen x c.args.object c.args.name)
