use Rattle.std.proofs.Common.{ap, ◌∙◌, arith}
use Rattle.sc_region.specs.Objects.{object_of, with_slot, with_attribute}
use Rattle.sc_region.proofs.Placed.{placed}
use Rattle.sc_region.proofs.object.Objects.write.Goals as goal

pub returns-then-number-len : goal.returns-then-number-len
returns-then-number-len c =
    placed object_of c.self.inside.items.items c.args.number c.args.slot c.args.value c.index_mut.result.now c.write.new.self
    c.if-number-ne0.true (omega (arith, c.len.ensures, c.self.inside.items.ok.0, c.if-number-len.true))
    (c.write.ensures ∙ ap (λ o. with_slot c.args.slot c.args.value (object_of o)) c.index_mut.ensures.value)
    ∙ ap (with_attribute c.args.number c.args.slot c.args.value) c.self.view_is
