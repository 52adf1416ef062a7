use Rattle.std.proofs.Common.{refl, ap, sym, ◌∙◌, Some}
use Rattle.sc_class.proofs.Anys.{got}
use Rattle.sc_class.proofs.FeatureLemmas.{got_item}
use Rattle.sc_class.specs.SystemIn.{system_in}
use Rattle.sc_typing.proofs.ActualNumbers.{formal_is}
use Rattle.sc_typing.proofs.expressions.actuals.formal_at.Goals as goal

pub returns-in-Some : goal.returns-in-Some
returns-in-Some c =
    let ds = c.in-Declared.declared.now in
    ap Some c.formal_type.ensures
    ∙ sym (formal_is (system_in c.args.tables.now) c.args.formals c.in-Declared.declared c.args.number c.in-Some.formal.now c.in-Declared.is
    (got_item ds ds c.args.number c.get.result c.in-Some.formal (got ds c.args.number c.get.result c.get.ensures.lookup) c.in-Some.is refl))
