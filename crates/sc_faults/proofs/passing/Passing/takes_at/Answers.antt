use Rattle.std.proofs.Common.{refl, sym, ◌∙◌}
use Rattle.sc_class.proofs.Anys.{got}
use Rattle.sc_class.proofs.FeatureLemmas.{got_item}
use Rattle.sc_class.specs.SystemIn.{system_in}
use Rattle.sc_typing.specs.Views.{types_in}
use Rattle.sc_faults.proofs.CallSteps.{untyped_formal, typed_formal}
use Rattle.sc_faults.proofs.passing.Passing.takes_at.Goals as goal

pub returns-in-None-declared_type : goal.returns-in-None-declared_type
returns-in-None-declared_type c =
    let ds = c.in-Declared.declared.now in
    untyped_formal (system_in c.args.tables.now) c.args.self.now.target (types_in c.args.self.now.found.now) c.args.self.now.formals c.args.number
    c.args.actual c.in-Declared.declared c.in-Declared.is c.in-Some.formal.now
    (got_item ds ds c.args.number c.get.result c.in-Some.formal (got ds c.args.number c.get.result c.get.ensures.lookup) c.in-Some.is refl)
    (sym c.in-None-declared_type.is ∙ c.declared_type.ensures)

pub returns-in-Some-declared_type : goal.returns-in-Some-declared_type
returns-in-Some-declared_type c =
    let ds = c.in-Declared.declared.now in
    typed_formal (system_in c.args.tables.now) c.args.self.now.target (types_in c.args.self.now.found.now) c.args.self.now.formals c.args.number
    c.args.actual c.in-Declared.declared c.in-Declared.is c.in-Some.formal.now c.in-Some-declared_type.formal c.takes.result
    (got_item ds ds c.args.number c.get.result c.in-Some.formal (got ds c.args.number c.get.result c.get.ensures.lookup) c.in-Some.is refl)
    (sym c.in-Some-declared_type.is ∙ c.declared_type.ensures) c.takes.ensures
