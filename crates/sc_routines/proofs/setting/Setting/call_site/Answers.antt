use Rattle.std.proofs.Common.{Some, ap, sym, ◌∙◌}
use Rattle.sc_class.specs.SystemIn.{system_in}
use Rattle.sc_class.specs.Tables.Features.{feature_named}
use Rattle.sc_typing.specs.declared.routine_context.Meaning.{Meaning}
use Rattle.sc_typing.specs.Views.{meaning_in}
use Rattle.sc_routines.proofs.OwnFeatures.{site_meant, site_meant-is}
use Rattle.sc_routines.proofs.setting.Setting.call_site.Goals as goal

pub returns-in-Named : goal.returns-in-Named
returns-in-Named c =
    let s = system_in c.args.self.now.context.tables.now in
    let site = site_meant c.args.name.now c.args.count c.args.target c.args.actuals.now in
    ap Some c.site_of.ensures ∙ sym (ap (λ (m : Meaning). site (meaning_in s m)) c.in-Named.is) ∙ ap site c.qualified_meaning.ensures
    ∙ site_meant-is s c.args.name.now c.args.count c.args.target c.args.actuals.now (feature_named s c.args.target.class c.args.name.now)
