use Rattle.std.proofs.Common.{sym, ◌∙◌, subst}
use Rattle.sc_interp.specs.Features.{IsSite}
use Rattle.sc_interp.proofs.Targets.{calls_untargeted}
use Rattle.sc_interp.proofs.features.call_feature.Goals as goal

pub returns-in-None-value_under-clause-plays : goal.returns-in-None-value_under-clause-plays
returns-in-None-value_under-clause-plays c =
    calls_untargeted c.args.me c.args.count c.args.number c.args.store.now c.in-Some.site (subst (IsSite c.args.store.now c.args.number) c.in-Some.is c.site_at.ensures.site)
    (sym c.value_under.ensures ∙ c.in-None-value_under.is)
