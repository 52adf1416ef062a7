use Rattle.std.proofs.Common.{sym, subst}
use Rattle.sc_interp.specs.Playing.{Plays}
use Rattle.sc_interp.proofs.hopping.hop_by.Goals as goal

pub returns-in-CallFeature-clause-plays : goal.returns-in-CallFeature-clause-plays
returns-in-CallFeature-clause-plays c =
    subst (λ o. Plays c.args.me c.args.count o c.call_feature.result c.args.store.now c.call_feature.new.store) (sym c.in-CallFeature.is) c.call_feature.ensures.plays
