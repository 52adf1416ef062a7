use Rattle.std.proofs.Common.{false, subst}
use Rattle.sc_play.specs.Regions.{PlainRegion, Plays, outcome}
use Rattle.sc_play.proofs.JobTurns.{plays_by}
use Rattle.sc_play.proofs.region.Region.play_asking.Goals as goal

pub returns-in-Ok-clause-ok : goal.returns-in-Ok-clause-ok
returns-in-Ok-clause-ok c =
    let before : PlainRegion = record { handler = c.self.inside.handler; store = c.self.inside.store; is_told = c.self.inside.is_told } in
    let after : PlainRegion = record { handler = c.self.inside.handler; store = c.play_under.new.store; is_told = false } in
    subst (λ (z : PlainRegion). Plays c.args.limit c.args.job.now z after (outcome z.handler c.in-Ok.turns c.play_under.new.asked)) c.self.view_is
    (plays_by c.args.limit c.args.job.now before c.play_under.new.store c.in-Ok.turns c.play_under.new.asked c.in-Ok.ensures.ok)
