use Rattle.std.proofs.Common.{◌∙◌, List, ap, arith}
use Rattle.sc_play.specs.Contents.{contents_at}
use Rattle.sc_play.specs.Regions.{PlainRegion}
use Rattle.sc_world.proofs.UnusedHandlers.{regions_past}
use Rattle.sc_world.proofs.configuration.Configuration.used.Goals as goal

pub used-requires-clause-new : goal.used-requires-clause-new
used-requires-clause-new c = λ h far.
    let s = c.args.self.now in
    ap (λ (rs : List PlainRegion). contents_at rs h) c.deref.ensures.value
    ∙ regions_past s.used s.regions.items (omega (arith, s.places, s.regions.ok.0)) s.unused.regions h far
