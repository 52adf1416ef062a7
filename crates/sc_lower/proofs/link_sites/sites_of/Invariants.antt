use Rattle.std.proofs.Common.{◌≡◌, map, take}
use Rattle.sc_routines.specs.declared.code.SitedOperation.{SitedOperation}
use Rattle.sc_lower.proofs.link_sites.sites_of.Given as goal

abbrev pub invariant-loop-sited : goal.invariant-loop-sited
invariant-loop-sited l = l.sites.items ≡ map (λ (sited : SitedOperation). sited.site) (take l.sited-index l.code)
