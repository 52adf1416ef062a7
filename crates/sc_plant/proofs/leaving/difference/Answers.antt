use Rattle.std.proofs.Common.{◌<◌, ℕ, List, IfNone, IfSome, subst}
use Rattle.sc_handler.specs.declared.settlement.Settlement.{Settlement}
use Rattle.sc_request.specs.Cores.{log_of}
use Rattle.sc_worklog.specs.declared.logged_region.LoggedRegion.{LoggedRegion}
use Rattle.sc_recording.specs.Regions.{AgreesIn}
use Rattle.sc_plant.proofs.leaving.difference.Goals as goal

pub returns-clause-some : goal.returns-clause-some
returns-clause-some c =
    let P : List LoggedRegion → List Settlement → Type 0 =
    λ rs es. IfSome c.first_difference.result (λ h. (AgreesIn rs es h → ⊥) × ((k : ℕ) → k < h → AgreesIn rs es k)) in
    subst (λ (rs : List LoggedRegion). P rs (log_of c.args.left.now.core)) c.as_slice.ensures.value
    (subst (λ (es : List Settlement). P c.as_slice.result.now es) c.log.ensures c.first_difference.ensures.some)

pub returns-clause-none : goal.returns-clause-none
returns-clause-none c =
    let P : List LoggedRegion → List Settlement → Type 0 =
    λ rs es. IfNone c.first_difference.result ((h : ℕ) → AgreesIn rs es h) in
    subst (λ (rs : List LoggedRegion). P rs (log_of c.args.left.now.core)) c.as_slice.ensures.value
    (subst (λ (es : List Settlement). P c.as_slice.result.now es) c.log.ensures c.first_difference.ensures.none)
