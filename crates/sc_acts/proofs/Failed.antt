-- What is asked where a store has failed.
use Rattle.std.proofs.Common.{◌≡◌, Option, Some, None, refl, sym, ap, ◌∙◌}
use Rattle.sc_model.specs.declared.cause.Cause.{Cause}
use Rattle.sc_region.specs.declared.job.Want.{Want}
use Rattle.sc_acts.specs.Turning.{unless_failed}

unless_twice : (f : Option Cause) (w : Want) → unless_failed f w ≡ unless_failed f (unless_failed f w)
unless_twice None w = refl
unless_twice (Some why) w = refl

pub asked_twice : (f : Option Cause) (w v : Want) → v ≡ unless_failed f w → unless_failed f w ≡ unless_failed f v
asked_twice f w v e = unless_twice f w ∙ ap (unless_failed f) (sym e)
