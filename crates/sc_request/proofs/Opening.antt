-- The core opens as the half of the machine's opening.
use Rattle.std.proofs.Common.{Bool, true, false, [], ◌∷◌, refl}
use Rattle.std.specs.Prelude.{nat_lt, if◌then◌else◌}
use Rattle.sc_model.specs.Handlers as machine
use Rattle.sc_handler.specs.Handlers.{new_handler}
use Rattle.sc_request.specs.Asked.{Numbering}
use Rattle.sc_request.specs.Halves.{posted_of, IsHandlerOf}
use Rattle.sc_request.specs.Laws.{OpensAsHalf}

pub new : (n : Numbering) → IsHandlerOf n machine.new_handler new_handler
new n = record { stage = refl; services = refl; queue = refl; callback = refl; answer = refl; failure = refl; sessions = refl; refused = refl }

asked : (n : Numbering) (r : machine.Request) →
    IsHandlerOf n (record machine.new_handler { queue = r ∷ [] }) (record new_handler { queue = posted_of n r ∷ [] })
asked n r = record { stage = refl; services = refl; queue = refl; callback = refl; answer = refl; failure = refl; sessions = refl; refused = refl }

either : (n : Numbering) (r : machine.Request) (b : Bool) →
    IsHandlerOf n (if b then record machine.new_handler { queue = r ∷ [] } else machine.new_handler)
    (if b then record new_handler { queue = posted_of n r ∷ [] } else new_handler)
either n r true = asked n r
either n r false = new n

pub opens : OpensAsHalf
opens n s root = record { count = refl; rights = refl; handlers = λ k. either n _ (nat_lt k 1) }
