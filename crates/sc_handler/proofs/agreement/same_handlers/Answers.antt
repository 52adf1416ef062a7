use Rattle.std.proofs.Common.{ℕ, List, ap}
use Rattle.arrayvec.specs.ArrayVec.{ArrayVec}
use Rattle.sc_handler.proofs.agreement.same_handlers.Goals as goal

pub returns : goal.returns
returns c = (
  λ e. ap (λ (ks : List ℕ). record { items = ks }) (c.have_same.ensures.0 e),
  λ e. c.have_same.ensures.1 (ap (λ (v : ArrayVec ℕ). v.items) e),
)
