use Rattle.sc_class.proofs.PlaceLists.{first_listed}
use Rattle.sc_class.proofs.faults.features.first_feature_faults.Goals as goal

pub returns : goal.returns
returns c = record {
  clash = first_listed (λ p. p.start) c.first.result c.in_ok-found.ensures.clash c.first.ensures;
  redefinition = first_listed (λ p. p.start) c.first-2.result c.in_ok-found.ensures.redefinition c.first-2.ensures;
}
