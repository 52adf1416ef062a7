use Rattle.std.proofs.Common.{ap, subst}
use Rattle.sc_tree.specs.Plain.{System}
use Rattle.sc_rules.specs.Purity.{IsPurity}
use Rattle.sc_typing.specs.FeatureNumbers.{pure_by}
use Rattle.sc_class.specs.SystemIn.{system_in}
use Rattle.sc_check.proofs.purity.pure_functions.Goals as goal

pub returns-clause-pure : goal.returns-clause-pure
returns-clause-pure c =
    subst (λ (s : System). IsPurity s (pure_by (system_in c.in_ok-numbering.numbering.tables.now) c.in_ok-impure.impure.items)) (ap system_in c.in_ok-numbering.ensures) c.in_ok-impure.ensures.pure
