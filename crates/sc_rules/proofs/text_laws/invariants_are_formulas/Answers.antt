use Rattle.sc_rules.proofs.TextLaws.{invariants_are_formulas}
use Rattle.sc_rules.proofs.text_laws.invariants_are_formulas.Goals as goal

pub returns : goal.returns
returns c = invariants_are_formulas
