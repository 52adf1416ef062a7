-- Values that are passed on keep fitting.
use Rattle.std.specs.Prelude.{take}
use Rattle.std.proofs.Common.{refl, sym, ◌∙◌}
use Rattle.sc_rules.proofs.TypeLaws.{declared}
use Rattle.sc_model.specs.Environments.{handler_named}
use Rattle.sc_machine_laws.specs.states.Passing.{FitWhereConforming, FitWhereGiven, FitWherePassed}
use Rattle.sc_machine_laws.specs.states.Points.{types_of}
use Rattle.sc_machine_laws.proofs.states.Actuals.{actuals_fit, plain_result}
use Rattle.sc_machine_laws.proofs.states.PassedValues.{conforms_fits, result_fits}
use Rattle.sc_machine_laws.proofs.states.Stacks.{types_length}
use Rattle.sc_machine_laws.proofs.states.Versions.{declared_each, mapped_length}

pub fit_where_conforming : FitWhereConforming
fit_where_conforming = conforms_fits

pub fit_where_given : FitWhereGiven
fit_where_given s me k of v t g d e l f = result_fits s me of t g k v (plain_result s d g e) l f

pub fit_where_passed : FitWherePassed
fit_where_passed s me k bs t formals us l declared take fits =
    actuals_fit s me k (handler_named bs) t formals us l (sym (types_length us (types_of us) refl) ∙ take.1 ∙ mapped_length s formals formals) (declared_each s formals formals declared) fits take.0
