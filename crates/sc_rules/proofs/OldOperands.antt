-- Where the operand of an `old` stands, of which no rule fails: it is that of a postcondition.
use Rattle.std.proofs.Common.{◌≡◌, Bool, true, false, refl, subst}
use Rattle.std.specs.Prelude.{not, ◌&&◌}
use Rattle.sc_tree.specs.declared.expression.UnaryOperator.TheVariants as unary
use Rattle.sc_tree.specs.Plain.{Expr}
use Rattle.sc_rules.specs.declared.position.Context.{Context}
use Rattle.sc_rules.specs.declared.position.Context.TheVariants as context
use Rattle.sc_rules.specs.declared.position.Position.{Position}
use Rattle.sc_rules.specs.Positions.{is_ensure, wants_pure, below_old}
use Rattle.sc_rules.specs.Names.{RoutineContext, Entities}
use Rattle.sc_rules.specs.Typing.{Typing, old_stands, HasType}

pub below_is_old : (c : Context) (t : Typing) → old_stands c unary.Old t ≡ true → below_old c ≡ context.Old
below_is_old context.Ensure t e = refl
below_is_old context.Require t e = cc
below_is_old context.Check t e = cc
below_is_old context.Body t e = cc
below_is_old context.Invariant t e = cc
below_is_old context.Old t e = refl

pub operand_of_old : {h : RoutineContext} (c : Context) {k : Position} {n : Entities} {e : Expr} {t : Typing} →
    HasType h (below_old c) k n e t → old_stands c unary.Old t ≡ true → HasType h context.Old k n e t
operand_of_old {h} c {k} {n} {e} {t} d o = subst (λ c. HasType h c k n e t) (below_is_old c t o) d

-- also where a rule fails, pure functions alone are called there
pub below_wants_pure : (c : Context) → wants_pure (below_old c) ≡ true
below_wants_pure context.Body = refl
below_wants_pure context.Require = refl
below_wants_pure context.Ensure = refl
below_wants_pure context.Check = refl
below_wants_pure context.Invariant = refl
below_wants_pure context.Old = refl
