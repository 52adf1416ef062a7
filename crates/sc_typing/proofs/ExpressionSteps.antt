-- What follows of judging an operator from what is ensured of its operands.
use Rattle.std.proofs.Common.{◌≡◌, false, Result, Ok, refl, ap, sym, ◌∙◌}
use Rattle.sc_text.specs.declared.token.Span.{Span}
use Rattle.sc_tree.specs.declared.expression.UnaryOperator.{UnaryOperator}
use Rattle.sc_tree.specs.declared.expression.BinaryOperator.{BinaryOperator}
use Rattle.sc_tree.specs.Plain as plain
use Rattle.sc_tree.specs.Plain.{Expr}
use Rattle.sc_rules.specs.declared.position.Context.{Context}
use Rattle.sc_rules.specs.declared.position.Position.{Position}
use Rattle.sc_rules.specs.declared.position.Position.TheVariants.{Plain, Condition, Source}
use Rattle.sc_rules.specs.Positions.{operand_position, is_condition, operand_context}
use Rattle.sc_rules.specs.Names.{RoutineContext, Entities}
use Rattle.sc_rules.specs.Typing as typing
use Rattle.sc_rules.specs.Judging.{Judged, ◌>>=◌, judge}
use Rattle.sc_typing.specs.declared.expressions.typing.Typing.{Typing}
use Rattle.sc_typing.specs.declared.fault.CheckFault.{CheckFault}
use Rattle.sc_typing.specs.Views.{typing_of}
use Rattle.sc_typing.specs.Judges.{Faults, Judges, judge_binary, judge_unary}
use Rattle.sc_typing.proofs.Steps.{faults_along, faults_first, judges_along}

module _ (h : RoutineContext) (c : Context) (k : Position) (n : Entities) (z : is_condition k ≡ false) (e : Expr) where
  module _ (p : Span) (op : UnaryOperator) (a : Expr) (q : e ≡ plain.Unary p op a) (d : Context) (dq : d ≡ operand_context op c) where
    unary_is : judge h c k n e ≡ judge h d Plain n a >>= judge_unary c p op
    unfolding judge
    unary_is = ap (judge h c k n) q ∙ ap (λ d. judge h d Plain n a >>= judge_unary c p op) (sym dq)

    pub unary_fails : (f : CheckFault) → Faults (judge h d Plain n a) f → Faults (judge h c k n e) f
    unary_fails f g = faults_along _ (judge h d Plain n a >>= judge_unary c p op) f unary_is (faults_first (judge h d Plain n a) (judge_unary c p op) f g)

    pub unary_done : (t : typing.Typing) (r : Result Typing CheckFault) → judge h d Plain n a ≡ Ok t → Judges typing_of (judge_unary c p op t) r → Judges typing_of (judge h c k n e) r
    unary_done t r tq g = judges_along typing_of _ (judge_unary c p op t) r (unary_is ∙ ap (λ j. j >>= judge_unary c p op) tq) g

  module _ (p : Span) (op : BinaryOperator) (a b : Expr) (q : e ≡ plain.Binary p op a b) (s : Position) (sq : s ≡ operand_position op) where
    -- behind the left operand
    abbrev right_judged : typing.Typing → Judged typing.Typing
    right_judged t = judge h c (operand_position op) n b >>= judge_binary p op t

    binary_plain : (k : Position) → is_condition k ≡ false → judge h c k n (plain.Binary p op a b) ≡ judge h c (operand_position op) n a >>= right_judged
    unfolding judge
    binary_plain Plain z = refl
    binary_plain Source z = refl
    binary_plain Condition z = cc

    binary_is : judge h c k n e ≡ judge h c s n a >>= right_judged
    binary_is = ap (judge h c k n) q ∙ binary_plain k z ∙ ap (λ s. judge h c s n a >>= right_judged) (sym sq)

    pub left_fails : (f : CheckFault) → Faults (judge h c s n a) f → Faults (judge h c k n e) f
    left_fails f g = faults_along _ (judge h c s n a >>= right_judged) f binary_is (faults_first (judge h c s n a) right_judged f g)

    module _ (t : typing.Typing) (tq : judge h c s n a ≡ Ok t) (s' : Position) (sq' : s' ≡ operand_position op) where
      right_is : judge h c k n e ≡ judge h c s' n b >>= judge_binary p op t
      right_is = binary_is ∙ ap (λ j. j >>= right_judged) tq ∙ ap (λ s. judge h c s n b >>= judge_binary p op t) (sym sq')

      pub right_fails : (f : CheckFault) → Faults (judge h c s' n b) f → Faults (judge h c k n e) f
      right_fails f g = faults_along _ (judge h c s' n b >>= judge_binary p op t) f right_is (faults_first (judge h c s' n b) (judge_binary p op t) f g)

      pub binary_done : (u : typing.Typing) (r : Result Typing CheckFault) → judge h c s' n b ≡ Ok u → Judges typing_of (judge_binary p op t u) r → Judges typing_of (judge h c k n e) r
      binary_done u r x g = judges_along typing_of _ (judge_binary p op t u) r (right_is ∙ ap (λ j. j >>= judge_binary p op t) x) g
