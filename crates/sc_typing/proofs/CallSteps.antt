-- What follows of judging a call from what is ensured of its target, its actuals and its name.
use Rattle.std.proofs.Common.{◌≡◌, List, Result, Ok, ap, sym, ◌∙◌, map}
use Rattle.sc_tree.specs.declared.expression.Expr.{Expr}
use Rattle.sc_tree.specs.declared.expression.Expr.TheVariants as expr
use Rattle.sc_tree.specs.declared.expression.Call.{Call}
use Rattle.sc_tree.specs.Plain.{Name, Target}
use Rattle.sc_tree.specs.View.{expr_of, exprs_of, name_of, target_of}
use Rattle.sc_tree.proofs.ViewLemmas.{expr_of-call}
use Rattle.sc_rules.specs.declared.position.Context.{Context}
use Rattle.sc_rules.specs.declared.position.Position.{Position}
use Rattle.sc_rules.specs.declared.position.Use.{Use}
use Rattle.sc_rules.specs.declared.position.Use.TheVariants.{Value}
use Rattle.sc_rules.specs.Names.{RoutineContext, Entities, Meaning, meaning_of}
use Rattle.sc_rules.specs.Typing as typing
use Rattle.sc_rules.specs.Judging.{◌>>=◌, judge, judge_receiver, judge_called, judge_actuals_and_name, judged_actuals}
use Rattle.sc_typing.specs.declared.expressions.typing.Typing.{Typing}
use Rattle.sc_typing.specs.declared.expressions.typing.JudgedActual.{JudgedActual}
use Rattle.sc_typing.specs.declared.fault.CheckFault.{CheckFault}
use Rattle.sc_typing.specs.Views.{typing_of, actual_in}
use Rattle.sc_typing.specs.Judges.{Judges, judge_call}
use Rattle.sc_typing.proofs.Steps.{judges_along}

module _ (h : RoutineContext) (c : Context) (n : Entities) where
  pub judge_call-is : (k : Position) (d : Call) → judge h c k n (expr_of (expr.Call d)) ≡ judge_call h c n Value (target_of d.target) (name_of d.name) (exprs_of d.actuals.items)
  unfolding judge
  judge_call-is k d = ap (judge h c k n) (expr_of-call d)

  -- an expression that is a call
  pub is_call : (k : Position) (e : Expr) (d : Call) (r : Result Typing CheckFault) → e ≡ expr.Call d →
      Judges typing_of (judge_call h c n Value (target_of d.target) (name_of d.name) (exprs_of d.actuals.items)) r → Judges typing_of (judge h c k n (expr_of e)) r
  is_call k e d r q f = judges_along typing_of _ _ r (ap (λ (e : Expr). judge h c k n (expr_of e)) q ∙ judge_call-is k d) f

  -- a call whose actuals and name are judged
  pub call_done : (u : Use) (a : Target) (x : Name) (es ds : List Expr) (fs gs : List JudgedActual) (t : typing.Typing) (m : Meaning) (r : Result Typing CheckFault) →
      judge_receiver h c n a ≡ Ok t → m ≡ meaning_of h n a t.type x → ds ≡ es → map actual_in fs ≡ judged_actuals h c n (exprs_of ds) → gs ≡ fs →
      Judges typing_of (judge_actuals_and_name h c u a m x.span (map actual_in gs) t) r → Judges typing_of (judge_call h c n u a x (exprs_of es)) r
  call_done u a x es ds fs gs t m r q mq dq fq gq f =
      judges_along typing_of (judge_call h c n u a x (exprs_of es)) (judge_actuals_and_name h c u a m x.span (map actual_in gs) t) r
      (ap (λ j. j >>= λ t. judge_called h c n u a x (judged_actuals h c n (exprs_of es)) t) q
      ∙ ap (λ (es : List Expr). judge_actuals_and_name h c u a (meaning_of h n a t.type x) x.span (judged_actuals h c n (exprs_of es)) t) (sym dq)
      ∙ ap (λ rs. judge_actuals_and_name h c u a (meaning_of h n a t.type x) x.span rs t) (sym fq)
      ∙ ap (λ (fs : List JudgedActual). judge_actuals_and_name h c u a (meaning_of h n a t.type x) x.span (map actual_in fs) t) (sym gq)
      ∙ ap (λ m. judge_actuals_and_name h c u a m x.span (map actual_in gs) t) (sym mq)) f
