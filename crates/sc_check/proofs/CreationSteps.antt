-- What follows of judging a creation from what is ensured of its call.
use Rattle.std.proofs.Common.{◌≡◌, List, Option, false, ap, sym, ◌∙◌, map}
use Rattle.sc_tree.specs.declared.expression.Expr.{Expr}
use Rattle.sc_tree.specs.Plain.{Name, no_target}
use Rattle.sc_tree.specs.View.{exprs_of}
use Rattle.sc_rules.specs.declared.entity_types.entity_type.EntityType.{EntityType}
use Rattle.sc_rules.specs.declared.rule.Rule.TheVariants.{NotCreation}
use Rattle.sc_rules.specs.declared.position.Context.TheVariants.{Body}
use Rattle.sc_rules.specs.declared.position.Use.TheVariants.{Instruction}
use Rattle.sc_rules.specs.Names.{RoutineContext, Entities, Meaning}
use Rattle.sc_rules.specs.Typing as typing
use Rattle.sc_rules.specs.Judging.{◌>>=◌, judge_actuals_and_name, judged_actuals, required}
use Rattle.sc_rules.specs.JudgingText.{creation_meaning, is_made_by_if_any}
use Rattle.sc_typing.specs.declared.fault.CheckFault.{CheckFault}
use Rattle.sc_typing.specs.declared.expressions.typing.JudgedActual.{JudgedActual}
use Rattle.sc_typing.specs.Views.{actual_in}
use Rattle.sc_typing.specs.Judges.{Faults}
use Rattle.sc_typing.proofs.Steps.{faults_along, faults_first}
use Rattle.sc_check.specs.Internal.Parts.{judge_creation_call}

-- a creation whose call fails
pub creation_fails : (h : RoutineContext) (n : Entities) (t : Option EntityType) (x : Name) (es ds : List Expr) (fs gs : List JudgedActual) (m : Meaning) (e : CheckFault) → m ≡ creation_meaning h t x → ds ≡ es →
    map actual_in fs ≡ judged_actuals h Body n (exprs_of ds) → gs ≡ fs → Faults (judge_actuals_and_name h Body Instruction no_target m x.span (map actual_in gs) (typing.typing t false)) e →
    Faults (judge_creation_call h n t x (exprs_of es)) e
creation_fails h n t x es ds fs gs m e mq dq fq gq f =
    let made = λ (u : typing.Typing). required (is_made_by_if_any h.system t x) NotCreation x.span in
    faults_along (judge_creation_call h n t x (exprs_of es)) (judge_actuals_and_name h Body Instruction no_target m x.span (map actual_in gs) (typing.typing t false) >>= made) e
    (ap (λ (es : List Expr). judge_actuals_and_name h Body Instruction no_target (creation_meaning h t x) x.span (judged_actuals h Body n (exprs_of es)) (typing.typing t false) >>= made) (sym dq)
    ∙ ap (λ rs. judge_actuals_and_name h Body Instruction no_target (creation_meaning h t x) x.span rs (typing.typing t false) >>= made) (sym fq)
    ∙ ap (λ (fs : List JudgedActual). judge_actuals_and_name h Body Instruction no_target (creation_meaning h t x) x.span (map actual_in fs) (typing.typing t false) >>= made) (sym gq)
    ∙ ap (λ m. judge_actuals_and_name h Body Instruction no_target m x.span (map actual_in gs) (typing.typing t false) >>= made) (sym mq))
    (faults_first (judge_actuals_and_name h Body Instruction no_target m x.span (map actual_in gs) (typing.typing t false)) made e f)
