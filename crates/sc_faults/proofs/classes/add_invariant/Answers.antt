use Rattle.std.proofs.Common.{[]}
use Rattle.sc_tree.specs.View.{clause_of, expr_of, tag_of}
use Rattle.sc_class.specs.SystemIn.{system_in}
use Rattle.sc_rules.specs.declared.position.Context.TheVariants as context
use Rattle.sc_rules.specs.declared.position.Position.TheVariants.{Plain}
use Rattle.sc_rules.specs.SystemRules.{clause_span, invariant_context, may_be_formula}
use Rattle.sc_rules.specs.JudgingSystem.{judge_invariant}
use Rattle.sc_typing.specs.Marks.{is_marked}
use Rattle.sc_faults.specs.Internal.Listing.{faults_of}
use Rattle.sc_faults.proofs.Steps.{form_added}
use Rattle.sc_faults.proofs.classes.add_invariant.Goals as goal

pub returns : goal.returns
unfolding clause_of
returns c =
    let s = system_in c.args.class.now.tables.now in
    let pure = is_marked c.args.class.now.purity.now in
    let k = c.args.class.now.class in
    let clause = c.args.clause.now in
    let e = expr_of clause.condition in
    form_added (judge_invariant s pure k (clause_of clause)) (faults_of (invariant_context s pure k) context.Invariant Plain [] e)
    c.may_be_formula-is_formula.result (may_be_formula s k e) c.clause_span.result (clause_span (tag_of clause.tag) e)
    c.judge_invariant-judged.result c.add_form.result c.args.faults.now.items c.add_judged.new.faults.items c.add_form.new.faults.items
    c.may_be_formula-is_formula.ensures c.clause_span.ensures c.judge_invariant-judged.ensures
    c.in_ok-add_judged.ensures c.add_form.ensures
