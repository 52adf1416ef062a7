use Rattle.std.proofs.Common.{◌++◌, ◌+◌, map, drop, ap, sym, ◌∙◌}
use Rattle.std.specs.Option.{option_map}
use Rattle.sc_formula.specs.Plain.{plain_formula}
use Rattle.sc_tree.specs.View.{clause_of}
use Rattle.sc_model.specs.Invariants.{with_clause, clauses_of}
use Rattle.sc_lower.specs.AttributeBindings.{binding_of}
use Rattle.sc_lower.proofs.Formulas.{clause_here, clause_pushed}
use Rattle.sc_lower.proofs.program.invariant.clauses.Goals as goal

pub returns-in_default : goal.returns-in_default
returns-in_default c =
    let bs = map binding_of c.args.attributes.now in
    let next = clauses_of bs (map clause_of (drop (c.loop-clause.clause-index + 1) c.args.clauses.now)) in
    let join = option_map (λ others. map plain_formula c.loop-clause.formulas.items ++ others) in
    ap (λ f. join (with_clause f next)) (ap (option_map plain_formula) (sym c.in_default.is) ∙ c.in_ok-formula.ensures)
    ∙ ap join (sym (clause_here bs c.args.clauses.now c.loop-clause.clause-index c.clause-item.result c.loop-clause-test.true c.clause-item.is))
    ∙ sym c.loop-clause.invariant

pub loop-clause-preserved : goal.loop-clause-preserved
loop-clause-preserved c =
    let bs = map binding_of c.args.attributes.now in
    let next = clauses_of bs (map clause_of (drop (c.loop-clause.clause-index + 1) c.args.clauses.now)) in
    let join = option_map (λ others. map plain_formula c.loop-clause.formulas.items ++ others) in
    c.loop-clause.invariant
    ∙ ap join (clause_here bs c.args.clauses.now c.loop-clause.clause-index c.clause-item.result c.loop-clause-test.true c.clause-item.is)
    ∙ ap (λ f. join (with_clause f next)) (sym c.in_ok-formula.ensures ∙ ap (option_map plain_formula) c.in-Some.is)
    ∙ clause_pushed c.loop-clause.formulas.items c.in-Some.formula next
    ∙ ap (λ items. option_map (λ others. map plain_formula items ++ others) next) (sym c.in_ok-push.ensures.items)
