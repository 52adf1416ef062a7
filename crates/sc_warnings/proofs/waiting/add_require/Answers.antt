use Rattle.std.proofs.Common.{map}
use Rattle.std.specs.List.{flat_map}
use Rattle.std.proofs.lemmas.List.Folds.{flat_map-map}
use Rattle.sc_tree.specs.declared.instruction.Clause.{Clause}
use Rattle.sc_tree.specs.View.{clause_of, declaration_of}
use Rattle.sc_warnings.specs.Warnings.{warnings_of_require}
use Rattle.sc_warnings.specs.Views.{site_of}
use Rattle.sc_warnings.proofs.Added.{all_given, next_given, two}
use Rattle.sc_warnings.proofs.waiting.add_require.Goals as goal

pub loop-clause-preserved : goal.loop-clause-preserved
loop-clause-preserved c =
    next_given (λ (x : Clause). warnings_of_require (map site_of c.args.calls.now) c.args.feature.now (map declaration_of c.args.formals.now) (clause_of x)) c.args.clauses.now c.loop-clause.clause-index c.clause-item.result
    c.args.warnings.now.items c.loop-clause.warnings.items c.add_waiting.new.warnings.items
    c.loop-clause-test.true c.clause-item.is c.loop-clause.invariant
    (two c.loop-clause.warnings.items c.add_clause.new.warnings.items c.add_waiting.new.warnings.items _ _ c.in_ok-add_clause.ensures c.in_ok-add_waiting.ensures)

pub returns : goal.returns
returns c =
    let f = warnings_of_require (map site_of c.args.calls.now) c.args.feature.now (map declaration_of c.args.formals.now) in
    all_given (λ (x : Clause). f (clause_of x)) c.args.clauses.now c.loop-clause.clause-index c.args.warnings.now.items
    c.loop-clause.warnings.items (flat_map f (map clause_of c.args.clauses.now)) c.loop-clause-test.false (flat_map-map f clause_of c.args.clauses.now)
    c.loop-clause.invariant
