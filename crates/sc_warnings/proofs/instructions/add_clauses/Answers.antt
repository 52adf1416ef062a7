use Rattle.std.proofs.Common.{map}
use Rattle.std.specs.List.{flat_map}
use Rattle.std.proofs.lemmas.List.Folds.{flat_map-map}
use Rattle.sc_tree.specs.declared.instruction.Clause.{Clause}
use Rattle.sc_tree.specs.View.{clause_of}
use Rattle.sc_warnings.specs.Sites.{sites_of_clause}
use Rattle.sc_warnings.specs.Views.{site_of}
use Rattle.sc_warnings.proofs.Added.{all_given, next_given}
use Rattle.sc_warnings.proofs.instructions.add_clauses.Goals as goal

pub loop-clause-preserved : goal.loop-clause-preserved
unfolding clause_of
loop-clause-preserved c =
    next_given (λ (k : Clause). sites_of_clause (map (λ name. name.now) c.args.names.now) (clause_of k)) c.args.clauses.now c.loop-clause.clause-index c.clause-item.result
    (map site_of c.args.sites.now.items) (map site_of c.loop-clause.sites.items) (map site_of c.add_tested.new.sites.items)
    c.loop-clause-test.true c.clause-item.is c.loop-clause.invariant c.in_ok-add_tested.ensures

pub returns : goal.returns
returns c =
    let f = sites_of_clause (map (λ name. name.now) c.args.names.now) in
    all_given (λ (k : Clause). f (clause_of k)) c.args.clauses.now c.loop-clause.clause-index (map site_of c.args.sites.now.items)
    (map site_of c.loop-clause.sites.items) (flat_map f (map clause_of c.args.clauses.now)) c.loop-clause-test.false (flat_map-map f clause_of c.args.clauses.now) c.loop-clause.invariant
