use Rattle.std.proofs.Common.{[], map}
use Rattle.std.specs.List.{flat_map}
use Rattle.std.proofs.lemmas.List.Folds.{flat_map-map}
use Rattle.sc_tree.specs.declared.declaration.Declaration.{Declaration}
use Rattle.sc_tree.specs.View.{declaration_of}
use Rattle.sc_warnings.specs.Warnings.{name_if_reserved}
use Rattle.sc_warnings.proofs.Added.{all_given, next_given}
use Rattle.sc_warnings.proofs.routines.reserved_names.Goals as goal

pub loop-formal-preserved : goal.loop-formal-preserved
loop-formal-preserved c =
    next_given (λ (x : Declaration). name_if_reserved (declaration_of x)) c.args.formals.now c.loop-formal.formal-index c.formal-item.result
    [] (map (λ name. name.now) c.loop-formal.names.items) (map (λ name. name.now) c.add_reserved.new.names.items)
    c.loop-formal-test.true c.formal-item.is c.loop-formal.invariant c.in_ok-add_reserved.ensures

pub returns : goal.returns
returns c =
    let f = name_if_reserved in
    all_given (λ (x : Declaration). f (declaration_of x)) c.args.formals.now c.loop-formal.formal-index []
    (map (λ name. name.now) c.loop-formal.names.items) (flat_map f (map declaration_of c.args.formals.now)) c.loop-formal-test.false (flat_map-map f declaration_of c.args.formals.now)
    c.loop-formal.invariant
