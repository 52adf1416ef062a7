use Rattle.std.proofs.Common.{map}
use Rattle.std.specs.List.{flat_map}
use Rattle.std.proofs.lemmas.List.Folds.{flat_map-map}
use Rattle.sc_tree.specs.declared.declaration.Declaration.{Declaration}
use Rattle.sc_tree.specs.View.{declaration_of}
use Rattle.sc_warnings.specs.Warnings.{warnings_of_local}
use Rattle.sc_warnings.specs.Views.{site_of}
use Rattle.sc_warnings.proofs.Added.{all_given, next_given}
use Rattle.sc_warnings.proofs.listing.add_locals.Goals as goal

pub loop-local-preserved : goal.loop-local-preserved
loop-local-preserved c =
    next_given (λ (x : Declaration). warnings_of_local (map site_of c.args.body.now) (declaration_of x)) c.args.locals.now c.loop-local.local-index c.local-item.result
    c.args.warnings.now.items c.loop-local.warnings.items c.add_local.new.warnings.items
    c.loop-local-test.true c.local-item.is c.loop-local.invariant c.in_ok-add_local.ensures

pub returns : goal.returns
returns c =
    let f = warnings_of_local (map site_of c.args.body.now) in
    all_given (λ (x : Declaration). f (declaration_of x)) c.args.locals.now c.loop-local.local-index c.args.warnings.now.items
    c.loop-local.warnings.items (flat_map f (map declaration_of c.args.locals.now)) c.loop-local-test.false (flat_map-map f declaration_of c.args.locals.now)
    c.loop-local.invariant
