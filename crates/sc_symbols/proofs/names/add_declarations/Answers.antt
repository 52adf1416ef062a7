use Rattle.std.proofs.Common.{map}
use Rattle.std.specs.List.{flat_map}
use Rattle.std.proofs.lemmas.List.Folds.{flat_map-map}
use Rattle.sc_tree.specs.declared.declaration.Declaration.{Declaration}
use Rattle.sc_tree.specs.View.{declaration_of}
use Rattle.sc_class.specs.SystemIn.{system_in}
use Rattle.sc_symbols.specs.Internal.{scope_of}
use Rattle.sc_symbols.specs.Mentions.{mentions_of_declaration}
use Rattle.sc_symbols.proofs.Added.{all_given, next_given}
use Rattle.sc_symbols.proofs.names.add_declarations.Goals as goal

pub loop-declaration-preserved : goal.loop-declaration-preserved
loop-declaration-preserved c =
    next_given (λ (x : Declaration). mentions_of_declaration (system_in c.args.tables.now) (scope_of c.args.scope.now) (declaration_of x)) c.args.declarations.now c.loop-declaration.declaration-index c.declaration-item.result
    c.args.mentions.now.items c.loop-declaration.mentions.items c.add_declaration.new.mentions.items
    c.loop-declaration-test.true c.declaration-item.is c.loop-declaration.invariant c.in_ok-add_declaration.ensures

pub returns : goal.returns
returns c =
    let f = mentions_of_declaration (system_in c.args.tables.now) (scope_of c.args.scope.now) in
    all_given (λ (x : Declaration). f (declaration_of x)) c.args.declarations.now c.loop-declaration.declaration-index c.args.mentions.now.items
    c.loop-declaration.mentions.items (flat_map f (map declaration_of c.args.declarations.now)) c.loop-declaration-test.false (flat_map-map f declaration_of c.args.declarations.now)
    c.loop-declaration.invariant
