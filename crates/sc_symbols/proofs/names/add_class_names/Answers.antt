use Rattle.std.proofs.Common.{map}
use Rattle.std.specs.List.{flat_map}
use Rattle.std.proofs.lemmas.List.Folds.{flat_map-map}
use Rattle.sc_tree.specs.declared.expression.Name.{Name}
use Rattle.sc_tree.specs.View.{name_of}
use Rattle.sc_class.specs.SystemIn.{system_in}
use Rattle.sc_symbols.specs.Mentions.{mentions_of_class}
use Rattle.sc_symbols.proofs.Added.{all_given, next_given}
use Rattle.sc_symbols.proofs.names.add_class_names.Goals as goal

pub loop-name-preserved : goal.loop-name-preserved
loop-name-preserved c =
    next_given (λ (x : Name). mentions_of_class (system_in c.args.tables.now) (name_of x)) c.args.names.now c.loop-name.name-index c.name-item.result
    c.args.mentions.now.items c.loop-name.mentions.items c.add_class_name.new.mentions.items
    c.loop-name-test.true c.name-item.is c.loop-name.invariant c.in_ok-add_class_name.ensures

pub returns : goal.returns
returns c =
    let f = mentions_of_class (system_in c.args.tables.now) in
    all_given (λ (x : Name). f (name_of x)) c.args.names.now c.loop-name.name-index c.args.mentions.now.items
    c.loop-name.mentions.items (flat_map f (map name_of c.args.names.now)) c.loop-name-test.false (flat_map-map f name_of c.args.names.now)
    c.loop-name.invariant
