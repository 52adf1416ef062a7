use Rattle.std.proofs.Common.{map}
use Rattle.std.specs.List.{flat_map}
use Rattle.std.proofs.lemmas.List.Folds.{flat_map-map}
use Rattle.sc_tree.specs.declared.system.Parent.{Parent}
use Rattle.sc_tree.specs.View.{parent_of}
use Rattle.sc_class.specs.SystemIn.{system_in}
use Rattle.sc_symbols.specs.Mentions.{mentions_in_parent}
use Rattle.sc_symbols.proofs.Added.{all_given, next_given}
use Rattle.sc_symbols.proofs.classes.add_parents.Goals as goal

pub loop-parent-preserved : goal.loop-parent-preserved
loop-parent-preserved c =
    next_given (λ (x : Parent). mentions_in_parent (system_in c.args.tables.now) (parent_of x)) c.args.parents.now c.loop-parent.parent-index c.parent-item.result
    c.args.mentions.now.items c.loop-parent.mentions.items c.add_parent.new.mentions.items
    c.loop-parent-test.true c.parent-item.is c.loop-parent.invariant c.in_ok-add_parent.ensures

pub returns : goal.returns
returns c =
    let f = mentions_in_parent (system_in c.args.tables.now) in
    all_given (λ (x : Parent). f (parent_of x)) c.args.parents.now c.loop-parent.parent-index c.args.mentions.now.items
    c.loop-parent.mentions.items (flat_map f (map parent_of c.args.parents.now)) c.loop-parent-test.false (flat_map-map f parent_of c.args.parents.now)
    c.loop-parent.invariant
