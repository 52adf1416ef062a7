use Rattle.std.proofs.Common.{map}
use Rattle.std.specs.List.{flat_map}
use Rattle.std.proofs.lemmas.List.Folds.{flat_map-map}
use Rattle.sc_tree.specs.declared.system.Class.{Class}
use Rattle.sc_tree.specs.View.{class_of}
use Rattle.sc_warnings.specs.Warnings.{warnings_of_class}
use Rattle.sc_warnings.specs.Views.{site_of}
use Rattle.sc_warnings.proofs.Added.{all_given, next_given}
use Rattle.sc_warnings.proofs.listing.add_classes.Goals as goal

pub loop-class-preserved : goal.loop-class-preserved
loop-class-preserved c =
    next_given (λ (x : Class). warnings_of_class (map site_of c.args.calls.now) (class_of x)) c.args.classes.now c.loop-class.class-index c.class-item.result
    c.args.warnings.now.items c.loop-class.warnings.items c.add_class.new.warnings.items
    c.loop-class-test.true c.class-item.is c.loop-class.invariant c.in_ok-add_class.ensures

pub returns : goal.returns
returns c =
    let f = warnings_of_class (map site_of c.args.calls.now) in
    all_given (λ (x : Class). f (class_of x)) c.args.classes.now c.loop-class.class-index c.args.warnings.now.items
    c.loop-class.warnings.items (flat_map f (map class_of c.args.classes.now)) c.loop-class-test.false (flat_map-map f class_of c.args.classes.now)
    c.loop-class.invariant
