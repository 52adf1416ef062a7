use Rattle.std.proofs.Common.{[], map}
use Rattle.std.proofs.lemmas.List.Folds.{flat_map-map}
use Rattle.sc_tree.specs.declared.system.Class.{Class}
use Rattle.sc_tree.specs.View.{class_of, system_of}
use Rattle.sc_warnings.specs.Warnings.{sites_of_class, sites_of_system}
use Rattle.sc_warnings.specs.Views.{site_of}
use Rattle.sc_warnings.proofs.Added.{all_given, next_borrowed}
use Rattle.sc_warnings.proofs.routines.sites_of_system.Goals as goal

pub loop-class-preserved : goal.loop-class-preserved
loop-class-preserved c =
    next_borrowed (λ (x : Class). sites_of_class (class_of x)) c.args.system.now.classes.items c.deref-class-items.result.now c.loop-class.class-index c.class-item.result
    [] (map site_of c.loop-class.sites.items) (map site_of c.add_class.new.sites.items)
    c.deref-class-items.ensures.value c.loop-class-test.true c.class-item.is c.loop-class.invariant c.in_ok-add_class.ensures

pub returns : goal.returns
unfolding system_of
returns c =
    all_given (λ (x : Class). sites_of_class (class_of x)) c.args.system.now.classes.items c.loop-class.class-index []
    (map site_of c.loop-class.sites.items) (sites_of_system (system_of c.args.system.now)) (rw c.deref-class-items.ensures.value at c.loop-class-test.false)
    (flat_map-map sites_of_class class_of c.args.system.now.classes.items) c.loop-class.invariant
