use Rattle.std.proofs.Common.{◌∙◌}
use Rattle.sc_class.specs.SystemIn.{system_in}
use Rattle.sc_typing.specs.FeatureNumbers.{all_features}
use Rattle.sc_typing.proofs.Numbers.{numbered_none, numbered_more, all_numbered, all_started, starts_known}
use Rattle.sc_typing.proofs.purity.numbering.Numbering.of.Goals as goal

pub loop-class-init : goal.loop-class-init
loop-class-init c =
    numbered_none (system_in c.args.tables.now) c.classes-classes.result.now c.new-features.result.items c.in_ok-starts.starts.items c.classes-classes.ensures c.new-features.ensures.items c.in_ok-starts.ensures.items

pub loop-class-preserved : goal.loop-class-preserved
loop-class-preserved c =
    numbered_more c.classes-classes.result.now (all_features (system_in c.args.tables.now)) c.loop-class.features.items c.add_features.new.features.items c.loop-class.starts.items c.push.new.self.items
    c.loop-class.class c.len.result c.index-classes-class.result c.deref.result.now c.loop-class-test.true c.index-classes-class.is c.deref.ensures.value c.in_ok-add_features.ensures
    c.in_ok-push.ensures.items (c.len.ensures ∙ c.loop-class.features.ok.0) c.loop-class.invariant

pub invariant_of-result-clause-are_all : goal.invariant_of-result-clause-are_all
invariant_of-result-clause-are_all c =
    all_numbered (system_in c.args.tables.now) c.classes-classes.result.now c.loop-class.features.items c.loop-class.starts.items c.loop-class.class c.classes-classes.ensures c.loop-class-test.false
    c.loop-class.auto.class-end c.loop-class.invariant

pub invariant_of-result-clause-as_many : goal.invariant_of-result-clause-as_many
invariant_of-result-clause-as_many c =
    all_started (system_in c.args.tables.now) c.classes-classes.result.now c.loop-class.features.items c.loop-class.starts.items c.loop-class.class c.classes-classes.ensures c.loop-class-test.false
    c.loop-class.auto.class-end c.loop-class.invariant

pub invariant_of-result-clause-are_starts : goal.invariant_of-result-clause-are_starts
invariant_of-result-clause-are_starts c =
    starts_known (system_in c.args.tables.now) c.classes-classes.result.now c.loop-class.features.items c.loop-class.starts.items c.loop-class.class c.classes-classes.ensures c.loop-class-test.false
    c.loop-class.auto.class-end c.loop-class.invariant
