use Rattle.std.proofs.Common.{subst, sym, ◌<◌, ◌∙◌, ℕ}
use Rattle.sc_class.specs.View.{entry_of}
use Rattle.sc_rules.specs.Names.{routine_of}
use Rattle.sc_class.specs.SystemIn.{system_in}
use Rattle.sc_check.proofs.purity.ImpureSearchSteps.{collecting_start, collecting_read, collecting_end, entry_stands, entry_effects, entries_count}
use Rattle.sc_check.proofs.purity.impure_search.collect_effects.Goals as goal

pub loop-effect-init : goal.loop-effect-init
loop-effect-init c =
    collecting_start (system_in c.args.numbering.now.tables.now) c.args.search.now.impure.items c.args.search.now.todo.items c.args.callers.now.lists.items c.args.number c.requires.collected

pub record_effect-requires-clause-searched : goal.record_effect-requires-clause-searched
record_effect-requires-clause-searched c =
    subst (λ (n : ℕ). c.args.number < n)
    (entries_count (system_in c.args.numbering.now.tables.now) c.args.numbering.now.features.items c.args.numbering.now.are_all ∙ sym c.loop-effect.invariant.collected.as_many)
    c.requires.in_range

pub record_effect-requires-clause-as_many : goal.record_effect-requires-clause-as_many
record_effect-requires-clause-as_many c = c.loop-effect.invariant.collected.as_many_lists

pub loop-effect-preserved : goal.loop-effect-preserved
loop-effect-preserved c =
    let s = system_in c.args.numbering.now.tables.now in
    collecting_read s c.args.number c.deref-effect-items.result.now c.loop-effect.effect-index (routine_of (entry_of c.index-entry.result.now))
    (entry_stands s c.args.numbering.now.features.items c.args.number c.index-entry.result.now c.args.numbering.now.are_all c.requires.in_range c.index-entry.ensures)
    (entry_effects s c.index-entry.result.now c.as_str.result.now c.deref-effect-items.result.now c.in_ok-effects.effects.items c.as_str.ensures.value c.deref-effect-items.ensures.value c.in_ok-effects.ensures.effects)
    c.loop-effect.search.impure.items c.record_effect.new.search.impure.items c.loop-effect.search.todo.items c.record_effect.new.search.todo.items c.loop-effect.callers.lists.items c.record_effect.new.callers.lists.items
    c.effect-item.result c.loop-effect-test.true c.effect-item.is c.loop-effect.invariant c.in_ok-record_effect.ensures

pub returns-clause-collected : goal.returns-clause-collected
returns-clause-collected c =
    let s = system_in c.args.numbering.now.tables.now in
    collecting_end s c.args.number c.deref-effect-items.result.now c.loop-effect.effect-index (routine_of (entry_of c.index-entry.result.now))
    (entry_stands s c.args.numbering.now.features.items c.args.number c.index-entry.result.now c.args.numbering.now.are_all c.requires.in_range c.index-entry.ensures)
    (entry_effects s c.index-entry.result.now c.as_str.result.now c.deref-effect-items.result.now c.in_ok-effects.effects.items c.as_str.ensures.value c.deref-effect-items.ensures.value c.in_ok-effects.ensures.effects)
    c.loop-effect.search.impure.items c.loop-effect.search.todo.items c.loop-effect.callers.lists.items c.loop-effect-test.false c.loop-effect.invariant
