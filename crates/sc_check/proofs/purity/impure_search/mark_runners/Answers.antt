use Rattle.std.proofs.Common.{◌∙◌, length}
use Rattle.sc_class.specs.View.{entry_of}
use Rattle.sc_class.specs.SystemIn.{root_in, system_in}
use Rattle.sc_rules.specs.Names.{routine_of}
use Rattle.sc_typing.specs.FeatureNumbers.{all_features}
use Rattle.sc_check.proofs.purity.ImpureSearchSteps.{entry_stands, entry_version}
use Rattle.sc_check.proofs.purity.Runners.{runners_read, callers_within, version_within}
use Rattle.sc_check.proofs.purity.impure_search.mark_runners.Goals as goal

pub mark_all-requires : goal.mark_all-requires
mark_all-requires c =
    let s = system_in c.args.numbering.now.tables.now in
    callers_within s c.args.callers.now.lists.items (length (all_features s)) c.args.number (length c.args.search.now.impure.items) c.of.result.now c.requires.callers c.of.ensures c.requires.as_many

pub mark_if_any-requires : goal.mark_if_any-requires
mark_if_any-requires c =
    let s = system_in c.args.numbering.now.tables.now in
    version_within s (root_in c.args.numbering.now.tables.now) c.args.numbering.now.tables.now.faultless (routine_of (entry_of c.index-entry.result.now)) c.nearest_above-above.result
    (entry_version s c.index-entry.result.now c.as_str.result.now c.nearest_above-above.result c.as_str.ensures.value c.nearest_above-above.ensures)
    (length c.mark_all.new.search.impure.items) (c.in_ok-mark_all.ensures.0.same_length ∙ c.requires.as_many)

pub returns : goal.returns
returns c =
    let s = system_in c.args.numbering.now.tables.now in
    let st = entry_stands s c.args.numbering.now.features.items c.args.number c.index-entry.result.now c.args.numbering.now.are_all c.requires.in_range c.index-entry.ensures in
    runners_read s (root_in c.args.numbering.now.tables.now) c.args.numbering.now.tables.now.faultless c.args.number (routine_of (entry_of c.index-entry.result.now)) st
    c.args.search.now.impure.items c.mark_all.new.search.impure.items c.mark_if_any.new.search.impure.items
    c.args.search.now.todo.items c.mark_all.new.search.todo.items c.mark_if_any.new.search.todo.items c.args.callers.now.lists.items c.of.result.now c.nearest_above-above.result
    c.requires.callers c.of.ensures
    (entry_version s c.index-entry.result.now c.as_str.result.now c.nearest_above-above.result c.as_str.ensures.value c.nearest_above-above.ensures) c.in_ok-mark_all.ensures c.in_ok-mark_if_any.ensures
