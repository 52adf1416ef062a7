use Rattle.std.proofs.Common.{ap, sym, ◌∙◌}
use Rattle.std.specs.Option.{option_map}
use Rattle.sc_tree.specs.View.{name_of, feature_of, system_of}
use Rattle.sc_class.specs.View.{entry_of}
use Rattle.sc_class.proofs.RedefinitionLemmas.{none_inherited, none_declared, fits_it, fits_not}
use Rattle.sc_class.proofs.faults.redefinition.badly_redefined.Goals as goal

pub returns-in_default : goal.returns-in_default
returns-in_default c =
    none_inherited (system_of c.args.outline.now.hierarchy.system.now) c.args.number (name_of c.args.name.now) c.as_str.result.now c.as_str.ensures.value (option_map entry_of c.inherited.result) c.inherited.ensures (ap (option_map entry_of) c.in_default.is)

pub returns-in_default-declared : goal.returns-in_default-declared
returns-in_default-declared c =
    none_declared (system_of c.args.outline.now.hierarchy.system.now) c.args.number (name_of c.args.name.now) c.as_str-2.result.now c.as_str-2.ensures.value (option_map entry_of c.declared.result) c.declared.ensures
    (ap (option_map entry_of) c.in_default-declared.is)

pub returns-then-can_redefine : goal.returns-then-can_redefine
unfolding feature_of
returns-then-can_redefine c =
    fits_it (system_of c.args.outline.now.hierarchy.system.now) c.args.number (name_of c.args.name.now) c.as_str.result.now c.as_str.ensures.value (option_map entry_of c.inherited.result) c.inherited.ensures
    c.as_str-2.result.now c.as_str-2.ensures.value (option_map entry_of c.declared.result) c.declared.ensures (entry_of c.in-Some.inherited) (entry_of c.in-Some-declared.declared) (ap (option_map entry_of) c.in-Some.is) (ap (option_map entry_of) c.in-Some-declared.is)
    (sym c.can_redefine.ensures ∙ c.if-can_redefine.true)

pub returns : goal.returns
unfolding feature_of
returns c =
    fits_not (system_of c.args.outline.now.hierarchy.system.now) c.args.number (name_of c.args.name.now) c.as_str.result.now c.as_str.ensures.value (option_map entry_of c.inherited.result) c.inherited.ensures
    c.as_str-2.result.now c.as_str-2.ensures.value (option_map entry_of c.declared.result) c.declared.ensures (entry_of c.in-Some.inherited) (entry_of c.in-Some-declared.declared) (ap (option_map entry_of) c.in-Some.is) (ap (option_map entry_of) c.in-Some-declared.is)
    (sym c.can_redefine.ensures ∙ c.if-can_redefine.false)
