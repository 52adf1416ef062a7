use Rattle.std.proofs.Common.{List, Some, None, ◌||◌, eqb, sym, ap, ◌∙◌}
use Rattle.std.specs.Prelude.{not, if◌then◌else◌}
use Rattle.std.specs.Option.{option_eq}
use Rattle.sc_tree.specs.Plain.{Name}
use Rattle.sc_tree.specs.View.{class_of}
use Rattle.sc_class.specs.ClassNames.{class_names, is_built_in}
use Rattle.sc_class.specs.Names.{number_among}
use Rattle.sc_class.proofs.ClassNameLemmas.{repeated_begin, repeated_more, repeated_of_all}
use Rattle.sc_class.proofs.faults.parents.find_repeated.Goals as goal

pub loop-i-init : goal.loop-i-init
loop-i-init c = repeated_begin c.classes-classes.result.now c.args.found.now

pub loop-i-preserved : goal.loop-i-preserved
unfolding class_of
loop-i-preserved c =
    let n = (class_of c.index-classes-i.result).name in
    repeated_more c.classes-classes.result.now c.loop-i.i c.index-classes-i.result c.taken_name.result c.args.found.now c.loop-i.found c.insert_if_any.new.self c.loop-i-test.true c.index-classes-i.is
    (c.taken_name.ensures
    ∙ ap (λ (ns : List Name). if is_built_in n.text || not (option_eq eqb (number_among n.text ns) (Some c.loop-i.i)) then Some n.span else None) (c.args.hierarchy.now.named ∙ sym (ap class_names c.classes-classes.ensures)))
    c.in_ok-insert_if_any.ensures c.loop-i.invariant

pub returns : goal.returns
returns c = repeated_of_all c.classes-classes.result.now c.loop-i.i c.args.found.now c.loop-i.found _ c.classes-classes.ensures c.loop-i-test.false c.loop-i.invariant
