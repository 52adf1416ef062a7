use Rattle.std.proofs.Common.{ap, sym, subst, ◌∙◌, ◌≡◌, ◌+◌, ◌++◌, map, drop}
use Rattle.sc_tree.specs.View.{system_of}
use Rattle.sc_class.specs.Tables.Features.{not_redefined, redefined_names}
use Rattle.sc_class.specs.View.{entry_of}
use Rattle.sc_class.proofs.ClassFeatures.{kept_more, passed_more}
use Rattle.sc_class.proofs.class_tables.found_features.add_inherited.Goals as goal
use Rattle.sc_class.proofs.class_tables.found_features.add_inherited.Goals.{then-not-redefines+in_ok-push, else-not-redefines}

pub loop-entry-preserved : goal.loop-entry-preserved
loop-entry-preserved c =
    let names = redefined_names (system_of c.args.outline.now.hierarchy.system.now) c.args.number in
    let total = map entry_of c.args.features.now.items ++ not_redefined names (map entry_of c.args.above.now) in
    elim c.if-not-redefines.branch [
      | then-not-redefines+in_ok-push w ↦
          kept_more names c.args.above.now c.loop-entry.entry-index c.entry-item.result c.loop-entry-test.true c.entry-item.is total c.as_str.result.now c.as_str.ensures.value c.redefines.result c.redefines.ensures
          c.loop-entry.features.items c.if-not-redefines.features.items w.if-not-redefines.true (ap (λ v. v.items) w.features-is ∙ w.in_ok-push.ensures.items) c.loop-entry.invariant
      | else-not-redefines w ↦
          subst (λ v. map entry_of v.items ++ not_redefined names (map entry_of (drop (c.loop-entry.entry-index + 1) c.args.above.now)) ≡ total) (sym w.features-is)
          (passed_more names c.args.above.now c.loop-entry.entry-index c.entry-item.result c.loop-entry-test.true c.entry-item.is total c.as_str.result.now c.as_str.ensures.value c.redefines.result c.redefines.ensures
          c.loop-entry.features.items w.if-not-redefines.false c.loop-entry.invariant)
    ]
