use Rattle.std.proofs.Common.{◌≡◌, ◌-◌, ap, arith, drop, length, ◌∙◌}
use Rattle.sc_tree.specs.View.{system_of}
use Rattle.sc_class.specs.Tables.Features.{invariant_along}
use Rattle.sc_class.proofs.TableLemmas.{joined_by_ancestors}
use Rattle.sc_class.proofs.class_tables.Tables.invariant_of.Goals as goal

pub returns : goal.returns
returns c =
    let s = system_of c.args.self.now.outline.hierarchy.system.now in
    let none : length c.ancestors-ancestors.result.now - c.loop-done.done ≡ 0 = omega arith in
    c.loop-done.invariant ∙ ap (λ n. invariant_along s (drop n c.ancestors-ancestors.result.now)) none ∙ ap (invariant_along s) c.ancestors-ancestors.ensures ∙ joined_by_ancestors s c.args.class
