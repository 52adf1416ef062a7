use Rattle.std.proofs.Common.{List, ap, map, sym, ◌++◌, ◌∙◌}
use Rattle.std.specs.Option.{option_map, option_copied}
use Rattle.sc_tree.specs.View.{class_of, clause_of, system_of}
use Rattle.sc_class.proofs.Anys.{take_end}
use Rattle.sc_class.proofs.TableLemmas.{invariant_in}
use Rattle.sc_class.proofs.class_tables.Tables.add_invariant.Goals as goal

pub returns : goal.returns
returns c =
    let s = system_of c.args.self.now.outline.hierarchy.system.now in
    c.loop-clause.invariant
    ∙ ap (λ (ks : List _). map (λ c. clause_of c.now) c.args.clauses.now.items ++ map clause_of ks) (take_end c.deref-clause-items.result.now c.loop-clause.clause-index c.loop-clause-test.false)
    ∙ ap (λ ks. map (λ c. clause_of c.now) c.args.clauses.now.items ++ ks)
    (invariant_in s c.args.number c.in-Some.text.now c.deref-clause-items.result.now (sym c.class.ensures ∙ ap (λ o. option_map class_of (option_copied o)) c.in-Some.is) c.deref-clause-items.ensures.value)
