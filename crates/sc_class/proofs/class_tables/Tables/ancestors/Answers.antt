use Rattle.std.proofs.Common.{ℕ, List, ap, sym, ◌∙◌}
use Rattle.std.specs.Prelude.{slice_get}
use Rattle.std.specs.Option.{option_copied}
use Rattle.std.specs.declared.alloc.Global.{Global}
use Rattle.std.specs.declared.vec.Vec.{Vec}
use Rattle.sc_tree.specs.View.{system_of}
use Rattle.sc_class.specs.declared.identity.ClassId.{ClassId}
use Rattle.sc_class.specs.Tables.ByClass.{ancestors_of}
use Rattle.sc_class.proofs.Anys.{got}
use Rattle.sc_class.proofs.FeatureLemmas.{got_item}
use Rattle.sc_class.proofs.TableLemmas.{list_at, no_list}
use Rattle.sc_class.proofs.class_tables.Tables.ancestors.Goals as goal

pub returns-in-None : goal.returns-in-None
returns-in-None c =
    let s = system_of c.args.self.now.outline.hierarchy.system.now in
    no_list s c.args.self.now.ancestors_of_each.items c.args.self.now.as_many c.args.self.now.are_ancestors c.in-Declared.number
    (ap (λ (vs : List (Vec ℕ Global)). slice_get vs c.in-Declared.number) (sym c.deref.ensures.value) ∙ sym (got c.deref.result.now c.in-Declared.number c.get.result c.get.ensures.lookup) ∙ ap option_copied c.in-None.is)
    ∙ ap (λ (k : ClassId). ancestors_of s k) (sym c.in-Declared.is)

pub returns-in-Some : goal.returns-in-Some
returns-in-Some c =
    let s = system_of c.args.self.now.outline.hierarchy.system.now in
    c.deref-in-Some.ensures.value
    ∙ list_at s c.args.self.now.ancestors_of_each.items c.args.self.now.as_many c.args.self.now.are_ancestors c.in-Declared.number c.in-Some.ancestors.now
    (got_item c.deref.result.now c.args.self.now.ancestors_of_each.items c.in-Declared.number c.get.result c.in-Some.ancestors (got c.deref.result.now c.in-Declared.number c.get.result c.get.ensures.lookup) c.in-Some.is c.deref.ensures.value)
    ∙ ap (λ (k : ClassId). ancestors_of s k) (sym c.in-Declared.is)
