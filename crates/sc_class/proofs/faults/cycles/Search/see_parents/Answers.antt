use Rattle.std.proofs.Common.{List, Some, ◌≡◌, subst, ◌∙◌}
use Rattle.std.specs.Prelude.{slice_get}
use Rattle.sc_tree.specs.Plain.{Class}
use Rattle.sc_tree.specs.View.{class_of, system_of}
use Rattle.sc_class.proofs.Anys.{read_at, got}
use Rattle.sc_class.proofs.CycleLemmas.{parents_more, parents_done}
use Rattle.sc_class.proofs.faults.cycles.Search.see_parents.Goals as goal

pub see_parent-requires : goal.see_parent-requires
see_parent-requires c = c.loop-parent.invariant.0.same_length ∙ c.requires

pub loop-parent-preserved : goal.loop-parent-preserved
loop-parent-preserved c =
    parents_more (system_of c.args.hierarchy.now.system.now) c.args.class c.in-Some.class.now
    (subst (λ (cs : List Class). slice_get cs c.args.class ≡ Some (class_of c.in-Some.class.now)) c.classes.ensures (read_at class_of c.classes.result.now c.args.class c.get.result c.in-Some.class (got c.classes.result.now c.args.class c.get.result c.get.ensures.lookup) c.in-Some.is))
    c.deref-parent-items.result.now c.deref-parent-items.ensures.value c.loop-parent.parent-index c.parent-item.result c.loop-parent-test.true c.parent-item.is
    c.args.self.now.seen.items c.loop-parent.self.seen.items c.see_parent.new.self.seen.items c.args.self.now.todo.items c.loop-parent.self.todo.items c.see_parent.new.self.todo.items c.loop-parent.invariant c.in_ok-see_parent.ensures

pub returns : goal.returns
returns c =
    parents_done (system_of c.args.hierarchy.now.system.now) c.args.class c.in-Some.class.now
    (subst (λ (cs : List Class). slice_get cs c.args.class ≡ Some (class_of c.in-Some.class.now)) c.classes.ensures (read_at class_of c.classes.result.now c.args.class c.get.result c.in-Some.class (got c.classes.result.now c.args.class c.get.result c.get.ensures.lookup) c.in-Some.is))
    c.deref-parent-items.result.now c.deref-parent-items.ensures.value c.loop-parent.parent-index c.loop-parent-test.false
    c.args.self.now.seen.items c.loop-parent.self.seen.items c.args.self.now.todo.items c.loop-parent.self.todo.items c.loop-parent.invariant
