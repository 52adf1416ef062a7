use Rattle.std.proofs.Common.{ℕ, Option, List, ◌≡◌, ◌+◌, ◌-◌, ◌++◌, suc, length, sym, subst, arith}
use Rattle.sc_tree.specs.View.{system_of}
use Rattle.sc_class.specs.Tables.Ancestors.{ancestors_within, ancestors_from}
use Rattle.sc_class.proofs.AncestorLemmas.{ancestors_more}
use Rattle.sc_class.proofs.class_tables.ancestry.ancestors_of.Goals as goal

pub loop-done-preserved : goal.loop-done-preserved
loop-done-preserved c =
    let s = system_of c.args.hierarchy.now.system.now in
    let total : List ℕ = ancestors_within (length c.classes-count.result.now) s c.args.number in
    let less : length c.classes-count.result.now - c.loop-done._done ≡ suc (length c.classes-count.result.now - (c.loop-done._done + 1)) = omega arith in
    subst (λ (o : Option ℕ). c.push.new.self.items ++ ancestors_from (length c.classes-count.result.now - (c.loop-done._done + 1)) s o ≡ total) (sym c.parent-next.ensures)
    (ancestors_more s c.loop-done.ancestors.items c.push.new.self.items total c.in-Some.class (length c.classes-count.result.now - c.loop-done._done) (length c.classes-count.result.now - (c.loop-done._done + 1)) c.loop-done.next less c.in_ok-push.ensures.items c.in-Some.is c.loop-done.invariant)
