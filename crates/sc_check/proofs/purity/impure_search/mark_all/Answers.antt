use Rattle.std.proofs.Common.{ℕ, get_or}
use Rattle.std.proofs.lemmas.List.{get_or_default}
use Rattle.sc_check.proofs.purity.ImpureSearchSteps.{found_none, found_more, found_all}
use Rattle.sc_check.proofs.purity.impure_search.mark_all.Goals as goal

pub loop-number-init : goal.loop-number-init
loop-number-init c = found_none c.args.numbers.now c.args.search.now.impure.items c.args.search.now.todo.items

pub loop-number-preserved : goal.loop-number-preserved
loop-number-preserved c =
    let item : ℕ = get_or c.args.numbers.now c.loop-number.number-index 0 in
    found_more c.args.numbers.now c.loop-number.number-index item c.loop-number-test.true (get_or_default c.args.numbers.now c.loop-number.number-index 0 item c.loop-number-test.true)
    c.args.search.now.impure.items c.loop-number.search.impure.items c.mark_impure.new.self.impure.items c.args.search.now.todo.items c.loop-number.search.todo.items c.mark_impure.new.self.todo.items
    c.loop-number.invariant c.in_ok-mark_impure.ensures

pub returns : goal.returns
returns c =
    found_all c.args.numbers.now c.loop-number.number-index c.args.search.now.impure.items c.loop-number.search.impure.items c.args.search.now.todo.items c.loop-number.search.todo.items c.loop-number-test.false
    c.loop-number.invariant
