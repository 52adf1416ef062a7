use Rattle.std.proofs.Common.{map, ◌++◌}
use Rattle.sc_tree.specs.View.{head_of}
use Rattle.sc_typing.specs.Views.{routine_in, entity_of}
use Rattle.sc_faults.specs.Internal.Listing.{faults_of_each, faults_of_head, judge_value}
use Rattle.sc_faults.proofs.Adding.{each_next, each_end}
use Rattle.sc_faults.proofs.conditions.add_heads.Goals as goal

pub loop-head-preserved : goal.loop-head-preserved
unfolding head_of
loop-head-preserved c =
    let h = routine_in c.args.routine.now in
    let n = map entity_of c.args.names.now in
    let list = faults_of_head h n in
    each_next head_of list c.args.heads.now c.loop-head.head-index c.head-item.result
    (c.args.faults.now.items ++ faults_of_each list (map head_of c.args.heads.now)) c.loop-head.faults.items c.add_site.new.faults.items
    c.loop-head-test.true c.head-item.is c.loop-head.invariant
    (c.in_ok-add_site.ensures (judge_value h n (head_of c.head-item.result)) c.judge_value-judged.ensures)

pub returns : goal.returns
returns c =
    let list = faults_of_head (routine_in c.args.routine.now) (map entity_of c.args.names.now) in
    each_end head_of list c.args.heads.now c.loop-head.head-index (c.args.faults.now.items ++ faults_of_each list (map head_of c.args.heads.now))
    c.loop-head.faults.items c.loop-head-test.false c.loop-head.invariant
