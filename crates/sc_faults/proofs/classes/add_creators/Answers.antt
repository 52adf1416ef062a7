use Rattle.std.proofs.Common.{map, ◌++◌}
use Rattle.sc_tree.specs.View.{name_of}
use Rattle.sc_class.specs.SystemIn.{system_in}
use Rattle.sc_rules.specs.JudgingSystem.{judge_creator}
use Rattle.sc_faults.specs.Internal.Listing.{faults_of_each, faults_of_creator}
use Rattle.sc_faults.proofs.Adding.{each_next, each_end}
use Rattle.sc_faults.proofs.classes.add_creators.Goals as goal

pub loop-name-preserved : goal.loop-name-preserved
loop-name-preserved c =
    let list = faults_of_creator (system_in c.args.class.now.tables.now) c.args.class.now.class in
    each_next name_of list c.args.names.now c.loop-name.name-index c.name-item.result
    (c.args.faults.now.items ++ faults_of_each list (map name_of c.args.names.now)) c.loop-name.faults.items c.add_alone.new.faults.items
    c.loop-name-test.true c.name-item.is c.loop-name.invariant
    (c.in_ok-add_alone.ensures (judge_creator (system_in c.args.class.now.tables.now) c.args.class.now.class
    (name_of c.name-item.result)) c.judge_creator.ensures)

pub returns : goal.returns
returns c =
    let list = faults_of_creator (system_in c.args.class.now.tables.now) c.args.class.now.class in
    each_end name_of list c.args.names.now c.loop-name.name-index (c.args.faults.now.items ++ faults_of_each list (map name_of c.args.names.now))
    c.loop-name.faults.items c.loop-name-test.false c.loop-name.invariant
