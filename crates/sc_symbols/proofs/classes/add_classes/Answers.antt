use Rattle.std.proofs.Common.{ap, sym, ◌++◌, arith}
use Rattle.sc_class.specs.SystemIn.{system_in}
use Rattle.sc_symbols.specs.Internal.{judged}
use Rattle.sc_symbols.specs.Mentions.{mentions_in_classes, mentions_in_system}
use Rattle.sc_symbols.proofs.Added.{classes_end, classes_next}
use Rattle.sc_symbols.proofs.classes.add_classes.Goals as goal

-- the classes of the tables are those of the system
pub loop-number-init : goal.loop-number-init
loop-number-init c =
    sym (ap (λ cs. c.args.mentions.now.items ++ mentions_in_classes judged (system_in c.args.tables.now) 0 cs) c.classes-classes.ensures)

pub loop-number-preserved : goal.loop-number-preserved
loop-number-preserved c =
    let s = system_in c.args.tables.now in
    classes_next judged s c.classes-classes.result.now c.loop-number.number c.index-classes-number.result
    (c.args.mentions.now.items ++ mentions_in_system judged s) c.loop-number.mentions.items c.add_class.new.mentions.items
    c.loop-number-test.true c.index-classes-number.is c.loop-number.invariant c.in_ok-add_class.ensures

pub returns : goal.returns
returns c =
    let s = system_in c.args.tables.now in
    classes_end judged s c.classes-classes.result.now c.loop-number.number (c.args.mentions.now.items ++ mentions_in_system judged s)
    c.loop-number.mentions.items (omega (arith, c.loop-number-test.false)) c.loop-number.invariant
