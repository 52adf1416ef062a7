use Rattle.std.proofs.Common.{arith}
use Rattle.std.proofs.lemmas.List.{length-map}
use Rattle.sc_region.specs.Frames.{activation_of}
use Rattle.sc_interp.specs.Values.{value_of}
use Rattle.sc_interp.specs.Standing.{state_of}
use Rattle.sc_interp.proofs.BlockOpenings.{opens_short, opens_outside, opens_well}
use Rattle.sc_interp.proofs.Told.{open_ready}
use Rattle.sc_interp.proofs.blocks.open_block.Goals as goal

pub returns-then-count-len-clause-hops : goal.returns-then-count-len-clause-hops
returns-then-count-len-clause-hops c = λ k p s me code objects fits.
    let a = activation_of c.args.activation.now in
    opens_short c.args.block.first c.args.block.count (state_of objects a)
    (omega (arith, length-map a.operands.values value_of, c.if-count-len.true, c.len.ensures))

pub returns-then-first-slots-clause-hops : goal.returns-then-first-slots-clause-hops
returns-then-first-slots-clause-hops c = λ k p s me code objects fits.
    let a = activation_of c.args.activation.now in
    opens_outside c.args.block.first c.args.block.count (state_of objects a)
    (omega (arith, length-map a.operands.values value_of, c.if-count-len.false, c.len.ensures))
    (omega (arith, length-map a.slots value_of, c.if-first-slots.true))

pub returns-then-count-slots-clause-hops : goal.returns-then-count-slots-clause-hops
returns-then-count-slots-clause-hops c = λ k p s me code objects fits.
    let a = activation_of c.args.activation.now in
    opens_outside c.args.block.first c.args.block.count (state_of objects a)
    (omega (arith, length-map a.operands.values value_of, c.if-count-len.false, c.len.ensures))
    (omega (arith, length-map a.slots value_of, c.if-first-slots.false))

pub returns-clause-hops : goal.returns-clause-hops
returns-clause-hops c = λ k p s me code objects fits.
    let a = activation_of c.args.activation.now in
    opens_well c.args.block.first c.args.block.count (state_of objects a)
    (omega (arith, length-map a.operands.values value_of, c.if-count-len.false, c.len.ensures))
    (omega (arith, length-map a.slots value_of, c.if-first-slots.false))

pub returns-clause-told : goal.returns-clause-told
returns-clause-told c = λ p block.
    open_ready p c.args.block.first c.args.block.count (activation_of c.args.activation.now) block (omega (arith, c.if-count-len.false, c.len.ensures))
    (omega (arith, c.if-first-slots.false, c.if-count-slots.false))
