use Rattle.std.proofs.Common.{rules, ◌≤◌, length, arith}
use Rattle.sc_source.proofs.JoiningLemmas.{beginning-taken, beginning-whole, takes-in-all, whole-told}
use Rattle.sc_source.proofs.reading.read_beginning.Goals as goal

-- as many were given as are asked for
pub returns-then-len-most-clause-ok : goal.returns-then-len-most-clause-ok
returns-then-len-most-clause-ok g c =
    let long : c.args.most ≤ length c.loop.bytes.items = search rules in
    beginning-taken c.args.most _ _ c.loop.bytes.items c.loop.invariant.taken c.loop.invariant.within long

-- or the file has no more
pub returns-in-End-clause-ok : goal.returns-in-End-clause-ok
returns-in-End-clause-ok g c =
    let at_end = c.in_ok-read_block.ensures.end c.in-End.is in
    let short : length c.read_block.new.bytes.items ≤ c.args.most = rw at_end.0 c.loop.invariant.within in
    beginning-whole c.args.most _ c.read_block.new.bytes.items
    (whole-told _ _ _ _ c.loop.bytes.items c.read_block.new.bytes.items c.loop.invariant.taken c.read_block.ensures.taken at_end.1)
    short

-- no more was given in all than is asked for
pub returns-then-len-most-clause-taken : goal.returns-then-len-most-clause-taken
returns-then-len-most-clause-taken g c = (c.loop.bytes.items, (c.loop.invariant.within, c.loop.invariant.taken))

pub returns-in_err-read_block-clause-taken : goal.returns-in_err-read_block-clause-taken
returns-in_err-read_block-clause-taken g c =
    takes-in-all c.args.most _ _ _ _ c.loop.bytes.items c.read_block.new.bytes.items c.loop.invariant.taken c.read_block.ensures.taken
    (omega (arith, c.loop.invariant.within))

pub returns-in-End-clause-taken : goal.returns-in-End-clause-taken
returns-in-End-clause-taken g c =
    takes-in-all c.args.most _ _ _ _ c.loop.bytes.items c.read_block.new.bytes.items c.loop.invariant.taken c.read_block.ensures.taken
    (omega (arith, c.loop.invariant.within))
