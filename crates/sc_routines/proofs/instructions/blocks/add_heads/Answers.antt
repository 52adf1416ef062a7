use Rattle.std.proofs.Common.{sym, ◌∙◌, map, arith}
use Rattle.sc_typing.specs.Views.{entity_of}
use Rattle.sc_routines.proofs.HeadNames.{heads_done}
use Rattle.sc_routines.proofs.instructions.blocks.add_heads.Goals as goal

pub returns : goal.returns
returns c =
    sym (heads_done c.args.heads.now c.args.types.now c.loop-place.place (map entity_of c.loop-place.names.items)
    (omega (arith, c.loop-place-test.false, c.loop-place.auto.place-end, c.min-place-end.ensures)))
    ∙ c.loop-place.invariant
