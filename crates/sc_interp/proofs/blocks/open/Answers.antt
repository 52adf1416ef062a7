use Rattle.std.proofs.Common.{Option, ap, sym, ◌∙◌}
use Rattle.std.specs.Option.{option_map}
use Rattle.sc_code.specs.declared.site.Heads as heads
use Rattle.sc_code.specs.Operations as plain
use Rattle.sc_code.specs.Machine.{hop_of}
use Rattle.sc_region.specs.Frames.{activation_of}
use Rattle.sc_interp.specs.Values.{reference_of}
use Rattle.sc_interp.specs.Standing.{state_of}
use Rattle.sc_interp.proofs.blocks.open.Goals as goal

pub returns-in-Some-clause-follows : goal.returns-in-Some-clause-follows
returns-in-Some-clause-follows c = λ me count s code objects serves fits.
    ap (λ (o : Option heads.Heads). hop_of s code (reference_of me) (option_map (λ (b : heads.Heads). plain.Open b.first b.count) o) (state_of objects (activation_of c.args.activation.now)))
    (sym c.block_at.ensures ∙ c.in-Some.is)
    ∙ c.open_block.ensures.hops count c.args.program.now.image s (reference_of me) code objects fits
