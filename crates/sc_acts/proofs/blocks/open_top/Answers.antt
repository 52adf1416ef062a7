use Rattle.std.proofs.Common.{MutBor, sym, ap, ◌∙◌}
use Rattle.std.specs.Option.{option_map}
use Rattle.sc_region.specs.declared.frame.Activation.{Activation}
use Rattle.sc_region.specs.Frames.{activation_of}
use Rattle.sc_acts.proofs.blocks.open_top.Goals as goal

pub open_on-requires : goal.open_on-requires
open_on-requires c =
    c.requires (activation_of c.in-Some.activation.now) (sym c.top_mut.ensures.value ∙ ap (option_map (λ (m : MutBor Activation). activation_of m.now)) c.in-Some.is)
