use Rattle.std.proofs.Common.{MutBor, refl, sym, ap, ◌∙◌}
use Rattle.std.specs.Option.{option_map}
use Rattle.sc_region.specs.declared.frame.Activation.{Activation}
use Rattle.sc_region.specs.Frames.{activation_of}
use Rattle.sc_interp.proofs.TopRoutines.{remains_top}
use Rattle.sc_interp.proofs.attributes.push_attribute.Goals as goal

pub returns-in-Some-clause-remains : goal.returns-in-Some-clause-remains
returns-in-Some-clause-remains c =
    remains_top c.args.store.now _ c.push_found.new.activation (activation_of c.in-Some.activation.now)
    (sym c.top_mut.ensures.value ∙ ap (option_map (λ (m : MutBor Activation). activation_of m.now)) c.in-Some.is) refl c.push_found.ensures.stays
