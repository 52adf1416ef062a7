use Rattle.std.proofs.Common.{◌∙◌, ◌++◌, ap}
use Rattle.sc_class.specs.SystemIn.{system_in}
use Rattle.sc_symbols.specs.Internal.{judged}
use Rattle.sc_symbols.specs.Mentions.{mentions_in_system}
use Rattle.sc_symbols.proofs.Types.{are_types}
use Rattle.sc_symbols.proofs.classes.mentions_of.Goals as goal

pub returns : goal.returns
returns c = record {
  type = judged;
  are_types = are_types;
  are_all = c.in_ok-add_classes.ensures
      ∙ ap (λ ms. ms ++ mentions_in_system judged (system_in c.args.tables.now)) c.new-mentions.ensures.items;
}
