use Rattle.std.proofs.Common.{ap, sym, ◌∙◌}
use Rattle.std.specs.Prelude.{is_some}
use Rattle.sc_class.proofs.AncestorLemmas.{listed-number}
use Rattle.sc_class.proofs.names.NameIndex.contains.Goals as goal

pub returns : goal.returns
returns c = c.is_some.ensures ∙ ap is_some c.number.ensures ∙ sym (listed-number c.args.text.now c.args.self.now)
