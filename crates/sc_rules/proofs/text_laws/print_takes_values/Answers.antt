use Rattle.sc_rules.proofs.TextLaws.{print_takes_values}
use Rattle.sc_rules.proofs.text_laws.print_takes_values.Goals as goal

pub returns : goal.returns
returns c = print_takes_values
