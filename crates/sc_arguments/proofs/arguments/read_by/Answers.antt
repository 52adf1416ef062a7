use Rattle.sc_arguments.proofs.AskedLemmas.{asked-for, words-behind}
use Rattle.sc_arguments.proofs.arguments.read_by.Goals as goal

-- the words behind the command are read
pub returns-in-Some-len2-up : goal.returns-in-Some-len2-up
returns-in-Some-len2-up g c =
    asked-for g.S.AsStr.text c.args.arguments.now c.command-item.result _ _ _ c.ask_for_help.result c.read_command.result
    c.in-Some-len2-up.len_at_least c.command-item.is (words-behind c.args.arguments.now) c.as_str.ensures c.ask_for_help.ensures
    c.if-ask_for_help.false c.read_command.ensures
