use Rattle.std.proofs.Common.{IsUtf8, subst}
use Rattle.sc_text.proofs.Names.{name_ends}
use Rattle.sc_text.proofs.lexer.word.Goals as goal

pub split_at-requires-2 : goal.split_at-requires-2
split_at-requires-2 c =
    name_ends c.args.text.now c.split_at.result.1.now c.as_bytes.result.now c.args.place c.name_ahead-length.result.0 c.requires.within c.requires.begins (subst IsUtf8 c.as_bytes.ensures.value c.as_bytes.ensures.utf8) c.as_bytes.ensures.value
    c.split_at.ensures.back c.name_ahead-length.ensures
