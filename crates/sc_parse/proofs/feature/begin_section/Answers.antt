use Rattle.std.proofs.Common.{sym, arith}
use Rattle.sc_parse.proofs.SectionLemmas.{begun_none, begun_set}
use Rattle.sc_parse.proofs.feature.begin_section.Goals as goal

pub returns-then-number-len : goal.returns-then-number-len
returns-then-number-len c =
    begun_set c.args.number c.args.features.now.items c.index_mut.result.now (omega (arith, c.len.ensures, c.args.features.now.ok.0, c.if-number-len.true)) c.index_mut.ensures.value

pub returns-else-number-len : goal.returns-else-number-len
returns-else-number-len c =
    sym (begun_none c.args.number c.args.features.now.items (omega (arith, c.len.ensures, c.args.features.now.ok.0, c.if-number-len.false)))
