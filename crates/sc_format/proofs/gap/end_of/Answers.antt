use Rattle.std.proofs.Common.{ap, sym, ◌∙◌, arith}
use Rattle.std.proofs.lemmas.List.{drop_all}
use Rattle.sc_format.specs.Internal.{end_from}
use Rattle.sc_format.proofs.Reading.{end_from-start}
use Rattle.sc_format.proofs.gap.end_of.Goals as goal

pub returns-clause-value : goal.returns-clause-value
returns-clause-value c =
    sym (ap (end_from c.loop-at.at c.loop-at.end) (drop_all c.loop-at.at c.args.text.now (omega arith))) ∙ c.loop-at.invariant.same
    ∙ end_from-start c.args.text.now
