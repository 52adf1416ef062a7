use Rattle.sc_format.proofs.Reading.{trimmed-cut}
use Rattle.sc_format.proofs.gap.trimmed.Goals as goal

pub returns : goal.returns
returns c =
    trimmed-cut c.args.text.now c.split_at.result.1.now c.split_at-2.result.0.now c.white_length.result c.end_of.result
    c.split_at.ensures.back c.white_length.ensures.value c.end_of.ensures.value c.split_at-2.ensures.front
