use Rattle.std.proofs.Common.{◌≡◌, ◌+◌, ◌<◌, ◌∙◌, arith, refl, take}
use Rattle.std.specs.List.{suffix_len}
use Rattle.sc_source.specs.Source.{joined}
use Rattle.sc_places.specs.Lines.{is_in_line}
use Rattle.sc_places.proofs.LineLemmas.{line_to, starts}
use Rattle.sc_places.proofs.lines.line_before.Goals as goal

pub returns-in-Some-numbered : goal.returns-in-Some-numbered
returns-in-Some-numbered c =
    let files = c.args.source.now in
    let start = c.start_of_line-start.result in
    let last = c.in-Some.last in
    let begins : start + suffix_len is_in_line (take last (joined files)) ≡ last =
    starts files c.as_bytes.result.now start last (c.as_bytes.ensures.value ∙ c.text.ensures) (omega arith) c.start_of_line-start.ensures in
    let before : start < c.args.end = omega (arith, begins) in (
      (
        (λ o from to. line_to files c.in-Some-numbered.file.now c.in-Some-numbered.number start last
            (omega arith) begins c.in-Some-numbered.ensures o from (omega (arith, to))),
        refl,
        before,
      ),
      before,
    )
