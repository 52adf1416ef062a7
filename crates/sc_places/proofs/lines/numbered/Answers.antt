use Rattle.std.proofs.Common.{◌+◌, ◌∙◌, IfSome, arith, sym, ap, subst}
use Rattle.std.specs.Option.{option_map}
use Rattle.sc_source.specs.Source.{seen}
use Rattle.sc_places.specs.Lines.{Begins}
use Rattle.sc_places.proofs.LineLemmas.{begins_at, number_asked, number_before}
use Rattle.sc_places.proofs.lines.numbered.Goals as goal

pub returns : goal.returns
returns c =
    let line = c.in-Some.line in
    let next : Begins c.args.source.now (c.args.last + 1) line = subst (λ r. IfSome r (Begins c.args.source.now (c.args.last + 1))) c.in-Some.is c.requires.next in
    number_before c.args.source.now c.args.last line.file.now line.number c.requires.within c.if-line-gt1.true
    (begins_at c.args.source.now (c.args.last + 1) line next)

pub returns-in-Some-place_of : goal.returns-in-Some-place_of
returns-in-Some-place_of c =
    let place = c.in-Some-place_of.field-0 in
    number_asked c.args.source.now c.args.last place.file.now place.line place.column
    (sym c.place_of.ensures ∙ ap (option_map seen) c.in-Some-place_of.is)
