use Rattle.std.proofs.Common.{◌∙◌, Some, ap, refl}
use Rattle.sc_interning.specs.Tables.{values_of}
use Rattle.sc_request.specs.Parts.{PlainPart, part_of}
use Rattle.sc_search.proofs.Numbers.{stands_last}
use Rattle.sc_search.proofs.Stores.{grows_part}
use Rattle.sc_search.proofs.store.Store.number_part.Goals as goal

pub returns-clause-grows : goal.returns-clause-grows
returns-clause-grows c = grows_part c.args.subject.program.now.image c.args.self.now _ c.in_ok-part.part refl refl refl c.in_ok-number.ensures.values

pub returns-clause-stands : goal.returns-clause-stands
returns-clause-stands c =
    stands_last part_of (values_of c.args.self.now.parts) (values_of c.push.new.self) c.in_ok-part.part c.in_ok-number.number c.in_ok-number.ensures.values
    c.in_ok-number.ensures.number
    ∙ ap (λ (q : PlainPart). Some q) c.in_ok-part.ensures
