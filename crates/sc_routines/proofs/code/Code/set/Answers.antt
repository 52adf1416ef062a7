use Rattle.std.proofs.Common.{List, ap, ◌∙◌}
use Rattle.std.specs.Prelude.{slice_set}
use Rattle.std.proofs.lemmas.List.{map-set}
use Rattle.sc_code.specs.Operations.{Operation}
use Rattle.sc_routines.specs.Unlinked.{operation_in, unlinked}
use Rattle.sc_routines.proofs.code.Code.set.Goals as goal

pub returns : goal.returns
returns c =
    map-set operation_in c.self.inside.operations.items c.args.place _
    ∙ ap (λ (l : List Operation). slice_set l c.args.place (unlinked c.args.operation)) c.self.view_is
