use Rattle.std.proofs.Common.{ap, ◌∙◌, ◌++◌}
use Rattle.sc_typing.specs.Marks.{is_marked}
use Rattle.sc_class.specs.SystemIn.{system_in}
use Rattle.sc_faults.specs.Internal.Listing.{faults_of_system}
use Rattle.sc_faults.proofs.SystemFaults.{system_listed}
use Rattle.sc_faults.proofs.classes.faults_by.Goals as goal

pub returns : goal.returns
returns c = λ separates.
    system_listed (system_in c.args.tables.now) (is_marked c.args.purity.now) c.add_classes.new.faults.items separates
    (c.in_ok-add_classes.ensures ∙ ap (λ fs. fs ++ faults_of_system (system_in c.args.tables.now)
    (is_marked c.args.purity.now)) c.new-faults.ensures.items)
