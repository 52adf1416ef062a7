use Rattle.std.proofs.Common.{[], List, ap}
use Rattle.sc_tree.specs.View.{expr_of}
use Rattle.sc_class.specs.SystemIn.{system_in}
use Rattle.sc_rules.specs.declared.fault.Fault.{Fault}
use Rattle.sc_rules.specs.declared.position.Context.TheVariants as context
use Rattle.sc_rules.specs.declared.position.Position.TheVariants.{Plain}
use Rattle.sc_rules.specs.Names.{RoutineContext}
use Rattle.sc_rules.specs.SystemRules.{invariant_context}
use Rattle.sc_typing.specs.Marks.{is_marked}
use Rattle.sc_typing.specs.Views.{routine_in}
use Rattle.sc_faults.specs.Internal.Listing.{faults_of}
use Rattle.sc_faults.proofs.Steps.{site_added}
use Rattle.sc_faults.proofs.classes.add_judged.Goals as goal

-- the context is that of the invariant
pub returns : goal.returns
returns c = λ j p.
    let listed : RoutineContext → List Fault = λ h. faults_of h context.Invariant Plain [] (expr_of c.args.condition.now) in
    let of_class = invariant_context (system_in c.args.class.now.tables.now) (is_marked c.args.class.now.purity.now) c.args.class.now.class in
    site_added j (listed of_class) c.args.judged.now c.add_site.result (listed (routine_in c.context_of-routine.result)) c.args.faults.now.items
    c.add_site.new.faults.items (ap listed c.context_of-routine.ensures) p c.add_site.ensures
