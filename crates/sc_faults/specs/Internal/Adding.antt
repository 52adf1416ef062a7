-- What a function ensures that adds faults to those that are found.
use Rattle.std.specs.Prelude.{◌≡◌, Bool, List, ◌++◌, Result, OnOk}
use Rattle.std.specs.declared.alloc.AllocError.{AllocError}
use Rattle.sc_text.specs.declared.token.Span.{Span}
use Rattle.sc_tree.specs.Plain.{Instrs}
use Rattle.sc_rules.specs.declared.fault.Fault.{Fault}
use Rattle.sc_rules.specs.declared.position.Context.{Context}
use Rattle.sc_rules.specs.declared.position.Position.TheVariants.{Condition}
use Rattle.sc_rules.specs.Names.{RoutineContext, Entities}
use Rattle.sc_rules.specs.Judging.{Judged}
use Rattle.sc_tree.specs.Plain.{Expr}
use Rattle.sc_typing.specs.declared.fault.CheckFault.{CheckFault}
use Rattle.sc_typing.specs.Judges.{Passes, Knows}
use Rattle.sc_faults.specs.Internal.Listing.{faults_at, where_known, faults_of, faults_of_form, faults_under}

-- of a site, whatever it was that judged it
abbrev pub AddsFaults : Result Unit CheckFault → List Fault → Result Unit AllocError → List Fault → List Fault → Type 0
AddsFaults judged operands result old new =
    (j : Judged (Unit {0})) → Passes j judged → OnOk result (new ≡ old ++ faults_at j operands)

-- of the form of a clause at this place, whatever it was that judged the clause
abbrev pub AddsForm : Result Unit CheckFault → Bool → Span → Result Unit AllocError → List Fault → List Fault → Type 0
AddsForm judged b p result old new =
    (j : Judged (Unit {0})) → Passes j judged → OnOk result (new ≡ old ++ faults_of_form j b p)

-- of instructions, whatever it was that gave the names
abbrev pub AddsUnder : RoutineContext → Result Unit CheckFault → Entities → Instrs → Result Unit AllocError →
    List Fault → List Fault → Type 0
AddsUnder h given known is result old new =
    (j : Judged Entities) → Knows j given known → OnOk result (new ≡ old ++ faults_under h j is)

-- of an expression, whatever it was that gave the names
abbrev pub AddsWhereKnown : RoutineContext → Context → Result Unit CheckFault → Entities → Expr →
    Result Unit AllocError → List Fault → List Fault → Type 0
AddsWhereKnown h c given known e result old new =
    (j : Judged Entities) → Knows j given known →
    OnOk result (new ≡ old ++ where_known j (λ m. faults_of h c Condition m e))
