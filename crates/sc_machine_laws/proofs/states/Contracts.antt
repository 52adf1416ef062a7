-- The values of `old` are kept.
use Rattle.std.specs.List.{list_all}
use Rattle.std.proofs.Common.{◌++◌, Bool, List, [], ap, refl, subst, sym, true, ◌∷◌, ◌≡◌}
use Rattle.sc_tree.specs.Plain.{System}
use Rattle.sc_rules.specs.Names.{Entity, RoutineName}
use Rattle.sc_model.specs.Environments.{is_formal, scope_of}
use Rattle.sc_model.specs.Fits.{OperandFits}
use Rattle.sc_model.specs.Moves.{performs_on}
use Rattle.sc_model.specs.Routines.{Routine}
use Rattle.sc_model.specs.Steps.{Point}
use Rattle.sc_model.specs.Tasks.{KeepOld}
use Rattle.sc_model.specs.Values.{Operand, Reference}
use Rattle.sc_machine_laws.specs.states.Points.{Each, OldsFit, types_of}
use Rattle.sc_machine_laws.specs.states.ValueSteps.{StepFits}
use Rattle.sc_machine_laws.specs.states.Typed.{IsTyped, at}
use Rattle.sc_machine_laws.proofs.states.Environments.{formals_alone, olds_now}
use Rattle.sc_machine_laws.proofs.states.Lists.{each_append}
use Rattle.sc_machine_laws.proofs.states.RoutinePoints.{BaseOf, goes}

types_append : (us : List Operand) (u : Operand) → types_of (us ++ u ∷ []) ≡ types_of us ++ u.type ∷ []
types_append [] u = refl
types_append (v ∷ us) u = ap (λ ts. v.type ∷ ts) (types_append us u)

-- A value is kept where the formals alone are known.
pub keep_step : (s : System) (pure : RoutineName → Bool) (r : Routine) (me : Reference) (p : Point) (b : BaseOf s r me p) (u : Operand) →
    list_all (λ (e : Entity). is_formal e.role) (scope_of p.environment) ≡ true →
    IsTyped s pure r p.tasks (at p.text (scope_of p.environment) (types_of p.olds ++ u.type ∷ []) []) → OperandFits s me.handler p.environment u →
    StepFits s pure r me (performs_on s me KeepOld u (record p { values = [] }))
keep_step s pure r me p b u e k f = goes s pure r me (record p { olds = p.olds ++ u ∷ [] })
    (record { text_is = b.text_is; scope_stands = b.scope_stands; names_fit = b.names_fit; result_fits = b.result_fits; olds_fit = kept; store = b.store }) [] p.tasks []
    (subst (λ os. IsTyped s pure r p.tasks (at p.text (scope_of p.environment) os [])) (sym (types_append p.olds u)) k) tt
  where
    kept : OldsFit s me.handler p.environment (p.olds ++ u ∷ [])
    kept pre post q z = subst (λ bs. Each (OperandFits s me.handler bs) (p.olds ++ u ∷ [])) (sym (formals_alone p.environment pre post e q z))
        (each_append (OperandFits s me.handler p.environment) p.olds (u ∷ []) (olds_now s me.handler p.environment p.olds b.olds_fit) (f, tt))
