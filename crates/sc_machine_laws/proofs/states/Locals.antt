-- Locals are declared with their defaults, and the text changes.
use Rattle.std.specs.List.{cons_option}
use Rattle.std.specs.Option.{option_map}
use Rattle.std.specs.Prelude.{is_some}
use Rattle.std.proofs.Common.{◌&&◌, ◌++◌, Bool, List, None, Option, Some, [], ap, append-nil, append_assoc, inl, inr, refl, subst, sym, true, ℕ, ◌∙◌, ◌∷◌, ◌≡◌, ◌⊎◌}
use Rattle.sc_tree.specs.Plain.{Declaration, System}
use Rattle.sc_rules.specs.declared.entity_types.entity_type.EntityType.{EntityType}
use Rattle.sc_rules.specs.Laws.{are_declared}
use Rattle.sc_rules.specs.Names.{RoutineName, entity, locals_known}
use Rattle.sc_rules.specs.Types.{declared_type}
use Rattle.sc_rules.specs.declared.position.Role.TheVariants as role
use Rattle.sc_model.specs.Environments.{Binding, bind, handler_named, known_of, locals_bound, scope_of}
use Rattle.sc_model.specs.Fits.{FitsOrUnset}
use Rattle.sc_model.specs.Moves.{performs}
use Rattle.sc_model.specs.Routines.{Routine, Text}
use Rattle.sc_model.specs.Steps.{Point}
use Rattle.sc_model.specs.Tasks.{Declare, In}
use Rattle.sc_model.specs.Values.{Operand, Reference, default_of}
use Rattle.sc_machine_laws.specs.states.Places.{no_names}
use Rattle.sc_machine_laws.specs.states.Points.{EnvironmentFits, OldsFit, types_of}
use Rattle.sc_machine_laws.specs.states.ValueSteps.{StandsSo, StepFits}
use Rattle.sc_machine_laws.specs.states.Typed.{IsTyped, ScopeStands, at}
use Rattle.sc_machine_laws.proofs.states.Environments.{EntityFits, environment_more, olds_more}
use Rattle.sc_machine_laws.proofs.states.Fresh.{default_fits}
use Rattle.sc_machine_laws.proofs.states.PassedValues.{fits_more, no_names_known}
use Rattle.sc_machine_laws.proofs.states.Scopes.{scope_locals}
use Rattle.sc_machine_laws.proofs.states.RoutinePoints.{BaseOf, goes}
use Rattle.sc_machine_laws.proofs.states.Tests.{scope_append}

pub record Locals (s : System) (me : ℕ) (formals ds : List Declaration) (bs : List Binding) (olds : List Operand) : Type 0 where
  pub known : scope_of (bs ++ locals_bound s formals ds) ≡ scope_of bs ++ locals_known s formals ds
  pub fit : EnvironmentFits s me (bs ++ locals_bound s formals ds)
  pub olds_fit : OldsFit s me (bs ++ locals_bound s formals ds) olds

pub locals_fit : (s : System) (me : ℕ) (formals ds : List Declaration) (bs : List Binding) (olds : List Operand) → are_declared s formals ds ≡ true → EnvironmentFits s me bs → OldsFit s me bs olds →
    Locals s me formals ds bs olds
locals_fit s me formals [] bs olds e f kept = record {
  known = ap scope_of (append-nil bs) ∙ sym (append-nil (scope_of bs));
  fit = subst (EnvironmentFits s me) (sym (append-nil bs)) f;
  olds_fit = subst (λ bs. OldsFit s me bs olds) (sym (append-nil bs)) kept;
}
locals_fit s me formals (d ∷ ds) bs olds e f kept = by (declared_type s formals d.declared_type) refl e (λ bs. locals_fit s me formals ds bs olds)
  where
    by : (o : Option EntityType) → declared_type s formals d.declared_type ≡ o → (is_some o && are_declared s formals ds) ≡ true →
        ((bs : List Binding) → are_declared s formals ds ≡ true → EnvironmentFits s me bs → OldsFit s me bs olds → Locals s me formals ds bs olds) → Locals s me formals (d ∷ ds) bs olds
    by None i e go = cc
    by (Some t) i e go = record {
      known = ap scope_of are ∙ z.known ∙ ap (λ n. n ++ locals_known s formals ds) (scope_append bs b) ∙ append_assoc (scope_of bs) (known_of b ∷ []) (locals_known s formals ds)
          ∙ ap (λ o. scope_of bs ++ entity d.name.text o role.Local ∷ locals_known s formals ds) (sym i);
      fit = subst (EnvironmentFits s me) (sym are) z.fit;
      olds_fit = subst (λ bs. OldsFit s me bs olds) (sym are) z.olds_fit;
    }
      where
        b : Binding
        b = bind d.name.text t role.Local (default_of t.class)

        bound : EntityFits s me (handler_named (bs ++ b ∷ [])) b
        bound = of_default (default_fits s me t)
          where
            of_default : FitsOrUnset s me no_names (default_of t.class) t → EntityFits s me (handler_named (bs ++ b ∷ [])) b
            of_default (inl f) = inl (fits_more s me no_names (handler_named (bs ++ b ∷ [])) (default_of t.class) t (no_names_known (handler_named (bs ++ b ∷ []))) f)
            of_default (inr u) = inr (refl, u)

        z : Locals s me formals ds (bs ++ b ∷ []) olds
        z = go (bs ++ b ∷ []) e (environment_more s me bs b f (λ x. (formals, d.declared_type, i)) bound) (olds_more s me bs b olds kept)

        are : bs ++ locals_bound s formals (d ∷ ds) ≡ (bs ++ b ∷ []) ++ locals_bound s formals ds
        are = ap (λ o. bs ++ cons_option (option_map (λ (t : EntityType). bind d.name.text t role.Local (default_of t.class)) o) (locals_bound s formals ds)) i
            ∙ sym (append_assoc bs (b ∷ []) (locals_bound s formals ds))

module _ (s : System) (pure : RoutineName → Bool) (r : Routine) (me : Reference) (p : Point) (b : BaseOf s r me p) where
  -- The locals' names are known, and have their defaults.
  pub declare_step : (ds : List Declaration) → p.text ≡ r.text → are_declared s p.text.formals ds ≡ true →
      IsTyped s pure r p.tasks (at p.text (scope_of p.environment ++ locals_known s p.text.formals ds) (types_of p.olds) []) →
      StepFits s pure r me (performs s me (Declare ds) [] (record p { values = [] }))
  declare_step ds own e k = of_locals (locals_fit s me.handler p.text.formals ds p.environment p.olds e b.names_fit b.olds_fit)
    where
      stands : ScopeStands r.text.formals (scope_of p.environment ++ locals_known s p.text.formals ds)
      stands = subst (λ formals. ScopeStands r.text.formals (scope_of p.environment ++ locals_known s formals ds)) (sym (ap (λ (t : Text). t.formals) own))
          (scope_locals s r.text.formals ds (scope_of p.environment) b.scope_stands)

      of_locals : Locals s me.handler p.text.formals ds p.environment p.olds → StandsSo s pure r me [] (record p { environment = p.environment ++ locals_bound s p.text.formals ds; values = [] })
      of_locals z = goes s pure r me (record p { environment = p.environment ++ locals_bound s p.text.formals ds })
          (record { text_is = b.text_is; scope_stands = subst (ScopeStands r.text.formals) (sym z.known) stands; names_fit = z.fit; result_fits = b.result_fits; olds_fit = z.olds_fit; store = b.store }) [] p.tasks []
          (subst (λ n. IsTyped s pure r p.tasks (at p.text n (types_of p.olds) [])) (sym z.known) k) tt

  -- Another text of the routine comes.
  pub in_text_step : (t : Text) → (t ≡ r.text) ⊎ (t ≡ r.contract) → IsTyped s pure r p.tasks (at t (scope_of p.environment) (types_of p.olds) []) →
      StepFits s pure r me (performs s me (In t) [] (record p { values = [] }))
  in_text_step t i k = goes s pure r me (record p { text = t })
      (record { text_is = i; scope_stands = b.scope_stands; names_fit = b.names_fit; result_fits = b.result_fits; olds_fit = b.olds_fit; store = b.store }) [] p.tasks [] k tt
