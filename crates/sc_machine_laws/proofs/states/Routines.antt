-- What runs on an object of an accepted system: what is known of its routine.
use Rattle.std.specs.Option.{option_and_then, option_map}
use Rattle.std.specs.Prelude.{is_some}
use Rattle.std.proofs.Common.{Bool, List, None, Option, Some, [], ap, refl, subst, sym, true, ℕ, ◌∙◌, ◌≡◌}
use Rattle.sc_tree.specs.Plain as tree
use Rattle.sc_tree.specs.Plain.{DeclaredType, FeatureKind, System}
use Rattle.sc_class.specs.ClassNames.{Root}
use Rattle.sc_class.specs.Faults.ClassRules.{IsFaultless}
use Rattle.sc_class.specs.Tables.Conformance.{is_ancestor}
use Rattle.sc_class.specs.Tables.Features.{DeclaredFeature}
use Rattle.sc_class.specs.Tables.Heirs.{HasOrigin}
use Rattle.sc_class.proofs.Declarers.{found_stands}
use Rattle.sc_rules.specs.entity_types.Conformance.{conforms}
use Rattle.sc_rules.specs.declared.entity_types.entity_type.EntityType.{EntityType}
use Rattle.sc_rules.proofs.entity_types.ConformanceLemmas.{reflexive}
use Rattle.sc_rules.specs.Laws.{AllDeclared}
use Rattle.sc_rules.specs.Names.{RoutineName}
use Rattle.sc_rules.specs.Purity.{IsPurity}
use Rattle.sc_rules.specs.SystemRules.{WellFormed}
use Rattle.sc_rules.specs.Types.{declared_type}
use Rattle.sc_rules.specs.Versions.{Keeps, ResultConforms, keeps}
use Rattle.sc_rules.proofs.TypeLaws.{declared}
use Rattle.sc_rules.proofs.Versions.{contracts_are_kept, declared_types_stand, heirs_have_versions}
use Rattle.sc_model.specs.Routines.{Routine, origin_of, routine_from, routine_named, routine_of, routine_with, version_of}
use Rattle.sc_model.specs.Values.{Reference}
use Rattle.sc_machine_laws.proofs.states.Actuals.{plain_result}
use Rattle.sc_machine_laws.proofs.states.Lists.{same_some}
use Rattle.sc_machine_laws.proofs.states.Origins.{origin_is}
use Rattle.sc_machine_laws.proofs.states.Scopes.{kept_names, result_names}
use Rattle.sc_machine_laws.proofs.states.RoutinePoints.{IsRun, Leads}

module _ (s : System) where
  -- what the text gives has a type
  pub gives_type : (d e : Option DeclaredType) → ResultConforms s d e → ((t : Option EntityType) → option_map (declared_type s []) d ≡ Some t → is_some t ≡ true) ×
      ((t : Option EntityType) → option_map (declared_type s []) e ≡ Some t → is_some t ≡ true)
  gives_type None None c = (λ t i. cc, λ t i. cc)
  gives_type None (Some e) c = absurd c
  gives_type (Some d) None c = absurd c
  gives_type (Some d) (Some e) c = (λ t i. of_type c.0 t (sym c.2) (same_some i), λ t i. of_type c.1 t (sym c.3) (same_some i))
    where
      of_type : (g : EntityType) {o : Option EntityType} (t : Option EntityType) → Some g ≡ o → o ≡ t → is_some t ≡ true
      of_type g t e f = subst (λ t. is_some t ≡ true) (e ∙ f) refl

  of_declared : (d : Option DeclaredType) (t : EntityType) → option_map (declared_type s []) d ≡ Some (Some t) → (e : DeclaredType) × (declared_type s [] e ≡ Some t)
  of_declared None t i = cc
  of_declared (Some d) t i = (d, same_some i)

  -- the Result that the contract speaks of is the routine's own, or wider
  kept_leads : (d e : Option DeclaredType) → ResultConforms s d e → Leads s (option_map (declared_type s []) d) (option_map (declared_type s []) e)
  kept_leads None None c t i = cc
  kept_leads None (Some e) c t i = absurd c
  kept_leads (Some d) None c t i = absurd c
  kept_leads (Some d) (Some e) c t i = (c.0, ap (λ o. Some o) c.2, subst (λ t. conforms s c.0 t ≡ true) (same_some (sym c.3 ∙ same_some i)) c.4)

  own_leads : (d : Option DeclaredType) → Leads s (option_map (declared_type s []) d) (option_map (declared_type s []) d)
  own_leads d t i = let e = of_declared d t i in (t, i, reflexive s t (declared_types_stand s [] e.0 t e.1).0)

module _ (s : System) (root : Root) (pure : RoutineName → Bool) (faultless : IsFaultless s root) (well : WellFormed s) (tells : IsPurity s pure) (r : Routine) (me : Reference) where
  all_declared : AllDeclared s
  all_declared = declared s pure tells well

  of_kinds : (x : List ℕ) (j k : ℕ) (m o : FeatureKind) → Keeps s m o → is_ancestor s me.class j ≡ true → is_ancestor s me.class k ≡ true → routine_with s x j m k o ≡ Some r → IsRun s pure r me
  of_kinds x j k _ _ (keeps {version = own} {routine = original} a same results) up above e = subst (λ r. IsRun s pure r me) (same_some e) (record {
    well_formed = well;
    purity = tells;
    declared = all_declared;
    heirs = heirs_have_versions s root faultless all_declared;
    own = record { heir = up; has_result = (gives_type s own.result_type original.result_type results).0; leads = own_leads s own.result_type };
    kept = record { heir = above; has_result = (gives_type s own.result_type original.result_type results).1; leads = kept_leads s own.result_type original.result_type results };
    results_name = λ b. (result_names s b own.result_type, result_names s b original.result_type);
    may_name = kept_names own.formals original.formals a;
    plain = λ t i. let d = of_declared s own.result_type t i in plain_result s d.0 t d.1;
    result_type = λ t i. let d = of_declared s own.result_type t i in declared_types_stand s [] d.0 t d.1;
  })

  of_feature : (x : List ℕ) (f : DeclaredFeature) → version_of s me.class x ≡ Some f → routine_of s f ≡ Some r → IsRun s pure r me
  of_feature x f e i = by_kind f.feature.kind refl
    where
      by_origin : (h : HasOrigin s me.class x f) → Keeps s f.feature.kind h.origin.feature.kind → IsRun s pure r me
      by_origin h keep = of_kinds f.feature.name.text f.class h.origin.class f.feature.kind h.origin.feature.kind keep ((found_stands s me.class x f e).is_above) h.is_above
          (sym (ap (routine_from s f) (origin_is s root faultless f ∙ h.is_origin)) ∙ i)

      none_made : (d : DeclaredType) (o : Option DeclaredFeature) → f.feature.kind ≡ tree.Attribute d → routine_from s f o ≡ Some r → ⊥
      none_made d None is i = cc
      none_made d (Some o) is i =
          let no : None ≡ Some r = sym (ap (λ m. routine_with s f.feature.name.text f.class m o.class o.feature.kind) is) ∙ i in cc

      by_kind : (m : FeatureKind) → f.feature.kind ≡ m → IsRun s pure r me
      by_kind (tree.Attribute d) is = absurd (none_made d (origin_of s f) is i)
      by_kind (tree.Routine own) is = let kept = contracts_are_kept s root faultless all_declared me.class x f e own is in by_origin kept.0 kept.1

  pub is_run : routine_named s me.class r.name ≡ Some r → IsRun s pure r me
  is_run i = by (version_of s me.class r.name) refl i
    where
      by : (o : Option DeclaredFeature) → version_of s me.class r.name ≡ o → option_and_then (routine_of s) o ≡ Some r → IsRun s pure r me
      by None e i = cc
      by (Some f) e i = of_feature r.name f e i
