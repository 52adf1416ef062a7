-- Pure functions have a Result, and what they call gives a value.
use Rattle.std.proofs.Common.{ℕ, ◌≡◌, Bool, true, false, List, [], ◌∷◌, Option, Some, None, refl, sym, ap, subst, ◌∙◌}
use Rattle.std.specs.Prelude.{is_some, not}
use Rattle.std.specs.List.{list_all}
use Rattle.std.specs.Option.{option_map}
use Rattle.sc_text.proofs.Classes.{and_true}
use Rattle.sc_tree.specs.Plain as tree
use Rattle.sc_tree.specs.Plain.{System, Declaration, DeclaredType, FeatureKind}
use Rattle.sc_class.specs.Tables.Features.{DeclaredFeature, declared_features, named_among}
use Rattle.sc_class.specs.Tables.Heirs.{StandsInText}
use Rattle.sc_class.proofs.Declarers.{found_stands}
use Rattle.sc_rules.specs.declared.entity_types.entity_type.EntityType.{EntityType}
use Rattle.sc_rules.specs.declared.entity_types.tag.Reserved.{Reserved}
use Rattle.sc_rules.specs.Names.{RoutineName}
use Rattle.sc_rules.specs.Names as rules
use Rattle.sc_rules.specs.Purity.{IsPurity, is_pure_candidate, is_pure_candidate_if_any, no_candidate, reserves}
use Rattle.sc_rules.specs.Purity as purity
use Rattle.sc_rules.specs.Types.{declared_type}
use Rattle.sc_rules.proofs.PurityLaws.{pure_is_closed}
use Rattle.sc_model.specs.Routines.{Routine, Text, origin_of, routine_from, routine_named, routine_with, version_of}
use Rattle.sc_model.specs.Steps.{Point}
use Rattle.sc_model.specs.Tasks.{Task, In}
use Rattle.sc_model.specs.Values.{Operand, Reference}
use Rattle.sc_machine_laws.specs.states.Points.{Agrees, ResultFits, types_of}
use Rattle.sc_machine_laws.specs.states.Points as point
use Rattle.sc_machine_laws.specs.states.ValueSteps.{EntryFits, GivesFit, KindFits, StandsSo, a_routine, an_attribute}
use Rattle.sc_machine_laws.specs.states.Typed.{IsTyped, Known}
use Rattle.sc_machine_laws.specs.states.Typed as typed
use Rattle.sc_machine_laws.proofs.states.Lists.{same_some}
use Rattle.sc_machine_laws.proofs.states.Stacks.{no_operands}
use Rattle.sc_machine_laws.specs.settlements.Calm.{name_of}
use Rattle.sc_machine_laws.specs.settlements.Clauses.{RunsPure}
use Rattle.sc_machine_laws.proofs.Modes.{IsVersionOf, routine_found}
use Rattle.sc_machine_laws.proofs.Lists.{false_is_true}

module _ (s : System) (pure : RoutineName → Bool) (tells : IsPurity s pure) where
  -- the declaration of a pure function
  candidate : (k : ℕ) (x : List ℕ) (f : DeclaredFeature) → version_of s k x ≡ Some f →
      pure (rules.routine_of f) ≡ true → is_pure_candidate f.feature.kind ≡ true
  candidate k x f e is = by (is_pure_candidate f.feature.kind) refl
    where
      stands : StandsInText s k x f
      stands = found_stands s k x f e

      there : purity.routine_named s (rules.routine_of f) ≡ Some f
      there = subst (λ (y : List ℕ). named_among y (declared_features s f.class) ≡ Some f)
          (sym stands.is_named) stands.is_declared

      by : (b : Bool) → is_pure_candidate f.feature.kind ≡ b → b ≡ true
      by true i = refl
      by false i = absurd ((pure_is_closed s pure tells (rules.routine_of f) is).0
          (no_candidate (ap is_pure_candidate_if_any there ∙ i)))

  -- a routine that may be pure is a function
  gives_result : (c : tree.RoutineDeclaration) → is_pure_candidate (tree.Routine c) ≡ true →
      is_some c.result_type ≡ true
  gives_result c e = (and_true (is_some c.result_type) (list_all (λ (d : Declaration). not (reserves d)) c.formals) e).0

  -- ---- what is called

  given_so : (me : ℕ) (of : Reserved → Option ℕ) (k : ℕ) (d : Option DeclaredType) (g : Option EntityType) →
      GivesFit s me of k d g → is_some d ≡ true →
      (t : EntityType) × (g ≡ Some t)
  given_so me of k None g f e = false_is_true e
  given_so me of k (Some d) (Some t) f e = (t, refl)
  given_so me of k (Some d) None f e = absurd f

  pub gives_value : (me : ℕ) (of : Reserved → Option ℕ) (o : Reference) (x : List ℕ) (us : List Operand)
      (g : Option EntityType) → EntryFits s me of o x us g →
      RunsPure s pure o x → (t : EntityType) × (g ≡ Some t)
  gives_value me of o x us g (c, is) runs =
      by c.version.feature.kind c.fits (candidate o.class x c.version c.is_version (runs c.version c.is_version))
    where
      by : (m : FeatureKind) → KindFits s me of o.handler us g m → is_pure_candidate m ≡ true →
          (t : EntityType) × (g ≡ Some t)
      by _ (a_routine {version} fits f) e = given_so me of o.handler version.result_type g f (gives_result version e)
      by _ (an_attribute none f) e = false_is_true e

  -- ---- the Result

  module _ (k : ℕ) (x : List ℕ) (r : Routine) (named : routine_named s k x ≡ Some r)
      (is : pure (name_of r) ≡ true) where
    declared_result : (m n : FeatureKind) (y : List ℕ) (i j : ℕ) → is_pure_candidate m ≡ true →
        routine_with s y i m j n ≡ Some r →
        (t : Option EntityType) × (r.text.result ≡ Some t)
    declared_result (tree.Attribute d) n y i j e w = false_is_true e
    declared_result (tree.Routine own) (tree.Attribute d) y i j e w = cc
    declared_result (tree.Routine own) (tree.Routine original) y i j e w = by own.result_type refl (gives_result own e)
      where
        by : (d : Option DeclaredType) → own.result_type ≡ d → is_some d ≡ true →
            (t : Option EntityType) × (r.text.result ≡ Some t)
        by None l e = false_is_true e
        by (Some d) l e = (
          declared_type s [] d,
          sym (ap (λ (q : Routine). q.text.result) (same_some w)) ∙ ap (option_map (declared_type s [])) l,
        )

    pub has_result : (t : Option EntityType) × (r.text.result ≡ Some t)
    has_result = of_version (routine_found s k x r named)
      where
        of_version : IsVersionOf s k x r → (t : Option EntityType) × (r.text.result ≡ Some t)
        of_version v = by (origin_of s v.feature) v.is_routine_of
          where
            by : (o : Option DeclaredFeature) → routine_from s v.feature o ≡ Some r →
                (t : Option EntityType) × (r.text.result ≡ Some t)
            by None e = cc
            by (Some o) e = declared_result v.feature.feature.kind o.feature.kind v.feature.feature.name.text
                v.feature.class o.class
                (candidate k x v.feature v.is_version (subst (λ (f : RoutineName). pure f ≡ true) v.has_name is)) e

    pub result_there : (h : ℕ) (u : Option Operand) → ResultFits s h r.text.result u → (v : Operand) × (u ≡ Some v)
    result_there h u f = by r.text.result u f has_result.1
      where
        by : (g : Option (Option EntityType)) (w : Option Operand) → ResultFits s h g w → g ≡ Some has_result.0 →
            (v : Operand) × (w ≡ Some v)
        by _ _ point.no_result e = cc
        by _ _ (point.a_result {u} f) e = (u, refl)

-- ---- where a text begins

-- no value lies there
pub none_at_text : (s : System) (pure : RoutineName → Bool) (r : Routine) (me : Reference) (p : Point) (u : Text)
    (k : List Task) → StandsSo s pure r me [] p →
    p.tasks ≡ In u ∷ k → p.values ≡ []
none_at_text s pure r me p u k f e =
    by f.0.known f.0.agrees (subst (λ ts. IsTyped s pure r ts f.0.known) e f.0.is_typed)
  where
    none_typed : (t : Text) (n : rules.Entities) (os vs : List EntityType) →
        IsTyped s pure r (In u ∷ k) (typed.at t n os vs) → vs ≡ []
    none_typed t n os _ (typed.in_text a d) = refl

    by : (x : Known) → Agrees p [] x → IsTyped s pure r (In u ∷ k) x → p.values ≡ []
    by _ point.here d = no_operands p.values (none_typed _ _ _ _ d)
    by _ (point.held a b c) d = elim d [ ]
    by _ (point.denied a b c) d = elim d [ ]
