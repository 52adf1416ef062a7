-- The version of a feature that runs takes what the rules let pass, and gives what fits.
use Rattle.std.specs.List.{list_all}
use Rattle.std.specs.Option.{option_map}
use Rattle.std.specs.Prelude.{is_some, length, map}
use Rattle.std.proofs.Common.{◌&&◌, Bool, List, None, Option, Some, [], ap, false, refl, subst, suc, sym, true, ℕ, ◌∙◌, ◌∷◌, ◌≡◌}
use Rattle.sc_tree.specs.Plain as tree
use Rattle.sc_tree.specs.Plain.{Declaration, DeclaredType, FeatureKind, System}
use Rattle.sc_class.specs.Tables.Conformance.{class_conforms, is_expanded}
use Rattle.sc_class.specs.Tables.Features.{DeclaredFeature}
use Rattle.sc_rules.specs.entity_types.Conformance.{conforms, mark_conforms}
use Rattle.sc_rules.specs.entity_types.Tags.{tag_conforms}
use Rattle.sc_rules.specs.declared.entity_types.entity_type.EntityType.{EntityType}
use Rattle.sc_rules.specs.declared.entity_types.tag.Reserved.{Reserved}
use Rattle.sc_rules.specs.entity_types.Combiners.{combined_result}
use Rattle.sc_rules.specs.Laws.{are_declared, is_declared}
use Rattle.sc_rules.specs.Names.{formal_type, given_type, signature_of_kind}
use Rattle.sc_rules.specs.Types.{declared_type}
use Rattle.sc_rules.specs.Typing.{formals_take, takes}
use Rattle.sc_rules.specs.Versions.{IsVersion, ResultConforms, same_attribute, same_formals}
use Rattle.sc_model.specs.Calls.{given_by}
use Rattle.sc_model.specs.Fits.{Fits, Lies}
use Rattle.sc_model.specs.Steps.{gives}
use Rattle.sc_model.specs.Values.{Operand, Value, values_of}
use Rattle.sc_machine_laws.specs.states.Fitting.{ActualsFit, no_more, one_more}
use Rattle.sc_machine_laws.specs.states.Places.{is_routine, no_names, of_actuals}
use Rattle.sc_machine_laws.specs.states.Points.{Each, types_of}
use Rattle.sc_machine_laws.specs.states.ValueSteps.{GivesFit, KindFits, a_routine, an_attribute}
use Rattle.sc_machine_laws.specs.states.Typed.{Takes}
use Rattle.sc_machine_laws.proofs.states.Actuals.{actuals_fit, plain_result}
use Rattle.sc_machine_laws.proofs.states.Lists.{both}
use Rattle.sc_machine_laws.proofs.states.PassedValues.{FitsAs, combined_class, conforms_fits, each, reference_over, result_fits}
use Rattle.sc_machine_laws.proofs.states.Stacks.{types_length}

-- formals that are declared alike are fitted alike
alike : (s : System) (k : ℕ) (of : Reserved → Option ℕ) (all other ds es : List Declaration) (vs : List Value) →
    map (λ (d : Declaration). declared_type s all d.declared_type) ds ≡ map (λ (d : Declaration). declared_type s other d.declared_type) es →
    ActualsFit s k other of es vs → ActualsFit s k all of ds vs
alike s k of all other [] _ _ e no_more = no_more
alike s k of all other (d ∷ ds) _ _ e no_more = cc
alike s k of all other [] _ _ e (one_more {d = c} i f more) = cc
alike s k of all other (d ∷ ds) _ _ e (one_more {d = c} {ds = es} {v} {vs} i f more) = one_more (first_is ∙ i) f (alike s k of all other ds es vs rest_is more)
  where
    first_is : declared_type s all d.declared_type ≡ declared_type s other c.declared_type
    first_is = cc

    rest_is : map (λ (d : Declaration). declared_type s all d.declared_type) ds ≡ map (λ (d : Declaration). declared_type s other d.declared_type) es
    rest_is = cc

-- what a declared list is
pub declared_each : (s : System) (all ds : List Declaration) → list_all (λ (d : Declaration). is_some (declared_type s all d.declared_type)) ds ≡ true →
    Each (λ (d : Declaration). is_some (declared_type s all d.declared_type) ≡ true) ds
declared_each s all [] e = tt
declared_each s all (d ∷ ds) e = by (is_some (declared_type s all d.declared_type)) refl e (declared_each s all ds)
  where
    by : (b : Bool) → is_some (declared_type s all d.declared_type) ≡ b → (b && list_all (λ (d : Declaration). is_some (declared_type s all d.declared_type)) ds) ≡ true →
        (list_all (λ (d : Declaration). is_some (declared_type s all d.declared_type)) ds ≡ true → Each (λ (d : Declaration). is_some (declared_type s all d.declared_type) ≡ true) ds) →
        Each (λ (d : Declaration). is_some (declared_type s all d.declared_type) ≡ true) (d ∷ ds)
    by true i e f = (i, f e)
    by false i e f = cc

pub mapped_length : (s : System) (all ds : List Declaration) → length (map (λ (d : Declaration). formal_type (declared_type s all d.declared_type)) ds) ≡ length ds
mapped_length s all [] = refl
mapped_length s all (d ∷ ds) = ap suc (mapped_length s all ds)

module _ (s : System) (me k : ℕ) (of : Reserved → Option ℕ) (t : EntityType) (l : Lies t.tag me of k) where
  -- what a version gives fits the type that the caller sees
  given_fits : (g h : EntityType) (d e : DeclaredType) → declared_type s [] d ≡ Some g → declared_type s [] e ≡ Some h → conforms s g h ≡ true →
      (v : Value) → Fits s k no_names v g → Fits s me of v (combined_result t h)
  given_fits g h d e i j c v f = result_fits s me of t h k v (plain_result s e h j) l (conforms_fits s k no_names v g h c f)

  same_given : (e : DeclaredType) (h u : EntityType) → declared_type s [] e ≡ Some h → given_type s t e ≡ Some u → combined_result t h ≡ u
  same_given e h u i j = let q : Some (combined_result t h) ≡ Some u = sym (ap (option_map (combined_result t)) i) ∙ j in cc

  given_reference : (g h w : EntityType) → conforms s g h ≡ true → combined_result t h ≡ w → is_expanded g.class ≡ false → is_expanded w.class ≡ false
  given_reference g h w c q e =
      ap is_expanded (ap (λ (t : EntityType). t.class) (sym q) ∙ combined_class t h)
      ∙ reference_over s g.class h.class (each (class_conforms s g.class h.class) (mark_conforms g.attached h.attached) (tag_conforms g.tag h.tag) c).0 e

  gives_fit : (version static : Option DeclaredType) (gives : Option EntityType) → ResultConforms s version static → given_by (option_map (given_type s t) static) ≡ Some gives →
      GivesFit s me of k version gives
  gives_fit None None None c e = tt
  gives_fit None None (Some u) c e = cc
  gives_fit None (Some d) gives c e = absurd c
  gives_fit (Some d) None gives c e = absurd c
  gives_fit (Some d) (Some f) gives c e = by (given_type s t f) refl gives e
    where
      by : (o : Option EntityType) → given_type s t f ≡ o → (gives : Option EntityType) → given_by (Some o) ≡ Some gives → GivesFit s me of k (Some d) gives
      by None i gives e = cc
      by (Some u) i None e = cc
      by (Some u) i (Some w) e =
          let q : u ≡ w = cc in
          (c.0, c.2, given_reference c.0 c.1 w c.4 (same_given f c.1 u c.3 i ∙ q), λ v h. subst (Fits s me of v) (same_given f c.1 u c.3 i ∙ q) (given_fits c.0 c.1 d f c.2 c.3 c.4 v h))

  -- The version of a feature that runs takes the actuals, and gives what fits.
  pub kind_fits : (f : DeclaredFeature) (version static : FeatureKind) (as' : List EntityType) (us : List Operand) (gives : Option EntityType) → IsVersion s version static →
      is_declared s static ≡ true → Takes s as' (signature_of_kind s t f static) → types_of us ≡ as' → given_by (signature_of_kind s t f static).gives ≡ Some gives →
      Each (FitsAs s me of) us → KindFits s me of k us gives version
  kind_fits f (tree.Attribute d) static as' us gives v i takes e g fits = of_attribute v takes g
    where
      no_actuals : (us : List Operand) (as' : List EntityType) → types_of us ≡ as' → length as' ≡ 0 → us ≡ []
      no_actuals [] as' e n = refl
      no_actuals (u ∷ us) [] e n = cc
      no_actuals (u ∷ us) (a ∷ as') e n = cc

      of_attribute : {k' : FeatureKind} → IsVersion s (tree.Attribute d) k' → Takes s as' (signature_of_kind s t f k') → given_by (signature_of_kind s t f k').gives ≡ Some gives →
          KindFits s me of k us gives (tree.Attribute d)
      of_attribute same_attribute takes g = an_attribute (no_actuals us as' e takes.1) (own_gives (given_type s t d) refl gives g)
        where
          own_gives : (o : Option EntityType) → given_type s t d ≡ o → (gives : Option EntityType) → given_by (Some o) ≡ Some gives → GivesFit s me of k (Some d) gives
          own_gives None i gives e = cc
          own_gives (Some u) i None e = cc
          own_gives (Some u) i (Some w) e = of_declared (declared_type s [] d) refl i
            where
              q : u ≡ w
              q = cc

              of_declared : (o : Option EntityType) → declared_type s [] d ≡ o → option_map (combined_result t) o ≡ Some u → GivesFit s me of k (Some d) (Some w)
              of_declared None j i = cc
              of_declared (Some h) j i =
                  let r : combined_result t h ≡ u = cc in
                  (h, j, (λ e. ap is_expanded (ap (λ (t : EntityType). t.class) (sym (r ∙ q)) ∙ combined_class t h) ∙ e), λ v x. subst (Fits s me of v) (r ∙ q) (result_fits s me of t h k v (plain_result s d h j) l x))
  kind_fits f (tree.Routine version) static as' us gives v i takes e g fits = of_routine v i takes g
    where
      of_routine : {k' : FeatureKind} → IsVersion s (tree.Routine version) k' → is_declared s k' ≡ true → Takes s as' (signature_of_kind s t f k') →
          given_by (signature_of_kind s t f k').gives ≡ Some gives → KindFits s me of k us gives (tree.Routine version)
      of_routine (same_formals {routine = z} alike_is c) i takes g = a_routine
          (alike s k (of_actuals (values_of us)) version.formals z.formals version.formals z.formals (values_of us) alike_is
          (actuals_fit s me k of t z.formals us l (sym (types_length us as' e) ∙ takes.1 ∙ mapped_length s z.formals z.formals) (declared_each s z.formals z.formals (both (are_declared s z.formals z.formals) _ i).0) fits
          (subst (λ as'. formals_take s t (map (λ (t : EntityType). Some t) as') (map (λ (d : Declaration). formal_type (declared_type s z.formals d.declared_type)) z.formals) (map (λ (t : EntityType). Some t) as') ≡ true)
          (sym e) takes.0)))
          (gives_fit version.result_type z.result_type gives c g)

-- a version of a routine is one
pub routine_version : {s : System} {k l : FeatureKind} → IsVersion s k l → is_routine l ≡ true → is_routine k ≡ true
routine_version same_attribute e = cc
routine_version (same_formals a r) e = refl
