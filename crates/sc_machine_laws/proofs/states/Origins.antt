-- Where no class has a fault, the declaration that is no redefinition is the topmost one.
use Rattle.std.proofs.Common.{◌≡◌, ◌⊎◌, inl, inr, ℕ, zero, suc, Bool, true, false, List, [], ◌∷◌, length, drop, Option, Some, None, refl, sym, ap, ◌∙◌, subst}
use Rattle.std.specs.Prelude.{slice_get, if◌then◌else◌}
use Rattle.std.specs.Option.{option_or, option_map_or}
use Rattle.sc_tree.specs.Plain.{System, Class}
use Rattle.sc_class.specs.declared.identity.ClassId.TheVariants as class
use Rattle.sc_class.specs.Names.{is_listed}
use Rattle.sc_class.specs.ClassNames.{Root}
use Rattle.sc_class.specs.Tables.Ancestors.{parent_number, ancestors_within, ancestors}
use Rattle.sc_class.specs.Tables.Features.{DeclaredFeature, declared_features, redefined_by, redefined_names, features_along, inherited_features, named_among, feature_named}
use Rattle.sc_class.specs.Tables.Heirs as heirs
use Rattle.sc_class.specs.Tables.Heirs.{HeirsVersion, topmost_along}
use Rattle.sc_class.specs.Faults.Redefinition.{not_inherited}
use Rattle.sc_class.specs.Faults.ClassRules.{IsFaultless}
use Rattle.sc_class.proofs.Acyclic.{ancestors_climb}
use Rattle.sc_class.proofs.Heirs.{OneDown, inherits, declares_again, Next, redefinition, inherited, one_down, heirs_redeclare}
use Rattle.sc_class.proofs.Origins.{topmost_declared, topmost_found, declared_found}
use Rattle.sc_class.proofs.Declarers.{DeclaredAlong}
use Rattle.sc_model.specs.Routines.{origin_along, origin_of}

some_or : (o : Option DeclaredFeature) → option_or o None ≡ o
some_or None = refl
some_or (Some f) = refl

alone : (s : System) (k n : ℕ) → parent_number s k ≡ None → (ancestors_within n s k ≡ []) ⊎ (ancestors_within n s k ≡ k ∷ [])
alone s k zero e = inl refl
alone s k (suc n) e = inr (ap (λ (o : Option ℕ). k ∷ option_map_or (ancestors_within n s) o []) e)

same_tail : (j k : ℕ) (js ks : List ℕ) → j ∷ js ≡ k ∷ ks → js ≡ ks
same_tail j k js ks e = cc

module _ (s : System) (root : Root) (w : IsFaultless s root) (x : List ℕ) where
  -- a name that a class redefines is inherited
  redefined_above : (k : ℕ) → is_listed x (redefined_names s k) ≡ true → named_among x (inherited_features s k) ≡ None → ⊥
  redefined_above k l e = by (slice_get s.classes k) refl
    where
      by : (o : Option Class) → slice_get s.classes k ≡ o → ⊥
      by None i = let no : false ≡ true = sym (ap (λ (o : Option Class). is_listed x (option_map_or redefined_by o [])) i) ∙ l in cc
      by (Some c) i =
          redefinition s root w k c i x (sym (ap (λ (o : Option Class). is_listed x (option_map_or redefined_by o [])) i) ∙ l)
          (λ n t. (n.span, not_inherited (ap (λ y. named_among y (inherited_features s k)) t ∙ e)))

  -- what an ancestor declares is found
  topmost_there : (k : ℕ) (o : DeclaredFeature) → topmost_along s x (ancestors s k) ≡ Some o → (g : DeclaredFeature) × (feature_named s (class.Declared k) x ≡ Some g)
  topmost_there k o e = at (topmost_declared s x (ancestors s k) o e)
    where
      version : HeirsVersion s k x o → (g : DeclaredFeature) × (feature_named s (class.Declared k) x ≡ Some g)
      version v = (v.version, v.is_there)

      at : DeclaredAlong s (ancestors s k) x o → (g : DeclaredFeature) × (feature_named s (class.Declared k) x ≡ Some g)
      at a = version (heirs_redeclare s root w k o.class x o a.is_above (declared_found s root w x k o.class o a.is_above a.is_declared))

  -- the class at the number, and its parent's ancestors
  one_up : (k i : ℕ) → parent_number s k ≡ Some i → origin_along s x (ancestors s i) ≡ topmost_along s x (ancestors s i) →
      origin_along s x (k ∷ ancestors s i) ≡ topmost_along s x (k ∷ ancestors s i)
  one_up k i p same = by_list (is_listed x (redefined_names s k)) refl (named_among x (declared_features s k)) refl (topmost_along s x (ancestors s i)) refl
    where
      declared_apart : (g f : DeclaredFeature) → feature_named s (class.Declared i) x ≡ Some g → named_among x (declared_features s k) ≡ Some f →
          is_listed x (redefined_names s k) ≡ false → ⊥
      declared_apart g f e d l = at (one_down s root w k i p x g e)
        where
          of_made : (v : DeclaredFeature) → OneDown s k x g v → ⊥
          of_made v (inherits a b c) = let no : None ≡ Some f = sym b ∙ d in cc
          of_made v (declares_again a b c) = let no : true ≡ false = sym b ∙ l in cc

          at : Next s k x g → ⊥
          at n = of_made n.version n.made

      none_above : is_listed x (redefined_names s k) ≡ true → topmost_along s x (ancestors s i) ≡ None → (o : Option DeclaredFeature) →
          feature_named s (class.Declared i) x ≡ o → ⊥
      none_above l t None e = redefined_above k l (ap (named_among x) (inherited s root w k i p) ∙ e)
      none_above l t (Some f) e = let top = topmost_found s x (ancestors s i) f e in let no : None ≡ Some top.0 = sym t ∙ top.1 in cc

      by_list : (b : Bool) → is_listed x (redefined_names s k) ≡ b → (d : Option DeclaredFeature) → named_among x (declared_features s k) ≡ d →
          (t : Option DeclaredFeature) → topmost_along s x (ancestors s i) ≡ t →
          (if b then origin_along s x (ancestors s i) else option_or d (origin_along s x (ancestors s i))) ≡ option_or t d
      by_list true l d e None t = absurd (none_above l t (feature_named s (class.Declared i) x) refl)
      by_list true l d e (Some o) t = same ∙ t
      by_list false l d e None t = ap (option_or d) (same ∙ t) ∙ some_or d
      by_list false l None e (Some o) t = same ∙ t
      by_list false l (Some f) e (Some o) t = let there = topmost_there i o t in absurd (declared_apart there.0 f there.1 e l)

  topmost_alone : (k : ℕ) → ancestors s k ≡ k ∷ [] → origin_along s x (k ∷ []) ≡ topmost_along s x (k ∷ [])
  topmost_alone k a = by (is_listed x (redefined_names s k)) refl
    where
      by : (b : Bool) → is_listed x (redefined_names s k) ≡ b →
          (if b then None else option_or (named_among x (declared_features s k)) None) ≡ named_among x (declared_features s k)
      by true l = absurd (redefined_above k l (ap (λ (ks : List ℕ). named_among x (features_along s (drop 1 ks))) a))
      by false l = some_or (named_among x (declared_features s k))

  topmost_is : (ks : List ℕ) (k : ℕ) → ancestors s k ≡ ks → origin_along s x (ancestors s k) ≡ topmost_along s x (ancestors s k)
  topmost_is [] k e = subst (λ ks. origin_along s x ks ≡ topmost_along s x ks) (sym e) refl
  topmost_is (j ∷ ks) k e = by (parent_number s k) (λ i a. topmost_is ks i a) refl
    where
      by : (o : Option ℕ) → ((i : ℕ) → ancestors s i ≡ ks → origin_along s x (ancestors s i) ≡ topmost_along s x (ancestors s i)) → parent_number s k ≡ o →
          origin_along s x (ancestors s k) ≡ topmost_along s x (ancestors s k)
      by (Some i) above p =
          let up = ancestors_climb s root w k i p in
          subst (λ ks. origin_along s x ks ≡ topmost_along s x ks) (sym up) (one_up k i p (above i (same_tail k j (ancestors s i) ks (sym up ∙ e))))
      by None above p = at (alone s k (length s.classes) p)
        where
          at : (ancestors s k ≡ []) ⊎ (ancestors s k ≡ k ∷ []) → origin_along s x (ancestors s k) ≡ topmost_along s x (ancestors s k)
          at (inl a) = subst (λ ks. origin_along s x ks ≡ topmost_along s x ks) (sym a) refl
          at (inr a) = subst (λ ks. origin_along s x ks ≡ topmost_along s x ks) (sym a) (topmost_alone k a)

-- The contract that a feature keeps stands in the topmost class that declares it.
pub origin_is : (s : System) (root : Root) → IsFaultless s root → (f : DeclaredFeature) → origin_of s f ≡ heirs.origin_of s f
origin_is s root w f = topmost_is s root w f.feature.name.text (ancestors s f.class) f.class refl
