-- Where the texts of a routine of an accepted system stand: its body, and the contract that it keeps.
use Rattle.std.proofs.Common.{◌≡◌, Bool, ℕ, List, Option, Some, None, refl, sym, ap, ◌∙◌}
use Rattle.std.specs.Option.{option_and_then}
use Rattle.std.specs.Prelude.{Contains, slice_get}
use Rattle.sc_tree.specs.Plain as tree
use Rattle.sc_tree.specs.Plain.{Class, DeclaredType, FeatureKind, RoutineDeclaration, System}
use Rattle.sc_class.specs.ClassNames.{Root}
use Rattle.sc_class.specs.Faults.ClassRules.{IsFaultless}
use Rattle.sc_class.specs.Tables.Features.{DeclaredFeature}
use Rattle.sc_class.specs.Tables.Heirs.{HasOrigin, StandsInText}
use Rattle.sc_class.proofs.Declarers.{found_stands}
use Rattle.sc_rules.specs.Names.{RoutineName}
use Rattle.sc_rules.specs.Purity.{IsPurity}
use Rattle.sc_rules.specs.SystemRules.{WellFormed}
use Rattle.sc_rules.proofs.TypeLaws.{declared}
use Rattle.sc_rules.proofs.Versions.{contracts_are_kept}
use Rattle.sc_model.specs.Routines.{Routine, origin_of, routine_from, routine_named, routine_of, routine_with, version_of}
use Rattle.sc_machine_laws.proofs.states.Lists.{same_some}
use Rattle.sc_machine_laws.proofs.states.Origins.{origin_is}

-- The class at the number declares the feature, which is the routine.
pub record IsDeclared (s : System) (f : DeclaredFeature) (routine : RoutineDeclaration) : Type 0 where
  pub class : Class
  pub is_class : slice_get s.classes f.class ≡ Some class
  pub declares : Contains class.features f.feature
  pub kind : f.feature.kind ≡ tree.Routine routine

-- the two declarations that a routine is made of
pub record Stem (s : System) (r : Routine) : Type 0 where
  pub feature : DeclaredFeature
  pub origin : DeclaredFeature
  pub own : RoutineDeclaration
  pub original : RoutineDeclaration
  pub has_body : IsDeclared s feature own
  pub has_contract : IsDeclared s origin original
  pub is_made : routine_with s feature.feature.name.text feature.class (tree.Routine own) origin.class
      (tree.Routine original) ≡ Some r

module _ (s : System) (root : Root) (pure : RoutineName → Bool) (faultless : IsFaultless s root) (well : WellFormed s)
    (tells : IsPurity s pure) where
  declared_there : (k : ℕ) (x : List ℕ) (f : DeclaredFeature) (routine : RoutineDeclaration) → StandsInText s k x f →
      f.feature.kind ≡ tree.Routine routine → IsDeclared s f routine
  declared_there k x f routine a m = record { class = a.class; is_class = a.is_class; declares = a.declares; kind = m }

  of_feature : (k : ℕ) (x : List ℕ) (f : DeclaredFeature) (r : Routine) → version_of s k x ≡ Some f →
      routine_of s f ≡ Some r → Stem s r
  of_feature k x f r e i = by_kind f.feature.kind refl
    where
      by_origin : (own : RoutineDeclaration) → f.feature.kind ≡ tree.Routine own → HasOrigin s k x f → Stem s r
      by_origin own m h = by h.origin.feature.kind refl
          (ap (λ n. routine_with s f.feature.name.text f.class n h.origin.class h.origin.feature.kind) (sym m)
          ∙ sym (ap (routine_from s f) (origin_is s root faultless f ∙ h.is_origin)) ∙ i)
        where
          by : (n : FeatureKind) → h.origin.feature.kind ≡ n →
              routine_with s f.feature.name.text f.class (tree.Routine own) h.origin.class h.origin.feature.kind
              ≡ Some r → Stem s r
          by (tree.Attribute d) n j =
              let no : None ≡ Some r =
              sym (ap (λ n. routine_with s f.feature.name.text f.class
              (tree.Routine own) h.origin.class n) n) ∙ j in cc
          by (tree.Routine original) n j = record {
            feature = f;
            origin = h.origin;
            own = own;
            original = original;
            has_body = declared_there k x f own (found_stands s k x f e) m;
            has_contract = declared_there h.origin.class x h.origin original
                (found_stands s h.origin.class x h.origin h.is_feature_there) n;
            is_made = sym (ap (λ n. routine_with s f.feature.name.text f.class
                (tree.Routine own) h.origin.class n) n) ∙ j;
          }

      none_made : (d : DeclaredType) (o : Option DeclaredFeature) → f.feature.kind ≡ tree.Attribute d →
          routine_from s f o ≡ Some r → ⊥
      none_made d None is i = cc
      none_made d (Some o) is i =
          let no : None ≡ Some r =
          sym (ap (λ m. routine_with s f.feature.name.text f.class m o.class o.feature.kind) is) ∙ i in cc

      by_kind : (m : FeatureKind) → f.feature.kind ≡ m → Stem s r
      by_kind (tree.Attribute d) is = absurd (none_made d (origin_of s f) is i)
      by_kind (tree.Routine own) is =
          by_origin own is (contracts_are_kept s root faultless (declared s pure tells well) k x f e own is).0

  -- Each routine that an object of a class has of a name is made so.
  pub stem : (k : ℕ) (x : List ℕ) (r : Routine) → routine_named s k x ≡ Some r → Stem s r
  stem k x r i = by (version_of s k x) refl i
    where
      by : (o : Option DeclaredFeature) → version_of s k x ≡ o → option_and_then (routine_of s) o ≡ Some r → Stem s r
      by None e i = cc
      by (Some f) e i = of_feature k x f r e i

-- its body and its clauses
pub body_is : (s : System) (r : Routine) (m : Stem s r) → m.own.body ≡ r.body
body_is s r m = ap (λ (q : Routine). q.body) (same_some m.is_made)

pub require_is : (s : System) (r : Routine) (m : Stem s r) → m.original.precondition ≡ r.require
require_is s r m = ap (λ (q : Routine). q.require) (same_some m.is_made)

pub ensure_is : (s : System) (r : Routine) (m : Stem s r) → m.original.postcondition ≡ r.ensure
ensure_is s r m = ap (λ (q : Routine). q.ensure) (same_some m.is_made)
