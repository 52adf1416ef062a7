-- The features of classes, which are found from parents to heirs.
use Rattle.std.proofs.Common.{◌≡◌, ◌<◌, ◌+◌, ℕ, zero, suc, Bool, true, false, cond, List, [], ◌∷◌, ◌++◌, Option, Some, None, length, get_or, map, drop, refl, ap, sym, subst, ◌∙◌, arith, append_assoc, ◌⊎◌, inl, inr}
use Rattle.std.specs.Prelude.{not, slice_get, slice_set, string_bytes}
use Rattle.std.proofs.lemmas.List.{map-append}
use Rattle.sc_tree.specs.Plain.{System, Name}
use Rattle.sc_tree.specs.View.{feature_of}
use Rattle.sc_class.specs.declared.class_tables.feature_entry.FeatureEntry.{FeatureEntry}
use Rattle.sc_class.specs.declared.class_tables.found_features.ClassFeatures as class_features
use Rattle.sc_class.specs.Names.{is_listed}
use Rattle.sc_class.specs.Tables.Ancestors.{parent_number, ancestors_from}
use Rattle.sc_class.specs.Tables.Features.{DeclaredFeature, declared_features, redefined_names, not_redefined, features_along, features}
use Rattle.sc_class.specs.View.{entry_of}
use Rattle.sc_class.specs.Internal.FoundFeatures.{AreWithin, AreAbove, AreFeatures, AreItsIfAny, AreFound, Keeps}
use Rattle.sc_class.proofs.AncestorLemmas.{not_redefined-none}
use Rattle.sc_class.proofs.Anys.{at}

-- ---- what a class inherits

module _ (redefined : List Name) (above : List FeatureEntry) (i : ℕ) (x : FeatureEntry) (l : i < length above) (g : x ≡ get_or above i x) (total : List DeclaredFeature)
    (y : List ℕ) (text : y ≡ string_bytes x.feature.now.name.text.value) (b : Bool) (listed : b ≡ is_listed y redefined) where
  split : not_redefined redefined (map entry_of (drop i above)) ≡ cond (not b) (entry_of x ∷ not_redefined redefined (map entry_of (drop (i + 1) above))) (not_redefined redefined (map entry_of (drop (i + 1) above)))
  unfolding feature_of
  split =
      ap (λ es. not_redefined redefined (map entry_of es)) (at above i x l g)
      ∙ ap (λ b. cond (not b) (entry_of x ∷ not_redefined redefined (map entry_of (drop (i + 1) above))) (not_redefined redefined (map entry_of (drop (i + 1) above))))
      (sym (listed ∙ ap (λ y. is_listed y redefined) text))

  pub kept_more : (es es' : List FeatureEntry) → b ≡ false → es' ≡ es ++ x ∷ [] → map entry_of es ++ not_redefined redefined (map entry_of (drop i above)) ≡ total →
      map entry_of es' ++ not_redefined redefined (map entry_of (drop (i + 1) above)) ≡ total
  kept_more es es' q a inv =
      ap (λ es. map entry_of es ++ not_redefined redefined (map entry_of (drop (i + 1) above))) a
      ∙ ap (λ ds. ds ++ not_redefined redefined (map entry_of (drop (i + 1) above))) (map-append entry_of es (x ∷ []))
      ∙ append_assoc (map entry_of es) (entry_of x ∷ []) (not_redefined redefined (map entry_of (drop (i + 1) above)))
      ∙ ap (λ ds. map entry_of es ++ ds)
      (sym (split ∙ ap (λ b. cond (not b) (entry_of x ∷ not_redefined redefined (map entry_of (drop (i + 1) above))) (not_redefined redefined (map entry_of (drop (i + 1) above)))) q))
      ∙ inv

  pub passed_more : (es : List FeatureEntry) → b ≡ true → map entry_of es ++ not_redefined redefined (map entry_of (drop i above)) ≡ total →
      map entry_of es ++ not_redefined redefined (map entry_of (drop (i + 1) above)) ≡ total
  passed_more es q inv =
      ap (λ ds. map entry_of es ++ ds)
      (sym (split ∙ ap (λ b. cond (not b) (entry_of x ∷ not_redefined redefined (map entry_of (drop (i + 1) above))) (not_redefined redefined (map entry_of (drop (i + 1) above)))) q))
      ∙ inv

-- its own features and then those that it inherits, behind nothing
pub both_added : (es fs gs : List FeatureEntry) (names : List Name) (own above : List DeclaredFeature) → es ≡ [] → names ≡ [] → map entry_of fs ≡ map entry_of es ++ not_redefined names own →
    map entry_of gs ≡ map entry_of fs ++ above → map entry_of gs ≡ own ++ above
both_added es fs gs names own above e n f g =
    g ∙ ap (λ hs. hs ++ above) (f ∙ ap (λ es. map entry_of es ++ not_redefined names own) e ∙ ap (λ ns. not_redefined ns own) n ∙ not_redefined-none own)

-- ---- along the ancestors

under : (s : System) (k n : ℕ) (above all : List DeclaredFeature) → AreAbove s k n above → all ≡ declared_features s k ++ not_redefined (redefined_names s k) above → AreWithin s k (n + 1) all
under s k n above all are e zero l = absurd (omega (arith, l))
under s k n above all are e (suc m) l = e ∙ ap (λ fs. declared_features s k ++ not_redefined (redefined_names s k) fs) (are m (omega (arith, l)))

pub its_own : (s : System) (k n : ℕ) (above : List DeclaredFeature) (f : class_features.ClassFeatures) → n < length s.classes → AreAbove s k n above → f.depth ≡ n + 1 →
    map entry_of f.entries.items ≡ declared_features s k ++ not_redefined (redefined_names s k) above → AreFeatures s k f
its_own s k n above f l are d e = record {
  is_short = omega (arith, l, d);
  are_its = subst (λ m. AreWithin s k m (map entry_of f.entries.items)) (sym d) (under s k n above (map entry_of f.entries.items) are e);
}

pub above_none : (s : System) (k : ℕ) (fs : List DeclaredFeature) → fs ≡ [] → parent_number s k ≡ None → AreAbove s k 0 fs
above_none s k fs f e m l = f ∙ sym (ap (λ (o : Option ℕ). features_along s (ancestors_from m s o)) e)

pub above_found : (s : System) (k p : ℕ) (f : class_features.ClassFeatures) → parent_number s k ≡ Some p → AreFeatures s p f → AreAbove s k f.depth (map entry_of f.entries.items)
above_found s k p f e are m l = are.are_its m l ∙ sym (ap (λ (o : Option ℕ). features_along s (ancestors_from m s o)) e)

pub all_found : (s : System) (k : ℕ) (f : class_features.ClassFeatures) → AreFeatures s k f → map entry_of f.entries.items ≡ features s k
all_found s k f are = are.are_its (length s.classes) are.is_short

-- ---- what is kept, by the numbers of the classes

pub set_kept : (xs : List (Option class_features.ClassFeatures)) (n : ℕ) (o : Option class_features.ClassFeatures) → Keeps xs n o (slice_set xs n o)
set_kept [] n o k g e = inr e
set_kept (x ∷ xs) zero o zero g e = inl (refl, cc)
set_kept (x ∷ xs) zero o (suc k) g e = inr e
set_kept (x ∷ xs) (suc n) o zero g e = inr e
set_kept (x ∷ xs) (suc n) o (suc k) g e = of (set_kept xs n o k g e)
  where
    of : ((k ≡ n) × (o ≡ Some g)) ⊎ (slice_get xs k ≡ Some (Some g)) → ((suc k ≡ suc n) × (o ≡ Some g)) ⊎ (slice_get xs k ≡ Some (Some g))
    of (inl (p, q)) = inl (ap suc p, q)
    of (inr p) = inr p

pub one_kept : (s : System) (found found' : List (Option class_features.ClassFeatures)) (n : ℕ) (o : Option class_features.ClassFeatures) → AreFound s found → AreItsIfAny s n o → Keeps found n o found' → AreFound s found'
one_kept s found found' n o all its keeps k f e = of (keeps k f e)
  where
    of : ((k ≡ n) × (o ≡ Some f)) ⊎ (slice_get found k ≡ Some (Some f)) → AreFeatures s k f
    of (inl (p, q)) = subst (λ (m : ℕ). AreFeatures s m f) (sym p) (its f q)
    of (inr p) = all k f p

pub nothing_first : (s : System) (xs : List (Option class_features.ClassFeatures)) → xs ≡ [] → AreFound s xs
nothing_first s xs e k f h = none (ap (λ zs. slice_get zs k) (sym e) ∙ h)
  where
    none : slice_get [] k ≡ Some (Some f) → AreFeatures s k f
    none h = cc

pub nothing_more : (s : System) (xs ys : List (Option class_features.ClassFeatures)) → ys ≡ xs ++ None ∷ [] → AreFound s xs → AreFound s ys
nothing_more s xs ys e all k f h = all k f (read xs k (ap (λ zs. slice_get zs k) (sym e) ∙ h))
  where
    read : (xs : List (Option class_features.ClassFeatures)) (k : ℕ) → slice_get (xs ++ None ∷ []) k ≡ Some (Some f) → slice_get xs k ≡ Some (Some f)
    read [] zero h = cc
    read [] (suc k) h = cc
    read (x ∷ xs) zero h = h
    read (x ∷ xs) (suc k) h = read xs k h
