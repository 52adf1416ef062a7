-- The ancestors of a class, and the features along it.
use Rattle.std.proofs.Common.{◌≡◌, ◌+◌, ◌-◌, ℕ, zero, suc, arith, drop, Bool, true, false, cond, List, [], ◌∷◌, ◌++◌, ◌||◌, Option, Some, None, refl, ap, sym, ◌∙◌, append_assoc}
use Rattle.std.specs.Prelude.{bytes_eq, not, is_some}
use Rattle.std.specs.Option.{option_map}
use Rattle.std.proofs.lemmas.List.Folds.{list_any-append}
use Rattle.std.proofs.lemmas.List.{append-nil}
use Rattle.sc_tree.specs.Plain.{System, Name}
use Rattle.sc_class.specs.Names.{is_listed, number_among}
use Rattle.sc_class.specs.Tables.Ancestors.{parent_number, ancestors_within, ancestors_from}
use Rattle.sc_class.specs.Tables.Features.{DeclaredFeature, declared_features, redefined_names, not_redefined, features_along, named_among}
use Rattle.sc_class.proofs.NameLemmas.{same_text}

pub listed-number : (x : List ℕ) (ns : List Name) → is_listed x ns ≡ is_some (number_among x ns)
listed-number x [] = refl
listed-number x (n ∷ ns) = by (bytes_eq n.text x) (is_listed x ns) (number_among x ns) (listed-number x ns)
  where
    by : (b c : Bool) (o : Option ℕ) → c ≡ is_some o → (b || c) ≡ is_some (cond b (Some 0) (option_map (λ k. k + 1) o))
    by true c o e = refl
    by false c None e = e
    by false c (Some k) e = e

-- ---- the ancestors

pub ancestors_more : (s : System) (items items' total : List ℕ) (k a b : ℕ) (o : Option ℕ) → a ≡ suc b → items' ≡ items ++ k ∷ [] → o ≡ Some k → items ++ ancestors_from a s o ≡ total → items' ++ ancestors_from b s (parent_number s k) ≡ total
ancestors_more s items items' total k a b o e f g h =
    ap (λ is. is ++ ancestors_from b s (parent_number s k)) f ∙ append_assoc items (k ∷ []) (ancestors_from b s (parent_number s k)) ∙ ap (λ (n : ℕ). items ++ ancestors_from n s (Some k)) (sym e) ∙ ap (λ p. items ++ ancestors_from a s p) (sym g) ∙ h

pub ancestors_at_top : (s : System) (items total : List ℕ) (a : ℕ) (o : Option ℕ) → o ≡ None → items ++ ancestors_from a s o ≡ total → items ≡ total
ancestors_at_top s items total a o e h = sym (append-nil items) ∙ ap (λ p. items ++ ancestors_from a s p) (sym e) ∙ h

pub ancestors_done : (s : System) (items total : List ℕ) (a : ℕ) (o : Option ℕ) → a ≡ 0 → items ++ ancestors_from a s o ≡ total → items ≡ total
ancestors_done s items total a o e h = sym (append-nil items) ∙ ap (λ is. items ++ is) (sym (none_onward o)) ∙ ap (λ (n : ℕ). items ++ ancestors_from n s o) (sym e) ∙ h
  where
    none_onward : (o : Option ℕ) → ancestors_from 0 s o ≡ []
    none_onward None = refl
    none_onward (Some k) = refl

-- ---- features by name

-- where a search along the ancestors has come after a class
abbrev pub then_named : Option DeclaredFeature → Bool → Option DeclaredFeature → Option DeclaredFeature
then_named (Some f) b o = Some f
then_named None true o = None
then_named None false o = o

pub named-append : (x : List ℕ) (fs gs : List DeclaredFeature) → named_among x (fs ++ gs) ≡ then_named (named_among x fs) false (named_among x gs)
named-append x [] gs = refl
named-append x (f ∷ fs) gs = by (bytes_eq f.feature.name.text x) (named_among x fs) (named-append x fs gs)
  where
    by : (b : Bool) (o : Option DeclaredFeature) → named_among x (fs ++ gs) ≡ then_named o false (named_among x gs) → cond b (Some f) (named_among x (fs ++ gs)) ≡ then_named (cond b (Some f) o) false (named_among x gs)
    by true o e = refl
    by false o e = e

pub named-not_redefined : (x : List ℕ) (names : List Name) (fs : List DeclaredFeature) → named_among x (not_redefined names fs) ≡ cond (is_listed x names) None (named_among x fs)
named-not_redefined x names [] = by (is_listed x names) None refl
  where
    by : (b : Bool) (o : Option DeclaredFeature) → o ≡ None → o ≡ cond b None o
    by true o e = e
    by false o e = refl
named-not_redefined x names (f ∷ fs) =
    by (is_listed f.feature.name.text names) (bytes_eq f.feature.name.text x) (is_listed x names) (λ e. ap (λ (y : List ℕ). is_listed y names) (same_text f.feature.name.text x e)) refl (named-not_redefined x names fs)
  where
    by : (b e l : Bool) → (e ≡ true → b ≡ l) → bytes_eq f.feature.name.text x ≡ e → named_among x (not_redefined names fs) ≡ cond l None (named_among x fs) →
        named_among x (cond (not b) (f ∷ not_redefined names fs) (not_redefined names fs)) ≡ cond l None (cond e (Some f) (named_among x fs))
    by true true true g i h = h
    by true true false g i h = let q = g refl in cc
    by true false l g i h = h
    by false true true g i h = let q = g refl in cc
    by false true false g i h = ap (λ b. cond b (Some f) (named_among x (not_redefined names fs))) i
    by false false l g i h = ap (λ b. cond b (Some f) (named_among x (not_redefined names fs))) i ∙ h

pub named-along : (s : System) (k : ℕ) (ks : List ℕ) (x : List ℕ) →
    named_among x (features_along s (k ∷ ks)) ≡ then_named (named_among x (declared_features s k)) (is_listed x (redefined_names s k)) (named_among x (features_along s ks))
named-along s k ks x =
    named-append x (declared_features s k) (not_redefined (redefined_names s k) (features_along s ks))
    ∙ ap (then_named (named_among x (declared_features s k)) false) (named-not_redefined x (redefined_names s k) (features_along s ks))
    ∙ by (named_among x (declared_features s k)) (is_listed x (redefined_names s k))
  where
    by : (o : Option DeclaredFeature) (b : Bool) → then_named o false (cond b None (named_among x (features_along s ks))) ≡ then_named o b (named_among x (features_along s ks))
    by (Some f) b = refl
    by None true = refl
    by None false = refl

-- the ancestors above a class
pub above-ancestors_from : (s : System) (n m k : ℕ) → m ≡ n - 1 → drop 1 (ancestors_within n s k) ≡ ancestors_from m s (parent_number s k)
above-ancestors_from s zero m k e = by (parent_number s k) m e
  where
    by : (o : Option ℕ) (m : ℕ) → m ≡ 0 - 1 → [] ≡ ancestors_from m s o
    by o zero e = ends o
      where
        ends : (o : Option ℕ) → [] ≡ ancestors_from 0 s o
        ends None = refl
        ends (Some k) = refl
    by o (suc m) e = absurd (omega (arith, e))
above-ancestors_from s (suc n) m k e = let same : n ≡ m = omega (arith, e) in ap (λ (i : ℕ). ancestors_from i s (parent_number s k)) same

-- ---- all features

pub not_redefined-append : (names : List Name) (fs gs : List DeclaredFeature) → not_redefined names (fs ++ gs) ≡ not_redefined names fs ++ not_redefined names gs
not_redefined-append names [] gs = refl
not_redefined-append names (f ∷ fs) gs = by (is_listed f.feature.name.text names) (not_redefined-append names fs gs)
  where
    by : (b : Bool) → not_redefined names (fs ++ gs) ≡ not_redefined names fs ++ not_redefined names gs →
        cond (not b) (f ∷ not_redefined names (fs ++ gs)) (not_redefined names (fs ++ gs)) ≡ cond (not b) (f ∷ not_redefined names fs) (not_redefined names fs) ++ not_redefined names gs
    by true e = e
    by false e = ap (λ (hs : List DeclaredFeature). f ∷ hs) e

pub not_redefined-none : (fs : List DeclaredFeature) → not_redefined [] fs ≡ fs
not_redefined-none [] = refl
not_redefined-none (f ∷ fs) = ap (λ (hs : List DeclaredFeature). f ∷ hs) (not_redefined-none fs)

pub visible-twice : (ms ns : List Name) (fs : List DeclaredFeature) → not_redefined ms (not_redefined ns fs) ≡ not_redefined (ms ++ ns) fs
visible-twice ms ns [] = refl
visible-twice ms ns (f ∷ fs) =
    by (is_listed f.feature.name.text ns) (is_listed f.feature.name.text ms) refl (is_listed f.feature.name.text (ms ++ ns)) (list_any-append (λ n. bytes_eq n.text f.feature.name.text) ms ns) refl (visible-twice ms ns fs)
  where
    by : (b c : Bool) → is_listed f.feature.name.text ms ≡ c → (d : Bool) → d ≡ (c || b) → d ≡ d → not_redefined ms (not_redefined ns fs) ≡ not_redefined (ms ++ ns) fs →
        not_redefined ms (cond (not b) (f ∷ not_redefined ns fs) (not_redefined ns fs)) ≡ cond (not d) (f ∷ not_redefined (ms ++ ns) fs) (not_redefined (ms ++ ns) fs)
    by true true i d g r e = ap (λ b. not_redefined ms (not_redefined ns fs)) g ∙ e ∙ ap (λ b. cond (not b) (f ∷ not_redefined (ms ++ ns) fs) (not_redefined (ms ++ ns) fs)) (sym g)
    by true false i d g r e = e ∙ ap (λ b. cond (not b) (f ∷ not_redefined (ms ++ ns) fs) (not_redefined (ms ++ ns) fs)) (sym g)
    by false true i d g r e = ap (λ b. cond (not b) (f ∷ not_redefined ms (not_redefined ns fs)) (not_redefined ms (not_redefined ns fs))) i ∙ e ∙ ap (λ b. cond (not b) (f ∷ not_redefined (ms ++ ns) fs) (not_redefined (ms ++ ns) fs)) (sym g)
    by false false i d g r e =
        ap (λ b. cond (not b) (f ∷ not_redefined ms (not_redefined ns fs)) (not_redefined ms (not_redefined ns fs))) i ∙ ap (λ (hs : List DeclaredFeature). f ∷ hs) e ∙ ap (λ b. cond (not b) (f ∷ not_redefined (ms ++ ns) fs) (not_redefined (ms ++ ns) fs)) (sym g)

-- the features of one more ancestor have been added, but for the redefined ones
pub features_more : (s : System) (k : ℕ) (ks rest : List ℕ) (fs gs total : List DeclaredFeature) (redefined hidden' : List Name) → rest ≡ k ∷ ks → gs ≡ fs ++ not_redefined redefined (declared_features s k) → hidden' ≡ redefined ++ redefined_names s k →
    fs ++ not_redefined redefined (features_along s rest) ≡ total → gs ++ not_redefined hidden' (features_along s ks) ≡ total
features_more s k ks rest fs gs total redefined hidden' r e f h =
    ap (λ hs. hs ++ not_redefined hidden' (features_along s ks)) e ∙ append_assoc fs (not_redefined redefined (declared_features s k)) (not_redefined hidden' (features_along s ks))
    ∙ ap (λ hs. fs ++ (not_redefined redefined (declared_features s k) ++ hs)) (ap (λ ns. not_redefined ns (features_along s ks)) f ∙ sym (visible-twice redefined (redefined_names s k) (features_along s ks)))
    ∙ ap (λ hs. fs ++ hs) (sym (not_redefined-append redefined (declared_features s k) (not_redefined (redefined_names s k) (features_along s ks))))
    ∙ ap (λ ls. fs ++ not_redefined redefined (features_along s ls)) (sym r) ∙ h
