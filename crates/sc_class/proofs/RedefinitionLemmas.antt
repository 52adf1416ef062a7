-- What a class redefines badly, from what the code finds of it.
use Rattle.std.proofs.Common.{◌≡◌, ℕ, Bool, true, false, List, [], ◌∷◌, Option, Some, None, length, map, suc, ◌&&◌, refl, ap, sym, ◌∙◌}
use Rattle.std.proofs.lemmas.List.{length-map}
use Rattle.sc_text.specs.declared.token.Span.{Span}
use Rattle.sc_tree.specs.declared.declaration.Declaration as tree
use Rattle.sc_tree.specs.Plain.{System, Name, Declaration}
use Rattle.sc_tree.specs.View.{declaration_of}
use Rattle.sc_class.specs.Internal.Found.{FindsOnly}
use Rattle.sc_class.specs.Tables.Features.{DeclaredFeature, declared_features, inherited_features, named_among}
use Rattle.sc_class.specs.Faults.Redefinition.{is_same_formals, is_same_formal, can_redefine, NameBadlyRedefined, not_inherited, not_declared, does_not_fit}
use Rattle.sc_class.proofs.Items.{some_is}

module _ (s : System) (k : ℕ) (n : Name) (y : List ℕ) (text : y ≡ n.text) where
  pub none_inherited : (g : Option DeclaredFeature) → g ≡ named_among y (inherited_features s k) → g ≡ None → FindsOnly (NameBadlyRedefined s k n) (Some n.span)
  none_inherited g e i = (not_inherited none, λ p y. there p y)
    where
      none : named_among n.text (inherited_features s k) ≡ None
      none = ap (λ x. named_among x (inherited_features s k)) (sym text) ∙ sym e ∙ i

      there : (p : Span) → NameBadlyRedefined s k n p → p ≡ n.span
      there _ (not_inherited h) = refl
      there _ (not_declared h) = refl
      there _ (does_not_fit {g = b} h j l) = let q : None ≡ Some b = sym none ∙ j in cc

  pub none_declared : (f : Option DeclaredFeature) → f ≡ named_among y (declared_features s k) → f ≡ None → FindsOnly (NameBadlyRedefined s k n) (Some n.span)
  none_declared f e i = (not_declared none, λ p y. there p y)
    where
      none : named_among n.text (declared_features s k) ≡ None
      none = ap (λ x. named_among x (declared_features s k)) (sym text) ∙ sym e ∙ i

      there : (p : Span) → NameBadlyRedefined s k n p → p ≡ n.span
      there _ (not_inherited h) = refl
      there _ (not_declared h) = refl
      there _ (does_not_fit {f = a} h j l) = let q : None ≡ Some a = sym none ∙ h in cc

  module _ (g : Option DeclaredFeature) (inherits : g ≡ named_among y (inherited_features s k)) (z : List ℕ) (again : z ≡ n.text) (f : Option DeclaredFeature) (declares : f ≡ named_among z (declared_features s k))
      (old new : DeclaredFeature) (is_old : g ≡ Some old) (is_new : f ≡ Some new) where
    inherited : named_among n.text (inherited_features s k) ≡ Some old
    inherited = ap (λ x. named_among x (inherited_features s k)) (sym text) ∙ sym inherits ∙ is_old

    declared : named_among n.text (declared_features s k) ≡ Some new
    declared = ap (λ x. named_among x (declared_features s k)) (sym again) ∙ sym declares ∙ is_new

    pub fits_not : can_redefine s new.feature.kind old.feature.kind ≡ false → FindsOnly (NameBadlyRedefined s k n) (Some new.feature.name.span)
    fits_not e = (does_not_fit declared inherited e, λ p y. there p y)
      where
        there : (p : Span) → NameBadlyRedefined s k n p → p ≡ new.feature.name.span
        there _ (not_inherited h) = let q : None ≡ Some old = sym h ∙ inherited in cc
        there _ (not_declared h) = let q : None ≡ Some new = sym h ∙ declared in cc
        there _ (does_not_fit {f = a} h i j) = ap (λ (d : DeclaredFeature). d.feature.name.span) (some_is a new (sym h ∙ declared))

    pub fits_it : can_redefine s new.feature.kind old.feature.kind ≡ true → (p : Span) → NameBadlyRedefined s k n p → ⊥
    fits_it e p (not_inherited h) = let q : None ≡ Some old = sym h ∙ inherited in cc
    fits_it e p (not_declared h) = let q : None ≡ Some new = sym h ∙ declared in cc
    fits_it e p (does_not_fit {f = a} {g = b} h i j) =
        let is_a : new ≡ a = some_is new a (sym declared ∙ h) in
        let is_b : old ≡ b = some_is old b (sym inherited ∙ i) in
        let q : true ≡ false = sym e ∙ ap (λ (d : DeclaredFeature). can_redefine s d.feature.kind old.feature.kind) is_a ∙ ap (λ (d : DeclaredFeature). can_redefine s a.feature.kind d.feature.kind) is_b ∙ j in cc

differ_in_length : (ds es : List Declaration) → (length ds ≡ length es → ⊥) → is_same_formals ds es ≡ false
differ_in_length [] [] n = absurd (n refl)
differ_in_length [] (f ∷ es) n = refl
differ_in_length (d ∷ ds) [] n = refl
differ_in_length (d ∷ ds) (f ∷ es) n = by (is_same_formal d f) (differ_in_length ds es (λ q. n (ap suc q)))
  where
    by : (b : Bool) → is_same_formals ds es ≡ false → (b && is_same_formals ds es) ≡ false
    by true e = e
    by false e = refl

pub differ : (xs ys : List tree.Declaration) → (length xs ≡ length ys → ⊥) → false ≡ is_same_formals (map declaration_of xs) (map declaration_of ys)
differ xs ys n = sym (differ_in_length (map declaration_of xs) (map declaration_of ys) (λ q. n (sym (length-map xs declaration_of) ∙ q ∙ length-map ys declaration_of)))
