-- Names with no later one in the text, as they are added and taken away.
use Rattle.std.proofs.Common.{◌≡◌, ◌≤◌, ℕ, Bool, true, false, cond, List, [], ◌∷◌, ◌++◌, ◌&&◌, map, refl, ap, sym, ◌∙◌, arith}
use Rattle.std.specs.Prelude.{bytes_eq, filter, nat_lt}
use Rattle.std.proofs.lemmas.Bool.Decides.{nat_tests}
use Rattle.std.proofs.lemmas.List.{map-append}
use Rattle.std.proofs.lemmas.List.Elements.{filter-append}
use Rattle.sc_text.specs.declared.token.Span.{Span}
use Rattle.sc_tree.specs.Plain.{Name}
use Rattle.sc_tree.specs.View.{name_of}
use Rattle.sc_class.specs.declared.names.Added.{Added}
use Rattle.sc_class.specs.Internal.NameIndex.{names_in}
use Rattle.sc_class.specs.Internal.Places.{union}
use Rattle.sc_class.specs.Internal.ScopeSearch.{NoneLater, is_later_like, later_places}
use Rattle.sc_class.proofs.PlaceLists.{union_none}

later_append : (n : Name) (ms ks : List Name) → later_places (ms ++ ks) n ≡ later_places ms n ++ later_places ks n
later_append n ms ks = ap (map (λ (m : Name). m.span)) (filter-append (λ m. is_later_like m n) ms ks) ∙ map-append (λ (m : Name). m.span) (filter (λ m. is_later_like m n) ms) (filter (λ m. is_later_like m n) ks)

not_later : (m n : Name) → m.span.start ≤ n.span.start → later_places (m ∷ []) n ≡ []
not_later m n l = by (bytes_eq m.text n.text) (nat_lt n.span.start m.span.start) (grind (arith, nat_tests))
  where
    by : (b c : Bool) → c ≡ false → map (λ (m : Name). m.span) (cond (b && c) (m ∷ []) []) ≡ []
    by true c e = ap (λ c. map (λ (m : Name). m.span) (cond c (m ∷ []) [])) e
    by false c e = refl

first_none : {A : Type 0} (xs ys : List A) → xs ++ ys ≡ [] → xs ≡ []
first_none [] ys e = refl
first_none (x ∷ xs) ys e = cc

pub none_more : (latest next : ℕ) (old new : List Added) (a : Added) → latest ≤ next → (name_of a.name.now).span.start ≤ next → new ≡ old ++ a ∷ [] → NoneLater latest (names_in old) → NoneLater next (names_in new)
none_more latest next old new a l m e h n i =
    let name : Name = name_of a.name.now in
    ap (λ (as' : List Added). later_places (names_in as') n) e ∙ ap (λ ns. later_places ns n) (map-append (λ (a : Added). name_of a.name.now) old (a ∷ [])) ∙ later_append n (names_in old) (name ∷ [])
    ∙ ap (λ ps. ps ++ later_places (name ∷ []) n) (h n (omega (arith, l, i))) ∙ not_later name n (omega (arith, m, i))

pub none_less : (latest : ℕ) (old new : List Added) (a : Added) → old ≡ new ++ a ∷ [] → NoneLater latest (names_in old) → NoneLater latest (names_in new)
none_less latest old new a e h n i =
    first_none (later_places (names_in new) n) (later_places (names_in (a ∷ [])) n)
    (sym (later_append n (names_in new) (names_in (a ∷ []))) ∙ ap (λ ns. later_places ns n) (sym (map-append (λ (a : Added). name_of a.name.now) new (a ∷ []))) ∙ sym (ap (λ (as' : List Added). later_places (names_in as') n) e) ∙ h n i)

pub none_found : (latest : ℕ) (ns : List Name) (n : Name) (found : List Span) → latest ≤ n.span.start → NoneLater latest ns → found ≡ union found (later_places ns n)
none_found latest ns n found l h = sym (ap (union found) (h n l) ∙ union_none found)
