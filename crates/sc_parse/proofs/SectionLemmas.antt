-- Features that are found under one `feature` share its export list.
use Rattle.std.proofs.Common.{◌≡◌, ℕ, zero, suc, ◌&&◌, ◌||◌, Bool, true, false, not, List, [], ◌∷◌, ◌++◌, length, get_or, Ok, refl, ap, sym, ◌∙◌, ◌≤◌, ◌<◌, arith, subst, map}
use Rattle.std.specs.Str.{bytes_eq}
use Rattle.std.specs.Prelude.{string_bytes, slice_set}
use Rattle.sc_parse.specs.Reading.Looks.{Ahead}
use Rattle.sc_tree.specs.declared.expression.Name.{Name}
use Rattle.sc_tree.specs.declared.system.Feature.{Feature}
use Rattle.sc_tree.specs.Plain as plain
use Rattle.sc_tree.specs.View.{name_of, feature_of}
use Rattle.sc_tree.specs.Sections.{same_list, shares_list, further_share, share_lists}
use Rattle.sc_parse.specs.Reading.Classes.{feature}
use Rattle.sc_parse.proofs.SharedExports as plain_exports
use Rattle.sc_parse.proofs.Views.{feature_of-is}
use Rattle.sc_parse.specs.Reading.Sections.{AllExported, AddsExported, begun_at}

bytes_same : (bs : List ℕ) → bytes_eq bs bs ≡ true
bytes_same [] = refl
bytes_same (b ∷ bs) = grind (arith, bytes_same bs)

-- the texts of names
texts : List plain.Name → List (List ℕ)
texts ns = map (λ n. n.text) ns

same_texts : (xs ys : List Name) → texts (map name_of xs) ≡ texts (map name_of ys) → same_list xs ys ≡ true
unfolding texts
same_texts [] [] e = refl
same_texts [] (y ∷ ys) e = cc
same_texts (x ∷ xs) [] e = cc
same_texts (x ∷ xs) (y ∷ ys) e =
    let head : string_bytes x.text.value ≡ string_bytes y.text.value = cc in
    let tail : map (λ n. n.text) (map name_of xs) ≡ map (λ n. n.text) (map name_of ys) = cc in
    ap (λ t. bytes_eq t (string_bytes y.text.value) && same_list xs ys) head ∙ ap (λ b. b && same_list xs ys) (bytes_same (string_bytes y.text.value)) ∙ same_texts xs ys tail

pub same_names : (es : List plain.Name) (xs ys : List Name) → map name_of xs ≡ es → map name_of ys ≡ es → same_list xs ys ≡ true
same_names es xs ys p q = same_texts xs ys (ap texts (p ∙ sym q))

or_true : (b : Bool) → (b || true) ≡ true
or_true true = refl
or_true false = refl

both : (b c : Bool) → b ≡ true → c ≡ true → (b && c) ≡ true
both b c p q = ap (λ x. x && c) p ∙ q

-- of two that are both true, each is
each_true : (b c : Bool) → (b && c) ≡ true → (b ≡ true) × (c ≡ true)
each_true true c h = (refl, h)
each_true false c h = cc

module _ (es : List plain.Name) where
  further_all : (before : List Name) (fs : List Feature) → map name_of before ≡ es → AllExported es fs → further_share before fs ≡ true
  further_all before [] e each = refl
  further_all before (f ∷ fs) e each =
      both (shares_list before f) (further_share f.exports.value.items fs)
      (ap (λ b. not f.is_further || b) (same_names es before f.exports.value.items e each.0) ∙ or_true (not f.is_further))
      (further_all f.exports.value.items fs each.0 each.1)

  further_begun : (before : List Name) (fs : List Feature) → AllExported es fs → further_share before (begun_at 0 fs) ≡ true
  further_begun before [] each = refl
  further_begun before (f ∷ fs) each = further_all f.exports.value.items fs each.0 each.1

  further_added : (before : List Name) (xs ys : List Feature) → further_share before xs ≡ true → AddsExported es xs ys → further_share before (begun_at (length xs) ys) ≡ true
  further_added before [] ys h added = further_begun before ys added
  further_added before (x ∷ xs) [] h added = absurd added
  further_added before (x ∷ xs) (y ∷ ys) h added =
      let parts = each_true (shares_list before x) (further_share x.exports.value.items xs) h in
      both (shares_list before y) (further_share y.exports.value.items (begun_at (length xs) ys))
      (ap (shares_list before) added.0 ∙ parts.0)
      (ap (λ f. further_share f.exports.value.items (begun_at (length xs) ys)) added.0 ∙ further_added x.exports.value.items xs ys parts.1 added.1)

  -- Where the earlier ones share their lists, and the next begins what stands under its `feature`, all do.
  pub lists_shared : (xs ys : List Feature) → share_lists xs ≡ true → AddsExported es xs ys → share_lists (begun_at (length xs) ys) ≡ true
  lists_shared [] [] h added = refl
  lists_shared [] (y ∷ ys) h added = further_all y.exports.value.items ys added.0 added.1
  lists_shared (x ∷ xs) [] h added = absurd added
  lists_shared (x ∷ xs) (y ∷ ys) h added =
      ap (λ f. further_share f.exports.value.items (begun_at (length xs) ys)) added.0 ∙ further_added x.exports.value.items xs ys h added.1

  pub adds_none : (xs : List Feature) → AddsExported es xs xs
  adds_none [] = tt
  adds_none (x ∷ xs) = (refl, adds_none xs)

  all_more : (fs gs : List Feature) → AllExported es fs → AllExported es gs → AllExported es (fs ++ gs)
  all_more [] gs each more = more
  all_more (f ∷ fs) gs each more = (each.0, all_more fs gs each.1 more)

  pub adds_more : (xs ys zs : List Feature) → AddsExported es xs ys → AllExported es zs → AddsExported es xs (ys ++ zs)
  adds_more [] ys zs added more = all_more ys zs added more
  adds_more (x ∷ xs) [] zs added more = absurd added
  adds_more (x ∷ xs) (y ∷ ys) zs added more = (added.0, adds_more xs ys zs added.1 more)

  exported_in : (fs : List Feature) → plain_exports.AllExported es (map feature_of fs) → AllExported es fs
  exported_in [] each = tt
  exported_in (f ∷ fs) each = (sym (ap (λ (g : plain.Feature). g.exports) (feature_of-is f)) ∙ each.0, exported_in fs each.1)

  -- what one declaration is read as
  pub declared_exported : (room : ℕ) (ts : Ahead) (fs : List Feature) (h : ℕ) (r : Ahead) →
      feature room es ts ≡ Ok (map feature_of fs, h, r) → AllExported es fs
  declared_exported room ts fs h r e = exported_in fs (subst (plain_exports.Exports es) e (plain_exports.feature_exports room es ts))

-- ---- the feature that begins

begun_same : (f : Feature) → feature_of (record f { is_further = false }) ≡ feature_of f
begun_same f = feature_of-is (record f { is_further = false }) ∙ sym (feature_of-is f)

pub features_begun : (n : ℕ) (fs : List Feature) → map feature_of (begun_at n fs) ≡ map feature_of fs
features_begun n [] = refl
features_begun zero (f ∷ fs) = ap (λ g. g ∷ map feature_of fs) (begun_same f)
features_begun (suc n) (f ∷ fs) = ap (λ gs. feature_of f ∷ gs) (features_begun n fs)

pub begun_none : (n : ℕ) (fs : List Feature) → length fs ≤ n → begun_at n fs ≡ fs
begun_none n [] p = refl
begun_none zero (f ∷ fs) p = absurd (omega arith)
begun_none (suc n) (f ∷ fs) p = ap (λ gs. f ∷ gs) (begun_none n fs (omega arith))

pub begun_set : (n : ℕ) (fs : List Feature) (f : Feature) → n < length fs → f ≡ get_or fs n f → slice_set fs n (record f { is_further = false }) ≡ begun_at n fs
begun_set n [] f p e = absurd (omega arith)
begun_set zero (g ∷ fs) f p e = ap (λ (x : Feature). record x { is_further = false } ∷ fs) e
begun_set (suc n) (g ∷ fs) f p e = ap (λ gs. g ∷ gs) (begun_set n fs f (omega arith) e)
