-- What is known by name in a line of classes, as it goes from class to class.
use Rattle.std.proofs.Common.{◌≡◌, ◌<◌, ◌≤◌, ◌+◌, ◌-◌, ℕ, zero, suc, Bool, true, false, cond, List, [], ◌∷◌, ◌++◌, ◌||◌, length, drop, get_or, map, Option, Some, None, refl, ap, sym, subst, ◌∙◌, arith}
use Rattle.std.specs.Prelude.{bytes_eq, nat_lt, unwrap_or, is_some, slice_get}
use Rattle.std.specs.Bool.{OnTrue}
use Rattle.std.proofs.lemmas.Bool.{OnTrue_from}
use Rattle.std.specs.Borrow.{Bor}
use Rattle.std.specs.HashMap.{HashMap, get_by, UpdatesBy}
use Rattle.std.specs.Option.{option_map, option_map_or}
use Rattle.std.proofs.lemmas.Option.{slice_get_within}
use Rattle.std.proofs.lemmas.Map.Text.{hash_map_updates_str}
use Rattle.std.proofs.lemmas.List.{drop_all, drop_more, length-append, map-append}
use Rattle.std.proofs.lemmas.List.Folds.{list_any-append}
use Rattle.sc_text.specs.declared.token.Span.{Span}
use Rattle.sc_tree.specs.Plain.{System, Class, Name}
use Rattle.sc_class.specs.declared.class_tables.line.NamedFeatures.{NamedFeatures}
use Rattle.sc_class.specs.declared.class_tables.line.Change.{Change}
use Rattle.sc_class.specs.declared.class_tables.line.Level.{Level}
use Rattle.sc_class.specs.Names.{is_listed, number_among}
use Rattle.sc_class.specs.Tables.Ancestors.{parent_number, ancestors, ancestors_from, ancestors_within}
use Rattle.sc_class.specs.Tables.Declared.{declared_feature_names, declared_feature_names_at}
use Rattle.sc_class.specs.Tables.Features.{DeclaredFeature, declared_features, redefined_by, redefined_names, features_along, named_among}
use Rattle.sc_class.specs.Faults.Scopes.{feature_names}
use Rattle.sc_class.specs.Internal.Found.{first_place}
use Rattle.sc_class.specs.Internal.NameIndex.{place_among}
use Rattle.sc_class.specs.Internal.KnownFeatures.{class_of_first}
use Rattle.sc_class.specs.Internal.Lines.{no_features, named_along, named_up, joined, with_own, listed_names, known_by, kept_below, Said, put_in_turn, changes_of, said_of, said_below, above_in, IsWhole, IsLine, no_classes, one_more, StandsAt}
use Rattle.sc_class.proofs.NameLemmas.{same_text}
use Rattle.sc_class.proofs.AncestorLemmas.{above-ancestors_from, listed-number, named-along, then_named}
use Rattle.sc_class.proofs.FeatureLemmas.{none_named}
use Rattle.sc_class.proofs.Declarers.{declared_along}
use Rattle.sc_class.proofs.FeaturePlaces.{declared_names, place-along}

-- ---- changes

pub known_changed : {S : Type 0} (m n : HashMap (Bor (List ℕ)) NamedFeatures S) (t : List ℕ) (w : NamedFeatures) → UpdatesBy (λ a b. bytes_eq a.now b.now) (λ k. bytes_eq t k.now) m n (Some w) →
    (x : List ℕ) → known_by x n ≡ cond (bytes_eq t x) w (known_by x m)
known_changed m n t w new x = ap (λ (o : Option NamedFeatures). unwrap_or o no_features) (hash_map_updates_str t m n (Some w) new x) ∙ by (bytes_eq t x) (get_by (λ k. bytes_eq x k.now) m)
  where
    by : (b : Bool) (o : Option NamedFeatures) → unwrap_or (cond b (Some w) o) no_features ≡ cond b w (unwrap_or o no_features)
    by true o = refl
    by false o = refl

-- one change more has been made
pub put_more : (x : List ℕ) (cs : List Change) (i : ℕ) (d : Change) → i < length cs → (f g : NamedFeatures) → g ≡ cond (bytes_eq (get_or cs i d).text.now x) (get_or cs i d).features f → (total : NamedFeatures) →
    put_in_turn x (changes_of (drop i cs)) f ≡ total → put_in_turn x (changes_of (drop (i + 1) cs)) g ≡ total
put_more x cs i d l f g h total inv = ap (put_in_turn x (changes_of (drop (i + 1) cs))) h ∙ sym (ap (λ (ds : List Change). put_in_turn x (changes_of ds) f) (drop_more cs i d l)) ∙ inv

pub put_end : (x : List ℕ) (cs : List Change) (i : ℕ) (f total : NamedFeatures) → length cs ≤ i → put_in_turn x (changes_of (drop i cs)) f ≡ total → f ≡ total
put_end x cs i f total l inv = sym (ap (λ (ds : List Change). put_in_turn x (changes_of ds) f) (drop_all i cs l)) ∙ inv

pub put_said : (x : List ℕ) (f : List ℕ → NamedFeatures) (ns : List Name) (g : NamedFeatures) → put_in_turn x (said_of f ns) g ≡ cond (is_listed x ns) (f x) g
put_said x f [] g = refl
put_said x f (n ∷ ns) g = put_said x f ns (cond (bytes_eq n.text x) (f n.text) g) ∙ by (bytes_eq n.text x) (is_listed x ns) (λ e. ap f (same_text n.text x e))
  where
    by : (b c : Bool) → (b ≡ true → f n.text ≡ f x) → cond c (f x) (cond b (f n.text) g) ≡ cond (b || c) (f x) g
    by true true h = refl
    by true false h = h refl
    by false c h = refl

-- what is said of names, and then of others, behind nothing
pub said_both : (f : List ℕ → NamedFeatures) (ns ms : List Name) (none a b : List Said) → none ≡ [] → a ≡ none ++ said_of f ns → b ≡ a ++ said_of f ms → b ≡ said_of f (ns ++ ms)
said_both f ns ms none a b e g h = h ∙ ap (λ (cs : List Said). cs ++ said_of f ms) (g ∙ ap (λ (cs : List Said). cs ++ said_of f ns) e) ∙ sym (map-append (λ (n : Name). record { text = n.text; features = f n.text }) ns ms)

said_twice : (s : System) (k : ℕ) (f : List ℕ → NamedFeatures) (ns : List Name) → map (said_below s k) (said_of f ns) ≡ said_of (λ x. with_own s k x (f x)) ns
said_twice s k f [] = refl
said_twice s k f (n ∷ ns) = ap (λ (cs : List Said). record { text = n.text; features = with_own s k n.text (f n.text) } ∷ cs) (said_twice s k f ns)

-- ---- a class and those above it

unplaced : (x : List ℕ) (fs : List DeclaredFeature) → named_among x fs ≡ None → place_among x (feature_names fs) ≡ None
unplaced x [] e = refl
unplaced x (f ∷ fs) e = by (bytes_eq f.feature.name.text x) e (unplaced x fs)
  where
    by : (b : Bool) → cond b (Some f) (named_among x fs) ≡ None → (named_among x fs ≡ None → place_among x (feature_names fs) ≡ None) → first_place (cond b (Some f.feature.name.span) None) (place_among x (feature_names fs)) ≡ None
    by true q h = cc
    by false q h = h q

module _ (s : System) (k : ℕ) (x : List ℕ) where
  abbrev own : Option DeclaredFeature
  own = named_among x (declared_features s k)

  abbrev here : Option Span
  here = place_among x (declared_feature_names_at s k)

  nowhere_here : own ≡ None → here ≡ None
  nowhere_here e = ap (place_among x) (sym (declared_names s k)) ∙ unplaced x (declared_features s k) e

  pub along_step : (ks : List ℕ) → named_along s (k ∷ ks) x ≡ with_own s k x (named_along s ks x)
  along_step ks =
      ap (λ (c : Option ℕ). record { class = c; place = place_among x (feature_names (features_along s (k ∷ ks))) }) (ap (option_map (λ (f : DeclaredFeature). f.class)) (named-along s k ks x))
      ∙ ap (λ (p : Option Span). record { class = option_map (λ (f : DeclaredFeature). f.class) (then_named own (is_listed x (redefined_names s k)) (named_among x (features_along s ks))); place = p }) (place-along s x k ks)
      ∙ by own (is_listed x (redefined_names s k)) (named_among x (features_along s ks)) (place_among x (feature_names (features_along s ks))) nowhere_here
    where
      by : (o : Option DeclaredFeature) (b : Bool) (r : Option DeclaredFeature) (p : Option Span) → (o ≡ None → here ≡ None) →
          record { class = option_map (λ (f : DeclaredFeature). f.class) (then_named o b r); place = first_place here (cond b None p) }
          ≡ joined (option_map (λ (f : DeclaredFeature). f.class) o) here (cond b no_features (record { class = option_map (λ (f : DeclaredFeature). f.class) r; place = p }))
      by (Some f) true r p h = refl
      by (Some f) false r p h = refl
      by None true r p h = ap (λ (q : Option Span). record { class = None; place = first_place q None }) (h refl)
      by None false r p h = ap (λ (q : Option Span). record { class = option_map (λ (f : DeclaredFeature). f.class) r; place = first_place q p }) (h refl)

  -- a name that the class neither declares nor redefines is as it is above
  pub unlisted : is_listed x (listed_names s k) ≡ false → (above : NamedFeatures) → with_own s k x above ≡ above
  unlisted e above = by (is_listed x (declared_feature_names_at s k)) (is_listed x (redefined_names s k)) refl (sym (list_any-append (λ n. bytes_eq n.text x) (declared_feature_names_at s k) (redefined_names s k)) ∙ e)
    where
      no_number : (o : Option ℕ) → false ≡ is_some o → o ≡ None
      no_number None q = refl
      no_number (Some n) q = cc

      undeclared : is_listed x (declared_feature_names_at s k) ≡ false → own ≡ None
      undeclared q = sym (none_named s k x (number_among x (declared_feature_names_at s k)) refl (no_number (number_among x (declared_feature_names_at s k)) (sym q ∙ listed-number x (declared_feature_names_at s k))))

      by : (b c : Bool) → is_listed x (declared_feature_names_at s k) ≡ b → (b || c) ≡ false → joined (class_of_first x (declared_features s k)) here (cond c no_features above) ≡ above
      by true c q r = cc
      by false true q r = cc
      by false false q r = ap (λ (o : Option DeclaredFeature). joined (option_map (λ (f : DeclaredFeature). f.class) o) here above) (undeclared q)

  pub up_step : (n : ℕ) → named_up s (suc n) (Some k) x ≡ with_own s k x (named_up s n (parent_number s k) x)
  up_step n = along_step (ancestors_from n s (parent_number s k))

-- what is found of a name in a class is what it has
pub own_named : (s : System) (k : ℕ) (x : List ℕ) (above : NamedFeatures) (o : Option DeclaredFeature) → o ≡ named_among x (declared_features s k) → (p : Option Span) → p ≡ place_among x (declared_feature_names_at s k) → (kept : NamedFeatures) → kept ≡ kept_below s k x above →
    joined (option_map (λ (f : DeclaredFeature). f.class) o) p kept ≡ with_own s k x above
own_named s k x above o e p f kept g =
    ap (λ (o : Option DeclaredFeature). joined (option_map (λ (f : DeclaredFeature). f.class) o) p kept) e ∙ ap (λ (p : Option Span). joined (class_of_first x (declared_features s k)) p kept) f
    ∙ ap (λ (kept : NamedFeatures). joined (class_of_first x (declared_features s k)) (place_among x (declared_feature_names_at s k)) kept) g

-- what is known of a name in a class that is entered
pub entered : (s : System) (k : ℕ) (x : List ℕ) (before : List ℕ → NamedFeatures) (changes above : List Change) → changes_of changes ≡ map (said_below s k) (changes_of above) → changes_of above ≡ said_of before (listed_names s k) →
    put_in_turn x (changes_of changes) (before x) ≡ with_own s k x (before x)
entered s k x before changes above e f =
    ap (λ (cs : List Said). put_in_turn x cs (before x)) (e ∙ ap (map (said_below s k)) f ∙ said_twice s k before (listed_names s k))
    ∙ put_said x (λ y. with_own s k y (before y)) (listed_names s k) (before x) ∙ by (is_listed x (listed_names s k)) refl
  where
    by : (b : Bool) → is_listed x (listed_names s k) ≡ b → cond b (with_own s k x (before x)) (before x) ≡ with_own s k x (before x)
    by true q = refl
    by false q = sym (unlisted s k x q (before x))

-- where there is no class, there is nothing to enter
pub no_class : (s : System) (k : ℕ) (x : List ℕ) (above : NamedFeatures) → slice_get s.classes k ≡ None → above ≡ with_own s k x above
no_class s k x above e = sym (unlisted s k x (ap (λ (o : Option Class). is_listed x (option_map_or declared_feature_names o [] ++ option_map_or redefined_by o [])) e) above)

-- what is known along classes, of which the first is entered
pub along_more : (s : System) (ks : List ℕ) (k : ℕ) (above : List ℕ) (known known' : List ℕ → NamedFeatures) → ks ≡ k ∷ above → ((x : List ℕ) → known' x ≡ with_own s k x (known x)) → ((x : List ℕ) → known x ≡ named_along s above x) → (x : List ℕ) → known' x ≡ named_along s ks x
along_more s ks k above known known' e step is x = step x ∙ ap (with_own s k x) (is x) ∙ sym (along_step s k x above) ∙ sym (ap (λ (ls : List ℕ). named_along s ls x) e)

itself_first : (s : System) (n k : ℕ) → k < n → ancestors_within n s k ≡ k ∷ drop 1 (ancestors_within n s k)
itself_first s zero k l = absurd (omega (arith, l))
itself_first s (suc n) k l = refl

-- what is known in a class that is entered is what it has
pub all_known : (s : System) (k : ℕ) (c : Class) (known known' : List ℕ → NamedFeatures) → slice_get s.classes k ≡ Some c → ((x : List ℕ) → known' x ≡ with_own s k x (known x)) → ((x : List ℕ) → known x ≡ named_along s (drop 1 (ancestors s k)) x) →
    (x : List ℕ) → known' x ≡ named_along s (ancestors s k) x
all_known s k c known known' e step is = along_more s (ancestors s k) k (drop 1 (ancestors s k)) known known' (itself_first s (length s.classes) k (slice_get_within s.classes k c e)) step is

-- what is known of a name in the class above one that is left
pub left : (s : System) (k n : ℕ) (x : List ℕ) (before : NamedFeatures) (above : List Change) → changes_of above ≡ above_in s n k → before ≡ named_up s (suc n) (Some k) x → put_in_turn x (changes_of above) before ≡ named_up s n (parent_number s k) x
left s k n x before above e known =
    ap (λ (cs : List Said). put_in_turn x cs before) e ∙ put_said x (named_up s n (parent_number s k)) (listed_names s k) before ∙ by (is_listed x (listed_names s k)) refl
  where
    by : (b : Bool) → is_listed x (listed_names s k) ≡ b → cond b (named_up s n (parent_number s k) x) before ≡ named_up s n (parent_number s k) x
    by true q = refl
    by false q = known ∙ up_step s k x n ∙ unlisted s k x q (named_up s n (parent_number s k) x)

-- ---- lines

pub whole_top : (s : System) (n : ℕ) → IsWhole s n None
whole_top s n m l = refl

pub whole_more : (s : System) (n k : ℕ) → IsWhole s n (parent_number s k) → IsWhole s (suc n) (Some k)
whole_more s n k h zero l = absurd (omega (arith, l))
whole_more s n k h (suc m) l = ap (λ (ks : List ℕ). k ∷ ks) (h m (omega (arith, l)))

no_more : {A : Type 0} (ys : List A) (y : A) → [] ≡ ys ++ y ∷ [] → ⊥
no_more [] y e = cc
no_more (b ∷ ys) y e = cc

same_front : {A : Type 0} (xs ys : List A) (x y : A) → xs ++ x ∷ [] ≡ ys ++ y ∷ [] → (xs ≡ ys) × (x ≡ y)
same_front [] [] x y e = (refl, cc)
same_front [] (b ∷ ys) x y e = absurd (no_more ys y cc)
same_front (a ∷ xs) [] x y e = absurd (no_more xs x (sym (rest e)))
  where
    rest : a ∷ (xs ++ x ∷ []) ≡ y ∷ [] → xs ++ x ∷ [] ≡ []
    rest q = cc
same_front (a ∷ xs) (b ∷ ys) x y e = of (same_front xs ys x y (rest e)) (first e)
  where
    rest : a ∷ (xs ++ x ∷ []) ≡ b ∷ (ys ++ y ∷ []) → xs ++ x ∷ [] ≡ ys ++ y ∷ []
    rest q = cc

    first : a ∷ (xs ++ x ∷ []) ≡ b ∷ (ys ++ y ∷ []) → a ≡ b
    first q = cc

    of : (xs ≡ ys) × (x ≡ y) → a ≡ b → (a ∷ xs ≡ b ∷ ys) × (x ≡ y)
    of (p, q) r = (ap (λ (c : _). c ∷ xs) r ∙ ap (λ (zs : List _). b ∷ zs) p, q)

-- what a line is above its last level
pub record Above (s : System) (o : Option ℕ) (levels : List Level) (l : Level) : Type 0 where
  pub is_last : o ≡ Some l.class
  pub is_line : IsLine s (parent_number s l.class) levels
  pub is_whole : IsWhole s (length levels) (parent_number s l.class)
  pub is_above : changes_of l.above.items ≡ above_in s (length levels) l.class

pub above_last : {s : System} {o : Option ℕ} {all : List Level} → IsLine s o all → (levels : List Level) (l : Level) → all ≡ levels ++ l ∷ [] → Above s o levels l
above_last no_classes levels l e = absurd (no_more levels l e)
above_last {s} (one_more {o = o} {levels = before} m p line whole above) levels l e = of (same_front before levels m l e)
  where
    is : Above s (Some m.class) before m
    is = record { is_last = refl; is_line = subst (λ (o : Option ℕ). IsLine s o before) p line; is_whole = subst (IsWhole s (length before)) p whole; is_above = above }

    of : (before ≡ levels) × (m ≡ l) → Above s (Some m.class) levels l
    of (q, r) = subst (λ (levels : List Level). Above s (Some m.class) levels l) q (subst (Above s (Some m.class) before) r is)

said_same : (f g : List ℕ → NamedFeatures) → ((y : List ℕ) → f y ≡ g y) → (ns : List Name) → said_of f ns ≡ said_of g ns
said_same f g h [] = refl
said_same f g h (n ∷ ns) = ap (λ (w : NamedFeatures). record { text = n.text; features = w } ∷ said_of f ns) (h n.text) ∙ ap (λ (cs : List Said). record { text = n.text; features = g n.text } ∷ cs) (said_same f g h ns)

longer : (levels : List Level) (l : Level) → length (levels ++ l ∷ []) ≡ suc (length levels)
longer levels l = let many = length-append levels (l ∷ []) in omega (arith, many)

pub at_no_class : (s : System) (o : Option ℕ) (levels : List Level) (known : List ℕ → NamedFeatures) → o ≡ None → levels ≡ [] → ((x : List ℕ) → known x ≡ no_features) → StandsAt s o levels known
at_no_class s o levels known e f h =
    subst (λ (o : Option ℕ). StandsAt s o levels known) (sym e)
    (subst (λ (ls : List Level). StandsAt s None ls known) (sym f) (record { is_line = no_classes; is_whole = whole_top s 0; is_known = h }))

pub entering : (s : System) (o : Option ℕ) (levels levels' : List Level) (known known' : List ℕ → NamedFeatures) (l : Level) (here : List Change) → StandsAt s o levels known → o ≡ parent_number s l.class → changes_of l.above.items ≡ said_of known (listed_names s l.class) →
    changes_of here ≡ map (said_below s l.class) (changes_of l.above.items) → ((x : List ℕ) → known' x ≡ put_in_turn x (changes_of here) (known x)) → levels' ≡ levels ++ l ∷ [] → StandsAt s (Some l.class) levels' known'
entering s o levels levels' known known' l here stands p above below puts e = subst (λ (ls : List Level). StandsAt s (Some l.class) ls known') (sym e) is
  where
    whole : IsWhole s (length levels) (parent_number s l.class)
    whole = subst (IsWhole s (length levels)) p stands.is_whole

    knows : (y : List ℕ) → known y ≡ named_up s (length levels) (parent_number s l.class) y
    knows y = stands.is_known y ∙ ap (λ (o : Option ℕ). named_up s (length levels) o y) p

    is : StandsAt s (Some l.class) (levels ++ l ∷ []) known'
    is = record {
      is_line = one_more l p stands.is_line stands.is_whole (above ∙ said_same known (named_up s (length levels) (parent_number s l.class)) knows (listed_names s l.class));
      is_whole = subst (λ (n : ℕ). IsWhole s n (Some l.class)) (sym (longer levels l)) (whole_more s (length levels) l.class whole);
      is_known = λ x. puts x ∙ entered s l.class x known here l.above.items below above ∙ ap (with_own s l.class x) (knows x) ∙ sym (up_step s l.class x (length levels)) ∙ ap (λ (n : ℕ). named_up s n (Some l.class) x) (sym (longer levels l));
    }

pub leaving : (s : System) (o : Option ℕ) (levels all : List Level) (known known' : List ℕ → NamedFeatures) (l : Level) → StandsAt s o all known → all ≡ levels ++ l ∷ [] → ((x : List ℕ) → known' x ≡ put_in_turn x (changes_of l.above.items) (known x)) →
    (o' : Option ℕ) → o' ≡ parent_number s l.class → StandsAt s o' levels known'
leaving s o levels all known known' l stands e puts o' p = subst (λ (o : Option ℕ). StandsAt s o levels known') (sym p) is
  where
    above : Above s o levels l
    above = above_last stands.is_line levels l e

    knew : (x : List ℕ) → known x ≡ named_up s (suc (length levels)) (Some l.class) x
    knew x = stands.is_known x ∙ ap (λ (ls : List Level). named_up s (length ls) o x) e ∙ ap (λ (n : ℕ). named_up s n o x) (longer levels l) ∙ ap (λ (o : Option ℕ). named_up s (suc (length levels)) o x) above.is_last

    is : StandsAt s (parent_number s l.class) levels known'
    is = record {
      is_line = above.is_line;
      is_whole = above.is_whole;
      is_known = λ x. puts x ∙ left s l.class (length levels) x (known x) l.above.items above.is_above (knew x);
    }

-- what is known in a line down to the parent of a class
pub above_known : (s : System) (o : Option ℕ) (levels : List Level) (known : List ℕ → NamedFeatures) (k : ℕ) → StandsAt s o levels known → o ≡ parent_number s k → length levels < length s.classes → (x : List ℕ) → known x ≡ named_along s (drop 1 (ancestors s k)) x
above_known s o levels known k stands e l x =
    let above : ℕ = length s.classes - 1 in
    stands.is_known x ∙ ap (λ (ks : List ℕ). named_along s ks x) (sym (stands.is_whole above (omega (arith, l)))) ∙ ap (λ (o : Option ℕ). named_up s above o x) e
    ∙ ap (λ (ks : List ℕ). named_along s ks x) (sym (above-ancestors_from s (length s.classes) above k refl))

pub above_if : (s : System) (o p : Option ℕ) (levels : List Level) (known : List ℕ → NamedFeatures) (k n m : ℕ) → StandsAt s o levels known → o ≡ p → p ≡ parent_number s k → n ≡ length levels → m ≡ length s.classes →
    OnTrue (nat_lt n m) ((x : List ℕ) → known x ≡ named_along s (drop 1 (ancestors s k)) x)
above_if s o p levels known k n m stands e f g h = OnTrue_from (nat_lt n m) ((x : List ℕ) → known x ≡ named_along s (drop 1 (ancestors s k)) x) (λ t. above_known s o levels known k stands (e ∙ f) (fewer t))
  where
    fewer : nat_lt n m ≡ true → length levels < length s.classes
    fewer t = let l : n < m = grind arith in omega (arith, l, g, h)

-- the feature that is declared first along classes is that of the class which declares it
pub declared_up : (s : System) (ks x : List ℕ) (k : ℕ) → class_of_first x (features_along s ks) ≡ Some k → named_among x (declared_features s k) ≡ named_among x (features_along s ks)
declared_up s ks x k e = by (named_among x (features_along s ks)) refl e
  where
    by : (o : Option DeclaredFeature) → named_among x (features_along s ks) ≡ o → option_map (λ (f : DeclaredFeature). f.class) o ≡ Some k → named_among x (declared_features s k) ≡ o
    by None i q = cc
    by (Some f) i q = let same : f.class ≡ k = cc in ap (λ (c : ℕ). named_among x (declared_features s c)) (sym same) ∙ (declared_along s ks x f i).is_declared
