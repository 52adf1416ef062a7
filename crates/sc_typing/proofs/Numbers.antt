-- The features of a system by number, as the code holds them.
use Rattle.std.proofs.Common.{◌≡◌, ◌+◌, ◌<◌, ◌≤◌, ℕ, zero, suc, List, [], ◌∷◌, ◌++◌, length, get_or, map, drop, Option, Some, None, inl, inr, refl, ap, sym, ◌∙◌, subst, arith, length-append, append_assoc, append-nil, add-one}
use Rattle.std.proofs.lemmas.List.{drop_all, length-map}
use Rattle.std.specs.Prelude.{◌⊎◌, slice_get}
use Rattle.std.specs.Option.{option_map, option_map_or}
use Rattle.sc_tree.specs.declared.system.Class as tree_class
use Rattle.sc_tree.specs.declared.system.Feature as tree_feature
use Rattle.sc_tree.specs.Plain.{System, Class, Feature}
use Rattle.sc_tree.specs.View.{class_of, feature_of}
use Rattle.sc_class.specs.Names.{number_among}
use Rattle.sc_class.specs.Tables.Declared.{declared_feature_names, declared_feature_names_at}
use Rattle.sc_class.specs.Tables.Features.{DeclaredFeature, declared_in}
use Rattle.sc_class.specs.declared.class_tables.feature_entry.FeatureEntry.{FeatureEntry}
use Rattle.sc_class.specs.View.{entry_of}
use Rattle.sc_class.proofs.Anys.{at}
use Rattle.sc_class.proofs.Items.{some_is, item_in}
use Rattle.sc_class.proofs.NameLemmas.{number_below}
use Rattle.sc_rules.specs.Names.{routine_of}
use Rattle.sc_typing.specs.FeatureNumbers.{features_from, all_features, start, feature_number}

-- ---- the number of a name

pub some_numbered : (s : System) (x : List ℕ) (k : ℕ) (p : Option ℕ) (i n : ℕ) → p ≡ number_among x (declared_feature_names_at s k) → p ≡ Some i → n ≡ start s.classes k →
    Some (n + i) ≡ feature_number s (record { class = k; name = x })
some_numbered s x k p i n e f g = ap (λ (n : ℕ). Some (n + i)) g ∙ ap (option_map (λ (i : ℕ). start s.classes k + i)) (sym f ∙ e)

read : (xs : List ℕ) (k n m : ℕ) → slice_get xs k ≡ Some m → n ≡ get_or xs k n → n ≡ m
read [] k n m e f = cc
read (x ∷ xs) zero n m e f = f ∙ some_is x m e
read (x ∷ xs) (suc k) n m e f = read xs k n m e f

-- where the features of a class begin, as the code reads it
pub start_read : (s : System) (starts ds : List ℕ) (k n : ℕ) → ((k : ℕ) → k < length starts → slice_get starts k ≡ Some (start s.classes k)) → ds ≡ starts → k < length ds →
    n ≡ get_or ds k n → n ≡ start s.classes k
start_read s starts ds k n f e l g =
    read starts k n (start s.classes k) (f k (subst (λ (xs : List ℕ). k < length xs) e l)) (g ∙ ap (λ (xs : List ℕ). get_or xs k n) e)

start_within : (j : ℕ) (cs : List Class) (k : ℕ) (c : Class) → slice_get cs k ≡ Some c → start cs k + length c.features ≤ length (features_from j cs)
start_within j [] k c e = cc
start_within j (d ∷ cs) zero c e =
    first_within (length c.features) (length d.features) (length (features_from (suc j) cs)) (length (map (declared_in j) d.features ++ features_from (suc j) cs))
    (ap (λ (c : Class). length c.features) (some_is d c e)) (length-append (map (declared_in j) d.features) (features_from (suc j) cs) ∙ ap (λ (n : ℕ). n + length (features_from (suc j) cs)) (length-map d.features (declared_in j)))
  where
    first_within : (a b r n : ℕ) → b ≡ a → n ≡ b + r → 0 + a ≤ n
    first_within a b r n e f = omega (arith, e, f)
start_within j (d ∷ cs) (suc k) c e =
    later_within (length d.features) (start cs k) (length c.features) (length (features_from (suc j) cs)) (length (map (declared_in j) d.features ++ features_from (suc j) cs)) (start_within (suc j) cs k c e)
    (length-append (map (declared_in j) d.features) (features_from (suc j) cs) ∙ ap (λ (n : ℕ). n + length (features_from (suc j) cs)) (length-map d.features (declared_in j)))
  where
    later_within : (b t a r n : ℕ) → t + a ≤ r → n ≡ b + r → (b + t) + a ≤ n
    later_within b t a r n l f = omega (arith, l, f)

-- the sum is the number of a feature
pub sum_within : (s : System) (x : List ℕ) (k : ℕ) (p : Option ℕ) (i n m : ℕ) → p ≡ number_among x (declared_feature_names_at s k) → p ≡ Some i → n ≡ start s.classes k → m ≡ length (all_features s) → n + i < m
sum_within s x k p i n m f g h t = by (slice_get s.classes k) refl
  where
    less : (a b c d : ℕ) → a + b ≤ c → i < d → d ≡ b → n ≡ a → m ≡ c → n + i < m
    less a b c d l o e q r = omega (arith, l, o, e, q, r)

    there : Some i ≡ number_among x (declared_feature_names_at s k)
    there = sym g ∙ f

    by : (o : Option Class) → slice_get s.classes k ≡ o → n + i < m
    by None e = let none : Some i ≡ None = there ∙ ap (λ (o : Option Class). number_among x (option_map_or declared_feature_names o [])) e in cc
    by (Some c) e =
        less (start s.classes k) (length c.features) (length (all_features s)) (length (declared_feature_names_at s k)) (start_within 0 s.classes k c e)
        (number_below x (declared_feature_names_at s k) i (sym there)) (ap (λ (o : Option Class). length (option_map_or declared_feature_names o [])) e ∙ length-map c.features (λ (f : Feature). f.name)) h t

-- ---- numbering

start_first : (cs : List Class) → start cs 0 ≡ 0
start_first [] = refl
start_first (c ∷ cs) = refl

start_more : (cs : List Class) (k : ℕ) (c : Class) → slice_get cs k ≡ Some c → start cs (suc k) ≡ start cs k + length c.features
start_more [] k c e = cc
start_more (d ∷ cs) zero c e = first_more (length d.features) (start cs 0) (length c.features) (start_first cs) (ap (λ (c : Class). length c.features) (some_is d c e))
  where
    first_more : (a z b : ℕ) → z ≡ 0 → a ≡ b → a + z ≡ 0 + b
    first_more a z b e f = omega (arith, e, f)
start_more (d ∷ cs) (suc k) c e = later_more (length d.features) (start cs (suc k)) (start cs k) (length c.features) (start_more cs k c e)
  where
    later_more : (a n m b : ℕ) → n ≡ m + b → a + n ≡ (a + m) + b
    later_more a n m b e = omega (arith, e)

read_last : (xs : List ℕ) (x k : ℕ) → length xs ≡ k → slice_get (xs ++ x ∷ []) k ≡ Some x
read_last [] x k e = ap (slice_get (x ∷ [])) (sym e)
read_last (y ∷ xs) x zero e = absurd (never (length xs) e)
  where
    never : (n : ℕ) → suc n ≡ 0 → ⊥
    never n e = omega (arith, e)
read_last (y ∷ xs) x (suc k) e = read_last xs x k (less e)
  where
    less : suc (length xs) ≡ suc k → length xs ≡ k
    less e = omega (arith, e)

read_before : (xs ys : List ℕ) (i x : ℕ) → slice_get xs i ≡ Some x → slice_get (xs ++ ys) i ≡ Some x
read_before [] ys i x e = cc
read_before (y ∷ xs) ys zero x e = e
read_before (y ∷ xs) ys (suc i) x e = read_before xs ys i x e

last_or_below : (k n : ℕ) → k < suc n → (k < n) ⊎ (k ≡ n)
last_or_below zero zero l = inr refl
last_or_below zero (suc n) l = inl (omega arith)
last_or_below (suc k) zero l = absurd (omega (arith, l))
last_or_below (suc k) (suc n) l = raised (last_or_below k n (lowered l))
  where
    lowered : suc k < suc (suc n) → k < suc n
    lowered l = omega (arith, l)

    more : k < n → suc k < suc n
    more l = omega (arith, l)

    raised : (k < n) ⊎ (k ≡ n) → (suc k < suc n) ⊎ (suc k ≡ suc n)
    raised (inl l) = inl (more l)
    raised (inr e) = inr (ap suc e)

mapped_twice : {A B D : Type 0} (f : B → D) (g : A → B) (xs : List A) → map (λ (x : A). f (g x)) xs ≡ map f (map g xs)
mapped_twice f g [] = refl
mapped_twice f g (x ∷ xs) = ap (λ (ys : List _). f (g x) ∷ ys) (mapped_twice f g xs)

-- what is numbered of these classes, before the one at the number, with what is to come
pub record AreNumbered (cs : List tree_class.Class) (all : List DeclaredFeature) (fs : List FeatureEntry) (starts : List ℕ) (k : ℕ) : Type 0 where
  pub are_all : map entry_of fs ++ features_from k (map class_of (drop k cs)) ≡ all
  pub as_many : length fs ≡ start (map class_of cs) k
  pub starts_many : length starts ≡ k
  pub are_starts : (i : ℕ) → i < k → slice_get starts i ≡ Some (start (map class_of cs) i)

pub numbered_none : (s : System) (cs : List tree_class.Class) (fs : List FeatureEntry) (starts : List ℕ) → map class_of cs ≡ s.classes → fs ≡ [] → starts ≡ [] → AreNumbered cs (all_features s) fs starts 0
numbered_none s cs fs starts e f g = record {
  are_all = ap (λ (fs : List FeatureEntry). map entry_of fs ++ features_from 0 (map class_of cs)) f ∙ ap (features_from 0) e;
  as_many = ap length f ∙ sym (start_first (map class_of cs));
  starts_many = ap length g;
  are_starts = λ i l. absurd (omega (arith, l));
}

module _ (cs : List tree_class.Class) (all : List DeclaredFeature) (fs fs' : List FeatureEntry) (starts starts' : List ℕ) (k n : ℕ) (x : tree_class.Class) (ds : List tree_feature.Feature)
    (l : k < length cs) (g : x ≡ get_or cs k x) (d : ds ≡ (get_or cs k x).features.items) (m : map entry_of fs' ≡ map entry_of fs ++ map (declared_in k) (map feature_of ds)) (t : starts' ≡ starts ++ n ∷ [])
    (h : n ≡ length fs) (inv : AreNumbered cs all fs starts k) where
  are_its : ds ≡ x.features.items
  are_its = d ∙ ap (λ (c : tree_class.Class). c.features.items) (sym g)

  from_here : features_from k (map class_of (drop k cs)) ≡ map (declared_in k) (map feature_of ds) ++ features_from (k + 1) (map class_of (drop (k + 1) cs))
  unfolding class_of
  from_here =
      ap (λ (cs : List tree_class.Class). features_from k (map class_of cs)) (at cs k x l g)
      ∙ ap (λ (gs : List tree_feature.Feature). map (declared_in k) (map feature_of gs) ++ features_from (suc k) (map class_of (drop (k + 1) cs))) (sym are_its)
      ∙ ap (λ (j : ℕ). map (declared_in k) (map feature_of ds) ++ features_from j (map class_of (drop (k + 1) cs))) (sym (add-one k))

  its_length : length (class_of x).features ≡ length ds
  unfolding class_of
  its_length = length-map x.features.items feature_of ∙ ap length (sym are_its)

  more : length fs' ≡ start (map class_of cs) (k + 1)
  more =
      sym (length-map fs' entry_of) ∙ ap length m ∙ length-append (map entry_of fs) (map (declared_in k) (map feature_of ds))
      ∙ sum_of (length (map entry_of fs)) (length (map (declared_in k) (map feature_of ds))) (start (map class_of cs) k) (length (class_of x).features) (start (map class_of cs) (suc k))
      (length-map fs entry_of ∙ inv.as_many) (length-map (map feature_of ds) (declared_in k) ∙ length-map ds feature_of ∙ sym its_length) (start_more (map class_of cs) k (class_of x) (item_in class_of cs k x l g))
      ∙ ap (start (map class_of cs)) (sym (add-one k))
    where
      sum_of : (a b c d n : ℕ) → a ≡ c → b ≡ d → n ≡ c + d → a + b ≡ n
      sum_of a b c d n e f g = omega (arith, e, f, g)

  started : (i : ℕ) → (i < k) ⊎ (i ≡ k) → slice_get starts' i ≡ Some (start (map class_of cs) i)
  started i (inl b) = ap (λ (ss : List ℕ). slice_get ss i) t ∙ read_before starts (n ∷ []) i (start (map class_of cs) i) (inv.are_starts i b)
  started i (inr e) =
      ap (λ (ss : List ℕ). slice_get ss i) t ∙ read_last starts n i (inv.starts_many ∙ sym e) ∙ ap (λ (n : ℕ). Some n) (h ∙ inv.as_many ∙ ap (start (map class_of cs)) (sym e))

  pub numbered_more : AreNumbered cs all fs' starts' (k + 1)
  numbered_more = record {
    are_all =
        ap (λ (gs : List DeclaredFeature). gs ++ features_from (k + 1) (map class_of (drop (k + 1) cs))) m
        ∙ append_assoc (map entry_of fs) (map (declared_in k) (map feature_of ds)) (features_from (k + 1) (map class_of (drop (k + 1) cs)))
        ∙ ap (λ (gs : List DeclaredFeature). map entry_of fs ++ gs) (sym from_here) ∙ inv.are_all;
    as_many = more;
    starts_many = ap length t ∙ length-append starts (n ∷ []) ∙ ap (λ (m : ℕ). m + 1) inv.starts_many;
    are_starts = λ i b. started i (last_or_below i k (less i b));
  }
    where
      less : (i : ℕ) → i < k + 1 → i < suc k
      less i b = omega (arith, b)

module _ (s : System) (cs : List tree_class.Class) (fs : List FeatureEntry) (starts : List ℕ) (k : ℕ) (e : map class_of cs ≡ s.classes) (low : length cs ≤ k) (high : k ≤ length cs)
    (inv : AreNumbered cs (all_features s) fs starts k) where
  pub all_numbered : map (λ (f : FeatureEntry). routine_of (entry_of f)) fs ≡ map routine_of (all_features s)
  all_numbered =
      mapped_twice routine_of entry_of fs
      ∙ ap (map routine_of) (sym (append-nil (map entry_of fs)) ∙ ap (λ (cs : List tree_class.Class). map entry_of fs ++ features_from k (map class_of cs)) (sym (drop_all k cs low)) ∙ inv.are_all)

  same_count : length starts ≡ length cs
  same_count = let m = inv.starts_many in omega (arith, m, low, high)

  pub all_started : length starts ≡ length s.classes
  all_started = same_count ∙ sym (length-map cs class_of) ∙ ap length e

  pub starts_known : (i : ℕ) → i < length starts → slice_get starts i ≡ Some (start s.classes i)
  starts_known i l = inv.are_starts i (subst (λ (n : ℕ). i < n) inv.starts_many l) ∙ ap (λ (cs : List Class). Some (start cs i)) e
