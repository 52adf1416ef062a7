-- Names of classes, one behind the other.
use Rattle.std.proofs.Common.{◌≡◌, ◌<◌, ◌≤◌, ◌+◌, ℕ, suc, Bool, true, false, cond, eqb, List, [], ◌∷◌, ◌++◌, ◌||◌, length, take, drop, get_or, map, Option, Some, None, refl, ap, sym, subst, ◌∙◌, ◌⊎◌, inl, inr, arith}
use Rattle.std.specs.Prelude.{not, bytes_eq, if◌then◌else◌}
use Rattle.std.specs.Option.{option_map, option_eq}
use Rattle.std.proofs.lemmas.List.{length-map, length-take, map-append, take-append-drop, append_assoc, append-nil}
use Rattle.std.proofs.lemmas.Slice.Eq.{bytes_eq-Decides}
use Rattle.sc_text.specs.declared.token.Span.{Span}
use Rattle.sc_tree.specs.declared.system.Class as tree
use Rattle.sc_tree.specs.Plain.{Class, Name}
use Rattle.sc_tree.specs.View.{class_of}
use Rattle.sc_class.specs.Names.{is_listed, number_among}
use Rattle.sc_class.specs.ClassNames.{is_built_in, class_names, RepeatedAt, built_in, repeated, further}
use Rattle.sc_class.specs.Internal.Found.{FindsOnly}
use Rattle.sc_class.specs.Internal.Places.{Gains, if_any, union}
use Rattle.sc_class.proofs.Anys.{at, seen, take_end}
use Rattle.sc_class.proofs.PlaceLists.{gains_none, gains_both, gains_union, only}

-- whether a name is one of those before it decides at which number it is found
found_before : (x : List ℕ) (ns ms : List Name) (n : Name) → n.text ≡ x → (b : Bool) → is_listed x ns ≡ b → option_eq eqb (number_among x (ns ++ n ∷ ms)) (Some (length ns)) ≡ not b
found_before x [] ms n e b i =
    let same : bytes_eq n.text x ≡ true = (bytes_eq-Decides n.text x).1 e in
    ap (λ b. option_eq eqb (cond b (Some 0) (option_map (λ k. k + 1) (number_among x ms))) (Some 0)) same ∙ ap not i
found_before x (m ∷ ns) ms n e b i = by (bytes_eq m.text x) (is_listed x ns) (number_among x (ns ++ n ∷ ms)) (length ns) b (found_before x ns ms n e (is_listed x ns) refl) i
  where
    further_on : (o : Option ℕ) (l : ℕ) → option_eq eqb (option_map (λ k. k + 1) o) (Some (suc l)) ≡ option_eq eqb o (Some l)
    further_on None l = refl
    further_on (Some k) l = same k l
      where
        same : (k l : ℕ) → eqb (k + 1) (suc l) ≡ eqb k l
        same k l = grind arith

    zero_first : (l : ℕ) → eqb 0 (suc l) ≡ false
    zero_first l = grind arith

    by : (a c : Bool) (o : Option ℕ) (l : ℕ) (b : Bool) → option_eq eqb o (Some l) ≡ not c → (a || c) ≡ b → option_eq eqb (cond a (Some 0) (option_map (λ k. k + 1) o)) (Some (suc l)) ≡ not b
    by true c o l b f i = zero_first l ∙ ap not i
    by false c o l b f i = further_on o l ∙ f ∙ ap not i

-- ---- classes behind others

pub repeated_left : {ns : List Name} {xs : List Class} {p : Span} (ys : List Class) → RepeatedAt ns xs p → RepeatedAt ns (xs ++ ys) p
repeated_left ys (built_in f) = built_in f
repeated_left ys (repeated f) = repeated f
repeated_left ys (further r) = further (repeated_left ys r)

pub repeated_right : {p : Span} (ns : List Name) (xs ys : List Class) → RepeatedAt (ns ++ class_names xs) ys p → RepeatedAt ns (xs ++ ys) p
repeated_right {p} ns [] ys r = subst (λ ns. RepeatedAt ns ys p) (append-nil ns) r
repeated_right {p} ns (x ∷ xs) ys r = further (repeated_right (ns ++ x.name ∷ []) xs ys (subst (λ ns. RepeatedAt ns ys p) (sym (append_assoc ns (x.name ∷ []) (class_names xs))) r))

pub repeated_parts : {p : Span} (ns : List Name) (xs ys : List Class) → RepeatedAt ns (xs ++ ys) p → RepeatedAt ns xs p ⊎ RepeatedAt (ns ++ class_names xs) ys p
repeated_parts {p} ns [] ys r = inr (subst (λ ns. RepeatedAt ns ys p) (sym (append-nil ns)) r)
repeated_parts ns (x ∷ xs) ys (built_in f) = inl (built_in f)
repeated_parts ns (x ∷ xs) ys (repeated f) = inl (repeated f)
repeated_parts {p} ns (x ∷ xs) ys (further r) = by (repeated_parts (ns ++ x.name ∷ []) xs ys r)
  where
    by : RepeatedAt (ns ++ x.name ∷ []) xs p ⊎ RepeatedAt ((ns ++ x.name ∷ []) ++ class_names xs) ys p → RepeatedAt ns (x ∷ xs) p ⊎ RepeatedAt (ns ++ class_names (x ∷ xs)) ys p
    by (inl a) = inl (further a)
    by (inr b) = inr (subst (λ ns. RepeatedAt ns ys p) (append_assoc ns (x.name ∷ []) (class_names xs)) b)

-- a class behind others has one name, which is taken or isn't
one_repeated : (ns : List Name) (x : Class) (b : Bool) → (is_built_in x.name.text || is_listed x.name.text ns) ≡ b → FindsOnly (RepeatedAt ns (x ∷ [])) (if b then Some x.name.span else None)
one_repeated ns x b e = by (is_built_in x.name.text) refl (is_listed x.name.text ns) refl b e
  where
    there : (p : Span) → RepeatedAt ns (x ∷ []) p → p ≡ x.name.span
    there _ (built_in f) = refl
    there _ (repeated f) = refl
    there _ (further r) = elim r [ ]

    free : is_built_in x.name.text ≡ false → is_listed x.name.text ns ≡ false → (p : Span) → RepeatedAt ns (x ∷ []) p → ⊥
    free f g _ (built_in h) = cc
    free f g _ (repeated h) = cc
    free f g _ (further r) = elim r [ ]

    by : (a : Bool) → is_built_in x.name.text ≡ a → (c : Bool) → is_listed x.name.text ns ≡ c → (b : Bool) → (a || c) ≡ b → FindsOnly (RepeatedAt ns (x ∷ [])) (if b then Some x.name.span else None)
    by true f c g true e = (built_in f, there)
    by true f c g false e = cc
    by false f true g true e = (repeated g, there)
    by false f true g false e = cc
    by false f false g true e = cc
    by false f false g false e = free f g

-- ---- the classes up to one at an index

module _ (cs : List tree.Class) where
  parts : (k : ℕ) (x : tree.Class) → k < length cs → x ≡ get_or cs k x → cs ≡ take k cs ++ x ∷ drop (k + 1) cs
  parts k x l g = sym (take-append-drop k cs) ∙ ap (λ ys. take k cs ++ ys) (at cs k x l g)

  names_parts : (k : ℕ) (x : tree.Class) → k < length cs → x ≡ get_or cs k x → class_names (map class_of cs) ≡ class_names (map class_of (take k cs)) ++ (class_of x).name ∷ class_names (map class_of (drop (k + 1) cs))
  names_parts k x l g =
      ap (λ xs. class_names (map class_of xs)) (parts k x l g) ∙ ap class_names (map-append class_of (take k cs) (x ∷ drop (k + 1) cs)) ∙ map-append (λ (c : Class). c.name) (map class_of (take k cs)) (class_of x ∷ map class_of (drop (k + 1) cs))

  listed_from : (k : ℕ) (x : tree.Class) → k < length cs → x ≡ get_or cs k x → option_eq eqb (number_among (class_of x).name.text (class_names (map class_of cs))) (Some k) ≡ not (is_listed (class_of x).name.text (class_names (map class_of (take k cs))))
  listed_from k x l g =
      let many : length (class_names (map class_of (take k cs))) ≡ k =
      length-map (map class_of (take k cs)) (λ (c : Class). c.name) ∙ length-map (take k cs) class_of ∙ length_taken in
      ap (λ ns. option_eq eqb (number_among (class_of x).name.text ns) (Some k)) (names_parts k x l g)
      ∙ ap (λ m. option_eq eqb (number_among (class_of x).name.text (class_names (map class_of (take k cs)) ++ (class_of x).name ∷ class_names (map class_of (drop (k + 1) cs)))) (Some m)) (sym many)
      ∙ found_before (class_of x).name.text (class_names (map class_of (take k cs))) (class_names (map class_of (drop (k + 1) cs))) (class_of x).name refl (is_listed (class_of x).name.text (class_names (map class_of (take k cs)))) refl
    where
      length_taken : length (take k cs) ≡ k
      length_taken = omega (arith, length-take {A = tree.Class})

  -- whether the class at the index can't have its name
  abbrev pub taken : ℕ → Name → Bool
  taken k n = is_built_in n.text || not (option_eq eqb (number_among n.text (class_names (map class_of cs))) (Some k))

  taken_is : (k : ℕ) (x : tree.Class) → k < length cs → x ≡ get_or cs k x → (is_built_in (class_of x).name.text || is_listed (class_of x).name.text (class_names (map class_of (take k cs)))) ≡ taken k (class_of x).name
  taken_is k x l g =
      ap (λ b. is_built_in (class_of x).name.text || b) (twice (is_listed (class_of x).name.text (class_names (map class_of (take k cs)))) ∙ sym (ap not (listed_from k x l g)))
    where
      twice : (b : Bool) → b ≡ not (not b)
      twice true = refl
      twice false = refl

  pub repeated_begin : (old : List Span) → Gains (RepeatedAt [] (map class_of (take 0 cs))) old old
  repeated_begin old = gains_none old (λ p r. elim r [ ])

  pub repeated_more : (k : ℕ) (x : tree.Class) (o : Option Span) (old found next : List Span) → k < length cs → x ≡ get_or cs k x → o ≡ (if taken k (class_of x).name then Some (class_of x).name.span else None) → next ≡ union found (if_any o) →
      Gains (RepeatedAt [] (map class_of (take k cs))) old found → Gains (RepeatedAt [] (map class_of (take (k + 1) cs))) old next
  repeated_more k x o old found next l g e n h =
      subst (λ ys. Gains (RepeatedAt [] ys) old next) (sym (ap (map class_of) (seen cs k x l g) ∙ map-append class_of (take k cs) (x ∷ [])))
      (gains_both {P = RepeatedAt [] before} {Q = RepeatedAt (class_names before) (class_of x ∷ [])} {R = RepeatedAt [] (before ++ class_of x ∷ [])}
      (λ p r. repeated_left (class_of x ∷ []) r) (λ p r. repeated_right [] before (class_of x ∷ []) r) (λ p r. repeated_parts [] before (class_of x ∷ []) r) h
      (gains_union found (if_any o) next (only (RepeatedAt (class_names before) (class_of x ∷ [])) o
      (subst (FindsOnly (RepeatedAt (class_names before) (class_of x ∷ []))) (sym e) (one_repeated (class_names before) (class_of x) (taken k (class_of x).name) (taken_is k x l g)))) n))
    where
      before : List Class
      before = map class_of (take k cs)

  pub repeated_of_all : (k : ℕ) (old found : List Span) (all : List Class) → map class_of cs ≡ all → length cs ≤ k → Gains (RepeatedAt [] (map class_of (take k cs))) old found → Gains (RepeatedAt [] all) old found
  repeated_of_all k old found all e l h = subst (λ ys. Gains (RepeatedAt [] ys) old found) (ap (map class_of) (take_end cs k l) ∙ e) h
