-- Names that are found by number, and indexes of them.
use Rattle.std.proofs.Common.{◌≡◌, ◌+◌, ◌<◌, ◌≤◌, ℕ, suc, Bool, true, false, cond, List, [], ◌∷◌, ◌++◌, length, take, Option, Some, None, refl, ap, sym, subst, ◌∙◌, arith}
use Rattle.std.specs.Prelude.{Result, Ok, Err, OnOk, OnErr, bytes_eq, nat_lt, slice_get, if◌then◌else◌}
use Rattle.std.specs.Option.{option_map}
use Rattle.std.proofs.lemmas.Bool.Decides.{nat_tests}
use Rattle.std.proofs.lemmas.Option.{slice_get_within}
use Rattle.std.specs.Borrow.{Bor}
use Rattle.std.specs.HashMap.{HashMap, get_by, UpdatesBy}
use Rattle.std.specs.Map.{update}
use Rattle.std.proofs.lemmas.Map.Text.{hash_map_updates_str}
use Rattle.std.proofs.lemmas.List.{length-map, length-append, map-append, take-append-le}
use Rattle.std.proofs.lemmas.Slice.Eq.{bytes_eq-Decides}
use Rattle.sc_text.specs.declared.token.Span.{Span}
use Rattle.sc_tree.specs.Plain as plain
use Rattle.sc_tree.specs.View.{name_of}
use Rattle.sc_class.specs.declared.names.Added.{Added}
use Rattle.sc_class.specs.declared.names.Known.{Known}
use Rattle.sc_class.specs.Names.{number_among}
use Rattle.sc_class.specs.Internal.Found.{first_place}
use Rattle.sc_class.specs.Internal.NameIndex.{names_in, place_among, known_then, IsKnown, IsIndex}
use Rattle.sc_class.proofs.Items.{some_is, read_append, read_last}
use Rattle.sc_class.proofs.Places.{first_place-none, place-one}

-- the number of a name behind the others: as before, or the last
abbrev pub number_then : Option ℕ → Bool → ℕ → Option ℕ
number_then (Some k) b n = Some k
number_then None true n = Some n
number_then None false n = None

pub number-append : (x : List ℕ) (ns : List plain.Name) (n : plain.Name) → number_among x (ns ++ n ∷ []) ≡ number_then (number_among x ns) (bytes_eq n.text x) (length ns)
number-append x [] n = by (bytes_eq n.text x)
  where
    by : (b : Bool) → cond b (Some 0) None ≡ number_then None b 0
    by true = refl
    by false = refl
number-append x (m ∷ ns) n = by (bytes_eq m.text x) (number_among x ns) (number_among x (ns ++ n ∷ [])) (bytes_eq n.text x) (length ns) (number-append x ns n)
  where
    by : (a : Bool) (o p : Option ℕ) (b : Bool) (l : ℕ) → p ≡ number_then o b l → cond a (Some 0) (option_map (λ k. k + 1) p) ≡ number_then (cond a (Some 0) (option_map (λ k. k + 1) o)) b (suc l)
    by true o p b l e = refl
    by false (Some k) p b l e = ap (option_map (λ k. k + 1)) e
    by false None p true l e = ap (option_map (λ k. k + 1)) e ∙ ap (λ (k : ℕ). Some k) (omega arith)
    by false None p false l e = ap (option_map (λ k. k + 1)) e

pub number_below : (x : List ℕ) (ns : List plain.Name) (k : ℕ) → number_among x ns ≡ Some k → k < length ns
number_below x [] k e = cc
number_below x (n ∷ ns) k e = by (bytes_eq n.text x) (number_among x ns) (number_below x ns) e
  where
    by : (a : Bool) (o : Option ℕ) → ((k : ℕ) → o ≡ Some k → k < length ns) → cond a (Some 0) (option_map (λ k. k + 1) o) ≡ Some k → k < suc (length ns)
    by true o f e = let z : 0 ≡ k = cc in omega arith
    by false None f e = cc
    by false (Some j) f e = let z : j + 1 ≡ k = cc in let l = f j refl in omega arith

pub same_text : (x y : List ℕ) → bytes_eq x y ≡ true → x ≡ y
same_text x y e = (bytes_eq-Decides x y).0 e

number_kept : (o : Option ℕ) (l : ℕ) → number_then o false l ≡ o
number_kept None l = refl
number_kept (Some k) l = refl

-- ---- what is known of a text, as a name is added

number_of_known : (o : Option Known) (l : ℕ) (p : Span) → Some (known_then o l p).number ≡ number_then (option_map (λ k. k.number) o) true l
number_of_known None l p = refl
number_of_known (Some k) l p = by (nat_lt p.start k.place.start)
  where
    by : (b : Bool) → Some (if b then record { number = k.number; place = p } else k).number ≡ Some k.number
    by true = refl
    by false = refl

place_of_known : (o : Option Known) (l : ℕ) (p : Span) → Some (known_then o l p).place ≡ first_place (option_map (λ k. k.place) o) (Some p)
place_of_known None l p = refl
place_of_known (Some k) l p = by (nat_lt p.start k.place.start)
  where
    by : (b : Bool) → Some (if b then record { number = k.number; place = p } else k).place ≡ (if b then Some p else Some k.place)
    by true = refl
    by false = refl

module _ (x : List ℕ) (ns : List plain.Name) (n : plain.Name) (o : Option Known) where
  pub known_here : bytes_eq n.text x ≡ true → IsKnown x ns o → IsKnown x (ns ++ n ∷ []) (Some (known_then o (length ns) n.span))
  known_here e (i, j) = (
    number_of_known o (length ns) n.span ∙ ap (λ m. number_then m true (length ns)) i ∙ ap (λ b. number_then (number_among x ns) b (length ns)) (sym e) ∙ sym (number-append x ns n),
    place_of_known o (length ns) n.span ∙ ap (λ m. first_place m (Some n.span)) j ∙ ap (λ (b : Bool). first_place (place_among x ns) (if b then Some n.span else None)) (sym e) ∙ sym (place-one x ns n),
  )

  same_number : bytes_eq n.text x ≡ false → number_among x (ns ++ n ∷ []) ≡ number_among x ns
  same_number e = number-append x ns n ∙ ap (λ b. number_then (number_among x ns) b (length ns)) e ∙ number_kept (number_among x ns) (length ns)

  same_place : bytes_eq n.text x ≡ false → place_among x (ns ++ n ∷ []) ≡ place_among x ns
  same_place e = place-one x ns n ∙ ap (λ (b : Bool). first_place (place_among x ns) (if b then Some n.span else None)) e ∙ first_place-none (place_among x ns)

  pub known_still : bytes_eq n.text x ≡ false → IsKnown x ns o → IsKnown x (ns ++ n ∷ []) o
  known_still e (i, j) = (i ∙ sym (same_number e), j ∙ sym (same_place e))

  pub known_before : bytes_eq n.text x ≡ false → IsKnown x (ns ++ n ∷ []) o → IsKnown x ns o
  known_before e (i, j) = (i ∙ same_number e, j ∙ same_place e)

-- ---- indexes of names in memory

abbrev pub finder : {S : Type 0} → HashMap (Bor (List ℕ)) Known S → List ℕ → Option Known
finder m x = get_by (λ k. bytes_eq x k.now) m

abbrev text_of : Added → List ℕ
text_of a = (name_of a.name.now).text

names-append : (added : List Added) (a : Added) → names_in (added ++ a ∷ []) ≡ names_in added ++ name_of a.name.now ∷ []
names-append added a = map-append (λ (a : Added). name_of a.name.now) added (a ∷ [])

names_many : (added : List Added) → length (names_in added) ≡ length added
names_many added = length-map added (λ (a : Added). name_of a.name.now)

-- the names before one that stands among the first
before_same : (added : List Added) (a : Added) (i : ℕ) → i ≤ length added → take i (names_in (added ++ a ∷ [])) ≡ take i (names_in added)
before_same added a i l =
    let many = names_many added in
    ap (take i) (names-append added a) ∙ take-append-le i (names_in added) (name_of a.name.now ∷ []) (omega (arith, l, many))

before_last : (added : List Added) (a : Added) → take (length added) (names_in (added ++ a ∷ [])) ≡ names_in added
before_last added a =
    let many = names_many added in
    before_same added a (length added) (omega arith) ∙ ap (λ (i : ℕ). take i (names_in added)) (sym many) ∙ take_all (names_in added)
  where
    take_all : (ns : List plain.Name) → take (length ns) ns ≡ ns
    take_all [] = refl
    take_all (n ∷ ns) = ap (λ (ms : List plain.Name). n ∷ ms) (take_all ns)

-- of each name what was known of its text before it
abbrev KnewBefore : List Added → Type 0
KnewBefore added = (i : ℕ) (a : Added) → slice_get added i ≡ Some a → IsKnown (text_of a) (take i (names_in added)) a.before

module _ {S : Type 0} (m n : HashMap (Bor (List ℕ)) Known S) (old : List Added) (a : Added) (t : List ℕ) (text : t ≡ text_of a) where
  pub index_grown : IsIndex m old → a.before ≡ get_by (λ k. bytes_eq t k.now) m → (w : Known) → w ≡ known_then a.before (length old) a.name.now.span →
      UpdatesBy (λ a b. bytes_eq a.now b.now) (λ k. bytes_eq t k.now) m n (Some w) → IsIndex n (old ++ a ∷ [])
  index_grown (all, knew) before w is new = (there, knows)
    where
      -- what the map said of its text
      said : IsKnown (text_of a) (names_in old) a.before
      said = subst (IsKnown (text_of a) (names_in old)) (ap (finder m) (sym text) ∙ sym before) (all (text_of a))

      at : (x : List ℕ) (b : Bool) → bytes_eq (text_of a) x ≡ b → IsKnown x (names_in old ++ name_of a.name.now ∷ []) (cond b (Some w) (finder m x))
      at x true e =
          subst (λ (k : Known). IsKnown x (names_in old ++ name_of a.name.now ∷ []) (Some k)) (sym (is ∙ ap (λ (l : ℕ). known_then a.before l a.name.now.span) (sym (names_many old))))
          (known_here x (names_in old) (name_of a.name.now) a.before e (subst (λ y. IsKnown y (names_in old) a.before) (same_text (text_of a) x e) said))
      at x false e = known_still x (names_in old) (name_of a.name.now) (finder m x) e (all x)

      there : (x : List ℕ) → IsKnown x (names_in (old ++ a ∷ [])) (finder n x)
      there x =
          subst (λ ns. IsKnown x ns (finder n x)) (sym (names-append old a))
          (subst (IsKnown x (names_in old ++ name_of a.name.now ∷ [])) (sym (hash_map_updates_str t m n (Some w) new x ∙ ap (λ b. update bytes_eq (finder m) b (Some w) x) text)) (at x (bytes_eq (text_of a) x) refl))

      knows : KnewBefore (old ++ a ∷ [])
      knows i b e = by (nat_lt i (length old)) refl
        where
          within : i < length (old ++ a ∷ [])
          within = slice_get_within (old ++ a ∷ []) i b e

          by : (c : Bool) → nat_lt i (length old) ≡ c → IsKnown (text_of b) (take i (names_in (old ++ a ∷ []))) b.before
          by true c =
              let l : i < length old = grind (arith, nat_tests) in
              subst (λ ns. IsKnown (text_of b) ns b.before) (sym (before_same old a i (omega (arith, l)))) (knew i b (sym (read_append old a i l) ∙ e))
          by false c =
              let l : length old ≤ i = grind (arith, nat_tests) in
              let last : i ≡ length old = omega (arith, l, within, length-append old (a ∷ [])) in
              let same : a ≡ b = some_is a b (sym (read_last old a) ∙ ap (slice_get (old ++ a ∷ [])) (sym last) ∙ e) in
              subst (λ (b : Added). IsKnown (text_of b) (take i (names_in (old ++ a ∷ []))) b.before) same
              (subst (λ ns. IsKnown (text_of a) ns a.before) (sym (ap (λ (i : ℕ). take i (names_in (old ++ a ∷ []))) last ∙ before_last old a)) said)

  pub index_shrunk : IsIndex m (old ++ a ∷ []) → UpdatesBy (λ a b. bytes_eq a.now b.now) (λ k. bytes_eq t k.now) m n a.before → IsIndex n old
  index_shrunk (all, knew) new = (there, knows)
    where
      said : IsKnown (text_of a) (names_in old) a.before
      said = subst (λ ns. IsKnown (text_of a) ns a.before) (before_last old a) (knew (length old) a (read_last old a))

      at : (x : List ℕ) (b : Bool) → bytes_eq (text_of a) x ≡ b → IsKnown x (names_in old) (cond b a.before (finder m x))
      at x true e = subst (λ y. IsKnown y (names_in old) a.before) (same_text (text_of a) x e) said
      at x false e = known_before x (names_in old) (name_of a.name.now) (finder m x) e (subst (λ ns. IsKnown x ns (finder m x)) (names-append old a) (all x))

      there : (x : List ℕ) → IsKnown x (names_in old) (finder n x)
      there x = subst (IsKnown x (names_in old)) (sym (hash_map_updates_str t m n a.before new x ∙ ap (λ b. update bytes_eq (finder m) b a.before x) text)) (at x (bytes_eq (text_of a) x) refl)

      knows : KnewBefore old
      knows i b e =
          let l = slice_get_within old i b e in
          subst (λ ns. IsKnown (text_of b) ns b.before) (before_same old a i (omega (arith, l))) (knew i b (read_append old a i l ∙ e))

  -- its text is known
  pub never_absent : IsIndex m (old ++ a ∷ []) → get_by (λ k. bytes_eq t k.now) m ≡ None → ⊥
  never_absent (all, knew) e =
      none (number_among (text_of a) (names_in old)) (bytes_eq (text_of a) (text_of a)) (equal (text_of a))
      (sym (number-append (text_of a) (names_in old) (name_of a.name.now)) ∙ ap (number_among (text_of a)) (sym (names-append old a)) ∙ sym (all (text_of a)).0
      ∙ ap (option_map (λ k. k.number)) (ap (finder m) (sym text) ∙ e))
    where
      equal : (x : List ℕ) → bytes_eq x x ≡ true
      equal x = (bytes_eq-Decides x x).1 refl

      none : (o : Option ℕ) (b : Bool) → b ≡ true → number_then o b (length (names_in old)) ≡ None → ⊥
      none None true f g = cc
      none None false f g = cc
      none (Some k) b f g = cc

  pub index_shrunk_or : {X E : Type 0} (r : Result X E) → IsIndex m (old ++ a ∷ []) → OnOk r (UpdatesBy (λ a b. bytes_eq a.now b.now) (λ k. bytes_eq t k.now) m n a.before) →
      OnErr r (get_by (λ k. bytes_eq t k.now) m ≡ None) → IsIndex n old
  index_shrunk_or (Ok x) all new absent = index_shrunk all new
  index_shrunk_or (Err e) all new absent = absurd (never_absent all absent)
