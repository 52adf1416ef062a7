-- What is given by words, word after word.
use Rattle.std.proofs.Common.{◌≡◌, ◌∙◌, ℕ, ◌+◌, ◌<◌, ◌≤◌, Bool, true, false, List, [], ◌∷◌, ◌++◌, Bor, length, map, drop, get_or, refl, sym, ap, append_assoc, append-nil, if◌then◌else◌}
use Rattle.std.proofs.lemmas.List.{drop_all, drop_more, map-append}
use Rattle.sc_arguments.specs.Words.{ends_options, given_in, has_value, is_option}

-- what is given by the words that are left, of which the first may be the value of an option; or it is all of them
abbrev pub left_in : Bool → Bool → List (List ℕ) → List (List ℕ)
left_in is_all is_value words = if is_all then words else given_in is_value words

abbrev pub texts : List (Bor (List ℕ)) → List (List ℕ)
texts given = map (λ text. text.now) given

yes : {X : Type 0} (b : Bool) (x y : X) → b ≡ true → (if b then x else y) ≡ x
yes true x y e = refl
yes false x y e = cc

no : {X : Type 0} (b : Bool) (x y : X) → b ≡ false → (if b then x else y) ≡ y
no true x y e = cc
no false x y e = refl

left-of : (is_all is_value is_value2 : Bool) (words : List (List ℕ)) → is_all ≡ false → is_value ≡ is_value2 →
    left_in is_all is_value words ≡ given_in is_value2 words
left-of is_all is_value is_value2 words e f = no is_all words (given_in is_value words) e ∙ ap (λ v. given_in v words) f

-- ---- one word

pub taken-of-all : (a v a2 v2 : Bool) (w : List ℕ) (ws : List (List ℕ)) → a ≡ true → a2 ≡ a → left_in a v (w ∷ ws) ≡ w ∷ left_in a2 v2 ws
taken-of-all a v a2 v2 w ws all same =
    yes a (w ∷ ws) (given_in v (w ∷ ws)) all ∙ ap (λ xs. w ∷ xs) (sym (yes a2 ws (given_in v2 ws) (same ∙ all)))

pub passed-value : (a v a2 v2 : Bool) (w : List ℕ) (ws : List (List ℕ)) → a ≡ false → v ≡ true → a2 ≡ a → v2 ≡ false →
    left_in a v (w ∷ ws) ≡ left_in a2 v2 ws
passed-value a v a2 v2 w ws some value same after = left-of a v true (w ∷ ws) some value ∙ sym (left-of a2 v2 false ws (same ∙ some) after)

pub passed-end : (a v a2 v2 : Bool) (w : List ℕ) (ws : List (List ℕ)) → a ≡ false → v ≡ false → ends_options w ≡ true →
    a2 ≡ true → left_in a v (w ∷ ws) ≡ left_in a2 v2 ws
passed-end a v a2 v2 w ws some free is all =
    left-of a v false (w ∷ ws) some free ∙ yes (ends_options w) ws _ is ∙ sym (yes a2 ws (given_in v2 ws) all)

pub passed-valued : (a v a2 v2 : Bool) (w : List ℕ) (ws : List (List ℕ)) → a ≡ false → v ≡ false → ends_options w ≡ false →
    has_value w ≡ true → a2 ≡ a → v2 ≡ true → left_in a v (w ∷ ws) ≡ left_in a2 v2 ws
passed-valued a v a2 v2 w ws some free other is same value =
    left-of a v false (w ∷ ws) some free ∙ no (ends_options w) ws _ other ∙ yes (has_value w) (given_in true ws) _ is
    ∙ sym (left-of a2 v2 true ws (same ∙ some) value)

pub passed-option : (a v a2 v2 : Bool) (w : List ℕ) (ws : List (List ℕ)) → a ≡ false → v ≡ false → ends_options w ≡ false →
    has_value w ≡ false → is_option w ≡ true → a2 ≡ a → v2 ≡ v → left_in a v (w ∷ ws) ≡ left_in a2 v2 ws
passed-option a v a2 v2 w ws some free other alone is same after =
    left-of a v false (w ∷ ws) some free ∙ no (ends_options w) ws _ other ∙ no (has_value w) (given_in true ws) _ alone
    ∙ yes (is_option w) (given_in false ws) _ is ∙ sym (left-of a2 v2 false ws (same ∙ some) (after ∙ free))

pub taken-plain : (a v a2 v2 : Bool) (w : List ℕ) (ws : List (List ℕ)) → a ≡ false → v ≡ false → ends_options w ≡ false →
    has_value w ≡ false → is_option w ≡ false → a2 ≡ a → v2 ≡ v → left_in a v (w ∷ ws) ≡ w ∷ left_in a2 v2 ws
taken-plain a v a2 v2 w ws some free other alone no-option same after =
    left-of a v false (w ∷ ws) some free ∙ no (ends_options w) ws _ other ∙ no (has_value w) (given_in true ws) _ alone
    ∙ no (is_option w) (given_in false ws) _ no-option ∙ ap (λ xs. w ∷ xs) (sym (left-of a2 v2 false ws (same ∙ some) (after ∙ free)))

-- ---- one word more of those that are read

next-word : {X : Type 0} (text : X → List ℕ) (words : List X) (i : ℕ) (x d : X) → i < length words → x ≡ get_or words i d →
    map text (drop i words) ≡ text x ∷ map text (drop (i + 1) words)
next-word text words i x d within is = ap (map text) (drop_more words i d within ∙ ap (λ y. y ∷ drop (i + 1) words) (sym is))

-- which is taken
pub takes : {X : Type 0} (text : X → List ℕ) (words : List X) (i : ℕ) (x d : X) (given now : List (Bor (List ℕ))) (word : Bor (List ℕ))
    (a v a2 v2 : Bool) → i < length words → x ≡ get_or words i d → word.now ≡ text x → now ≡ given ++ word ∷ [] →
    left_in a v (word.now ∷ map text (drop (i + 1) words)) ≡ word.now ∷ left_in a2 v2 (map text (drop (i + 1) words)) →
    given_in false (map text words) ≡ texts given ++ left_in a v (map text (drop i words)) →
    given_in false (map text words) ≡ texts now ++ left_in a2 v2 (map text (drop (i + 1) words))
takes text words i x d given now word a v a2 v2 within is same grown step so-far =
    let rest = left_in a2 v2 (map text (drop (i + 1) words)) in
    so-far ∙ ap (λ ws. texts given ++ left_in a v ws) (next-word text words i x d within is ∙ ap (λ t. t ∷ map text (drop (i + 1) words)) (sym same))
    ∙ ap (λ ys. texts given ++ ys) step ∙ sym (append_assoc (texts given) (word.now ∷ []) rest)
    ∙ ap (λ ys. ys ++ rest) (sym (ap texts grown ∙ map-append (λ (t : Bor (List ℕ)). t.now) given (word ∷ [])))

-- or passed over
pub passes : {X : Type 0} (text : X → List ℕ) (words : List X) (i : ℕ) (x d : X) (given now : List (Bor (List ℕ))) (word : Bor (List ℕ))
    (a v a2 v2 : Bool) → i < length words → x ≡ get_or words i d → word.now ≡ text x → now ≡ given →
    left_in a v (word.now ∷ map text (drop (i + 1) words)) ≡ left_in a2 v2 (map text (drop (i + 1) words)) →
    given_in false (map text words) ≡ texts given ++ left_in a v (map text (drop i words)) →
    given_in false (map text words) ≡ texts now ++ left_in a2 v2 (map text (drop (i + 1) words))
passes text words i x d given now word a v a2 v2 within is same kept step so-far =
    so-far ∙ ap (λ ws. texts given ++ left_in a v ws) (next-word text words i x d within is ∙ ap (λ t. t ∷ map text (drop (i + 1) words)) (sym same))
    ∙ ap (λ ys. texts given ++ ys) step ∙ ap (λ xs. texts xs ++ left_in a2 v2 (map text (drop (i + 1) words))) (sym kept)

-- ---- at the beginning, and at the end

pub none-read : {X : Type 0} (text : X → List ℕ) (words : List X) (given : List (Bor (List ℕ))) → given ≡ [] →
    given_in false (map text words) ≡ texts given ++ left_in false false (map text (drop 0 words))
none-read text words given none = ap (λ g. texts g ++ given_in false (map text words)) (sym none)

none-left : (a v : Bool) (given words : List (List ℕ)) → words ≡ [] → given ++ left_in a v words ≡ given
none-left true v given [] e = append-nil given
none-left false true given [] e = append-nil given
none-left false false given [] e = append-nil given
none-left a v given (x ∷ xs) e = cc

pub read-all : {X : Type 0} (text : X → List ℕ) (words : List X) (i : ℕ) (a v : Bool) (given : List (Bor (List ℕ))) → length words ≤ i →
    given_in false (map text words) ≡ texts given ++ left_in a v (map text (drop i words)) → texts given ≡ given_in false (map text words)
read-all text words i a v given all so-far =
    sym (so-far ∙ none-left a v (texts given) (map text (drop i words)) (ap (map text) (drop_all i words all)))
