-- Putting the lines of classes behind what a printer holds.
use Rattle.std.proofs.Common.{◌≡◌, ℕ, suc, ◌+◌, ◌-◌, ◌≤◌, ◌<◌, ◌==◌, ◌&&◌, ◌||◌, Bool, true, false, not, List, [], ◌∷◌, ◌++◌, map, length, get_or, take, drop, replicate, refl, ap, sym, ◌∙◌, arith, subst, append_assoc, append-nil}
use Rattle.std.proofs.lemmas.List.{drop_all}
use Rattle.std.specs.Str.{bytes_eq}
use Rattle.sc_text.specs.Characters.{tab, line_feed}
use Rattle.sc_text.specs.declared.token.Terminal.TheVariants as terminal
use Rattle.sc_tree.specs.declared.expression.Name.{Name}
use Rattle.sc_tree.specs.declared.declaration.Declaration.{Declaration}
use Rattle.sc_tree.specs.declared.system.Feature as tree
use Rattle.sc_tree.specs.declared.system.Class as tree_class
use Rattle.sc_tree.specs.Sections.{same_list, shares_list, further_share, share_lists}
use Rattle.sc_tree.specs.View.{name_of, declaration_of, feature_of, class_of}
use Rattle.sc_tree.specs.Canonical.Layout.{Part, Line, line, word, separated, row, line_text, text_of_lines, text_of_part, opens, closes}
use Rattle.sc_tree.specs.Canonical.Expressions.{names_parts, class_names_parts}
use Rattle.sc_tree.specs.Canonical.Classes.{same_names, declaration_parts, formals_parts, exports_parts, redefined_parts, section_line, feature_lines, further_feature_lines, further_features_lines, sections_lines, class_lines, classes_lines, further_classes_lines}
use Rattle.sc_tree.specs.Internal.Printer.{Output, gap, put, puts, begin, end, put_line, put_lines}
use Rattle.sc_tree.proofs.PrintingLines.{puts-append, put_lines-append, drop_at, first_and_rest}

pub same_names-length : (xs ys : List Name) → (length xs ≡ length ys → ⊥) → same_names (map name_of xs) (map name_of ys) ≡ false
same_names-length [] [] h = absurd (h refl)
same_names-length [] (y ∷ ys) h = refl
same_names-length (x ∷ xs) [] h = refl
same_names-length (x ∷ xs) (y ∷ ys) h =
    ap (λ b. bytes_eq (name_of x).text (name_of y).text && b) (same_names-length xs ys (λ e. h (ap suc e))) ∙ and_none (bytes_eq (name_of x).text (name_of y).text)
  where
    and_none : (b : Bool) → (b && false) ≡ false
    and_none true = refl
    and_none false = refl

-- ---- export lists

same_list-names : (xs ys : List Name) → same_list xs ys ≡ same_names (map name_of xs) (map name_of ys)
same_list-names [] [] = refl
same_list-names [] (y ∷ ys) = refl
same_list-names (x ∷ xs) [] = refl
same_list-names (x ∷ xs) (y ∷ ys) = ap (λ b. bytes_eq (name_of x).text (name_of y).text && b) (same_list-names xs ys)

-- of two that are both true, each is
pub both_true : (b c : Bool) → (b && c) ≡ true → (b ≡ true) × (c ≡ true)
both_true true c h = (refl, h)
both_true false c h = cc

implied : (b c : Bool) → b ≡ true → (not b || c) ≡ true → c ≡ true
implied true c e h = h
implied false c e h = cc

-- what a feature that stands with the one before it has for its list
pub shared_names : (es : List Name) (f : tree.Feature) → f.is_further ≡ true → shares_list es f ≡ true → f.is_further ≡ same_names (map name_of es) (map name_of f.exports.value.items)
shared_names es f e h =
    e ∙ sym (implied f.is_further (same_list es f.exports.value.items) e h) ∙ same_list-names es f.exports.value.items

pub share_lists-rest : (xs : List tree.Feature) (x : tree.Feature) → 1 ≤ length xs → x ≡ get_or xs 0 x → share_lists xs ≡ true →
    further_share x.exports.value.items (drop 0 (take (length xs - 1) (drop 1 xs))) ≡ true
share_lists-rest xs x some first h = subst (λ ys. share_lists ys ≡ true) (first_and_rest xs x some first) h

pub further_share-more : (before : List Name) (xs : List tree.Feature) (i : ℕ) (x : tree.Feature) → i < length xs → x ≡ get_or xs i x →
    further_share before (drop i xs) ≡ true → (shares_list before x ≡ true) × (further_share x.exports.value.items (drop (i + 1) xs) ≡ true)
further_share-more before xs i x p e h =
    both_true (shares_list before x) (further_share x.exports.value.items (drop (i + 1) xs)) (subst (λ ys. further_share before ys ≡ true) (drop_at xs i x p e) h)

-- parts between two others
bracketed : (o o1 o2 o3 : Output) (a b : Part) (ps : List Part) → o1 ≡ put o a → o2 ≡ puts o1 ps → o3 ≡ put o2 b → o3 ≡ puts o (a ∷ (ps ++ b ∷ []))
bracketed o o1 o2 o3 a b ps p q r = r ∙ ap (λ u. put u b) (q ∙ ap (λ u. puts u ps) p) ∙ sym (puts-append (put o a) ps (b ∷ []))

pub formals_done : (xs : List Declaration) (o o1 o2 o3 : Output) → 1 ≤ length xs →
    o1 ≡ put o (word terminal.OpenParenthesis) → o2 ≡ puts o1 (separated (word terminal.Semicolon) declaration_parts (map declaration_of xs)) →
    o3 ≡ put o2 (word terminal.CloseParenthesis) → o3 ≡ puts o (formals_parts (map declaration_of xs))
formals_done [] o o1 o2 o3 some p q r = absurd (omega arith)
formals_done (y ∷ ys) o o1 o2 o3 some p q r = bracketed o o1 o2 o3 _ _ (separated (word terminal.Semicolon) declaration_parts (map declaration_of (y ∷ ys))) p q r

pub exports_done : (xs : List Name) (o o1 o2 o3 : Output) → (length xs == 0) ≡ false →
    o1 ≡ put o (word terminal.OpenBrace) → o2 ≡ puts o1 (class_names_parts (map name_of xs)) → o3 ≡ put o2 (word terminal.CloseBrace) →
    o3 ≡ puts o (exports_parts (map name_of xs))
exports_done [] o o1 o2 o3 some p q r = cc
exports_done (y ∷ ys) o o1 o2 o3 some p q r = bracketed o o1 o2 o3 _ _ (class_names_parts (map name_of (y ∷ ys))) p q r

pub redefined_done : (xs : List Name) (o o1 o2 o3 : Output) → (length xs == 0) ≡ false →
    o1 ≡ put o (word terminal.Redefine) → o2 ≡ puts o1 (names_parts (map name_of xs)) → o3 ≡ put o2 (word terminal.End) →
    o3 ≡ puts o (redefined_parts (map name_of xs))
redefined_done [] o o1 o2 o3 some p q r = cc
redefined_done (y ∷ ys) o o1 o2 o3 some p q r = bracketed o o1 o2 o3 _ _ (names_parts (map name_of (y ∷ ys))) p q r

-- ---- features

pub features_more : (before : tree.Feature) (xs : List tree.Feature) (i : ℕ) (x : tree.Feature) (o o1 start : Output) →
    i < length xs → x ≡ get_or xs i x → o1 ≡ put_lines o (further_feature_lines (map name_of before.exports.value.items) (feature_of x)) →
    put_lines o (further_features_lines (map name_of before.exports.value.items) (map feature_of (drop i xs))) ≡ start →
    put_lines o1 (further_features_lines (map name_of x.exports.value.items) (map feature_of (drop (i + 1) xs))) ≡ start
unfolding feature_of
features_more before xs i x o o1 start h e p was =
    let rest = further_features_lines (map name_of x.exports.value.items) (map feature_of (drop (i + 1) xs)) in
    ap (λ u. put_lines u rest) p ∙ sym (put_lines-append o (further_feature_lines (map name_of before.exports.value.items) (feature_of x)) rest)
    ∙ ap (λ ys. put_lines o (further_features_lines (map name_of before.exports.value.items) (map feature_of ys))) (sym (drop_at xs i x h e))
    ∙ was

pub features_done : (xs : List tree.Feature) (x : tree.Feature) (i : ℕ) (es : List Name) (o o1 o2 o3 : Output) →
    1 ≤ length xs → x ≡ get_or xs 0 x → length (take (length xs - 1) (drop 1 xs)) ≤ i →
    o1 ≡ put_line o (section_line (map name_of x.exports.value.items)) → o2 ≡ put_lines o1 (feature_lines (feature_of x)) →
    put_lines o3 (further_features_lines (map name_of es) (map feature_of (drop i (take (length xs - 1) (drop 1 xs)))))
    ≡ put_lines o2 (further_features_lines (map name_of x.exports.value.items) (map feature_of (take (length xs - 1) (drop 1 xs)))) →
    o3 ≡ put_lines o (sections_lines (map feature_of xs))
unfolding feature_of
features_done xs x i es o o1 o2 o3 some first end p q was =
    let rest = take (length xs - 1) (drop 1 xs) in
    let more = further_features_lines (map name_of x.exports.value.items) (map feature_of rest) in
    ap (λ ys. put_lines o3 (further_features_lines (map name_of es) (map feature_of ys))) (sym (drop_all i rest end)) ∙ was
    ∙ ap (λ u. put_lines u more) (q ∙ ap (λ u. put_lines u (feature_lines (feature_of x))) p)
    ∙ sym (put_lines-append (put_line o (section_line (map name_of x.exports.value.items))) (feature_lines (feature_of x)) more)
    ∙ ap (λ ys. put_lines o (sections_lines (map feature_of ys))) (sym (first_and_rest xs x some first))

-- ---- classes

pub classes_more : (xs : List tree_class.Class) (i : ℕ) (x : tree_class.Class) (o o1 o2 o3 start : Output) →
    i < length xs → x ≡ get_or xs i x → o1 ≡ begin o 0 → o2 ≡ end o1 → o3 ≡ put_lines o2 (class_lines (class_of x)) →
    put_lines o (further_classes_lines (map class_of (drop i xs))) ≡ start → put_lines o3 (further_classes_lines (map class_of (drop (i + 1) xs))) ≡ start
classes_more xs i x o o1 o2 o3 start h e p q r was =
    let rest = further_classes_lines (map class_of (drop (i + 1) xs)) in
    let empty : o2 ≡ put_line o (line 0 []) = q ∙ ap end p in
    ap (λ u. put_lines u rest) (r ∙ ap (λ u. put_lines u (class_lines (class_of x))) empty)
    ∙ sym (put_lines-append (put_line o (line 0 [])) (class_lines (class_of x)) rest)
    ∙ ap (λ ys. put_lines o (further_classes_lines (map class_of ys))) (sym (drop_at xs i x h e))
    ∙ was

pub classes_done : (xs : List tree_class.Class) (x : tree_class.Class) (i : ℕ) (o o1 o2 : Output) →
    1 ≤ length xs → x ≡ get_or xs 0 x → length (take (length xs - 1) (drop 1 xs)) ≤ i → o1 ≡ put_lines o (class_lines (class_of x)) →
    put_lines o2 (further_classes_lines (map class_of (drop i (take (length xs - 1) (drop 1 xs)))))
    ≡ put_lines o1 (further_classes_lines (map class_of (take (length xs - 1) (drop 1 xs)))) →
    o2 ≡ put_lines o (classes_lines (map class_of xs))
classes_done xs x i o o1 o2 some first end_of p was =
    let rest = take (length xs - 1) (drop 1 xs) in
    let more = further_classes_lines (map class_of rest) in
    ap (λ ys. put_lines o2 (further_classes_lines (map class_of ys))) (sym (drop_all i rest end_of)) ∙ was
    ∙ ap (λ u. put_lines u more) p ∙ sym (put_lines-append o (class_lines (class_of x)) more)
    ∙ ap (λ ys. put_lines o (classes_lines (map class_of ys))) (sym (first_and_rest xs x some first))

-- ---- text

puts-text : (o : Output) (ps : List Part) → (puts o ps).text ≡ o.text ++ row o.is_apart ps
unfolding put
puts-text o [] = sym (append-nil o.text)
puts-text o (p ∷ ps) =
    puts-text (put o p) ps ∙ append_assoc o.text _ _
    ∙ ap (λ cs. o.text ++ cs) (append_assoc (gap o.is_apart (closes p)) (text_of_part p) (row (not (opens p)) ps))

put_line-text : (o : Output) (l : Line) → (put_line o l).text ≡ o.text ++ line_text l
unfolding begin end
put_line-text o l =
    ap (λ cs. cs ++ line_feed ∷ []) (puts-text (begin o l.indent) l.parts)
    ∙ append_assoc (o.text ++ replicate l.indent tab) (row false l.parts) (line_feed ∷ [])
    ∙ append_assoc o.text (replicate l.indent tab) (row false l.parts ++ line_feed ∷ [])

-- The text that lines are put behind is followed by theirs.
pub put_lines-text : (o : Output) (ls : List Line) → (put_lines o ls).text ≡ o.text ++ text_of_lines ls
put_lines-text o [] = sym (append-nil o.text)
put_lines-text o (l ∷ ls) =
    put_lines-text (put_line o l) ls ∙ ap (λ cs. cs ++ text_of_lines ls) (put_line-text o l) ∙ append_assoc o.text (line_text l) (text_of_lines ls)
