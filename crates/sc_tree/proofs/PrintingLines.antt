-- Putting parts and lines behind what a printer holds.
use Rattle.std.proofs.Common.{◌≡◌, ℕ, suc, ◌+◌, ◌-◌, ◌≤◌, ◌<◌, List, [], ◌∷◌, ◌++◌, map, length, get_or, take, drop, refl, ap, sym, ◌∙◌, arith, add-one, drop-cons, length-drop, eq-eqb, ne_eqb, ◌==◌}
use Rattle.std.proofs.lemmas.Grind.{common_steps}
use Rattle.std.proofs.lemmas.List.{drop_all}
use Rattle.sc_text.specs.declared.token.Terminal.TheVariants as terminal
use Rattle.sc_tree.specs.declared.expression.Call.{Call}
use Rattle.sc_tree.specs.declared.expression.Expr.{Expr}
use Rattle.sc_tree.specs.declared.instruction.Clause as tree
use Rattle.sc_tree.specs.Plain.{Clause}
use Rattle.sc_tree.specs.declared.expression.Expr.TheVariants as expr
use Rattle.sc_tree.specs.View.{name_of, expr_of, target_of, exprs_of, clause_of}
use Rattle.sc_tree.specs.Canonical.Layout.{Part, Line, word, behind_each, separated}
use Rattle.sc_tree.specs.Canonical.Expressions.{expr_parts, call_parts, actuals_parts, more_actuals_parts}
use Rattle.sc_tree.specs.Canonical.Instructions.{clause_line, clauses_lines, is_empty}
use Rattle.sc_tree.specs.Internal.Printer.{Output, put, puts, put_line, put_lines}
use Rattle.sc_tree.proofs.ViewLemmas.{expr_of-call}

pub puts-append : (o : Output) (ps qs : List Part) → puts o (ps ++ qs) ≡ puts (puts o ps) qs
puts-append o [] qs = refl
puts-append o (p ∷ ps) qs = puts-append (put o p) ps qs

pub put_lines-append : (o : Output) (ls ms : List Line) → put_lines o (ls ++ ms) ≡ put_lines (put_lines o ls) ms
put_lines-append o [] ms = refl
put_lines-append o (l ∷ ls) ms = put_lines-append (put_line o l) ls ms

pub ruleset putting = (puts-append, put_lines-append)

pub expr_parts-call : (c : Call) → call_parts (target_of c.target) (name_of c.name) (exprs_of c.actuals.items) ≡ expr_parts (expr_of (expr.Call c))
unfolding expr_parts
expr_parts-call c = ap expr_parts (sym (expr_of-call c))

-- ---- loops

pub drop_at : {A : Type 0} (xs : List A) (i : ℕ) (x : A) → i < length xs → x ≡ get_or xs i x → drop i xs ≡ x ∷ drop (i + 1) xs
drop_at xs i x h e = let f : drop i xs ≡ get_or xs i x ∷ drop (suc i) xs = drop-cons xs i x h in rw add-one (f ∙ ap (λ y. y ∷ drop (suc i) xs) (sym e))

rest_all : {A : Type 0} (x : A) (xs : List A) → take (length (x ∷ xs) - 1) (drop 1 (x ∷ xs)) ≡ xs
rest_all x xs = grind (arith, common_steps)

pub first_and_rest : {A : Type 0} (xs : List A) (x : A) → 1 ≤ length xs → x ≡ get_or xs 0 x → xs ≡ x ∷ take (length xs - 1) (drop 1 xs)
first_and_rest [] x h e = absurd (omega arith)
first_and_rest (y ∷ ys) x h e = ap (λ z. z ∷ ys) (sym e) ∙ ap (λ zs. x ∷ zs) (sym (rest_all y ys))

pub behind_each_more : {A B : Type 0} (view : A → B) (separator : Part) (parts : B → List Part) (xs : List A) (i : ℕ) (x : A) (o o1 o2 start : Output) →
    i < length xs → x ≡ get_or xs i x → o1 ≡ put o separator → o2 ≡ puts o1 (parts (view x)) →
    puts o (behind_each separator parts (map view (drop i xs))) ≡ start → puts o2 (behind_each separator parts (map view (drop (i + 1) xs))) ≡ start
behind_each_more view separator parts xs i x o o1 o2 start h e p q was =
    let rest = behind_each separator parts (map view (drop (i + 1) xs)) in
    ap (λ u. puts u rest) (q ∙ ap (λ u. puts u (parts (view x))) p)
    ∙ sym (puts-append (put o separator) (parts (view x)) rest)
    ∙ ap (λ ys. puts o (behind_each separator parts (map view ys))) (sym (drop_at xs i x h e))
    ∙ was

pub separated_done : {A B : Type 0} (view : A → B) (separator : Part) (parts : B → List Part) (xs : List A) (x : A) (i : ℕ) (o o1 o2 : Output) →
    1 ≤ length xs → x ≡ get_or xs 0 x → length (take (length xs - 1) (drop 1 xs)) ≤ i → o1 ≡ puts o (parts (view x)) →
    puts o2 (behind_each separator parts (map view (drop i (take (length xs - 1) (drop 1 xs))))) ≡ puts o1 (behind_each separator parts (map view (take (length xs - 1) (drop 1 xs)))) →
    o2 ≡ puts o (separated separator parts (map view xs))
separated_done view separator parts xs x i o o1 o2 some first end p was =
    let rest = take (length xs - 1) (drop 1 xs) in
    ap (λ ys. puts o2 (behind_each separator parts (map view ys))) (sym (drop_all i rest end)) ∙ was
    ∙ ap (λ u. puts u (behind_each separator parts (map view rest))) p
    ∙ sym (puts-append o (parts (view x)) (behind_each separator parts (map view rest)))
    ∙ ap (λ ys. puts o (separated separator parts (map view ys))) (sym (first_and_rest xs x some first))

pub more_actuals_more : (xs : List Expr) (i : ℕ) (x : Expr) (o o1 o2 start : Output) →
    i < length xs → x ≡ get_or xs i x → o1 ≡ put o (word terminal.Comma) → o2 ≡ puts o1 (expr_parts (expr_of x)) →
    puts o (more_actuals_parts (exprs_of (drop i xs))) ≡ start → puts o2 (more_actuals_parts (exprs_of (drop (i + 1) xs))) ≡ start
unfolding expr_parts
more_actuals_more xs i x o o1 o2 start h e p q was =
    let rest = more_actuals_parts (exprs_of (drop (i + 1) xs)) in
    ap (λ u. puts u rest) (q ∙ ap (λ u. puts u (expr_parts (expr_of x))) p)
    ∙ sym (puts-append (put o (word terminal.Comma)) (expr_parts (expr_of x)) rest)
    ∙ ap (λ ys. puts o (more_actuals_parts (exprs_of ys))) (sym (drop_at xs i x h e))
    ∙ was

pub actuals_done : (xs : List Expr) (x : Expr) (i : ℕ) (o o1 o2 o3 o4 : Output) →
    1 ≤ length xs → x ≡ get_or xs 0 x → length (take (length xs - 1) (drop 1 xs)) ≤ i →
    o1 ≡ put o (word terminal.OpenParenthesis) → o2 ≡ puts o1 (expr_parts (expr_of x)) →
    puts o3 (more_actuals_parts (exprs_of (drop i (take (length xs - 1) (drop 1 xs))))) ≡ puts o2 (more_actuals_parts (exprs_of (take (length xs - 1) (drop 1 xs)))) →
    o4 ≡ put o3 (word terminal.CloseParenthesis) → o4 ≡ puts o (actuals_parts (exprs_of xs))
unfolding expr_parts
actuals_done xs x i o o1 o2 o3 o4 some first end p q was r =
    let rest = take (length xs - 1) (drop 1 xs) in
    let more = more_actuals_parts (exprs_of rest) in
    let step : puts o2 more ≡ o3 = sym was ∙ ap (λ ys. puts o3 (more_actuals_parts (exprs_of ys))) (drop_all i rest end) in
    let all : puts (put o (word terminal.OpenParenthesis)) (expr_parts (expr_of x) ++ (more ++ word terminal.CloseParenthesis ∷ [])) ≡ o4 =
    puts-append _ (expr_parts (expr_of x)) (more ++ word terminal.CloseParenthesis ∷ [])
    ∙ ap (λ u. puts u (more ++ word terminal.CloseParenthesis ∷ [])) (ap (λ u. puts u (expr_parts (expr_of x))) (sym p) ∙ sym q)
    ∙ puts-append o2 more (word terminal.CloseParenthesis ∷ [])
    ∙ ap (λ u. put u (word terminal.CloseParenthesis)) step ∙ sym r
    in
    sym all ∙ ap (λ ys. puts o (actuals_parts (exprs_of ys))) (sym (first_and_rest xs x some first))

pub is_last : {A : Type 0} (view : A → Clause) (xs : List A) (i : ℕ) → i < length xs → is_empty (map view (drop (i + 1) xs)) ≡ (i + 1 == length xs)
is_last {A = A} view xs i h = go (drop (i + 1) xs) (length-drop (i + 1) xs)
  where
    go : (ys : List A) → length ys ≡ length xs - (i + 1) → is_empty (map view ys) ≡ (i + 1 == length xs)
    go [] e = sym (eq-eqb _ _ (omega arith))
    go (y ∷ ys) e = sym (ne_eqb _ _ (omega arith))

pub clauses_more : (n : ℕ) (xs : List tree.Clause) (i : ℕ) (x : tree.Clause) (o o1 start : Output) →
    i < length xs → x ≡ get_or xs i x → o1 ≡ put_line o (clause_line n (clause_of x) (i + 1 == length xs)) →
    put_lines o (clauses_lines n (map clause_of (drop i xs))) ≡ start → put_lines o1 (clauses_lines n (map clause_of (drop (i + 1) xs))) ≡ start
clauses_more n xs i x o o1 start h e p was =
    let rest = clauses_lines n (map clause_of (drop (i + 1) xs)) in
    ap (λ u. put_lines u rest) (p ∙ ap (λ b. put_line o (clause_line n (clause_of x) b)) (sym (is_last clause_of xs i h)))
    ∙ ap (λ ys. put_lines o (clauses_lines n (map clause_of ys))) (sym (drop_at xs i x h e))
    ∙ was
