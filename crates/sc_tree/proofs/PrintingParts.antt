-- Putting one token, and small groups of parts, behind what a printer holds.
use Rattle.std.proofs.Common.{◌≡◌, ℕ, ℤ, ◌+◌, ◌≤◌, ◌<◌, ◌==◌, true, false, List, [], ◌∷◌, ◌++◌, length, map, get_or, take, replicate, Ok, Err, Result, Some, Option, ap, sym, ◌∙◌, arith, append_assoc, OnOk}
use Rattle.std.specs.Fmt.{signed_decimal}
use Rattle.std.proofs.lemmas.List.{map_more, replicate-append-replicate, take_all}
use Rattle.sc_text.specs.Characters.{tab}
use Rattle.sc_text.specs.Kind.{INTEGER}
use Rattle.sc_text.specs.declared.token.Terminal.{Terminal}
use Rattle.sc_text.specs.declared.token.Terminal.TheVariants as terminal
use Rattle.sc_tree.specs.declared.expression.Name.{Name}
use Rattle.sc_tree.specs.declared.declaration.Declaration.{Declaration}
use Rattle.sc_tree.specs.declared.instruction.Clause.{Clause}
use Rattle.sc_tree.specs.declared.instruction.Head.{Head}
use Rattle.sc_tree.specs.View.{name_of, type_of, declaration_of, expr_of, tag_of, clause_of, head_of}
use Rattle.sc_tree.specs.Canonical.Layout.{Token, line, word, text_of_part, opens, closes}
use Rattle.sc_tree.specs.Canonical.Expressions.{name_part, type_parts, expr_parts}
use Rattle.sc_tree.specs.Canonical.Instructions.{tag_parts, head_parts, clauses_lines, assertion_lines}
use Rattle.sc_tree.specs.Canonical.Classes.{declaration_parts}
use Rattle.sc_tree.specs.Internal.Printer.{Output, gap, put, puts, begin, put_lines}
use Rattle.sc_tree.proofs.PrintingLines.{puts-append}

-- ---- bytes

-- a text behind which one more byte stands
pub one_more_tab : (xs ys zs : List ℕ) (n : ℕ) → ys ≡ xs ++ replicate n tab → zs ≡ ys ++ tab ∷ [] → zs ≡ xs ++ replicate (n + 1) tab
one_more_tab xs ys zs n e f =
    f ∙ ap (λ w. w ++ tab ∷ []) e ∙ append_assoc xs (replicate n tab) (tab ∷ []) ∙ ap (λ w. xs ++ w) (replicate-append-replicate n 1 tab)

pub one_more_mapped : (h : ℕ → ℕ) (cs xs ys zs : List ℕ) (i d c : ℕ) → i < length cs → ys ≡ xs ++ map h (take i cs) → zs ≡ ys ++ c ∷ [] → c ≡ h (get_or cs i d) → zs ≡ xs ++ map h (take (i + 1) cs)
one_more_mapped h cs xs ys zs i d c p e f q =
    f ∙ ap (λ w. w ++ c ∷ []) e ∙ append_assoc xs (map h (take i cs)) (c ∷ [])
    ∙ ap (λ w. xs ++ w) (ap (λ y. map h (take i cs) ++ y ∷ []) q ∙ sym (map_more h cs i d p))

pub all_mapped : (h : ℕ → ℕ) (cs xs ys : List ℕ) (i : ℕ) → length cs ≤ i → ys ≡ xs ++ map h (take i cs) → ys ≡ xs ++ map h cs
all_mapped h cs xs ys i p e = e ∙ ap (λ w. xs ++ map h w) (take_all i cs p)

pub begun : (o p : Output) (n k : ℕ) → p.text ≡ o.text ++ replicate k tab → p.is_apart ≡ false → n ≤ k → k ≤ n → p ≡ begin o n
unfolding begin
begun o p n k e f h q =
    let same : k ≡ n = omega arith in
    let text : p.text ≡ o.text ++ replicate n tab = e ∙ ap (λ m. o.text ++ replicate m tab) same in
    λ i. record { text = text i; is_apart = f i }

-- ---- one token

pub integer_put : (o p : Output) (n : ℤ) (digits text : List ℕ) → text ≡ digits → digits ≡ signed_decimal n →
    p.text ≡ o.text ++ (gap o.is_apart false ++ text) → p.is_apart ≡ true → p ≡ put o (Token (INTEGER n))
unfolding put text_of_part opens closes
integer_put o p n digits text d e f g =
    let whole : p.text ≡ o.text ++ (gap o.is_apart false ++ signed_decimal n) = f ∙ ap (λ t. o.text ++ (gap o.is_apart false ++ t)) (d ∙ e) in
    λ i. record { text = whole i; is_apart = g i }

-- two facts of what went well, and what follows from both
pub on_ok_both : {T E P Q R : Type 0} (r : Result T E) → (P → Q → R) → OnOk r P → OnOk r Q → OnOk r R
on_ok_both (Ok x) f p q = f p q
on_ok_both (Err e) f p q = tt

-- ---- groups

pub declaration_done : (d : Declaration) (o o1 o2 o3 : Output) → o1 ≡ put o (name_part (name_of d.name)) → o2 ≡ put o1 (word terminal.Colon) →
    o3 ≡ puts o2 (type_parts (type_of d.declared_type)) → o3 ≡ puts o (declaration_parts (declaration_of d))
unfolding declaration_parts
declaration_done d o o1 o2 o3 p q r =
    r ∙ ap (λ u. puts u (type_parts (type_of d.declared_type))) (q ∙ ap (λ u. put u (word terminal.Colon)) p)

pub head_done : (h : Head) (o o1 o2 o3 : Output) → o1 ≡ puts o (expr_parts (expr_of h.value)) → o2 ≡ put o1 (word terminal.As) →
    o3 ≡ put o2 (name_part (name_of h.name)) → o3 ≡ puts o (head_parts (head_of h))
unfolding head_parts head_of
head_done h o o1 o2 o3 p q r =
    let end = word terminal.As ∷ name_part (name_of h.name) ∷ [] in
    r ∙ ap (λ u. put u (name_part (name_of h.name))) (q ∙ ap (λ u. put u (word terminal.As)) p) ∙ sym (puts-append o (expr_parts (expr_of h.value)) end)

pub tag_done : (tag : Option Name) (n : Name) (o o1 o2 : Output) → tag ≡ Some n → o1 ≡ put o (name_part (name_of n)) → o2 ≡ put o1 (word terminal.Colon) →
    o2 ≡ puts o (tag_parts (tag_of tag))
tag_done tag n o o1 o2 e p q = q ∙ ap (λ u. put u (word terminal.Colon)) p ∙ ap (λ t. puts o (tag_parts (tag_of t))) (sym e)

-- clauses under a keyword
pub assertion_done : (n m : ℕ) (keyword : Terminal) (xs : List Clause) (o o1 o2 : Output) → (length xs == 0) ≡ false → m ≡ n + 1 →
    o1 ≡ put_lines o (line n (word keyword ∷ []) ∷ []) → o2 ≡ put_lines o1 (clauses_lines m (map clause_of xs)) →
    o2 ≡ put_lines o (assertion_lines n keyword (map clause_of xs))
assertion_done n m keyword [] o o1 o2 some d p q = cc
assertion_done n m keyword (x ∷ xs) o o1 o2 some d p q =
    q ∙ ap (λ k. put_lines o1 (clauses_lines k (map clause_of (x ∷ xs)))) d ∙ ap (λ u. put_lines u (clauses_lines (n + 1) (map clause_of (x ∷ xs)))) p
